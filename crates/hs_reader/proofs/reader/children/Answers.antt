use Rattle.std.proofs.Common.{◌∙◌, ◌++◌, ◌∷◌, [], length, refl, arith}
use Rattle.std.proofs.lemmas.Result.{err_from_is_err_and}
use Rattle.hs_reader.specs.declared.fault.Which.TheVariants as which
use Rattle.hs_reader.specs.Tokens.{dot}
use Rattle.hs_reader.specs.Reading.{view}
use Rattle.hs_reader.specs.ReadingStages.{in_children}
use Rattle.hs_reader.proofs.Running.{on, off, word_on, word_full, word_fault, continues, full_at, free_at, child_other}
use Rattle.hs_reader.proofs.reader.children.Goals as goal

pub returns-in_err-child-in-Name-clause-value : goal.returns-in_err-child-in-Name-clause-value
returns-in_err-child-in-Name-clause-value c =
    let p = err_from_is_err_and c.from_residual.result c.from_residual.ensures.1 in
    rw (p.1, p.2) (λ rs us q a. continues c.in_err-child-in-Name.field-0.0 _ _ (c.loop-bytes.invariant.0 rs us q a)
    (word_fault (in_children rs us q a c.loop-bytes.to.items) _ c.next.new.self.line c.in-Name.bytes.now c.in_err-child-in-Name.field-0.0 _ _ c.in-Name.ensures.value refl c.in_err-child-in-Name.ensures))

pub returns-then-len-eq-MAX_CHILDREN-clause-value : goal.returns-then-len-eq-MAX_CHILDREN-clause-value
returns-then-len-eq-MAX_CHILDREN-clause-value c = λ rs us q a.
    c.loop-bytes.invariant.0 rs us q a
    ∙ word_full (in_children rs us q a c.loop-bytes.to.items) (in_children rs us q a (c.loop-bytes.to.items ++ record { text = c.in-Name.bytes.now; line = c.next.new.self.line } ∷ [])) c.next.new.self.line c.in-Name.bytes.now which.Children _ _ c.in-Name.ensures.value c.in_ok-child-in-Name.ensures.1 refl (full_at (length c.loop-bytes.to.items) 64 which.Children (omega arith))

pub loop-bytes-preserved : goal.loop-bytes-preserved
loop-bytes-preserved c = (
  rw c.in_ok-push-in-Name.ensures.items (λ rs us q a. c.loop-bytes.invariant.0 rs us q a
      ∙ word_on (in_children rs us q a c.loop-bytes.to.items) (λ m. in_children rs us q a (c.loop-bytes.to.items ++ m ∷ [])) c.next.new.self.line c.in-Name.bytes.now c.in_ok-child-in-Name.child _ _ c.in-Name.ensures.value c.in_ok-child-in-Name.ensures.0 c.in_ok-child-in-Name.ensures.1 refl (free_at (length c.loop-bytes.to.items) 64 which.Children (λ e. c.if-len-eq-MAX_CHILDREN.false (omega arith)))),
  omega (arith, c.in-Name.ensures.shorter),
)

pub returns-in-Dot-clause-value : goal.returns-in-Dot-clause-value
returns-in-Dot-clause-value c = λ rs us q a.
    c.loop-bytes.invariant.0 rs us q a ∙ on (in_children rs us q a c.loop-bytes.to.items) _ c.next.new.self.line dot _ _ c.in-Dot.ensures.value refl refl

pub returns-in_default-clause-value : goal.returns-in_default-clause-value
returns-in_default-clause-value c = λ rs us q a.
    c.loop-bytes.invariant.0 rs us q a
    ∙ off (in_children rs us q a c.loop-bytes.to.items) c.next.new.self.line (view c.next.new.self.line c.next.result) _ _ c.next.ensures.value (child_other rs us q a c.loop-bytes.to.items c.next.new.self.line c.next.result c.in_default.not-Name c.in_default.not-Dot)
