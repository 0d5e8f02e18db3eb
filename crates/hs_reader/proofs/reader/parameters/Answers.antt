use Rattle.std.proofs.Common.{◌∙◌, ◌++◌, ◌∷◌, [], length, refl, arith, false}
use Rattle.std.proofs.lemmas.Result.{err_from_is_err_and}
use Rattle.hs_reader.specs.declared.fault.Which.TheVariants as which
use Rattle.hs_reader.specs.Tokens.{arrow}
use Rattle.hs_reader.specs.Reading.{view}
use Rattle.hs_reader.specs.ReadingStages.{in_head}
use Rattle.hs_reader.proofs.Running.{on, off, word_on, word_full, cased_fault, continues, full_at, free_at, head_other}
use Rattle.hs_reader.proofs.reader.parameters.Goals as goal

pub returns-in_err-param-in-Name-clause-value : goal.returns-in_err-param-in-Name-clause-value
returns-in_err-param-in-Name-clause-value c =
    let p = err_from_is_err_and c.from_residual.result c.from_residual.ensures.1 in
    rw (p.1, p.2) (λ rs n. continues c.in_err-param-in-Name.field-0.0 _ _ (c.loop-bytes.invariant.0 rs n)
    (cased_fault (in_head rs n c.loop-bytes.params.items) (in_head rs n (c.loop-bytes.params.items ++ record { text = c.in-Name.bytes.now; line = c.next.new.self.line } ∷ [])) c.next.new.self.line c.in-Name.bytes.now false c.in_err-param-in-Name.field-0.0 _ _ c.in-Name.ensures.value (λ h. rw h refl) (λ h. rw h refl) c.in_err-param-in-Name.ensures))

pub returns-then-len-eq-MAX_PARAMETERS-clause-value : goal.returns-then-len-eq-MAX_PARAMETERS-clause-value
returns-then-len-eq-MAX_PARAMETERS-clause-value c = λ rs n.
    c.loop-bytes.invariant.0 rs n
    ∙ word_full (in_head rs n c.loop-bytes.params.items) (in_head rs n (c.loop-bytes.params.items ++ record { text = c.in-Name.bytes.now; line = c.next.new.self.line } ∷ [])) c.next.new.self.line c.in-Name.bytes.now which.Parameters _ _ c.in-Name.ensures.value c.in_ok-param-in-Name.ensures.1 (rw c.in_ok-param-in-Name.ensures.2 refl) (full_at (length c.loop-bytes.params.items) 64 which.Parameters (omega arith))

pub loop-bytes-preserved : goal.loop-bytes-preserved
loop-bytes-preserved c = (
  rw c.in_ok-push-in-Name.ensures.items (λ rs n. c.loop-bytes.invariant.0 rs n
      ∙ word_on (in_head rs n c.loop-bytes.params.items) (λ m. in_head rs n (c.loop-bytes.params.items ++ m ∷ [])) c.next.new.self.line c.in-Name.bytes.now c.in_ok-param-in-Name.param _ _ c.in-Name.ensures.value c.in_ok-param-in-Name.ensures.0 c.in_ok-param-in-Name.ensures.1 (rw c.in_ok-param-in-Name.ensures.2 refl) (free_at (length c.loop-bytes.params.items) 64 which.Parameters (λ e. c.if-len-eq-MAX_PARAMETERS.false (omega arith)))),
  omega (arith, c.in-Name.ensures.shorter),
)

pub returns-in-Arrow-clause-value : goal.returns-in-Arrow-clause-value
returns-in-Arrow-clause-value c = λ rs n.
    c.loop-bytes.invariant.0 rs n ∙ on (in_head rs n c.loop-bytes.params.items) _ c.next.new.self.line arrow _ _ c.in-Arrow.ensures.value refl refl

pub returns-in_default-clause-value : goal.returns-in_default-clause-value
returns-in_default-clause-value c = λ rs n.
    c.loop-bytes.invariant.0 rs n
    ∙ off (in_head rs n c.loop-bytes.params.items) c.next.new.self.line (view c.next.new.self.line c.next.result) _ _ c.next.ensures.value (head_other rs n c.loop-bytes.params.items c.next.new.self.line c.next.result c.in_default.not-Name c.in_default.not-Arrow)
