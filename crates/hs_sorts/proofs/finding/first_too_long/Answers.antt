use Rattle.std.proofs.Common.{◌≡◌, refl, sym, ◌∙◌, ap, subst, ℕ, List, length, slice_get, Some, Bool, false, true, inl, inr, arith}
use Rattle.std.proofs.lemmas.Option.{same_Some, slice_get_within, slice_get_read}
use Rattle.hs_scheme.specs.declared.term.Rule.{Rule}
use Rattle.hs_scheme.proofs.TransitionIndex.{le_last}
use Rattle.hs_sorts.specs.declared.measures.Measure.{Measure}
use Rattle.hs_sorts.specs.Finding.{TellsLong}
use Rattle.hs_sorts.proofs.finding.first_too_long.Goals as goal

there : (rules : List Rule) (measures : List Measure) (n j : ℕ) (r rule : Rule) (v w : Measure) (long : Bool) → slice_get rules n ≡ Some r → slice_get measures n ≡ Some v → TellsLong r v.arity long → j ≡ n → slice_get rules j ≡ Some rule → slice_get measures j ≡ Some w → TellsLong rule w.arity long
there rules measures n j r rule v w long p q tells e here measure =
    let same_rule : r ≡ rule = same_Some r rule (sym p ∙ (ap (λ (k : ℕ). slice_get rules k) (sym e) ∙ here)) in
    let same_measure : v ≡ w = same_Some v w (sym q ∙ (ap (λ (k : ℕ). slice_get measures k) (sym e) ∙ measure)) in
    subst (λ (s : Rule). TellsLong s w.arity long) same_rule (subst (λ (y : Measure). TellsLong r y.arity long) same_measure tells)

pub loop-number-init : goal.loop-number-init
loop-number-init c = λ j rule w below p q. absurd (omega (arith, below))

pub at-requires : goal.at-requires
at-requires c = omega (arith, c.loop-number-test.true, c.requires.many)

pub returns-then-is_too_long : goal.returns-then-is_too_long
returns-then-is_too_long c =
    let at = slice_get_read c.args.rules.now (length c.args.rules.now) c.loop-number.number c.index-rules-number.result refl c.loop-number-test.true c.index-rules-number.is in (
      λ rule w here measure. there c.args.rules.now c.args.measures.now c.loop-number.number c.loop-number.number c.index-rules-number.result rule c.at.result w true at c.at.ensures
          (subst (TellsLong c.index-rules-number.result c.at.result.arity) c.if-is_too_long.true c.is_too_long.ensures) refl here measure,
      c.loop-number-test.true,
      c.loop-number.invariant,
    )

pub loop-number-preserved : goal.loop-number-preserved
loop-number-preserved c =
    let at = slice_get_read c.args.rules.now (length c.args.rules.now) c.loop-number.number c.index-rules-number.result refl c.loop-number-test.true c.index-rules-number.is in
    λ j rule w below here measure. elim (le_last j c.loop-number.number below) [
      | inl last ↦
          there c.args.rules.now c.args.measures.now c.loop-number.number j c.index-rules-number.result rule c.at.result w false at c.at.ensures
          (subst (TellsLong c.index-rules-number.result c.at.result.arity) c.if-is_too_long.false c.is_too_long.ensures) last here measure
      | inr before ↦ c.loop-number.invariant j rule w before here measure
    ]

pub returns : goal.returns
returns c = λ j rule w p q. c.loop-number.invariant j rule w (omega (arith, slice_get_within c.args.rules.now j rule p, c.loop-number-test.false)) p q
