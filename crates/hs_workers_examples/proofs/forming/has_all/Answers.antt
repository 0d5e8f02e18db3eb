use Rattle.std.proofs.Common.{◌≡◌, ◌∙◌, ap, subst, get_or, Contains, arith, inl, inr}
use Rattle.std.proofs.lemmas.Bool.{cases_lt}
use Rattle.std.proofs.lemmas.List.{get_or_default}
use Rattle.hs_types.specs.Interned.{entry_of}
use Rattle.hs_rules.specs.Conclusions.{DeducedData}
use Rattle.hs_workers_examples.proofs.forming.has_all.Goals as goal

pub loop-deduced-preserved : goal.loop-deduced-preserved
loop-deduced-preserved c =
    let found = c.args.found.now in
    let n = c.loop-deduced.deduced-index in
    λ k d lt. elim (cases_lt k n) [
      | inl below ↦ c.loop-deduced.invariant k d below
      | inr above ↦
          let same : n ≡ k = omega arith in
          let at : c.deduced-item.result ≡ get_or found k d = c.deduced-item.is ∙ get_or_default found n c.deduced-item.result d c.loop-deduced-test.true ∙ ap (λ i. get_or found i d) same in
          subst (λ (x : DeducedData). Contains c.args.replica.now.log (entry_of c.args.replica.now.ids x.row)) at (c.has.ensures c.if-not-has.false)
    ]
