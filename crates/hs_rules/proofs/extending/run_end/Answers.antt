use Rattle.std.proofs.Common.{◌≡◌, sym, ◌∙◌, ap, ℕ, List, length, take, slice_get, arith, inl, inr}
use Rattle.std.proofs.lemmas.Bool.{cases_order}
use Rattle.std.proofs.lemmas.Option.{same_Some}
use Rattle.hs_table_laws.proofs.Places.{within_from}
use Rattle.hs_rules.specs.Order.{chosen_places}
use Rattle.hs_rules.specs.Joins.{PartialData}
use Rattle.hs_rules.proofs.JoinLemmas.{item_at}
use Rattle.hs_rules.proofs.RunLemmas.{run_of_one}
use Rattle.hs_rules.proofs.extending.run_end.Goals as goal

pub loop-end-preserved : goal.loop-end-preserved
loop-end-preserved c =
    let partials = c.args.partials.now in
    let at = c.args.at in
    let r0 = c.index-partials-start.result in
    let r1 = c.index-partials-end.result in
    let begins = item_at partials c.args.start r0 c.requires.start c.index-partials-start.is in
    let ends = item_at partials c.loop-end.end r1 c.loop-end-test.true c.index-partials-end.is in
    record {
      more = omega (arith, c.loop-end.invariant.more);
      same = λ j x y le lt first is. elim (cases_order j c.loop-end.end) [
        | inl here ↦
            let x_is : r0 ≡ x = same_Some r0 x (sym begins ∙ first) in
            let y_is : r1 ≡ y = same_Some r1 y (sym ends ∙ (ap (λ (i : ℕ). slice_get partials i) (sym here) ∙ is)) in
            let first_is : c.as_slice.result.now ≡ x.args = c.as_slice.ensures ∙ (ap (λ (z : PartialData). z.args) c.first.view_is ∙ ap (λ (z : PartialData). z.args) x_is) in
            let other_is : c.as_slice-in-loop-end.result.now ≡ y.args = c.as_slice-in-loop-end.ensures ∙ (ap (λ (z : PartialData). z.args) c.other.view_is ∙ ap (λ (z : PartialData). z.args) y_is) in
            sym (ap (λ (a : List (ℕ × ℕ)). take at (chosen_places a)) other_is) ∙ (sym c.if-not-have_same.ensures ∙ ap (λ (a : List (ℕ × ℕ)). take at (chosen_places a)) first_is)
        | inr (inl sooner) ↦ c.loop-end.invariant.same j x y le sooner first is
        | inr (inr later) ↦ absurd (omega (arith, lt, later))
      ];
    }

pub returns : goal.returns
returns c = record {
  more = c.requires.start;
  within = omega arith;
  same = λ j x y le lt first is. c.loop-end.invariant.same j x y le (omega (arith, lt, c.loop-end-test.false)) first is;
  ends = λ x y first is. absurd (omega (arith, within_from c.args.partials.now _ y is));
}

pub returns-then-at-len : goal.returns-then-at-len
returns-then-at-len c =
    let first = c.index-partials-start.result in
    let many = ap (λ (z : PartialData). length z.args) c.first.view_is in
    run_of_one c.args.partials.now c.args.start c.args.at first c.requires.ascending c.requires.long (item_at c.args.partials.now c.args.start first c.requires.start c.index-partials-start.is) (omega (arith, many, c.if-at-len.true, c.len.ensures.value))

pub returns-then-not-have_same : goal.returns-then-not-have_same
returns-then-not-have_same c =
    let partials = c.args.partials.now in
    let at = c.args.at in
    let r0 = c.index-partials-start.result in
    let r1 = c.index-partials-end.result in
    let begins = item_at partials c.args.start r0 c.requires.start c.index-partials-start.is in
    let ends = item_at partials c.loop-end.end r1 c.loop-end-test.true c.index-partials-end.is in
    record {
      more = c.loop-end.invariant.more;
      within = omega (arith, c.loop-end-test.true);
      same = c.loop-end.invariant.same;
      ends = λ x y first is e.
          let x_is : r0 ≡ x = same_Some r0 x (sym begins ∙ first) in
          let y_is : r1 ≡ y = same_Some r1 y (sym ends ∙ is) in
          let first_is : c.as_slice.result.now ≡ x.args = c.as_slice.ensures ∙ (ap (λ (z : PartialData). z.args) c.first.view_is ∙ ap (λ (z : PartialData). z.args) x_is) in
          let other_is : c.as_slice-in-loop-end.result.now ≡ y.args = c.as_slice-in-loop-end.ensures ∙ (ap (λ (z : PartialData). z.args) c.other.view_is ∙ ap (λ (z : PartialData). z.args) y_is) in
          c.if-not-have_same.ensures (ap (λ (a : List (ℕ × ℕ)). take at (chosen_places a)) first_is ∙ (sym e ∙ sym (ap (λ (a : List (ℕ × ℕ)). take at (chosen_places a)) other_is)));
    }
