use Rattle.std.proofs.Common.{◌≡◌, sym, ◌∙◌, subst, ℕ, ◌<◌, length, get_or, Option, Some, None, Bool, false, not, arith, Contains, inl, inr}
use Rattle.std.specs.Prelude.{is_some}
use Rattle.std.proofs.lemmas.Bool.{cases_order}
use Rattle.std.proofs.lemmas.List.Elements.{Contains-get_or}
use Rattle.std.proofs.lemmas.Option.{same_Some}
use Rattle.hs_rules.specs.declared.turns.Turn.{Turn}
use Rattle.hs_rules.specs.Turns.{IsTurn}
use Rattle.hs_rules.proofs.TurnLemmas.{place_done, place_left, turn_left}
use Rattle.hs_rules.proofs.turns.lightest.Goals.{else-at-done-via-then-at-done+else-done-at, else-at-done-via-else-at-done, then-is_none, else-is_none+else-weight-least}
use Rattle.hs_rules.proofs.turns.lightest.Goals as goal

some_chosen : (next : Option Turn) (none : Bool) → is_some next ≡ not none → none ≡ false → next ≡ None → ⊥
some_chosen (Some t) none e f is = absurd (cc)
some_chosen None none e f is = absurd (let g : false ≡ not none = e in cc)

pub loop-number-preserved-then-done-at : goal.loop-number-preserved-then-done-at
loop-number-preserved-then-done-at c =
    let n = c.loop-number.number in
    let at = c.loop-number.at in
    let done = c.args.done.now in
    record {
      place = place_done done c.requires n at c.loop-number.invariant.place c.if-at-done.true c.if-done-at.true;
      some = c.loop-number.invariant.some;
      none = λ is k lt. elim (cases_order k n) [
        | inl same ↦ subst (λ (i : ℕ). Contains done i) (c.if-done-at.true ∙ sym same) (Contains-get_or done at 0 c.if-at-done.true)
        | inr (inl less) ↦ c.loop-number.invariant.none is k less
        | inr (inr more) ↦ absurd (omega (arith, lt, more))
      ];
    }

pub loop-number-preserved : goal.loop-number-preserved
loop-number-preserved c =
    let n = c.loop-number.number in
    let at = c.loop-number.at in
    let done = c.args.done.now in
    let place = c.loop-number.invariant.place in
    let other : at < length done → get_or done at 0 ≡ n → ⊥ = elim c.else-at-done.branch [
      | else-at-done-via-then-at-done+else-done-at w ↦ λ lt is. w.if-done-at.false is
      | else-at-done-via-else-at-done w ↦ λ lt is. absurd (omega (arith, lt, w.if-at-done.false))
    ] in
    let turn : Turn = record { number = n; at = at } in
    let is_turn : IsTurn c.args.slots.now done turn = record { within = c.loop-number-test.true; left = turn_left done c.requires n at place other; place = place } in
    record {
      place = place_left done c.requires n at place other;
      some = λ t is. elim c.if-is_none.branch [
        | then-is_none w ↦ subst (λ (x : Turn). IsTurn c.args.slots.now done x) (same_Some turn t (sym w.next-is ∙ is)) is_turn
        | else-is_none+else-weight-least w ↦ c.loop-number.invariant.some t (sym w.next-is ∙ is)
      ];
      none = λ is k lt. elim c.if-is_none.branch [
        | then-is_none w ↦ absurd (let e = sym w.next-is ∙ is in cc)
        | else-is_none+else-weight-least w ↦ absurd (some_chosen c.loop-number.next c.is_none.result c.is_none.ensures w.if-is_none.false (sym w.next-is ∙ is))
      ];
    }
