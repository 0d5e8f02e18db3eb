use Rattle.std.proofs.Common.{◌≡◌, sym, ◌∙◌, ap, subst, ℕ, ◌+◌, ◌<◌, true, false, List, [], ◌∷◌, ◌++◌, length, get_or, arith, rules, Contains, inl, inr}
use Rattle.std.proofs.lemmas.Bool.{cases_lt, eqb-true, eqb-false, true≢false}
use Rattle.std.proofs.lemmas.List.Elements.{Contains-push}
use Rattle.hs_rules.specs.Conclusions.{DeducedData}
use Rattle.hs_rank.proofs.Sorted.{nth}
use Rattle.hs_rank.proofs.OneEach.{HasOneEach, nth_is, number_within, each_begins, each_same, each_new, in_order, none_in_order}
use Rattle.hs_rank.proofs.merging.one_each.Goals as goal

some_there : (n : ℕ) → (n ≡ 0 → ⊥) → 0 < n
some_there n some = elim (cases_lt 0 n) [
  | inl lt ↦ lt
  | inr le ↦ absurd (some (omega (arith, le)))
]

pub returns-then-is_empty : goal.returns-then-is_empty
returns-then-is_empty c =
    let S = c.args.sorted.now in
    none_in_order c.args.interner.now c.args.found.now S c.requires.sorted (eqb-true (length S) 0 (sym c.is_empty.ensures ∙ c.if-is_empty.true)) c.in_ok-kept.kept.items c.in_ok-kept.ensures.items

pub loop-number-init : goal.loop-number-init
loop-number-init c =
    let I = c.args.interner.now in
    let F = c.args.found.now in
    let S = c.args.sorted.now in
    let some = some_there (length S) (eqb-false (length S) 0 (sym c.is_empty.ensures ∙ c.if-is_empty.false)) in
    record {
      each = subst (λ (ks : List ℕ). HasOneEach I F S 1 ks (get_or S 0 0)) (sym c.in_ok-kept.ensures.items) (each_begins I F S c.requires.sorted some);
      few = omega (arith, c.in_ok-kept.ensures.len);
      room = c.in_ok-kept.ensures.capacity;
    }

pub offset_bounds-found-place : goal.offset_bounds-found-place
offset_bounds-found-place c = let h = number_within c.args.interner.now c.args.found.now c.args.sorted.now c.requires.sorted c.loop-number.number c.loop-number-test.true in search rules

pub bounds-found-place : goal.bounds-found-place
bounds-found-place c = number_within c.args.interner.now c.args.found.now c.args.sorted.now c.requires.sorted c.loop-number.number c.loop-number-test.true

pub offset_bounds-found-last : goal.offset_bounds-found-last
offset_bounds-found-last c = let h = c.loop-number.invariant.each.within c.loop-number.last (Contains-push c.loop-number.kept.items c.loop-number.last) in search rules

pub bounds-found-last : goal.bounds-found-last
bounds-found-last c = c.loop-number.invariant.each.within c.loop-number.last (Contains-push c.loop-number.kept.items c.loop-number.last)

pub lesser_of-last-requires-clause-place : goal.lesser_of-last-requires-clause-place
lesser_of-last-requires-clause-place c = c.loop-number.invariant.each.within c.loop-number.last (Contains-push c.loop-number.kept.items c.loop-number.last)

pub lesser_of-last-requires-clause-other : goal.lesser_of-last-requires-clause-other
lesser_of-last-requires-clause-other c = number_within c.args.interner.now c.args.found.now c.args.sorted.now c.requires.sorted c.loop-number.number c.loop-number-test.true

pub loop-number-preserved-then-is_same_entry : goal.loop-number-preserved-then-is_same_entry
loop-number-preserved-then-is_same_entry c =
    let I = c.args.interner.now in
    let F = c.args.found.now in
    let S = c.args.sorted.now in
    let n = c.loop-number.number in
    let last = c.loop-number.last in
    let q = get_or S n 0 in
    let h = c.loop-number.invariant.each in
    let q_is = nth_is F q c.index-found-place.result (number_within I F S c.requires.sorted n c.loop-number-test.true) c.index-found-place.is in
    let last_is = nth_is F last c.index-found-last.result (h.within last (Contains-push c.loop-number.kept.items last)) c.index-found-last.is in
    let same : (nth F q).row ≡ (nth F last).row = ap (λ (x : DeducedData). x.row) q_is ∙ (c.is_same_entry.ensures.0 c.if-is_same_entry.true ∙ sym (ap (λ (x : DeducedData). x.row) last_is)) in
    record {
      each = each_same I F S c.requires.sorted n c.loop-number-test.true c.loop-number.kept.items last h c.lesser_of-last.result same c.lesser_of-last.ensures.which c.lesser_of-last.ensures.least c.lesser_of-last.ensures.other_least;
      few = omega (arith, c.loop-number.invariant.few);
      room = c.loop-number.invariant.room;
    }

pub loop-number-preserved : goal.loop-number-preserved
loop-number-preserved c =
    let I = c.args.interner.now in
    let F = c.args.found.now in
    let S = c.args.sorted.now in
    let n = c.loop-number.number in
    let last = c.loop-number.last in
    let q = get_or S n 0 in
    let h = c.loop-number.invariant.each in
    let kept = c.loop-number.kept.items in
    let q_is = nth_is F q c.index-found-place.result (number_within I F S c.requires.sorted n c.loop-number-test.true) c.index-found-place.is in
    let last_is = nth_is F last c.index-found-last.result (h.within last (Contains-push kept last)) c.index-found-last.is in
    let other : (nth F q).row ≡ (nth F last).row → ⊥
    = λ e. true≢false (sym (c.is_same_entry.ensures.1 (sym (ap (λ (x : DeducedData). x.row) q_is) ∙ (e ∙ ap (λ (x : DeducedData). x.row) last_is))) ∙ c.if-is_same_entry.false) in
    record {
      each = subst (λ (ks : List ℕ). HasOneEach I F S (n + 1) ks q) (sym c.push_reserved.ensures.items) (each_new I F S c.requires.sorted n c.loop-number-test.true kept last h c.know_numbers.ensures c.requires.known other);
      few = omega (arith, c.push_reserved.ensures.len, c.loop-number.invariant.few);
      room = omega (arith, c.push_reserved.ensures.capacity, c.loop-number.invariant.room);
    }

pub returns : goal.returns
returns c =
    in_order c.args.interner.now c.args.found.now c.args.sorted.now c.requires.sorted c.loop-number.number c.loop-number-test.false c.loop-number.kept.items c.loop-number.last c.loop-number.invariant.each c.push_reserved-2.new.self.items
    c.push_reserved-2.ensures.items
