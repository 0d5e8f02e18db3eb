-- Choices side by side that have the same places before that of a slot.
use Rattle.std.proofs.Common.{◌≡◌, sym, ◌∙◌, ap, subst, ℕ, ◌+◌, ◌-◌, ◌<◌, ◌≤◌, List, length, take, drop, get_or, slice_get, Some, arith, ◌⊎◌, Contains}
use Rattle.std.proofs.Math.Seq.{take-add}
use Rattle.std.proofs.lemmas.List.{get_or-drop, get_or-take, length-drop, length-map, length-take, take_all}
use Rattle.std.proofs.lemmas.List.Elements.{Contains-append_cases}
use Rattle.std.proofs.lemmas.Option.{get_or_from_slice_get, slice_get-get_or, same_Some}
use Rattle.hs_scheme.proofs.Lists.{Contains-at}
use Rattle.hs_table_laws.proofs.Places.{place_of, at_take, within_from}
use Rattle.hs_rules.specs.Order.{chosen_places}
use Rattle.hs_rules.specs.Joins.{PartialData, HasLesserPlaces, AreAscending, AreAsLong, HaveSameBefore, IsRun}
use Rattle.hs_rules.proofs.OrderLemmas.{less_differ}
use Rattle.hs_rules.proofs.JoinLemmas.{lesser_first}

abbrev pub items_of : List PartialData → ℕ → ℕ → List PartialData
items_of partials start end = take (end - start) (drop start partials)

-- where one of them stands
pub record InRun (partials : List PartialData) (start end : ℕ) (x : PartialData) : Type 0 where
  pub place : ℕ
  pub from : start ≤ place
  pub below : place < end
  pub at : slice_get partials place ≡ Some x

pub in_run : (partials : List PartialData) (start end : ℕ) (x : PartialData) → Contains (items_of partials start end) x → InRun partials start end x
in_run partials start end x there =
    let p = place_of (items_of partials start end) x there in
    let t = at_take (end - start) (drop start partials) p.0 x p.1 in
    let within = within_from (drop start partials) p.0 x t.1 in
    let many = length-drop start partials in
    let is = get_or_from_slice_get (drop start partials) p.0 x x t.1 in
    record {
      place = start + p.0;
      from = omega arith;
      below = omega (arith, t.0);
      at = slice_get-get_or partials (start + p.0) x (omega (arith, within, many)) ∙ ap (λ (z : PartialData). Some z) (sym (get_or-drop start partials p.0 x) ∙ is);
    }

pub run_there : (partials : List PartialData) (start end : ℕ) (x : PartialData) → Contains (items_of partials start end) x → Contains partials x
run_there partials start end x there = let r = in_run partials start end x there in Contains-at partials r.place x r.at

pub run_ascends : (partials : List PartialData) (start end : ℕ) → end ≤ length partials → AreAscending partials → AreAscending (items_of partials start end)
run_ascends partials start end within up i j d lt below =
    let many = length-drop start partials in
    let few = length-take (end - start) (drop start partials) in
    let j_in : j < end - start = omega (arith, below, few) in
    let j_at : start + j < length partials = omega (arith, j_in, within) in
    let i_in : i < end - start = omega (arith, lt, j_in) in
    let x_is = get_or-take (end - start) (drop start partials) i d i_in ∙ get_or-drop start partials i d in
    let y_is = get_or-take (end - start) (drop start partials) j d j_in ∙ get_or-drop start partials j d in
    subst (λ (x : PartialData). HasLesserPlaces x (get_or (items_of partials start end) j d)) (sym x_is)
    (subst (λ (y : PartialData). HasLesserPlaces (get_or partials (start + i) d) y) (sym y_is) (up (start + i) (start + j) d (omega (arith, lt)) j_at))

module _ (partials : List PartialData) (start at end : ℕ) (run : IsRun partials start at end) (d : PartialData) where
  pub first_at : slice_get partials start ≡ Some (get_or partials start d)
  first_at = slice_get-get_or partials start d (let a = run.more in let b = run.within in omega (arith, a, b))

  pub as_first : (x : PartialData) → Contains (items_of partials start end) x → take at (chosen_places x.args) ≡ take at (chosen_places (get_or partials start d).args)
  as_first x there = let r = in_run partials start end x there in run.same r.place (get_or partials start d) x r.from r.below first_at r.at

  pub run_same : HaveSameBefore at (items_of partials start end)
  run_same x y cx cy = as_first x cx ∙ sym (as_first y cy)

-- one of those up to the end of a run is one of those before it or of the run
pub up_to_end : (partials : List PartialData) (start end : ℕ) (x : PartialData) → start ≤ end → Contains (take end partials) x → Contains (take start partials) x ⊎ Contains (items_of partials start end) x
up_to_end partials start end x le there =
    let sum : start + (end - start) ≡ end = omega (arith, le) in
    Contains-append_cases (take start partials) (items_of partials start end) x
    (subst (λ (xs : List PartialData). Contains xs x) (take-add start (end - start) partials) (subst (λ (n : ℕ). Contains (take n partials) x) (sym sum) there))

-- a place at the end leaves each choice alone
pub run_of_one : (partials : List PartialData) (start at : ℕ) (first : PartialData) → AreAscending partials → AreAsLong partials → slice_get partials start ≡ Some first → length first.args ≤ at → IsRun partials start at (start + 1)
run_of_one partials start at first up long first_is all = record {
  more = omega arith;
  within = let w = within_from partials start first first_is in omega (arith, w);
  same = λ j x y le lt is_x is_y.
      let here : j ≡ start = omega (arith, le, lt) in
      let same : y ≡ x = same_Some y x (sym is_y ∙ (ap (λ (i : ℕ). slice_get partials i) here ∙ is_x)) in
      ap (λ (z : PartialData). take at (chosen_places z.args)) same;
  ends = λ x y is_x is_y e.
      let x_is : first ≡ x = same_Some first x (sym first_is ∙ is_x) in
      let room : length x.args ≤ at = subst (λ (z : PartialData). length z.args ≤ at) x_is all in
      let as_both = long x y (Contains-at partials start x is_x) (Contains-at partials (start + 1) y is_y) in
      let a = length-map x.args (λ (z : ℕ × ℕ). z.1) in
      let b = length-map y.args (λ (z : ℕ × ℕ). z.1) in
      less_differ (chosen_places x.args) (chosen_places y.args) (lesser_first partials start (start + 1) x y up (omega arith) is_x is_y)
      (sym (take_all at (chosen_places x.args) (omega (arith, room, a))) ∙ (sym e ∙ take_all at (chosen_places y.args) (omega (arith, room, as_both, a, b))));
}
