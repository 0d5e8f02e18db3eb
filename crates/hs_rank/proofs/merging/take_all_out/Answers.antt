use Rattle.std.proofs.Common.{◌≡◌, sym, ◌∙◌, ap, ℕ, ◌+◌, ◌<◌, ◌≤◌, List, [], ◌∷◌, ◌++◌, length, take, get_or, slice_get, Some, arith}
use Rattle.std.proofs.lemmas.List.{map-append, take_more}
use Rattle.std.proofs.lemmas.Option.{same_Some}
use Rattle.hs_rules.specs.Conclusions.{DeducedData}
use Rattle.hs_rank.specs.Ordering.{picked}
use Rattle.hs_rank.proofs.Sorted.{nth, nth_there}
use Rattle.hs_rank.proofs.merging.take_all_out.Goals as goal

pub loop-place-preserved : goal.loop-place-preserved
loop-place-preserved c =
    let n = c.loop-place.place-index in
    let found = c.args.found.now.items in
    let places = c.args.places.now in
    let lt : n < length places = c.loop-place-test.true in
    let p = get_or places n 0 in
    let d = c.take_out.result in
    let inv = c.loop-place.invariant in
    let out : d ≡ nth found p = same_Some d (nth found p) (sym c.take_out.ensures.taken ∙ (inv.left n (omega arith) lt ∙ nth_there found p (c.requires.within n 0 lt))) in
    let next : picked found (take (n + 1) places) ≡ picked found (take n places) ++ nth found p ∷ [] = ap (picked found) (take_more places n 0 lt) ∙ map-append (nth found) (take n places) (p ∷ []) in
    record {
      taken = c.push_reserved.ensures.items ∙ ((λ i. inv.taken i ++ out i ∷ []) ∙ sym next);
      left = λ k le below.
          let other : get_or places k 0 ≡ p → ⊥ = λ same. c.requires.once n k 0 (omega (arith, le)) below (sym same) in
          c.take_out.ensures.others (get_or places k 0) other ∙ inv.left k (omega (arith, le)) below;
      len = omega (arith, c.push_reserved.ensures.len, inv.len);
      room = omega (arith, c.push_reserved.ensures.capacity, inv.room);
    }
