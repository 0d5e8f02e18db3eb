-- A place in the lists of its type, and where that is the first at its point, of what it takes.
use Rattle.std.proofs.Common.{◌≡◌, sym, ◌∙◌, ap, ℕ, ◌+◌, ◌<◌, ◌≤◌, List, length, get_or, set, slice_get, Some, arith, Contains}
use Rattle.std.proofs.lemmas.List.{get_or-set_same, length-set}
use Rattle.std.proofs.lemmas.Option.{same_Some}
use Rattle.hs_table.specs.Types.{state}
use Rattle.hs_table.specs.Entries.{EntryData}
use Rattle.hs_types.specs.Interned.{InternerData, IsInterner}
use Rattle.hs_replica.specs.declared.key.Key.{Key}
use Rattle.hs_replica.specs.declared.key.Key.TheVariants.{At}
use Rattle.hs_replica.specs.Places.{Question, here, typed, asks, takes, Meets, Answers}
use Rattle.hs_replica.specs.Index.{reach, IsIndex, IsNextTyped, Gains, ListsAll, OfTypes}
use Rattle.hs_replica.proofs.RowLemmas.{answers, answered_by, index_kept}
use Rattle.hs_replica.proofs.ReachLemmas.{TypesOf, types_stand, types_move, number_read, number_written, number_grows, index_skip, index_next, none_behind, next_reached}

-- what the entry at a place answers about types
module _ (log : List EntryData) (place : ℕ) (e : EntryData) (at : slice_get log place ≡ Some e) where
  met : (q : Question) → OfTypes log place q → Meets log place e q
  met (typed p a) h = answered_by log place e at (typed p a) h
  met (takes p j a) h = answered_by log place e at (takes p j a) h
  met (here p) h = absurd h
  met (asks p j a) h = absurd h

  each : (point : ℕ) (q : Question) → TypesOf point q → Meets log place e q → OfTypes log place q
  each point (typed p a) of m = answers log place e at (typed p a) m
  each point (takes p j a) of m = answers log place e at (takes p j a) m
  each point (here p) of m = absurd of
  each point (asks p j a) of m = absurd of

  due : (point : ℕ) → e.point ≡ point → (by_type asked : List ℕ) (n : ℕ) → get_or by_type point 0 ≡ place → (q : Question) → OfTypes log place q → reach by_type asked n q ≡ place
  due point is by_type asked n reached (typed p a) h = ap (λ k. get_or by_type k 0) (sym (met (typed p a) h).0 ∙ is) ∙ reached
  due point is by_type asked n reached (takes p j a) h = ap (λ k. get_or by_type k 0) (sym (met (takes p j a) h).0 ∙ is) ∙ reached
  due point is by_type asked n reached (here p) h = absurd h
  due point is by_type asked n reached (asks p j a) h = absurd h

-- the place that comes next at the point gets into these lists
module _ (ids : InternerData) (is : IsInterner ids) (log : List EntryData) (by_type asked : List ℕ) (n point : ℕ) (list : Key → List ℕ) (was : IsIndex ids log (reach by_type asked n) list)
    (long : point < length by_type) (from : ℕ) (read : from ≡ get_or by_type point from)
    (place : ℕ) (there : (from ≤ place) × ((place < n) × Contains (list (At point)) place)) (first : (i : ℕ) → Contains (list (At point)) i → from ≤ i → i < n → place ≤ i) where
  abbrev now : List ℕ
  now = set by_type point place

  abbrev stands : Answers log place (here point)
  stands = was.sound (At point) place there.1.1

  written : get_or now point 0 ≡ place
  written = get_or-set_same by_type point place 0 long

  reached : IsIndex ids log (reach now asked n) list
  reached = next_reached ids log by_type asked n list was is point from place there first (TypesOf point) (types_stand log point) now asked (types_move by_type point from place long read asked n)

  pub types_next : IsNextTyped ids log place list
  types_next = record {
    reached = reach now asked n;
    index = reached;
    upto = λ e at a. ap (λ k. get_or now k 0) (ap (λ (d : EntryData). d.point) (same_Some e stands.entry (sym at ∙ stands.at)) ∙ stands.meets) ∙ written;
  }

  module _ (new : Key → List ℕ) (gains : Gains ids (OfTypes log place) place list new) where
    its_due : (q : Question) → OfTypes log place q → reach now asked n q ≡ place
    its_due = due log place stands.entry stands.at point stands.meets now asked n written

    pub types_stopped : IsIndex ids log (reach now asked n) new
    types_stopped = index_kept ids log place stands.entry stands.at (reach now asked n) (OfTypes log place) (met log place stands.entry stands.at) its_due list new reached gains

    pub types_more : ListsAll ids (OfTypes log place) place new → IsIndex ids log (reach (set now point (place + 1)) asked n) new
    types_more all =
        let later : point < length now = omega (arith, length-set by_type point place, long) in
        index_next ids log now asked n list reached (TypesOf point) (OfTypes log place) place stands.entry (set now point (place + 1)) asked stands.at (met log place stands.entry stands.at) its_due
        (each log place stands.entry stands.at point) (types_move now point place (place + 1) later (number_written by_type point place long) asked n) there.1.0 new gains all

-- no place comes
module _ (ids : InternerData) (is : IsInterner ids) (log : List EntryData) (by_type asked : List ℕ) (n point : ℕ) (list : Key → List ℕ) (was : IsIndex ids log (reach by_type asked n) list)
    (long : point < length by_type) (from : ℕ) (read : from ≡ get_or by_type point from) where
  pub types_within : from ≤ n
  types_within = omega (arith, was.within (typed point (state 0)) point, number_read by_type point from long read)

  pub types_all : ((i : ℕ) → Contains (list (At point)) i → i < n → i < from) → IsIndex ids log (reach (set by_type point n) asked n) list
  types_all none = index_skip ids log by_type asked n list was (TypesOf point) point from n (set by_type point n) asked (types_stand log point) (types_move by_type point from n long read asked n) types_within
      (omega arith) (none_behind ids log by_type asked n list was is point from none)

-- the numbers of a point rise
pub types_rise : (first by_type : List ℕ) (point from place : ℕ) → point < length by_type → from ≡ get_or by_type point from → from ≤ place → ((p : ℕ) → get_or first p 0 ≤ get_or by_type p 0)
    → (p : ℕ) → get_or first p 0 ≤ get_or (set by_type point place) p 0
types_rise first by_type point from place long read le more p = omega (arith, more p, number_grows by_type point from place long read le p)
