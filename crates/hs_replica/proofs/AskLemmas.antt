-- A place in the lists of what its entry asks for.
use Rattle.std.proofs.Common.{◌≡◌, sym, ◌∙◌, ap, ℕ, ◌+◌, ◌<◌, ◌≤◌, List, length, get_or, set, slice_get, Some, arith, Contains}
use Rattle.std.proofs.lemmas.List.{get_or-set_same, length-set}
use Rattle.std.proofs.lemmas.Option.{same_Some}
use Rattle.hs_table_laws.proofs.Arrows.{state_no_arrow}
use Rattle.hs_table.specs.Types.{TypeTree, state, arrow}
use Rattle.hs_table.specs.Entries.{EntryData}
use Rattle.hs_types.specs.Interned.{InternerData, RowData, type_of_id, env_of_id, entry_of, IsInterner}
use Rattle.hs_replica.specs.declared.key.Key.{Key}
use Rattle.hs_replica.specs.declared.key.Key.TheVariants.{At}
use Rattle.hs_replica.specs.Places.{Question, here, typed, asks, takes, Meets}
use Rattle.hs_replica.specs.Index.{log_of, reach, IsIndex, Gains, ListsAll, AsksIn, AsksBy}
use Rattle.hs_replica.proofs.SetLemmas.{gains_weaker}
use Rattle.hs_replica.proofs.RowLemmas.{entry_at, index_kept}
use Rattle.hs_replica.proofs.ReachLemmas.{AsksOf, asks_stand, asks_move, number_written, index_next, next_reached}

-- a row by its type
module _ (ids : InternerData) (row : RowData) (place : ℕ) (new : Key → List ℕ) where
  pub state_gains : (q : ℕ) → type_of_id ids row.ty ≡ state q → (old : Key → List ℕ) → Gains ids (AsksIn row.point (env_of_id ids row.env)) place old new → Gains ids (AsksBy ids row) place old new
  state_gains q is old = gains_weaker ids (AsksIn row.point (env_of_id ids row.env)) (AsksBy ids row) place old new (λ k h. ((q, is), h))

  pub state_all : ListsAll ids (AsksIn row.point (env_of_id ids row.env)) place new → ListsAll ids (AsksBy ids row) place new
  state_all all q h = all q h.1

  pub arrow_all : (s : List TypeTree) (r : TypeTree) → type_of_id ids row.ty ≡ arrow s r → ListsAll ids (AsksBy ids row) place new
  arrow_all s r is q h = absurd (state_no_arrow h.0.0 s r (sym h.0.1 ∙ is))

-- what the row asks for
module _ (ids : InternerData) (log : List EntryData) (place : ℕ) (row : RowData) where
  met : (q : Question) → AsksBy ids row q → Meets log place (entry_of ids row) q
  met (asks p j a) h = (sym h.1.0, (h.0, h.1.1))
  met (here p) h = absurd h.1
  met (typed p a) h = absurd h.1
  met (takes p j a) h = absurd h.1

  module _ (point : ℕ) (is : row.point ≡ point) where
    due : (by_type asked : List ℕ) (n : ℕ) → get_or asked point 0 ≡ place → (q : Question) → AsksBy ids row q → reach by_type asked n q ≡ place
    due by_type asked n reached (asks p j a) h = ap (λ k. get_or asked k 0) (h.1.0 ∙ is) ∙ reached
    due by_type asked n reached (here p) h = absurd h.1
    due by_type asked n reached (typed p a) h = absurd h.1
    due by_type asked n reached (takes p j a) h = absurd h.1

    each : (q : Question) → AsksOf point q → Meets log place (entry_of ids row) q → AsksBy ids row q
    each (asks p j a) of m = (m.1.0, (sym m.0, m.1.1))
    each (here p) of m = absurd of
    each (typed p a) of m = absurd of
    each (takes p j a) of m = absurd of

-- the place that comes next at the point gets into the lists of what its row asks for
module _ (ids : InternerData) (is : IsInterner ids) (rows : List RowData) (by_type asked : List ℕ) (n point : ℕ) (list : Key → List ℕ) (was : IsIndex ids (log_of ids rows) (reach by_type asked n) list)
    (within : n ≤ length rows) (long : point < length asked) (from : ℕ) (read : from ≡ get_or asked point from)
    (place : ℕ) (there : (from ≤ place) × ((place < n) × Contains (list (At point)) place)) (first : (i : ℕ) → Contains (list (At point)) i → from ≤ i → i < n → place ≤ i)
    (row : RowData) (at : row ≡ get_or rows place row) (new : Key → List ℕ) (gains : Gains ids (AsksBy ids row) place list new) where
  abbrev log : List EntryData
  log = log_of ids rows

  abbrev now : List ℕ
  now = set asked point place

  reached : IsIndex ids log (reach by_type now n) list
  reached = next_reached ids log by_type asked n list was is point from place there first (AsksOf point) (asks_stand log point) by_type now (asks_move asked point from place long read by_type n)

  entry : slice_get log place ≡ Some (entry_of ids row)
  entry = entry_at ids rows place row (omega (arith, there.1.0, within)) at

  its_point : row.point ≡ point
  its_point = let a = was.sound (At point) place there.1.1 in ap (λ (e : EntryData). e.point) (same_Some (entry_of ids row) a.entry (sym entry ∙ a.at)) ∙ a.meets

  its_due : (q : Question) → AsksBy ids row q → reach by_type now n q ≡ place
  its_due = due ids log place row point its_point by_type now n (get_or-set_same asked point place 0 long)

  pub asks_stopped : IsIndex ids log (reach by_type now n) new
  asks_stopped = index_kept ids log place (entry_of ids row) entry (reach by_type now n) (AsksBy ids row) (met ids log place row) its_due list new reached gains

  pub asks_more : ListsAll ids (AsksBy ids row) place new → IsIndex ids log (reach by_type (set now point (place + 1)) n) new
  asks_more all =
      let later : point < length now = omega (arith, length-set asked point place, long) in
      index_next ids log by_type now n list reached (AsksOf point) (AsksBy ids row) place (entry_of ids row) by_type (set now point (place + 1)) entry (met ids log place row) its_due
      (each ids log place row point its_point) (asks_move now point place (place + 1) later (number_written asked point place long) by_type n) there.1.0 new gains all
