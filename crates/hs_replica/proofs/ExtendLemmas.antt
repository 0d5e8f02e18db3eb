-- Rows that are to go behind a log.
use Rattle.std.proofs.Common.{◌≡◌, ◌≢◌, refl, sym, ◌∙◌, ap, subst, ℕ, ◌+◌, ◌-◌, ◌<◌, ◌≤◌, ◌^◌, List, ◌++◌, length, map, get_or, take, drop, All, AllPairs, Contains, arith, append_assoc, length-append}
use Rattle.std.proofs.lemmas.List.{take-append-drop, drop-map, map-append, length-map, get_or-map, get_or_append_left, get_or-append_right, length-take-le}
use Rattle.std.proofs.Math.Seq.{drop-append_seam}
use mathlib.Core.List.{IsPrefix}
use Rattle.hs_table.specs.Entries.{EntryData}
use Rattle.hs_types.specs.Interned.{RowData, IsRow, entry_of}
use Rattle.hs_replica.specs.Replica.{ReplicaData, IsReplica}
use Rattle.hs_replica.specs.Extending.{CanExtend, extended}

module _ (log : List EntryData) (F : RowData → EntryData) (rows : List RowData) (k : ℕ) where
  abbrev before : List EntryData
  before = log ++ map F (take k rows)

  split : log ++ map F rows ≡ before ++ map F (drop k rows)
  split =
      ap (λ (xs : List EntryData). log ++ xs) (ap (map F) (sym (take-append-drop k rows)) ∙ map-append F (take k rows) (drop k rows))
      ∙ sym (append_assoc log (map F (take k rows)) (map F (drop k rows)))

  -- the next row's entry isn't among those before it
  pub next_absent : (row : RowData) → AllPairs (λ a b. a ≢ b) (log ++ map F rows) → k < length rows → row ≡ get_or rows k row → Contains (log ++ map F (take k rows)) (F row) → ⊥
  next_absent row distinct lt is h =
      let e = F row in
      let whole = log ++ map F rows in
      let long : length before ≡ length log + k = omega (arith, length-append log (map F (take k rows)), length-map (take k rows) F, length-take-le k rows (omega (arith, lt))) in
      let all : length whole ≡ length log + length rows = omega (arith, length-append log (map F rows), length-map rows F) in
      let j = h.0 in
      let at_j : get_or whole j e ≡ e = ap (λ (xs : List EntryData). get_or xs j e) split ∙ get_or_append_left before (map F (drop k rows)) e j h.1 ∙ h.2 in
      let minus : length log + k - length log ≡ k = omega arith in
      let at_k : get_or whole (length log + k) e ≡ e =
      get_or-append_right log (map F rows) (length log) (length log + k) e refl (omega arith)
      ∙ ap (λ n. get_or (map F rows) n e) minus ∙ get_or-map F rows k row e lt ∙ ap F (sym is) in
      distinct j (length log + k) e (omega (arith, h.1, long)) (omega (arith, lt, all)) (at_j ∙ sym at_k)

-- the rest of a longer log
pub rest_of : (log whole : List EntryData) (n : ℕ) → IsPrefix log whole → n ≡ length log → log ++ drop n whole ≡ whole
rest_of log whole n p is =
    ap (λ m. log ++ drop m whole) is ∙ ap (λ (xs : List EntryData). log ++ drop (length log) xs) (sym p.1)
    ∙ ap (λ (xs : List EntryData). log ++ xs) (drop-append_seam log p.0) ∙ p.1

module _ (r : ReplicaData) (from : ReplicaData) (F : RowData → EntryData) (rows others : List RowData) (n : ℕ) (is : IsReplica from) (log : from.log ≡ map F others) (begins : IsPrefix r.log from.log) (long : n ≡ length r.log)
    (entries : map (entry_of r.ids) rows ≡ map F (drop n others)) where
  pub read_whole : extended r rows ≡ from.log
  read_whole =
      ap (λ (xs : List EntryData). r.log ++ xs) (entries ∙ sym (drop-map F n others) ∙ ap (drop n) (sym log))
      ∙ rest_of r.log from.log n begins long

  pub read_fits : All (IsRow r.ids) rows → length rows ≤ r.spare → CanExtend r rows
  read_fits known room = record {
    known = known;
    distinct = subst (λ (xs : List EntryData). AllPairs (λ a b. a ≢ b) xs) (sym read_whole) is.distinct;
    short = subst (λ (xs : List EntryData). length xs < 2 ^ 32) (sym read_whole) is.short;
    room = room;
  }
