-- The places of a log that a look-up gives.
--     Question                 what is asked for: entries at a point; those with a type; those of a state whose environment has a type at
--                              a parameter; those whose type takes an argument that may have a type
--     Answers log i q          the entry at place i is one of those
--     IsFirstLike log i e      the first entry with the point and the type of e
--     ArePlaces log n q xs     these are just such places among the first n, ascending
use Rattle.std.specs.Prelude.{◌≡◌, ℕ, ◌<◌, ◌≤◌, List, Contains, slice_get, Some, ◌↔◌}
use Rattle.std.specs.List.Sorted.{IsStrictlyIncreasing}
use Rattle.hs_table.specs.Types.{TypeTree, state, arrows}
use Rattle.hs_table.specs.Entries.{Env, EntryData, Has}

pub data Question : Type 0 where
  here : ℕ → Question
  typed : ℕ → TypeTree → Question
  asks : ℕ → ℕ → TypeTree → Question
  takes : ℕ → ℕ → TypeTree → Question

abbrev pub IsState : TypeTree → Type 0
IsState ty = (q : ℕ) × (ty ≡ state q)

-- by this type, argument number j, from 0, is to be rejected by the type a
pub record HasArgumentType (ty : TypeTree) (j : ℕ) (a : TypeTree) : Type 0 where
  pub sets : Env
  pub rest : TypeTree
  pub is : ty ≡ arrows sets rest
  pub has : Has sets j a

-- no entry before place i has the point and the type of e
abbrev pub IsFirst : List EntryData → ℕ → EntryData → Type 0
IsFirst log i e = (j : ℕ) (d : EntryData) → j < i → slice_get log j ≡ Some d → d.point ≡ e.point → d.ty ≡ e.ty → ⊥

-- the first entry with the point and the type of e, which stands at place i
pub record IsFirstLike (log : List EntryData) (i : ℕ) (e : EntryData) : Type 0 where
  pub place : ℕ
  pub entry : EntryData
  pub before : place ≤ i
  pub at : slice_get log place ≡ Some entry
  pub point : entry.point ≡ e.point
  pub ty : entry.ty ≡ e.ty
  pub first : IsFirst log place entry

-- Of the entries that take an argument only the first with its point and type counts: no more than these are looked at there.
abbrev pub Meets : List EntryData → ℕ → EntryData → Question → Type 0
Meets log i e (here p) = e.point ≡ p
Meets log i e (typed p a) = (e.point ≡ p) × (e.ty ≡ a)
Meets log i e (asks p j a) = (e.point ≡ p) × (IsState e.ty × Has e.env j a)
Meets log i e (takes p j a) = (e.point ≡ p) × (HasArgumentType e.ty j a × IsFirst log i e)

pub record Answers (log : List EntryData) (i : ℕ) (q : Question) : Type 0 where
  pub entry : EntryData
  pub at : slice_get log i ≡ Some entry
  pub meets : Meets log i entry q

pub record ArePlaces (log : List EntryData) (n : ℕ) (q : Question) (places : List ℕ) : Type 0 where
  pub ascending : IsStrictlyIncreasing places
  pub exact : (i : ℕ) → Contains places i ↔ ((i < n) × Answers log i q)
