-- The candidates for slots, found in a log.
--     fixed_of        what has to fill the slot of its type
--     CanSearch       the look-ups tell of the whole log, and what is fixed is in it
--     IsFilled        the places are those of the slot's candidates, ascending
--     AreFilled       so it is for slots, one by one
--     GainsFilled     so it is for what was added
--     LacksCandidate  for a type of a set the log has nothing at the point
--     LacksSlot       the slot of a type of a set has no candidates
use Rattle.std.specs.Prelude.{◌≡◌, ℕ, ◌^◌, ◌<◌, ◌≤◌, List, [], ◌∷◌, ◌++◌, length, slice_get, Option, Some, None, Contains, ◌↔◌}
use Rattle.std.specs.List.Sorted.{IsStrictlyIncreasing}
use Rattle.hs_table.specs.Types.{TypeTree}
use Rattle.hs_table.specs.Entries.{EntryData, entry_at}
use Rattle.hs_replica.specs.Replica.{ReplicaData}
use Rattle.hs_rules.specs.declared.search.Fixed.{Fixed}
use Rattle.hs_rules.specs.Slots.{SlotData, FixedData, FilledData, IsCandidate}

abbrev pub fixed_of : List EntryData → Option Fixed → Option FixedData
fixed_of log None = None
fixed_of log (Some f) = Some (record { arg = f.arg; ty = (entry_at log f.place).ty; place = f.place })

-- it is among the places that count, and at its argument's point
abbrev pub IsWithin : List EntryData → List ℕ → ℕ → Option Fixed → Type 0
IsWithin log args limit None = Unit {0}
IsWithin log args limit (Some f) = (f.place < limit) × (slice_get args f.arg ≡ Some (entry_at log f.place).point)

pub record CanSearch (r : ReplicaData) (args : List ℕ) (limit : ℕ) (fixed : Option Fixed) : Type 0 where
  pub indexed : r.indexed ≡ length r.log
  pub limited : limit ≤ length r.log
  pub few : length args < 2 ^ 32
  pub fixed_within : IsWithin r.log args limit fixed

pub record IsFilled (E : List EntryData) (fixed : Option FixedData) (s : SlotData) (f : FilledData) : Type 0 where
  pub arg : f.arg ≡ s.arg
  pub places : (place : ℕ) → Contains f.places place ↔ ((e : EntryData) × IsCandidate E fixed s place e)
  pub ascending : IsStrictlyIncreasing f.places

-- the slots are filled one by one
abbrev pub AreFilled : List EntryData → Option FixedData → List SlotData → List FilledData → Type 0
AreFilled E fixed [] [] = Unit {0}
AreFilled E fixed [] (f ∷ fs) = ⊥
AreFilled E fixed (s ∷ ss) [] = ⊥
AreFilled E fixed (s ∷ ss) (f ∷ fs) = IsFilled E fixed s f × AreFilled E fixed ss fs

-- these slots are filled behind what was there
pub record GainsFilled (E : List EntryData) (fixed : Option FixedData) (ss : List SlotData) (old new : List FilledData) : Type 0 where
  pub added : List FilledData
  pub is : new ≡ old ++ added
  pub filled : AreFilled E fixed ss added

-- for one type of the set no entry at the point has it
pub record LacksCandidate (E : List EntryData) (point : ℕ) (set : List TypeTree) : Type 0 where
  pub ty : TypeTree
  pub among : Contains set ty
  pub none : (place : ℕ) (e : EntryData) → slice_get E place ≡ Some e → e.point ≡ point → e.ty ≡ ty → ⊥

-- for one type of the set of this argument nothing is a candidate
pub record LacksSlot (E : List EntryData) (fixed : Option FixedData) (arg point : ℕ) (set : List TypeTree) : Type 0 where
  pub ty : TypeTree
  pub among : Contains set ty
  pub none : (place : ℕ) (e : EntryData) → IsCandidate E fixed (record { arg = arg; point = point; ty = ty }) place e → ⊥
