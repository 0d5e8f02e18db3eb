-- Which slot is joined next.
--     IsPlaceAmong             a number goes there among ascending ones
--     IsTurn                   the slot is left, and stands there among those that are done
--     slots_at                 the slots of these numbers
--     AreTurns                 the numbers are those of slots, ascending
use Rattle.std.specs.Prelude.{ℕ, ◌<◌, ◌≤◌, List, [], length, map, slice_index_or, Contains}
use Rattle.std.specs.List.Sorted.{IsStrictlyIncreasing}
use Rattle.hs_rules.specs.declared.turns.Turn.{Turn}
use Rattle.hs_rules.specs.Slots.{FilledData}

pub record IsPlaceAmong (done : List ℕ) (number at : ℕ) : Type 0 where
  pub within : at ≤ length done
  pub below : (k : ℕ) → k < at → slice_index_or done k 0 < number
  pub above : (k : ℕ) → at ≤ k → k < length done → number ≤ slice_index_or done k 0

-- the slot isn't done, and `at` of those that are done stand before it
pub record IsTurn (fs : List FilledData) (done : List ℕ) (turn : Turn) : Type 0 where
  pub within : turn.number < length fs
  pub left : Contains done turn.number → ⊥
  pub place : IsPlaceAmong done turn.number turn.at

abbrev pub slots_at : List FilledData → List ℕ → List FilledData
slots_at fs done = map (λ (n : ℕ). slice_index_or fs n (record { arg = 0; places = [] })) done

-- they are numbers of the slots, ascending
pub record AreTurns (fs : List FilledData) (done : List ℕ) : Type 0 where
  pub rises : IsStrictlyIncreasing done
  pub within : (n : ℕ) → Contains done n → n < length fs
