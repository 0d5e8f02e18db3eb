-- What contracts see of a seat.
use Rattle.std.specs.Prelude.{◌≡◌, ℕ, true, false, List, [], ◌∷◌, map, Option, None}
use Rattle.atomic_table.specs.Seated.{TableId}
use Rattle.atomic_table.specs.Table.{Me}
use Rattle.hs_turn.specs.declared.known.Known.{Known}

-- the turn that the seat was made by, and what the seat knows
pub record SeatView (B E : Type 0) : Type 0 where
  pub turn : TableId
  pub known : Known B E

module _ {B E : Type 0} where
  abbrev pub seat_view : TableId → Known B E → SeatView B E
  seat_view turn known = record { turn = turn; known = known }

  -- what rests: no seat, or one
  abbrev pub resting : TableId → List (Known B E) → List (SeatView B E)
  resting turn views = map (seat_view turn) views

  -- a seat of this turn rests there
  abbrev pub RestsIn : TableId → List (SeatView B E) → Type 0
  RestsIn turn rested = (seat : SeatView B E) × (rested ≡ seat ∷ []) × (seat.turn ≡ turn)

  -- the numbers that the code keeps are those that the seat knows
  pub record IsNumbered (number splits : ℕ) (v : Known B E) : Type 0 where
    pub number_is : v.number ≡ number
    pub splits_is : v.splits ≡ splits
    pub lives : v.live ≡ true

  -- a seat carries the slot exactly while it holds the lock; its state is then in its guard
  pub record IsSeat {T : Type 0} (number splits : ℕ) (me : Me (Option T) (Known B E)) : Type 0 where
    pub numbered : IsNumbered number splits me.0
    pub idle : me.0.holds ≡ false → me.1 ≡ []
    pub busy : me.0.holds ≡ true → me.1 ≡ (0, None) ∷ []

  -- what rests holds no guard
  pub record IsResting (number splits : ℕ) (views : List (Known B E)) : Type 0 where
    pub numbered : (v : Known B E) → views ≡ v ∷ [] → IsNumbered number splits v
    pub idle : (v : Known B E) → views ≡ v ∷ [] → v.holds ≡ false
