-- What each atomic step tells the seat that makes it.
-- `me` is the seat before the step: its view, and the slots that it carries with their values. `found` is what the word was.
use Rattle.std.specs.Prelude.{◌≡◌, ◌≢◌, ℕ, List, ◌∷◌, Option, Some}
use mathlib.Core.List.{IsPrefix}
use Rattle.atomic_table.specs.Table.{Me, Step, rest}
use Rattle.hs_turn.specs.declared.known.Known.{Known}
use Rattle.hs_turn.specs.Story.{told_by}
use Rattle.hs_turn.specs.Views.{entered, having_told, having_left}

abbrev pub Holding : Type 0 → Type 0 → Type 0 → Type 0
Holding T B E = Me (Option T) (Known B E)

module _ {T B E : Type 0} where
  -- the state x has the seat's base, its story begins with what the seat had seen, and the events under the seat's number are its own, in the story and in what the seat had seen
  pub record Finds (base : T → B) (story : T → List E) (number : E → ℕ) (v : Known B E) (x : T) : Type 0 where
    pub base_is : v.base ≡ Some (base x)
    pub begins : IsPrefix v.seen (story x)
    pub own : told_by number v.number (story x) ≡ v.own
    pub seen_own : told_by number v.number v.seen ≡ v.own

  -- the seat carries the slot with the state that it found
  pub record Takes (base : T → B) (story : T → List E) (number : E → ℕ) (me after : Holding T B E) : Type 0 where
    pub state : T
    pub carried : after.1 ≡ (0, Some state) ∷ me.1
    pub view : after.0 ≡ entered me.0 (story state)
    pub finds : Finds base story number me.0 state

  -- a compare-exchange of the lock word from 0 to 1
  abbrev pub Enters : (T → B) → (T → List E) → (E → ℕ) → Step (Option T) → Holding T B E → ℕ → Holding T B E → Type 0
  Enters base story number st me found after = (found ≡ 0 → Takes base story number me after) × (found ≢ 0 → after ≡ me)

  -- a store of 0 in the lock word
  abbrev pub Leaves : Step (Option T) → Holding T B E → ℕ → Holding T B E → Type 0
  Leaves st me stored after = after ≡ (having_left me.0, rest me.1)

  -- an addition to the count of the story
  abbrev pub Tells : List E → Step (Option T) → Holding T B E → ℕ → Holding T B E → Type 0
  Tells events st me found after = (after.1 ≡ me.1) × (after.0 ≡ having_told me.0 events)

  -- a load of the count of the story, which shows that what was kept at a join begins what was seen
  abbrev pub Looks : Step (Option T) → Holding T B E → ℕ → Holding T B E → Type 0
  Looks st me found after = (after ≡ me) × IsPrefix me.0.kept me.0.seen
