-- The rule of a turn's table, which holds between any two atomic steps.
--
-- Word 0 is the lock word and word 1 counts the story. The one slot holds the state.
-- `told` is the story as it was told: the events that were counted, in their order.
-- A seat's view is what it knows. Views are told apart by their place j in the table's list of views.
use Rattle.std.specs.Prelude.{◌≡◌, ◌≢◌, ℕ, suc, ◌+◌, ◌≤◌, ◌<◌, true, cond, List, [], ◌∷◌, length, Option, Some, All}
use mathlib.Core.List.{IsPrefix}
use mathlib.Core.Option.{some}
use mathlib.Core.Option as maybe
use lib.ListN.{get_elem?}
use Rattle.atomic_table.specs.Table.{State}
use Rattle.hs_turn.specs.declared.known.Known.{Known}
use Rattle.hs_turn.specs.Story.{told_by}

-- the lock is free and the state in its slot, or the seat at this place holds the slot
pub data Phase (T : Type 0) : Type 0 where
  free : T → Phase T
  held : ℕ → Phase T

module _ {T : Type 0} where
  abbrev pub lock_word : Phase T → ℕ
  lock_word (free x) = 0
  lock_word (held j) = 1

  -- the slot, where it is at home
  abbrev pub slot : Phase T → maybe.Option (Option T)
  slot (free x) = maybe.some (Some x)
  slot (held j) = maybe.none

  abbrev pub IsHolder : ℕ → Phase T → Type 0
  IsHolder j (free x) = ⊥
  IsHolder j (held i) = j ≡ i

module _ {B E : Type 0} where
  -- how many views aren't spent
  abbrev pub count_live : List (Known B E) → ℕ
  count_live [] = 0
  count_live (v ∷ views) = cond v.live (suc (count_live views)) (count_live views)

  -- where the lock is held, the view at that place knows that it holds
  abbrev pub HasHolder : {T : Type 0} → List (Known B E) → Phase T → Type 0
  HasHolder views (free x) = Unit {0}
  HasHolder views (held i) = (v : Known B E) × (get_elem? views i ≡ some v) × (v.holds ≡ true)

-- The seats among themselves. Seat 0 knows how many live, their numbers differ, and none is above what seat 0 has split.
pub record AreSeats {B E : Type 0} (views : List (Known B E)) : Type 0 where
  pub counted : (j : ℕ) (v : Known B E) → get_elem? views j ≡ some v → v.number ≡ 0 → v.live ≡ true → count_live views + v.joins ≡ suc v.splits
  pub apart : (i j : ℕ) (v w : Known B E) → get_elem? views i ≡ some v → get_elem? views j ≡ some w → v.live ≡ true → w.live ≡ true → v.number ≡ w.number → i ≡ j
  pub below : (i j : ℕ) (v w : Known B E) → get_elem? views i ≡ some v → get_elem? views j ≡ some w → v.number ≡ 0 → v.live ≡ true → w.live ≡ true → w.number ≤ v.splits

-- Whose the events are. Those under a number are the own list of the seat with that number, or the list that seat 0 keeps since it joined that seat. No event bears a number that wasn't given.
pub record AreOwned {B E : Type 0} (number : E → ℕ) (told : List E) (views : List (Known B E)) : Type 0 where
  pub own : (j : ℕ) (v : Known B E) → get_elem? views j ≡ some v → v.live ≡ true → told_by number v.number told ≡ v.own
  pub joined : (j : ℕ) (v : Known B E) → get_elem? views j ≡ some v → v.live ≡ true → All (λ (p : ℕ × List E). told_by number p.0 told ≡ p.1) v.joined
  pub gone : (i j : ℕ) (v w : Known B E) → get_elem? views i ≡ some v → get_elem? views j ≡ some w → v.live ≡ true → w.live ≡ true → All (λ (p : ℕ × List E). w.number ≢ p.0) v.joined
  pub given : (i j : ℕ) (v w : Known B E) → get_elem? views i ≡ some v → get_elem? views j ≡ some w → v.number ≡ 0 → v.live ≡ true → w.live ≡ true → All (λ (p : ℕ × List E). p.0 ≤ v.splits) w.joined
  pub ungiven : (j : ℕ) (v : Known B E) → get_elem? views j ≡ some v → v.number ≡ 0 → v.live ≡ true → (n : ℕ) → v.splits < n → told_by number n told ≡ []

module _ {T B E : Type 0} (base : T → B) (story : T → List E) (number : E → ℕ) (b : B) where
  -- at home, the state has the base and the told story
  abbrev pub Rests : List E → Phase T → Type 0
  Rests told (free x) = (base x ≡ b) × (story x ≡ told)
  Rests told (held j) = Unit {0}

  -- what the seat at place j knows is so: its base, that the lists it saw begin the story, that the events under its number in what it has seen are its own, and, while it holds the lock, that it has seen the whole story
  pub record Knows (told : List E) (phase : Phase T) (j : ℕ) (v : Known B E) : Type 0 where
    pub base_is : v.live ≡ true → v.base ≡ Some b
    pub seen_begins : IsPrefix v.seen told
    pub kept_begins : IsPrefix v.kept told
    pub seen_own : v.live ≡ true → told_by number v.number v.seen ≡ v.own
    pub holding : v.holds ≡ true → IsHolder j phase × (v.live ≡ true) × (v.seen ≡ told)

  pub record IsTurn (s : State (Option T) (Known B E)) : Type 0 where
    pub told : List E
    pub phase : Phase T
    pub words : s.words ≡ lock_word phase ∷ length told ∷ []
    pub homes : s.homes ≡ slot phase ∷ []
    pub rests : Rests told phase
    pub each : (j : ℕ) (v : Known B E) → get_elem? s.views j ≡ some v → Knows told phase j v
    pub holder : HasHolder s.views phase
    pub seats : AreSeats s.views
    pub events : AreOwned number told s.views
