-- The pairs of a point and a state that are found, and those of them that wait to be taken.
--     AreFound pairs waiting count   this many pairs, each once, among which are those that wait
--     Gains old new                  nothing is lost, and what is new waits
--     AllWait found                  each pair waits
use Rattle.std.specs.Prelude.{◌≡◌, ◌≢◌, ℕ, ◌+◌, ◌≤◌, List, length, Contains, ◌⊎◌, AllPairs}

pub record FoundData : Type 0 where
  pub pairs : List (ℕ × ℕ)
  pub waiting : List (ℕ × ℕ)

pub record AreFound (pairs waiting : List (ℕ × ℕ)) (count : ℕ) : Type 0 where
  pub distinct : AllPairs (λ a b. a ≢ b) pairs
  pub long : length pairs ≡ count
  pub there : (x : ℕ × ℕ) → Contains waiting x → Contains pairs x

pub record Gains (old new : FoundData) : Type 0 where
  pub kept : (x : ℕ × ℕ) → Contains old.pairs x → Contains new.pairs x
  pub few : length old.pairs ≤ 4000000 → length new.pairs ≤ 4000000
  pub waits : (x : ℕ × ℕ) → Contains new.pairs x → Contains old.pairs x ⊎ Contains new.waiting x
  pub still : (x : ℕ × ℕ) → Contains old.waiting x → Contains new.waiting x
  pub taken : length new.pairs + length old.waiting ≡ length old.pairs + length new.waiting

abbrev pub AllWait : FoundData → Type 0
AllWait found = (x : ℕ × ℕ) → Contains found.pairs x → Contains found.waiting x
