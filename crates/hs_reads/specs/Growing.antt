-- How a list of what is found grows: at its end, up to 4,000,000.
--     Grows old new              all that was there is there at its place
--     AddsOnly P old new         what is new is such
--     AreTooMany xs              there are more than 4,000,000, each once
use Rattle.std.specs.Prelude.{◌≡◌, ◌≢◌, ℕ, ◌<◌, ◌≤◌, List, length, slice_get, Some, Contains, ◌⊎◌, AllPairs}

pub record Grows {X : Type 0} (old new : List X) : Type 0 where
  pub kept : (k : ℕ) (x : X) → slice_get old k ≡ Some x → slice_get new k ≡ Some x
  pub few : length old ≤ 4000000 → length new ≤ 4000000

abbrev pub AddsOnly : {X : Type 0} → (X → Type 0) → List X → List X → Type 0
AddsOnly {X} P old new = (x : X) → Contains new x → Contains old x ⊎ P x

pub record AreTooMany {X : Type 0} (xs : List X) : Type 0 where
  pub distinct : AllPairs (λ a b. a ≢ b) xs
  pub many : 4000000 < length xs
