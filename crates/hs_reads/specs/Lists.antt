-- Lists by number.
--     list_of lists k            the list of this number, empty where there is none
--     IsPushed number x old new  the list of the number has x at its end, and all others are as they were
use Rattle.std.specs.Prelude.{◌≡◌, ℕ, List, [], ◌∷◌, ◌++◌, length, slice_get, unwrap_or, cond, nat_eq}

abbrev pub list_of : {T : Type 0} → List (List T) → ℕ → List T
list_of lists k = unwrap_or (slice_get lists k) []

pub record IsPushed {T : Type 0} (number : ℕ) (x : T) (old new : List (List T)) : Type 0 where
  pub len : length new ≡ length old
  pub each : (k : ℕ) → list_of new k ≡ cond (nat_eq k number) (list_of old k ++ x ∷ []) (list_of old k)
