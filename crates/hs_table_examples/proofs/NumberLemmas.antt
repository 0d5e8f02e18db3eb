-- What was numbered is in range, and can be read.
use Rattle.std.proofs.Common.{◌≡◌, ℕ, ◌<◌, List, length, get_or, slice_get, Some}
use Rattle.std.proofs.lemmas.Option.{slice_get_within, get_or_from_slice_get}

pub given : {X : Type 0} (xs : List X) (k : ℕ) {x : X} → slice_get xs k ≡ Some x → k < length xs
given xs k {x} h = slice_get_within xs k x h

pub read : {X : Type 0} (xs : List X) (k : ℕ) (d : X) {x : X} → slice_get xs k ≡ Some x → get_or xs k d ≡ x
read xs k d {x} h = get_or_from_slice_get xs k x d h
