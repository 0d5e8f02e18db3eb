-- What a call says that compares two values.
use Rattle.std.specs.Prelude.{◌≡◌, ◌↔◌, Bool, IsTrue}
use Rattle.std.specs.Fn.{FnReturnsAtPair}
use denote.Ref.{Bor}
use denote.Param.Members.{Shared}

-- each call, at two references, answers whether the values are equal
abbrev pub DecidesEquality : {F T : Type 0} → Shared F (Bor T × (Bor T × Unit {0})) Bool → F → Type 0
DecidesEquality {F} {T} g f = (x y : T) (r : Bool) → FnReturnsAtPair g f x y r → IsTrue r ↔ (x ≡ y)
