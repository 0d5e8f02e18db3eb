-- What a call says that makes a copy.
use Rattle.std.specs.Prelude.{◌≡◌, IfOk}
use Rattle.std.specs.Fn.{FnReturnsAt}
use Rattle.std.specs.declared.result.Result.{Result}
use Rattle.hs_scheme.specs.declared.memory.OutOfMemory.{OutOfMemory}
use denote.Ref.{Bor}
use denote.Param.Members.{Shared}

-- what each call makes, at a reference, is equal to what is there
abbrev pub MakesEqual : {F T : Type 0} → Shared F (Bor T × Unit {0}) (Result T OutOfMemory) → F → Type 0
MakesEqual {F} {T} g f = (x : T) (r : Result T OutOfMemory) → FnReturnsAt g f x r → IfOk r (λ made. made ≡ x)
