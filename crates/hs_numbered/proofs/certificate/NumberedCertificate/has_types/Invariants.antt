-- those so far
use Rattle.std.proofs.Common.{◌<◌, All, length, take}
use Rattle.hs_numbered.proofs.certificate.NumberedCertificate.has_types.Given as goal

abbrev pub invariant-loop-ty : goal.invariant-loop-ty
invariant-loop-ty l = All (λ n. n < length l.self.numbers.types) (take l.ty-index l.fn.types)
