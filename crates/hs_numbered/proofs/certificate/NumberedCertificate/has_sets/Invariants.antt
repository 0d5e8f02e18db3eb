-- those so far
use Rattle.std.proofs.Common.{◌<◌, All, length, take}
use Rattle.hs_numbered.proofs.certificate.NumberedCertificate.has_sets.Given as goal

abbrev pub invariant-loop-set : goal.invariant-loop-set
invariant-loop-set l = All (λ n. n < length l.self.numbers.sets) (take l.set-index l.fn.sets)
