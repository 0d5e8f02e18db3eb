-- those so far are in shape
use Rattle.std.proofs.Common.{map}
use Rattle.hs_numbered.specs.Certificates.{void_of}
use Rattle.hs_certificate_checker.proofs.ShapeLemmas.{ShapedBelow}
use Rattle.hs_certificate_checker.proofs.row_shape.first_row_out_of_shape.Given as goal

abbrev pub invariant-loop-place : goal.invariant-loop-place
invariant-loop-place l = ShapedBelow l.problem (map (void_of l.interner) l.void) l.place
