-- the names so far, and the least line of a repeated one
use Rattle.std.proofs.Common.{◌≡◌, take}
use Rattle.hs_resolve.specs.Names.{texts, distinct}
use Rattle.hs_resolve.specs.Least.{IsLeast, Before}
use Rattle.hs_resolve.specs.LineFaults.{RepeatsAt}
use Rattle.hs_resolve.proofs.seen.number_params.Given as goal

abbrev pub invariant-loop-param : goal.invariant-loop-param
invariant-loop-param l = record {
  names : l.scope ≡ distinct (take l.param-index (texts l.params));
  repeated : IsLeast (Before (RepeatsAt l.params) l.params l.param-index) l.repeated;
}
