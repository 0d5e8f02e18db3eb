-- the names so far, and the least line of a repeated one
use Rattle.std.proofs.Common.{◌≡◌, map, take}
use Rattle.hs_resolve.specs.Names.{texts, distinct}
use Rattle.hs_resolve.specs.Least.{IsLeast, Before}
use Rattle.hs_resolve.specs.LineFaults.{RepeatsAt}
use Rattle.hs_resolve.proofs.seen.number_left.Given as goal

abbrev pub invariant-loop-rule : goal.invariant-loop-rule
invariant-loop-rule l = record {
  names : l.left ≡ distinct (take l.rule-index (texts (map (λ r. r.name) l.rules)));
  repeated : IsLeast (Before (RepeatsAt (map (λ r. r.name) l.rules)) (map (λ r. r.name) l.rules) l.rule-index) l.repeated;
}
