-- the parameters of the rules so far, and the least line of a repeated one
use Rattle.std.proofs.Common.{◌≡◌, map, take}
use Rattle.hs_resolve.specs.Names.{texts, distinct}
use Rattle.hs_resolve.specs.Least.{IsLeast, Before}
use Rattle.hs_resolve.specs.LineFaults.{Repeats}
use Rattle.hs_resolve.proofs.seen.add_scopes.Given as goal

abbrev pub invariant-loop-rule : goal.invariant-loop-rule
invariant-loop-rule l = record {
  names : l.scopes.items ≡ map (λ r. distinct (texts r.params)) (take l.rule-index l.rules);
  repeated : IsLeast (Before (λ _ r line. Repeats r.params line) l.rules l.rule-index) l.repeated;
}
