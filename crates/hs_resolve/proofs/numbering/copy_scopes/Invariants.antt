-- the names of the rules so far
use Rattle.std.proofs.Common.{◌≡◌, map, take}
use Rattle.hs_resolve.proofs.numbering.copy_scopes.Given as goal

abbrev pub invariant-loop-scope : goal.invariant-loop-scope
invariant-loop-scope l = map (λ n. n.items) l.names.items ≡ take l.scope-index l.scopes
