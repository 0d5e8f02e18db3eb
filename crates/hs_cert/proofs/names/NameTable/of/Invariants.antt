-- the names so far
use Rattle.std.proofs.Common.{◌≡◌, map, take}
use Rattle.hs_cert.proofs.names.NameTable.of.Given as goal

abbrev pub invariant-loop-name : goal.invariant-loop-name
invariant-loop-name l = map (λ k. k.now) l.index.keys ≡ take l.name-index l.names
