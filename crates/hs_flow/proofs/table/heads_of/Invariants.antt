-- the head pairs so far
use Rattle.std.proofs.Common.{◌≡◌, take}
use Rattle.hs_flow.specs.Tables.{heads_in}
use Rattle.hs_flow.proofs.table.heads_of.Given as goal

abbrev pub invariant-loop-pair : goal.invariant-loop-pair
invariant-loop-pair l = l.heads.items ≡ heads_in (take l.pair-index l.found)
