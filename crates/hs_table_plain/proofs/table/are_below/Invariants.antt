-- those so far are below the number
use Rattle.std.proofs.Common.{◌<◌, take, All}
use Rattle.hs_table_plain.proofs.table.are_below.Given as goal

abbrev pub invariant-loop-q : goal.invariant-loop-q
invariant-loop-q l = All (λ q. q < l.number) (take l.q-index l.states)
