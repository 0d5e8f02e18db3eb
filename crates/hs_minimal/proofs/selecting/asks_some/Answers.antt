use Rattle.std.proofs.Common.{sym}
use Rattle.hs_minimal.proofs.selecting.asks_some.Goals as goal

pub last_state-requires : goal.last_state-requires
last_state-requires c = (c.requires.new c.row-item.result (c.loop-row.row-index, c.loop-row-test.true, sym c.row-item.is)).1
