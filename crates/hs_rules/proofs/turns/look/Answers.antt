use Rattle.std.proofs.Common.{sym}
use Rattle.hs_rules.proofs.turns.look.Goals as goal

pub growth-requires : goal.growth-requires
growth-requires c = c.requires c.slot-item.result (c.loop-slot.slot-index, c.loop-slot-test.true, sym c.slot-item.is)
