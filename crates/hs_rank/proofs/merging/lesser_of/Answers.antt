use Rattle.hs_table.specs.Follows.{premises}
use Rattle.hs_rules.proofs.OrderLemmas.{no_greater_itself}
use Rattle.hs_rank.specs.Ordering.{found_at}
use Rattle.hs_rank.proofs.merging.lesser_of.Goals as goal

pub returns-then-is_no_greater-clause-least : goal.returns-then-is_no_greater-clause-least
returns-then-is_no_greater-clause-least c = no_greater_itself (premises (found_at c.args.found.now c.args.place).support)

pub returns-clause-other_least : goal.returns-clause-other_least
returns-clause-other_least c = no_greater_itself (premises (found_at c.args.found.now c.args.other).support)
