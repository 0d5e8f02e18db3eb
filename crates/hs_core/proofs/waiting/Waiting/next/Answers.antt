use Rattle.hs_core.proofs.Waits.{taken_keyed, took_fewer, took_some, took_others, took_less, took_none}
use Rattle.hs_core.proofs.waiting.Waiting.next.Goals as goal

pub invariant_of-self : goal.invariant_of-self
invariant_of-self c = record { keyed = taken_keyed c.next_row.new.self.found c.swap_remove.new.self c.in_ok-row.row c.swap_remove.ensures.updates.0 c.next_row.new.self.keyed }

pub returns-clause-some : goal.returns-clause-some
returns-clause-some c = took_some c.args.self.now.found c.next_row.new.self.found c.swap_remove.new.self c.in_ok-row.row c.next_row.ensures.found c.swap_remove.ensures.updates.0 c.args.self.now.keyed c.swap_remove.result c.swap_remove.ensures.value

pub returns-clause-others : goal.returns-clause-others
returns-clause-others c = took_others c.args.self.now.found c.next_row.new.self.found c.swap_remove.new.self c.in_ok-row.row c.next_row.ensures.found c.swap_remove.ensures.updates.0 c.swap_remove.result c.swap_remove.ensures.value

pub returns-clause-fewer : goal.returns-clause-fewer
returns-clause-fewer c = took_fewer c.args.self.now.found c.next_row.new.self.found c.swap_remove.new.self c.in_ok-row.row c.next_row.ensures.found c.swap_remove.ensures.updates.0

pub returns-clause-less : goal.returns-clause-less
returns-clause-less c = took_less c.args.self.now.found c.next_row.new.self.found c.swap_remove.new.self c.in_ok-row.row c.next_row.ensures.found c.swap_remove.ensures.updates.0 c.swap_remove.result c.swap_remove.ensures.len

pub returns-clause-none : goal.returns-clause-none
returns-clause-none c = took_none c.args.self.now.found c.next_row.new.self.found c.swap_remove.new.self c.in_ok-row.row c.next_row.ensures.found c.swap_remove.ensures.updates.0 c.in_ok-row.ensures.some c.swap_remove.result c.swap_remove.ensures.value
