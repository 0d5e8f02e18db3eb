use Rattle.hs_minimal.proofs.AskedLemmas.{adds_none, adds_one, one_there, state_is_none}
use Rattle.hs_minimal.proofs.asked.add_arrow.Goals as goal

pub returns-in-State-clause-adds : goal.returns-in-State-clause-adds
returns-in-State-clause-adds c = adds_none c.args.types.now c.args.found.now.keys

pub returns-in-State-clause-own : goal.returns-in-State-clause-own
returns-in-State-clause-own c = λ one. absurd (state_is_none c.in-State.field-0 _ c.in-State.ensures one)

pub returns-in_ok-insert-in-Arrow-clause-adds : goal.returns-in_ok-insert-in-Arrow-clause-adds
returns-in_ok-insert-in-Arrow-clause-adds c = adds_one c.args.types.now c.args.found.now.keys c.insert.new.self.keys c.args.ty c.requires c.in_ok-insert-in-Arrow.ensures.keys

pub returns-in_ok-insert-in-Arrow-clause-own : goal.returns-in_ok-insert-in-Arrow-clause-own
returns-in_ok-insert-in-Arrow-clause-own c = λ one. one_there c.args.found.now.keys c.insert.new.self.keys c.args.ty c.in_ok-insert-in-Arrow.ensures.keys
