use Rattle.std.proofs.Common.{ap}
use Rattle.hs_history.specs.Story.{Base, CoreStep}
use Rattle.hs_turn.specs.declared.known.Known.{Known}
use Rattle.hs_workers.proofs.FirstLemmas.{first_new}
use Rattle.hs_workers.proofs.saturating.share.Goals as goal

pub returns-in-Ok-clause-first : goal.returns-in-Ok-clause-first
returns-in-Ok-clause-first c = first_new c.in-Ok.made.0 c.in-Ok.made.1 c.args.core.base c.in-Ok.ensures.table c.in-Ok.ensures.seat

pub returns-in-Ok-clause-nothing : goal.returns-in-Ok-clause-nothing
returns-in-Ok-clause-nothing c = ap (λ (k : Known Base CoreStep). k.seen) c.in-Ok.ensures.seat

pub returns-in-Ok-clause-base : goal.returns-in-Ok-clause-base
returns-in-Ok-clause-base c = ap (λ (k : Known Base CoreStep). k.base) c.in-Ok.ensures.seat
