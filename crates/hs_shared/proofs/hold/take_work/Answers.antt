use Rattle.std.proofs.Common.{subst}
use Rattle.hs_core.specs.Core.{CoreData}
use Rattle.hs_core.specs.Answers.{Takes}
use Rattle.hs_shared.proofs.hold.take_work.Goals as goal

pub returns-clause-ok : goal.returns-clause-ok
returns-clause-ok c =
    (c.reserve_some.new.self.spare, subst (λ (x : CoreData). Takes x c.args.worker c.take.result c.take.new.self) c.in_ok-reserve_some.ensures.same c.take.ensures)
