use Rattle.std.proofs.Common.{sym, subst, IfOk, IsTrue}
use Rattle.hs_history.specs.declared.step.Work.{Work}
use Rattle.hs_history.specs.CoreStep.{IsClosedWork}
use Rattle.hs_table_examples.proofs.following.is_closed.Goals as goal

pub returns-in-Seed : goal.returns-in-Seed
returns-in-Seed c =
    subst (λ (w : Work). IfOk c.is_closed_at.result (λ closed. IsTrue closed → IsClosedWork c.args.problem.now c.args.replica.now.log w)) (sym c.in-Seed.is) c.is_closed_at.ensures.closed

pub returns-in-Place : goal.returns-in-Place
returns-in-Place c =
    subst (λ (w : Work). IfOk c.is_closed_place.result (λ closed. IsTrue closed → IsClosedWork c.args.problem.now c.args.replica.now.log w)) (sym c.in-Place.is) c.is_closed_place.ensures
