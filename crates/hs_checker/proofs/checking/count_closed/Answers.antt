use Rattle.std.proofs.Common.{sym, subst, List, Bool}
use Rattle.hs_checker.specs.Slots.{AreComplete}
use Rattle.hs_checker.proofs.checking.count_closed.Goals as goal

pub count_points-requires-clause-complete : goal.count_points-requires-clause-complete
count_points-requires-clause-complete c = subst (λ (ms : List Bool). AreComplete c.args.problem.now ms) (sym c.as_slice.ensures.value) c.in_ok-complete.ensures
