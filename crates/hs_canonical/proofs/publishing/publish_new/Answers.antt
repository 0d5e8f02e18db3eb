use Rattle.std.proofs.Common.{sym, subst}
use Rattle.hs_types.specs.Interned.{IsRow}
use Rattle.hs_history.specs.CoreStep.{CanAdd}
use Rattle.hs_core.specs.Core.{CoreData, state_of, deduction_of}
use Rattle.hs_canonical.specs.declared.publishing.TheConstants.{WORKER}
use Rattle.hs_canonical.proofs.Published.{added}
use Rattle.hs_canonical.proofs.publishing.publish_new.Goals as goal

pub append-place-requires-clause-row : goal.append-place-requires-clause-row
append-place-requires-clause-row c = subst (λ (x : CoreData). IsRow x.ids c.args.deduced.row) (sym c.in_ok-reserve_some.ensures.same) c.requires.row

pub append-place-requires-clause-can : goal.append-place-requires-clause-can
append-place-requires-clause-can c =
    subst (λ (x : CoreData). CanAdd x.base (state_of x) WORKER c.args.ticket (deduction_of x.ids c.args.deduced)) (sym c.in_ok-reserve_some.ensures.same)
    (record { holds = c.requires.holds; is_new = record { new = c.requires.new; follows = c.requires.follows }; room = c.requires.room })

pub append-place-requires-clause-spare : goal.append-place-requires-clause-spare
append-place-requires-clause-spare c = c.in_ok-reserve_some.ensures.some

pub returns : goal.returns
returns c = added c.args.core.now c.reserve_some.new.self c.append-place.new.self WORKER c.args.ticket c.args.deduced c.in_ok-reserve_some.ensures.same c.requires.holds c.append-place.ensures.stepped
