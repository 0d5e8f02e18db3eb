use Rattle.std.proofs.Common.{sym, subst, arith, ◌<◌, length, ◌∷◌, []}
use denote.Param.{param}
use denote.Exit.{no}
use denote.Ref.{ShrRef}
use denote.Param.Send.{param_sync, arg_sync, shr_sync}
use Rattle.std.proofs.alloc.Global.TheSendSync as Global
use Rattle.hs_flow.proofs.dependents.Dependents.TheSendSync as Dependents
use Rattle.hs_turn.specs.Seats.{RestsIn}
use Rattle.std.specs.contracts.alloc.Global.{the_row as global_row}
use Rattle.hs_scheme.specs.contracts.problem.Problem.{the_row as problem_row}
use Rattle.hs_flow.specs.contracts.dependents.Dependents.{the_row as dependents_row}
use Rattle.hs_workers.specs.contracts.bell.Bell.{the_row as bell_row}
use Rattle.hs_shared.specs.contracts.table.SharedTable.{the_row as table_row}
use Rattle.hs_shared.proofs.Crossing.{table_sync, problem_sync, captured_sync}
use Rattle.hs_workers.specs.Working.{RestsSeated}
use Rattle.hs_workers.proofs.bell.Bell.TheSendSync as Bell
use Rattle.hs_workers.proofs.saturating.work_each.Goals as goal

-- what the closure captures, in its order: the allocator, the table, the problem, the dependents, the bell, the runtime and the gate
pub for_each_mut-requires-sync-F : goal.for_each_mut-requires-sync-F
for_each_mut-requires-sync-F g c κs within =
    param_sync 2 _ (arg_sync _ no _ (captured_sync _
    (ShrRef _ _ global_row ∷ ShrRef _ _ (table_row _) ∷ ShrRef _ _ problem_row ∷ ShrRef _ _ dependents_row ∷ ShrRef _ _ bell_row ∷ ShrRef _ _ (param 0 g.row.R) ∷ ShrRef _ _ (param 1 g.row.G) ∷ [])
    (shr_sync _ _ _ Global.the_sync, (shr_sync _ _ _ (table_sync _), (shr_sync _ _ _ problem_sync, (shr_sync _ _ _ Dependents.the_sync, (shr_sync _ _ _ Bell.the_sync, (shr_sync _ _ _ c.type_bounds.sync-R, (shr_sync _ _ _ c.type_bounds.sync-G, tt)))))))))

pub for_each_mut-requires-clause-accepts : goal.for_each_mut-requires-clause-accepts
for_each_mut-requires-clause-accepts g c κs within = λ i p lt is. (c.requires.dependents, subst (RestsSeated c.args.table.now c.args.problem.now) (sym is) (c.requires.seats i p.now lt))

pub returns : goal.returns
returns g c = λ i d lt.
    let before : i < length c.args.seats.now = omega (arith, lt, c.for_each_mut.auto.s) in
    let change = (c.for_each_mut.ensures i d before).1 in
    subst (RestsIn c.args.table.now) change.left change.call
