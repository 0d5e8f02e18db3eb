use Rattle.std.proofs.Common.{sym, subst, List, Bool}
use Rattle.std.proofs.lemmas.Result.{IfErr-weaker, on_ok_weaker}
use Rattle.hs_flow_checker.specs.PassedOn.{DemandNothing}
use Rattle.hs_checker.specs.Inert.{AreInert}
use Rattle.hs_checker.specs.Numbers.{entries_of}
use Rattle.hs_checker.specs.Checked.{IsGap, IsFlaw}
use Rattle.hs_checker.proofs.CountLemmas.{no_gap}
use Rattle.hs_checker.proofs.FlawLemmas.{gap_flaw, open_flaw}
use Rattle.hs_checker.proofs.InertLemmas.{inert_demands}
use Rattle.hs_checker.proofs.checking.check_index.Goals as goal

pub first_gap-gap-requires-clause-inert : goal.first_gap-gap-requires-clause-inert
first_gap-gap-requires-clause-inert c =
    subst (λ (ms : List Bool). DemandNothing c.args.problem.now ms) (sym c.as_slice.ensures.value)
    (inert_demands c.args.problem.now (entries_of c.args.types.now c.args.index.now) c.in_ok-inert.inert.items (c.in_ok-inert.ensures c.args.types.now))

pub count_closed-requires-clause-inert : goal.count_closed-requires-clause-inert
count_closed-requires-clause-inert c =
    subst (λ (ms : List Bool). AreInert c.args.problem.now (entries_of c.args.types.now c.args.index.now) ms) (sym c.as_slice-2.ensures.value) (c.in_ok-inert.ensures c.args.types.now)

pub returns-in-Some-clause-flaw : goal.returns-in-Some-clause-flaw
returns-in-Some-clause-flaw c =
    open_flaw c.args.problem.now (entries_of c.args.types.now c.args.index.now) c.first_gap-gap.result c.in-Some.pair c.open.result c.in-Some.is c.first_gap-gap.ensures c.open.ensures

pub returns-clause-flow : goal.returns-clause-flow
returns-clause-flow c = on_ok_weaker c.count_closed.result (λ _. no_gap c.args.problem.now c.first_gap-gap.result c.in_default.not-Some c.first_gap-gap.ensures) c.count_closed.ensures.closed

pub returns-clause-flaw : goal.returns-clause-flaw
returns-clause-flaw c =
    let p = c.args.problem.now in
    let E = entries_of c.args.types.now c.args.index.now in
    IfErr-weaker c.count_closed.result (IsGap p E) (IsFlaw p E) (gap_flaw p E (no_gap p c.first_gap-gap.result c.in_default.not-Some c.first_gap-gap.ensures)) c.count_closed.ensures.missing
