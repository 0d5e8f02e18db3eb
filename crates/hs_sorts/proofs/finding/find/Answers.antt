use Rattle.std.proofs.Common.{subst}
use Rattle.hs_sorts.specs.Search.{IsMeasuring}
use Rattle.hs_sorts.specs.Solution.{IsSolved, IsSolution}
use Rattle.hs_sorts.proofs.finding.find.Goals as goal

pub returns-in_default-2 : goal.returns-in_default-2
returns-in_default-2 c = λ (s, sorting).
    let solved : IsSolved c.args.rules.now c.args.ranks.now c.args.count c.in-Some.store = subst (IsSolution c.args.rules.now c.args.ranks.now c.args.count) c.in-Some.is c.in_ok-store.ensures in
    let v = solved.solves.complete s sorting in
    subst (IsMeasuring c.in-Some.store) c.in_default-2.is c.in_ok-measures.ensures
    v.valuation v.respects
