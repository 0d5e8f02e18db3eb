use Rattle.std.proofs.Common.{sym, ap, subst, get_or, unwrap_or, [], Contains}
use Rattle.std.proofs.lemmas.List.Elements.{Contains-get_or}
use Rattle.hs_core.proofs.Moving.{dependent_within}
use Rattle.costs.proofs.forming.add_place.Goals as goal

pub add_at-requires-clause-point : goal.add_at-requires-clause-point
add_at-requires-clause-point c =
    let p = c.args.problem.now in
    let items = c.list-point-items.result.now in
    let n = c.loop-point.point-index in
    let listed = subst (λ xs. Contains xs (get_or items n 0)) (sym (ap (λ o. unwrap_or o []) c.list-point-items.ensures)) (Contains-get_or items n 0 c.loop-point-test.true) in
    dependent_within p.points p.flow.pairs c.args.dependents.now c.row.result.point (get_or items n 0) c.requires.dependents listed
