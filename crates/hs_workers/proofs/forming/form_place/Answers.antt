use Rattle.std.proofs.Common.{◌≡◌, sym, ap, subst, ◌<◌, length, slice_get, unwrap_or, Some, [], All}
use Rattle.hs_scheme.specs.Problem.{ProblemData}
use Rattle.hs_table.specs.Entries.{InShape}
use Rattle.hs_types.specs.Interned.{entry_of}
use Rattle.hs_history.specs.declared.step.Work.TheVariants.{Place}
use Rattle.hs_workers.specs.Forming.{AreFormed}
use Rattle.hs_workers.specs.Working.{CommonData}
use Rattle.hs_workers.proofs.FormingLemmas.{dependents_within, place_formed, ok_more}
use Rattle.hs_workers.proofs.forming.form_place.Goals as goal

pub form_at-requires-clause-points : goal.form_at-requires-clause-points
form_at-requires-clause-points c =
    let p = c.common.inside.problem.now in
    dependents_within p.points p.flow.pairs c.common.inside.dependents.now c.row.result.point c.list-points.result.now c.common.invariant c.list-points.ensures

pub returns-clause-found : goal.returns-clause-found
returns-clause-found c =
    let p = c.common.inside.problem.now in
    let same = ap (λ (v : CommonData). v.problem) c.common.view_is in
    let new = c.form_at.new.replica.log in
    let at = entry_of c.args.replica.now.ids c.row.result in
    let points = c.list-points.result.now in
    ok_more _ _ c.form_at.result
    (λ found are.
    subst (λ (q : ProblemData). AreFormed q c.form_at.new.replica.ids new (Place c.args.place) found.items) same
    (place_formed p c.form_at.new.replica.ids new c.args.place at c.common.inside.dependents.now points found.items
    (subst (λ xs. c.args.place < length xs) (sym c.form_at.ensures.log) c.requires.place)
    (subst (λ xs. slice_get xs c.args.place ≡ Some at) (sym c.form_at.ensures.log) c.row.ensures.entry)
    c.common.invariant (sym (ap (λ o. unwrap_or o []) c.list-points.ensures)) are))
    c.form_at.ensures.found

pub form_at-requires-clause-place : goal.form_at-requires-clause-place
form_at-requires-clause-place c = c.requires.place

pub form_at-requires-clause-shape : goal.form_at-requires-clause-shape
form_at-requires-clause-shape c =
    subst (λ (q : ProblemData). All (InShape q) c.args.replica.now.log) (sym (ap (λ (v : CommonData). v.problem) c.common.view_is)) c.requires.shape

pub returns-clause-log : goal.returns-clause-log
returns-clause-log c = c.form_at.ensures.log

pub returns-clause-grows : goal.returns-clause-grows
returns-clause-grows c = c.form_at.ensures.grows
