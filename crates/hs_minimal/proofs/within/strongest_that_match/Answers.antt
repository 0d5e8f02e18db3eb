use Rattle.std.proofs.Common.{sym, ◌∙◌, ap, subst, ◌<◌, length, All, Contains}
use Rattle.hs_scheme.specs.Problem.{ProblemData}
use Rattle.hs_table.specs.Entries.{InShape}
use Rattle.hs_types.specs.Interned.{RowData, entry_of}
use Rattle.hs_choices.proofs.Growing.{all_members}
use Rattle.hs_minimal.specs.Strongest.{MatchExactly, AreStrongest}
use Rattle.hs_minimal.proofs.WithinLemmas.{images_differ, row_shape, rows_within, some_found}
use Rattle.hs_minimal.proofs.within.strongest_that_match.Goals as goal

pub strongest-requires-clause-points : goal.strongest-requires-clause-points
strongest-requires-clause-points c =
    let p = c.args.problem.now in
    let rows = c.args.rows.now in
    let points = ap (λ (q : ProblemData). length q.points.points) c.problem.view_is in
    subst (λ n. All (λ (r : RowData). r.point < n) rows) (sym (c.count.ensures.points ∙ points)) (all_members (λ (r : RowData). r.point < length p.points.points) rows (rows_within p c.know_sorted_problem.ensures c.args.types.now rows c.requires.least))

pub strongest-requires-clause-distinct : goal.strongest-requires-clause-distinct
strongest-requires-clause-distinct c = images_differ (entry_of c.args.types.now) c.args.rows.now c.requires.least.supported.distinct

pub returns : goal.returns
returns c =
    let p = c.args.problem.now in
    let I = c.args.types.now in
    let rows = c.args.rows.now in
    some_found c.strongest.result (λ (kept : _). AreStrongest I rows kept.items) p (λ q. (r : RowData) → Contains rows r → InShape q (entry_of I r)) (row_shape p c.know_sorted_problem.ensures I rows c.requires.least) (MatchExactly I rows)
    (c.in_ok-match_exactly.ensures.ok c.if-not-branch.false) c.strongest.ensures
