use Rattle.std.proofs.Common.{◌≡◌, ◌∙◌, ap, subst, ℕ, List, Contains, rules}
use Rattle.std.proofs.lemmas.List.Sorted.{IsNonDecreasingBy-from_sort_by_key}
use Rattle.hs_scheme.specs.flow.Points.{point_at}
use Rattle.hs_scheme.specs.Problem.{ProblemData}
use Rattle.hs_types.specs.Interned.{RowData}
use Rattle.hs_minimal.specs.Following.{AddsRowsOf, IsHeadSource}
use Rattle.hs_minimal.proofs.GatheringLemmas.{adds_both, gathered_all}
use Rattle.hs_minimal.proofs.gathering.gathered.Goals as goal

pub returns-clause-order : goal.returns-clause-order
returns-clause-order c = IsNonDecreasingBy-from_sort_by_key (λ (r : RowData). r.point) _ c.sort_unstable_by_key.ensures.sorted (λ a r q k. search rules)

pub returns-clause-rows : goal.returns-clause-rows
returns-clause-rows c =
    let g = c.args.growing.now in
    let d = point_at g.problem.points c.args.point in
    let empty = c.new-rows.result.items in
    let mid = c.add_head.new.rows.items in
    let rows = c.add_args.new.rows.items in
    let args : c.args_at.result.now ≡ d.args = c.args_at.ensures ∙ ap (λ (p : ProblemData). (point_at p.points c.args.point).args) c.problem.ensures in
    let own = subst (λ (us : List ℕ). AddsRowsOf g (Contains us) mid rows) args c.in_ok-add_args.ensures in
    gathered_all g c.args.point empty rows c.sort_unstable_by_key.new.self.items c.new-rows.ensures.items
    (adds_both g (IsHeadSource g.problem d.rule d.head) (Contains d.args) empty mid rows c.in_ok-add_head.ensures own) c.sort_unstable_by_key.ensures.permutation
