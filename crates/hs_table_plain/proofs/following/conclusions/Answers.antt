use Rattle.std.proofs.Common.{◌≡◌, sym, ◌∙◌, ap, subst, ℕ, ◌<◌, [], length, slice_get, Some, option_map, Contains, ◌↔◌}
use Rattle.std.proofs.lemmas.Option.{slice_get-get_or}
use Rattle.hs_scheme.specs.declared.term.Head.TheVariants.{Tm}
use Rattle.std.proofs.lemmas.List.Elements.{All-contains}
use Rattle.std.proofs.lemmas.Result.{IfOk-weaker}
use Rattle.hs_scheme.specs.flow.Points.{PointData, PointsData, point_at, NonterminalWithin}
use Rattle.hs_scheme.specs.Problem.{ProblemData}
use Rattle.hs_table.specs.Entries.{EntryData, InShape, params_of}
use Rattle.hs_table.specs.Follows.{Follows}
use Rattle.hs_table_plain.specs.Enumeration as plain
use Rattle.hs_table_plain.proofs.ConclusionLemmas.{all_at_exact}
use Rattle.hs_table_plain.proofs.following.conclusions.Goals as goal

-- a part of the point of a number in range, as it stands in the list
part_at : {A : Type 0} (part : PointData → A) (x : PointsData) (n : ℕ) (r : A) → n < length x.points → r ≡ part (point_at x n) → option_map part (slice_get x.points n) ≡ Some r
part_at part x n r below is = ap (option_map part) (slice_get-get_or x.points n (record { rule = 0; head = Tm 0; args = [] }) below) ∙ ap (λ a. Some a) (sym is)

pub gathered-requires : goal.gathered-requires
gathered-requires c =
    subst (λ (x : PointsData). NonterminalWithin (length x.bodies) c.head_of-head.result) (ap (λ (q : ProblemData). q.points) c.problem.view_is) c.head_of-head.ensures.within

pub returns-clause-once : goal.returns-clause-once
returns-clause-once c = c.gathered.ensures.once

pub returns-clause-each : goal.returns-clause-each
returns-clause-each c =
    let p = c.args.problem.now in
    let E = c.args.log.now in
    let points = ap (λ (q : ProblemData). q.points) c.problem.view_is in
    let exact = all_at_exact p E c.args.point c.rule_of-rule.result c.head_of-head.result c.args_of-args.result.now (λ e there. All-contains (InShape p) E e c.requires.shape there) c.requires.point
    (part_at (λ d. d.rule) p.points c.args.point c.rule_of-rule.result c.requires.point (subst (λ (x : PointsData). c.rule_of-rule.result ≡ (point_at x c.args.point).rule) points c.rule_of-rule.ensures.rule))
    (part_at (λ d. d.head) p.points c.args.point c.head_of-head.result c.requires.point (subst (λ (x : PointsData). c.head_of-head.result ≡ (point_at x c.args.point).head) points c.head_of-head.ensures.head))
    (part_at (λ d. d.args) p.points c.args.point c.args_of-args.result.now c.requires.point (subst (λ (x : PointsData). c.args_of-args.result.now ≡ (point_at x c.args.point).args) points c.args_of-args.ensures.args))
    (subst (λ (x : PointsData). NonterminalWithin (length x.bodies) c.head_of-head.result) points c.head_of-head.ensures.within) in
    IfOk-weaker c.gathered.result
    (λ found. (e : EntryData) → Contains found.items e ↔ Contains (plain.all_at p E c.args.point c.rule_of-rule.result (params_of p c.rule_of-rule.result) c.head_of-head.result c.args_of-args.result.now) e)
    (λ found. (e : EntryData) → Contains found.items e ↔ ((e.point ≡ c.args.point) × Follows p E e))
    (λ found each e. (λ there. (exact e).0 ((each e).0 there), λ both. (each e).1 ((exact e).1 both))) c.gathered.ensures.each
