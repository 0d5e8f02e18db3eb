use Rattle.std.proofs.Common.{◌≡◌, sym, ◌∙◌, ap, subst, ℕ, List, length, Contains, MatchOption}
use Rattle.std.proofs.lemmas.Result.{IfOk-weaker}
use Rattle.hs_scheme.specs.flow.Points.{PointsData, point_at, NonterminalWithin}
use Rattle.hs_scheme.specs.Problem.{ProblemData}
use Rattle.hs_table.specs.Entries.{EntryData, params_of}
use Rattle.hs_table.specs.Follows.{Follows}
use Rattle.hs_types.specs.Interned.{IsRow, entry_of}
use Rattle.hs_checker.specs.Slots.{IsConclusion}
use Rattle.hs_checker.specs.Numbers.{entries_of, trees_of, AreLong}
use Rattle.hs_checker.proofs.InstanceLemmas.{conclusion_exact, match_map}
use Rattle.hs_checker.proofs.NumberLemmas.{arguments_long}
use Rattle.hs_checker.proofs.missing.missing_at.Goals as goal

pub missing_among-requires-clause-long : goal.missing_among-requires-clause-long
missing_among-requires-clause-long c = λ u k.
    let p = c.args.problem.now in
    let E = entries_of c.args.types.now c.args.index.now in
    let points = ap (λ (q : ProblemData). q.points) c.problem.view_is in
    let rule = subst (λ (x : PointsData). c.rule_of-rule.result ≡ (point_at x c.args.point).rule) points c.rule_of-rule.ensures.rule in
    let args = subst (λ (x : PointsData). c.args_of-args.result.now ≡ (point_at x c.args.point).args) points c.args_of-args.ensures.args in
    subst (λ (n : ℕ). AreLong n E u) (sym (c.parameters-params.ensures ∙ ap (params_of p) rule))
    (arguments_long p c.know_sorted_problem.ensures E c.requires.shape c.args.point c.requires.point u (subst (λ (us : List ℕ). Contains us u) args k))

pub returns-clause-missing : goal.returns-clause-missing
returns-clause-missing c =
    let p = c.args.problem.now in
    let K = c.missing_among.new.types in
    let E = entries_of c.args.types.now c.args.index.now in
    let points = ap (λ (q : ProblemData). q.points) c.problem.view_is in
    let exact = conclusion_exact p E c.requires.shape c.args.point c.rule_of-rule.result c.head_of-head.result c.args_of-args.result.now c.requires.point
    (subst (λ (x : PointsData). c.rule_of-rule.result ≡ (point_at x c.args.point).rule) points c.rule_of-rule.ensures.rule)
    (subst (λ (x : PointsData). c.head_of-head.result ≡ (point_at x c.args.point).head) points c.head_of-head.ensures.head)
    (subst (λ (x : PointsData). c.args_of-args.result.now ≡ (point_at x c.args.point).args) points c.args_of-args.ensures.args)
    (subst (λ (x : PointsData). NonterminalWithin (length x.bodies) c.head_of-head.result) points c.head_of-head.ensures.within)
    c.parameters-params.result (trees_of c.args.types.now c.args.all.now) c.parameters-params.ensures c.requires.types in
    let Is = λ (e : EntryData). IsConclusion E c.args.point c.parameters-params.result c.head_of-head.result c.args_of-args.result.now (trees_of c.args.types.now c.args.all.now) e in
    IfOk-weaker c.missing_among.result _ (λ found. MatchOption found ((e : EntryData) → e.point ≡ c.args.point → Follows p E e → Contains E e) (λ row. IsRow K row × (Follows p E (entry_of K row) × (Contains E (entry_of K row) → ⊥))))
    (λ found m. match_map found ((e : EntryData) → Is e → Contains E e) ((e : EntryData) → e.point ≡ c.args.point → Follows p E e → Contains E e)
    (λ row. IsRow K row × (Is (entry_of K row) × (Contains E (entry_of K row) → ⊥))) (λ row. IsRow K row × (Follows p E (entry_of K row) × (Contains E (entry_of K row) → ⊥)))
    (λ all e at f. all e ((exact e).1 (at, f))) (λ row both. (both.0, (((exact (entry_of K row)).0 both.1.0).1, both.1.1))) m) c.missing_among.ensures.missing
