-- The terms at the points of a problem, and how long environments are there.
use Rattle.std.proofs.Common.{◌≡◌, refl, sym, ◌∙◌, ap, ℕ, zero, suc, ◌+◌, ◌<◌, List, [], ◌∷◌, length, map, slice_get, Some, Contains}
use Rattle.std.proofs.Common.{subst as along}
use Rattle.std.specs.Option.{option_map_or}
use Rattle.std.proofs.lemmas.List.Elements.{All-contains}
use Rattle.std.proofs.lemmas.Option.{same_Some}
use Rattle.hs_scheme.specs.declared.term.Head.{Head}
use Rattle.hs_scheme.specs.declared.term.Rule.{Rule}
use Rattle.hs_scheme.specs.declared.flow.FlowPair.{FlowPair}
use Rattle.hs_scheme.specs.Tree.{Tree, node, forest}
use Rattle.hs_scheme.specs.flow.Points.{PointData, PointsData, size, bodies, points_of}
use Rattle.hs_scheme.specs.Problem.{ProblemData, FlowWithin}
use Rattle.hs_table.specs.Entries.{EntryData, InShape, params_of}
use Rattle.hs_verdict.specs.Premises.{IsSortedProblem}
use Rattle.hs_verdict.specs.Terms.{term_at}
use Rattle.hs_verdict.proofs.TermLemmas.{AreTerms, are_terms}

body_rule : (n : ℕ) (rules : List Rule) (f b : ℕ) → slice_get (bodies n rules) f ≡ Some b → (r : Rule) × (slice_get rules f ≡ Some r)
body_rule n [] f b e = absurd (cc)
body_rule n (r ∷ rules) zero b e = (r, refl)
body_rule n (r ∷ rules) (suc f) b e = body_rule (n + size r.body) rules f b e

module _ (p : ProblemData) (given : IsSortedProblem p) where
  abbrev pub rules : List Rule
  rules = p.sorted.scheme.rules

  abbrev pub term : ℕ → Tree Head
  term = term_at rules

  abbrev IsPoint : ℕ → PointData → Type 0
  IsPoint point d = slice_get p.points.points point ≡ Some d

  are : AreTerms rules term
  are = are_terms rules

  in_points : (point : ℕ) (d : PointData) → IsPoint point d → slice_get (points_of rules).points point ≡ Some d
  in_points point d at = ap (λ (all : PointsData). slice_get all.points point) (sym given.problem.points) ∙ at

  in_problem : (point : ℕ) (d : PointData) → slice_get (points_of rules).points point ≡ Some d → IsPoint point d
  in_problem point d at = ap (λ (all : PointsData). slice_get all.points point) given.problem.points ∙ at

  pub whole : (point : ℕ) (d : PointData) → IsPoint point d → term point ≡ node d.head (forest (map term d.args))
  whole point d at = are.whole point d (in_points point d at)

  -- the body of rule f is this point
  pub record Body (f b : ℕ) : Type 0 where
    pub rule : Rule
    pub at : slice_get rules f ≡ Some rule
    pub of : PointData
    pub is_point : IsPoint b of
    pub in_rule : of.rule ≡ f
    pub is : term b ≡ rule.body

  pub body_at : (f b : ℕ) → slice_get p.points.bodies f ≡ Some b → Body f b
  body_at f b e =
      let at : slice_get (points_of rules).bodies f ≡ Some b = ap (λ (all : PointsData). slice_get all.bodies f) (sym given.problem.points) ∙ e in
      let rule = body_rule 0 rules f b at in
      let body = are.bodies f rule.0 rule.1 in
      let same : body.0 ≡ b = same_Some body.0 b (sym body.2 ∙ at) in
      record {
        rule = rule.0;
        at = rule.1;
        of = body.1;
        is_point = along (λ (n : ℕ). IsPoint n body.1) same (in_problem body.0 body.1 body.3);
        in_rule = body.4;
        is = ap term (sym same) ∙ body.5;
      }

  pub long_at : (e : EntryData) → InShape p e → (d : PointData) → IsPoint e.point d → length e.env ≡ params_of p d.rule
  long_at e shape d at = shape.env.long ∙ ap (λ (x : PointData). params_of p x.rule) (same_Some shape.of d (sym shape.at ∙ at))

  pub long_at_body : (f : ℕ) (e : EntryData) → InShape p e → (b : Body f e.point) → length e.env ≡ b.rule.params
  long_at_body f e shape b =
      long_at e shape b.of b.is_point ∙ (ap (params_of p) b.in_rule ∙ ap (λ o. option_map_or (λ (r : Rule). r.params) o 0) b.at)

  -- an argument of a point stands in the same rule
  pub long_at_argument : (point : ℕ) (d : PointData) → IsPoint point d → (i a : ℕ) → slice_get d.args i ≡ Some a → (e : EntryData) → InShape p e → e.point ≡ a → length e.env ≡ params_of p d.rule
  long_at_argument point d at i a at_i e shape is =
      let k = are.arguments point d i a (in_points point d at) at_i in
      long_at e shape k.0 (along (λ (n : ℕ). IsPoint n k.0) (sym is) (in_problem a k.0 k.1)) ∙ ap (params_of p) k.2

  -- the flow names parameters that there are
  pub in_scope : (rule x point : ℕ) → Contains p.flow.pairs (record { rule = rule; param = x; point = point }) → x < params_of p rule
  in_scope rule x point c =
      let f : FlowPair = record { rule = rule; param = x; point = point } in
      let w = All-contains (FlowWithin rules (length p.points.points)) p.flow.pairs f given.problem.flows c in
      along (λ (n : ℕ). x < n) (sym (ap (λ o. option_map_or (λ (r : Rule). r.params) o 0) w.parameter.1.0)) w.parameter.1.1
