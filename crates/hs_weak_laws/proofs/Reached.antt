-- What is reached along a reduction in front is built.
use Rattle.std.proofs.Common.{◌≡◌, sym, ◌∙◌, ap, subst, ℕ, List, slice_get, Some}
use Rattle.std.proofs.lemmas.Option.{same_Some}
use Rattle.hs_scheme.specs.declared.term.Head.{Head}
use Rattle.hs_scheme.specs.declared.term.Head.TheVariants.{Var, Nt, Tm}
use Rattle.hs_scheme.specs.declared.term.Rule.{Rule}
use Rattle.hs_scheme.specs.declared.flow.Pair.{Pair}
use Rattle.hs_scheme.specs.Tree.{Tree, node, none}
use Rattle.hs_scheme.specs.flow.Points.{PointData, PointsData, points_of}
use Rattle.hs_scheme.specs.flow.Flow.{pairs_of}
use Rattle.hs_scheme.specs.Problem.{ProblemData}
use Rattle.hs_table.specs.Entries.{params_of}
use Rattle.hs_verdict.specs.Premises.{IsSortedProblem, HasClosedFlow}
use Rattle.hs_verdict.specs.Closures.{Closure}
use Rattle.hs_verdict.specs.Terms.{term_at}
use Rattle.hs_verdict.specs.Typed.{flows, IsGood}
use Rattle.hs_verdict.proofs.TermLemmas.{AreTerms, are_terms}
use Rattle.hs_verdict.proofs.Good.{good_parameter, good_body, good_child, all_flow, param_pair}
use Rattle.hs_weak_laws.specs.Built.{no_more, IsBuiltFront, ComesInFront, start_comes, parameter_comes, body_comes, child_comes}
use Rattle.hs_weak_laws.proofs.Building.{of_problem, of_rules, params_are, built_parameter, built_body, built_child, built_argument}

module _ (p : ProblemData) (given : IsSortedProblem p) (closed : HasClosedFlow p) where
  abbrev rules : List Rule
  rules = p.sorted.scheme.rules

  abbrev found : List Pair
  found = pairs_of p.flow.pairs p.flow.heads

  abbrev term : ℕ → Tree Head
  term = term_at rules

  are : AreTerms rules term
  are = are_terms rules

  -- the point of a rule's body
  record IsBodyAt (f body : ℕ) : Type 0 where
    of : PointData
    at : slice_get (points_of rules).points body ≡ Some of
    rule : of.rule ≡ f

  body_at : (f body : ℕ) (r : Rule) → slice_get rules f ≡ Some r → slice_get p.points.bodies f ≡ Some body → IsBodyAt f body
  body_at f body r at is =
      let b = are.bodies f r at in
      let same : b.0 ≡ body = same_Some b.0 body (sym b.2 ∙ (sym (ap (λ (all : PointsData). slice_get all.bodies f) given.problem.points) ∙ is)) in
      record { of = b.1; at = subst (λ k. slice_get (points_of rules).points k ≡ Some b.1) same b.3; rule = b.4 }

  both : {c : Closure} {ds : List Closure} → ComesInFront p c ds → IsGood rules found c ds × IsBuiltFront p c ds
  both (start_comes {body = body} {r = r} at none_taken is) =
      let b = body_at 0 body r at is in
      let c : Closure = node body none in
      let params : 0 ≡ params_of p b.of.rule = none_taken ∙ (sym (params_are p given closed term are 0 r at) ∙ ap (λ k. params_of p k) (sym b.rule)) in (
        good_child rules found term closed are c (flows b.of b.at (λ j x e. absurd (cc)) (λ j x e. absurd (cc))),
        built_child p given closed term are c (b.of, (of_problem p given closed term are body b.of b.at, record { pieces = no_more; long = params })),
      )
  both (parameter_comes {point = point} {rule = rule} {x = x} {args = args} {cs = cs} {ds = ds} {c = c} h at e) =
      let k = both h in
      let d : PointData = record { rule = rule; head = Var x; args = args } in
      let at_rules = of_rules p given closed term are point d at in
      let pair = (param_pair rules found term closed are point cs d at_rules k.0.front x c e).0 in (
        good_parameter rules found term closed are point cs rule x args ds at_rules k.0 c e,
        built_parameter p given closed term are point cs rule x args ds at_rules k.1 c e pair,
      )
  both (body_comes {point = point} {rule = rule} {f = f} {body = body} {args = args} {cs = cs} {ds = ds} {r = r} h at in_rules long is) =
      let k = both h in
      let d : PointData = record { rule = rule; head = Nt f; args = args } in
      let at_rules = of_rules p given closed term are point d at in
      let b = body_at f body r in_rules is in (
        good_body rules found term closed are point cs rule f args ds at_rules k.0 body b.of r b.at b.rule in_rules long,
        built_body p given closed term are point cs rule f args ds at_rules k.1 body b.of r b.at b.rule in_rules long,
      )
  both (child_comes {point = point} {rule = rule} {a = a} {args = args} {cs = cs} {ds = ds} {c = c} i h at e) =
      let k = both h in
      let d : PointData = record { rule = rule; head = Tm a; args = args } in
      let at_rules = of_rules p given closed term are point d at in (
        good_child rules found term closed are c (all_flow rules found term closed are point cs d ds at_rules k.0 i c e),
        built_child p given closed term are c (built_argument p given closed term are point cs d ds at_rules k.1 i c e),
      )

  pub reached_built : (c : Closure) (ds : List Closure) → ComesInFront p c ds → IsBuiltFront p c ds
  reached_built c ds h = (both h).1
