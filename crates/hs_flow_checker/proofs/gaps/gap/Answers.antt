use Rattle.std.proofs.Common.{◌≡◌, sym, ◌∙◌, ap, ◌<◌, ◌≤◌, length, arith, inl, inr, subst, MatchOption, Contains, Option, None, Some}
use Rattle.std.proofs.Math.Nat.{eq-or-lt_of_le}
use Rattle.hs_scheme.specs.declared.flow.Pair.{Pair}
use Rattle.hs_scheme.specs.flow.Points.{points_of}
use Rattle.hs_scheme.specs.Problem.{ProblemData}
use Rattle.hs_flow_checker.specs.Gaps.{held, IsOfKind}
use Rattle.hs_flow_checker.specs.PassedOn.{DemandsAt}
use Rattle.hs_flow_checker.proofs.GapLemmas.{at_some_point}
use Rattle.hs_flow_checker.proofs.gaps.gap.Goals as goal

-- nothing is lacking at the point
none_lacking : (P : Type 0) (Q : Pair → Type 0) (o : Option Pair) → o ≡ None → MatchOption o P Q → P
none_lacking P Q None e h = h
none_lacking P Q (Some pair) e h = absurd (cc)

pub loop-point-preserved : goal.loop-point-preserved
loop-point-preserved c = λ q lt pair of d. elim (let le : q ≤ c.loop-point.point = omega (arith, lt) in eq-or-lt_of_le le) [
  | inr below ↦ c.loop-point.invariant q below pair of d
  | inl same ↦ none_lacking ((pair : Pair) → IsOfKind c.args.kind pair → DemandsAt c.args.problem.now c.loop-point.point pair → Contains (held c.args.problem.now) pair) _ c.gap_at.result c.in-None.is c.gap_at.ensures pair of
      (subst (λ n. DemandsAt c.args.problem.now n pair) same d)
]

pub returns : goal.returns
returns c = λ pair of d.
    let points = ap (λ (q : ProblemData). length q.points.points) c.problem.view_is in
    let are = sym (ap (λ (q : ProblemData). q.points) c.problem.view_is) ∙ (c.problem.invariant.points ∙ ap (λ (q : ProblemData). points_of q.sorted.scheme.rules) c.problem.view_is) in
    let at = at_some_point c.args.problem.now pair are d in
    let below : at.0 < c.loop-point.point = omega (arith, points, at.1.0, c.count-point-end.ensures.points, c.loop-point-test.false) in
    c.loop-point.invariant at.0 below pair of at.1.1
