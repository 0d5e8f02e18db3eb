-- How many arguments a point has.
use Rattle.std.proofs.Common.{◌≡◌, sym, ap, subst, ℕ, ◌+◌, ◌<◌, ◌≤◌, List, [], ◌∷◌, length, length-append, Contains, inl, inr, arith}
use Rattle.std.proofs.lemmas.List.Elements.{Contains-append_cases}
use Rattle.hs_scheme.specs.declared.term.Head.{Head}
use Rattle.hs_scheme.specs.declared.term.Rule.{Rule}
use Rattle.hs_scheme.specs.Tree.{Tree, Trees, node, none, more}
use Rattle.hs_scheme.specs.flow.Points.{PointData, PointsData, point_at, size, sizes, numbers, term_points, terms_points, rules_points}
use Rattle.hs_scheme.specs.Problem.{ProblemData}
use Rattle.hs_scheme.proofs.Lists.{none_in, uncons, some_at, Contains-at}
use Rattle.hs_scheme.proofs.PointLemmas.{length-term_points, at_least_one}
use Rattle.hs_verdict.specs.Premises.{IsSortedProblem}
use Rattle.hs_reads.proofs.BecomingLemmas.{point_read}

length-numbers : (n : ℕ) (ts : Trees Head) → length (numbers n ts) ≤ sizes ts
length-numbers n none = omega arith
length-numbers n (more t ts) = omega (arith, length-numbers (n + size t) ts, at_least_one t)

mutual
  few_in_term : (rule n : ℕ) (t : Tree Head) (d : PointData) → Contains (term_points rule n t) d → length d.args ≤ size t
  few_in_term rule n (node h ts) d m = elim (uncons (record { rule = rule; head = h; args = numbers (n + 1) ts }) d (terms_points rule (n + 1) ts) m) [
    | inl is ↦ let e : length d.args ≡ length (numbers (n + 1) ts) = ap (λ (x : PointData). length x.args) is in omega (arith, e, length-numbers (n + 1) ts)
    | inr rest ↦ let le = few_in_terms rule (n + 1) ts d rest in omega (arith, le)
  ]

  few_in_terms : (rule n : ℕ) (ts : Trees Head) (d : PointData) → Contains (terms_points rule n ts) d → length d.args ≤ sizes ts
  few_in_terms rule n none d m = absurd (none_in d m)
  few_in_terms rule n (more t ts) d m = elim (Contains-append_cases (term_points rule n t) (terms_points rule (n + size t) ts) d m) [
    | inl first ↦ let le = few_in_term rule n t d first in omega (arith, le)
    | inr rest ↦ let le = few_in_terms rule (n + size t) ts d rest in omega (arith, le)
  ]

few_in_rules : (rule n : ℕ) (rules : List Rule) (d : PointData) → Contains (rules_points rule n rules) d → length d.args ≤ length (rules_points rule n rules)
few_in_rules rule n [] d m = absurd (none_in d m)
few_in_rules rule n (r ∷ rules) d m =
    let long : length (rules_points rule n (r ∷ rules)) ≡ length (term_points rule n r.body) + length (rules_points (rule + 1) (n + size r.body) rules) =
    length-append (term_points rule n r.body) (rules_points (rule + 1) (n + size r.body) rules) in
    elim (Contains-append_cases (term_points rule n r.body) (rules_points (rule + 1) (n + size r.body) rules) d m) [
      | inl first ↦ let le = few_in_term rule n r.body d first in omega (arith, long, le, length-term_points rule n r.body)
      | inr rest ↦ let le = few_in_rules (rule + 1) (n + size r.body) rules d rest in omega (arith, long, le)
    ]

-- fewer than there are points
pub args_few : (p : ProblemData) → IsSortedProblem p → (w : ℕ) → w < length p.points.points → length (point_at p.points w).args ≤ length p.points.points
args_few p is w lt =
    let own = some_at p.points.points w lt in
    let few : length own.0.args ≤ length p.points.points =
    subst (λ (x : PointsData). Contains x.points own.0 → length own.0.args ≤ length x.points) (sym is.problem.points) (few_in_rules 0 0 p.sorted.scheme.rules own.0) (Contains-at p.points.points w own.0 own.1) in
    subst (λ (d : PointData). length d.args ≤ length p.points.points) (sym (point_read p.points w own.0 own.1)) few
