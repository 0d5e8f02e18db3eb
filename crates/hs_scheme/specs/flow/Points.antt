-- The points of a scheme: each rule's body and each argument in it, numbered from 0, rule by rule,
-- in each rule the body first and then its arguments in preorder.
--     PointData           a point: its rule, its head, and the numbers of its arguments' points
--     size                how many points a term has
--     points_of rules     the points in their order, the number of each rule's body, and how many parameters each rule has
--     point_at            the point of a number
--     IsArgument          a point is the argument of another at this place
use Rattle.std.specs.Prelude.{◌≡◌, refl, ℕ, ◌+◌, ◌<◌, ◌≤◌, List, [], ◌∷◌, ◌++◌, All, length, slice_get, slice_index_or, Some}
use Rattle.std.specs.Coded.{Coded, code_by, coded×, coded_ℕ, coded_list}
use Rattle.hs_scheme.specs.declared.term.Head.{Head}
use Rattle.hs_scheme.specs.declared.term.Head.TheVariants.{Var, Nt, Tm}
use Rattle.hs_scheme.specs.declared.term.Rule.{Rule}
use Rattle.hs_scheme.specs.Tree.{Tree, Trees, node, none, more}
use Rattle.hs_scheme.specs.Code.{coded_head}
use Rattle.hs_scheme.specs.sorting.Parameters.{counts_of, IsParameter}

pub record PointData : Type 0 where
  pub rule : ℕ
  pub head : Head
  pub args : List ℕ

abbrev pub coded_point : Coded PointData
coded_point =
    code_by (ℕ × (Head × List ℕ)) (coded× coded_ℕ (coded× coded_head (coded_list coded_ℕ))) (λ p. (p.rule, (p.head, p.args)))
    (λ p. record { rule = p.0; head = p.1.0; args = p.1.1 }) (λ _. refl)

-- the points, by number, the number of each rule's body, and how many parameters each rule has
pub record PointsData : Type 0 where
  pub points : List PointData
  pub bodies : List ℕ
  pub params : List ℕ

abbrev pub coded_points : Coded PointsData
coded_points =
    code_by (List PointData × (List ℕ × List ℕ)) (coded× (coded_list coded_point) (coded× (coded_list coded_ℕ) (coded_list coded_ℕ))) (λ p. (p.points, (p.bodies, p.params)))
    (λ p. record { points = p.0; bodies = p.1.0; params = p.1.1 }) (λ _. refl)

-- the point of this number; where there is none, a terminal alone
abbrev pub point_at : PointsData → ℕ → PointData
point_at points p = slice_index_or points.points p (record { rule = 0; head = Tm 0; args = [] })

-- a is the argument of q at this place, counted from 0
abbrev pub IsArgument : PointsData → ℕ → ℕ → ℕ → Type 0
IsArgument points q place a = slice_get (point_at points q).args place ≡ Some a

-- a nonterminal at the head is one of these many
abbrev pub NonterminalWithin : ℕ → Head → Type 0
NonterminalWithin rules (Var x) = Unit {0}
NonterminalWithin rules (Nt f) = f < rules
NonterminalWithin rules (Tm a) = Unit {0}

-- a parameter at the head in this rule is one of the rule's
abbrev pub ParameterWithin : List ℕ → ℕ → Head → Type 0
ParameterWithin params rule (Var x) = IsParameter params rule x
ParameterWithin params rule (Nt f) = Unit {0}
ParameterWithin params rule (Tm a) = Unit {0}

-- There are at most 500,000, and their rules, heads, arguments and bodies are in range. A point is the argument of one point at most, and
-- at one place.
pub record IsPoints (p : PointsData) : Type 0 where
  pub few : length p.points ≤ 500000
  pub params : length p.params ≡ length p.bodies
  pub rules : All (λ d. d.rule < length p.bodies) p.points
  pub heads : All (λ d. NonterminalWithin (length p.bodies) d.head) p.points
  pub args : All (λ d. All (λ a. a < length p.points) d.args) p.points
  pub parameters : All (λ d. ParameterWithin p.params d.rule d.head) p.points
  pub bodies : All (λ b. b < length p.points) p.bodies
  pub once : (a q i r j : ℕ) → IsArgument p q i a → IsArgument p r j a → (q ≡ r) × (i ≡ j)

-- one point for each head
abbrev mutual
  pub size : Tree Head → ℕ
  size (node h ts) = sizes ts + 1

  pub sizes : Trees Head → ℕ
  sizes none = 0
  sizes (more t ts) = size t + sizes ts

-- the numbers of terms that stand side by side, the first at n
abbrev pub numbers : ℕ → Trees Head → List ℕ
numbers n none = []
numbers n (more t ts) = n ∷ numbers (n + size t) ts

-- the points of a term of this rule, its own at n, and of terms that stand side by side from n on
abbrev mutual
  pub term_points : ℕ → ℕ → Tree Head → List PointData
  term_points rule n (node h ts) = (record { rule = rule; head = h; args = numbers (n + 1) ts }) ∷ terms_points rule (n + 1) ts

  pub terms_points : ℕ → ℕ → Trees Head → List PointData
  terms_points rule n none = []
  terms_points rule n (more t ts) = term_points rule n t ++ terms_points rule (n + size t) ts

-- the points of rules, the first of which has this number and its body at n
abbrev pub rules_points : ℕ → ℕ → List Rule → List PointData
rules_points rule n [] = []
rules_points rule n (r ∷ rules) = term_points rule n r.body ++ rules_points (rule + 1) (n + size r.body) rules

-- the numbers of their bodies
abbrev pub bodies : ℕ → List Rule → List ℕ
bodies n [] = []
bodies n (r ∷ rules) = n ∷ bodies (n + size r.body) rules

abbrev pub points_of : List Rule → PointsData
points_of rules = record { points = rules_points 0 0 rules; bodies = bodies 0 rules; params = counts_of rules }
