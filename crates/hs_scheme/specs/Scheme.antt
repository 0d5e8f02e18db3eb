-- A scheme as plain data, and what holds of each.
use Rattle.std.specs.Prelude.{◌≡◌, refl, ℕ, ◌<◌, ◌≤◌, List, All, length, slice_get, Some}
use Rattle.std.specs.Coded.{Coded, code_by, coded×, coded_ℕ, coded_list}
use Rattle.hs_scheme.specs.declared.term.Head.{Head}
use Rattle.hs_scheme.specs.declared.term.Head.TheVariants.{Var, Nt, Tm}
use Rattle.hs_scheme.specs.declared.term.Rule.{Rule}
use Rattle.hs_scheme.specs.Tree.{Tree, Trees, node, none, more, children, tree_code}
use Rattle.hs_scheme.specs.Code.{coded_head}

-- one rule for each nonterminal, and the rank of each terminal
pub record SchemeData : Type 0 where
  pub rules : List Rule
  pub ranks : List ℕ

abbrev pub coded_rule : Coded Rule
coded_rule = code_by (ℕ × Tree Head) (coded× coded_ℕ (tree_code coded_head)) (λ r. (r.params, r.body)) (λ p. record { params = p.0; body = p.1 }) (λ _. refl)

abbrev pub coded_scheme : Coded SchemeData
coded_scheme = code_by (List Rule × List ℕ) (coded× (coded_list coded_rule) (coded_list coded_ℕ)) (λ s. (s.rules, s.ranks)) (λ p. record { rules = p.0; ranks = p.1 }) (λ _. refl)

-- the head is one of these many parameters, rules and terminals
abbrev pub HeadInRange : ℕ → ℕ → ℕ → Head → Type 0
HeadInRange params rules terminals (Var j) = j < params
HeadInRange params rules terminals (Nt f) = f < rules
HeadInRange params rules terminals (Tm a) = a < terminals

-- so is each head of the term, and each has at most 64 arguments
abbrev mutual
  pub TermInRange : ℕ → ℕ → ℕ → Tree Head → Type 0
  TermInRange params rules terminals (node h ts) = HeadInRange params rules terminals h × (length (children ts) ≤ 64) × TermsInRange params rules terminals ts

  pub TermsInRange : ℕ → ℕ → ℕ → Trees Head → Type 0
  TermsInRange params rules terminals none = Unit {0}
  TermsInRange params rules terminals (more t ts) = TermInRange params rules terminals t × TermsInRange params rules terminals ts

-- the first rule, that of the start, has no parameters; heads are in range; counts are within their limits
pub record AreRules (rules : List Rule) (terminals : ℕ) : Type 0 where
  pub start : (rule : Rule) × ((slice_get rules 0 ≡ Some rule) × (rule.params ≡ 0))
  pub bodies : All (λ r. TermInRange r.params (length rules) terminals r.body) rules
  pub few_rules : length rules ≤ 20000
  pub few_params : All (λ r. r.params ≤ 64) rules

abbrev pub IsScheme : SchemeData → Type 0
IsScheme s = AreRules s.rules (length s.ranks)
