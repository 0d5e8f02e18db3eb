use Rattle.std.proofs.Common.{◌≡◌, ℕ, refl, sym, ◌∙◌, subst, List, length, true, false}
use Rattle.hs_scheme.specs.declared.term.Rule.{Rule}
use Rattle.hs_scheme.specs.Scheme.{AreRules}
use Rattle.hs_scheme.proofs.checked.scheme_of.Goals as goal

-- what was asked of the slice and the number, and what is said of the lists
are_rules_of : (seen rules : List Rule) (n m : ℕ) → seen ≡ rules → n ≡ m → AreRules seen n → AreRules rules m
are_rules_of seen rules n m same as_many h = subst (λ (rs : List Rule). AreRules rs m) same (subst (AreRules seen) as_many h)

never : false ≡ true → ⊥
never e = (cc)

pub returns-then-are_rules-clause-some : goal.returns-then-are_rules-clause-some
returns-then-are_rules-clause-some c = (
  λ _. are_rules_of c.as_slice.result.now c.args.rules.items c.len.result (length c.args.ranks.items) c.as_slice.ensures.value (c.len.ensures ∙ c.args.ranks.ok.0) (c.are_rules.ensures.0 c.if-are_rules.true),
  λ _. refl,
)

pub returns-then-are_rules-clause-value : goal.returns-then-are_rules-clause-value
returns-then-are_rules-clause-value c = refl

pub returns-else-are_rules-clause-some : goal.returns-else-are_rules-clause-some
returns-else-are_rules-clause-some c = (
  λ e. absurd (never e),
  λ s. sym c.if-are_rules.false ∙ c.are_rules.ensures.1 (are_rules_of c.args.rules.items c.as_slice.result.now (length c.args.ranks.items) c.len.result (sym c.as_slice.ensures.value) (sym (c.len.ensures ∙ c.args.ranks.ok.0)) s),
)

pub returns-else-are_rules-clause-value : goal.returns-else-are_rules-clause-value
returns-else-are_rules-clause-value c = tt
