use Rattle.std.proofs.Common.{◌≡◌, sym, ◌∙◌, ap, subst, ℕ, ◌+◌, ◌<◌, ◌≤◌, List, length, get_or, inl, inr}
use Rattle.std.proofs.lemmas.List.{get_or_default}
use Rattle.hs_scheme.specs.declared.term.Rule.{Rule}
use Rattle.hs_scheme.specs.Scheme.{TermInRange}
use Rattle.hs_scheme.proofs.TransitionIndex.{le_last}
use Rattle.hs_scheme.proofs.checked.are_rules.Goals as goal

one_more : (P : Rule → Type 0) (rules : List Rule) (i : ℕ) (rule : Rule) → i < length rules → rule ≡ get_or rules i rule → P rule → ((k : ℕ) (d : Rule) → k < i → P (get_or rules k d))
    → (k : ℕ) (d : Rule) → k < i + 1 → P (get_or rules k d)
one_more P rules i rule within at own before k d lt = elim (le_last k i lt) [
  | inl last ↦ subst P (at ∙ (get_or_default rules i rule d within ∙ ap (λ (m : ℕ). get_or rules m d) (sym last))) own
  | inr less ↦ before k d less
]

pub loop-rule-preserved : goal.loop-rule-preserved
loop-rule-preserved c =
    let rules = c.args.rules.now in
    record {
      bodies = one_more (λ (r : Rule). TermInRange r.params (length rules) c.args.terminals r.body) rules c.loop-rule.rule-index c.rule-item.result c.loop-rule-test.true c.rule-item.is
          (c.is_in_range.ensures.0 c.if-not-is_in_range.false) c.loop-rule.invariant.bodies;
      params = one_more (λ (r : Rule). r.params ≤ 64) rules c.loop-rule.rule-index c.rule-item.result c.loop-rule-test.true c.rule-item.is c.if-rule-gt-MAX_PARAMETERS.false c.loop-rule.invariant.params;
    }
