use Rattle.std.proofs.Common.{◌≡◌, subst, ℕ, ◌-◌, ◌≤◌, Some, arith}
use Rattle.hs_app.specs.Verdict.{DecidesForm}
use Rattle.hs_app.proofs.SimplifiedLemmas.{no_choice, of_simplified}
use Rattle.hs_app.proofs.verdict.decide_smaller.Goals as goal

small : (n : ℕ) → n ≡ 0 → n ≤ 9223372036854775808
small n e = omega (arith, e)

pub returns : goal.returns
returns g c =
    let e = c.in_ok-form.ensures in
    of_simplified c.args.settings _ c.args.sorted c.know_sorted.ensures c.in_ok-form.form c.decide_form.result c.requires.simplify e.made e.rest e.same_tree e.lighter
    (subst (λ (n : ℕ). DecidesForm c.args.settings c.args.sorted c.in_ok-form.form (Some n) c.decide_form.result)
    (λ i. c.weight_of-before.ensures.is i - c.weight_of.ensures.is i)
    (c.decide_form.ensures c.args.sorted (λ plain. absurd (no_choice c.args.settings.simplify c.requires.simplify plain)) c.requires.copy))

pub simplify-requires : goal.simplify-requires
simplify-requires g c = λ k d below. small _ (c.requires.tallies k d below)
