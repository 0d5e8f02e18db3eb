use Rattle.std.proofs.Common.{◌≡◌, ◌<◌, ◌≤◌, sym, ◌∙◌, ap, subst, ℕ, length, arith}
use Rattle.hs_scheme.specs.declared.term.Rule.{Rule}
use Rattle.hs_scheme.specs.sorting.Sorting.{SortTree, arguments}
use Rattle.hs_scheme.specs.sorting.Lengthening.{missing, lengthened}
use Rattle.hs_sorts.proofs.Lengthenings.{partly_long, partly_more, longer_rule, all_rules, arguments_long, same_before}
use Rattle.hs_sorts.proofs.lengthening.lengthen_rules.Goals as goal

pub index_mut-rule-requires : goal.index_mut-rule-requires
index_mut-rule-requires c =
    omega (arith, ap length c.loop-number.invariant, partly_long longer_rule c.loop-number.number c.args.rules.now.items c.args.sorts.now, c.requires.each_rule, c.loop-number-test.true)

pub overflow_cast-missing : goal.overflow_cast-missing
overflow_cast-missing c =
    let long = arguments_long tt c.sort.inside.args.items c.index-sorts-number.result c.sort.view_is in
    let few : length (arguments c.index-sorts-number.result) ≤ 1000 =
    subst (λ (k : SortTree). length (arguments k) ≤ 1000) (sym c.index-sorts-number.is) (c.requires.sorts c.loop-number.number c.index-sorts-number.result c.loop-number-test.true) in
    omega (arith, long, few, c.saturating_sub-missing.ensures, c.len.ensures)

pub lengthen_rule-requires : goal.lengthen_rule-requires
lengthen_rule-requires c =
    let long = arguments_long tt c.sort.inside.args.items c.index-sorts-number.result c.sort.view_is in
    let few : length (arguments c.index-sorts-number.result) ≤ 1000 =
    subst (λ (k : SortTree). length (arguments k) ≤ 1000) (sym c.index-sorts-number.is) (c.requires.sorts c.loop-number.number c.index-sorts-number.result c.loop-number-test.true) in
    let within : c.loop-number.number < length c.args.rules.now.items = omega (arith, c.requires.each_rule, c.loop-number-test.true) in
    let old = same_before longer_rule c.loop-number.number c.args.rules.now.items c.loop-number.rules.items c.args.sorts.now c.index_mut-rule.result.now c.loop-number.invariant c.index_mut-rule.ensures.value in
    let narrow : c.index_mut-rule.result.now.params ≤ 64 = subst (λ (r : Rule). r.params ≤ 64) (sym old) (c.requires.rules c.loop-number.number c.index_mut-rule.result.now within) in
    omega (arith, long, few, narrow, c.saturating_sub-missing.ensures, c.len.ensures)

pub loop-number-preserved : goal.loop-number-preserved
loop-number-preserved c =
    let long = arguments_long tt c.sort.inside.args.items c.index-sorts-number.result c.sort.view_is in
    let within : c.loop-number.number < length c.args.rules.now.items = omega (arith, c.requires.each_rule, c.loop-number-test.true) in
    let d : c.saturating_sub-missing.result ≡ missing c.index_mut-rule.result.now.params c.index-sorts-number.result = omega (arith, long, c.saturating_sub-missing.ensures, c.len.ensures) in
    partly_more longer_rule c.loop-number.number c.args.rules.now.items c.loop-number.rules.items c.args.sorts.now c.index_mut-rule.result.now c.lengthen_rule.new.rule c.index-sorts-number.result
    within c.loop-number-test.true c.loop-number.invariant c.index_mut-rule.ensures.value c.index-sorts-number.is
    (c.in_ok-lengthen_rule.ensures ∙ ap (λ (n : ℕ). lengthened n c.index_mut-rule.result.now) d)

pub returns : goal.returns
returns c = c.loop-number.invariant ∙ all_rules c.loop-number.number c.args.rules.now.items c.args.sorts.now c.loop-number-test.false
