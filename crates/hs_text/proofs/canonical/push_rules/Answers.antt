use Rattle.std.proofs.Common.{◌≡◌, refl, ap, length, slice_get, Some}
use Rattle.std.proofs.lemmas.List.{take_all}
use Rattle.std.proofs.lemmas.Option.{slice_get_read}
use Rattle.hs_text.specs.Canonical.{rule_text, rules_text}
use Rattle.hs_text.proofs.Texts.{rule-more}
use Rattle.hs_text.proofs.Puts.{puts_none, puts_then, puts_as}
use Rattle.hs_text.proofs.canonical.push_rules.Goals as goal

pub loop-number-init : goal.loop-number-init
loop-number-init c = puts_none _

pub loop-number-preserved : goal.loop-number-preserved
loop-number-preserved c =
    let rules = c.args.rules.now in
    let i = c.loop-number.number in
    let r = c.index-rules-number.result in
    let at : slice_get rules i ≡ Some r = slice_get_read rules (length rules) i r refl c.loop-number-test.true c.index-rules-number.is in
    puts_as (rule-more c.args.names.now rules i r at) (puts_then c.loop-number.invariant (puts_as (ap (λ ps. rule_text c.args.names.now i ps r) c.params_of.ensures) c.push_rule.ensures))

pub returns : goal.returns
returns c = puts_as (ap (rules_text c.args.names.now) (take_all _ c.args.rules.now c.loop-number-test.false)) c.loop-number.invariant
