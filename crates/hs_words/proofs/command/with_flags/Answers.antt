use Rattle.std.proofs.Common.{◌∙◌, ap, ap₂}
use Rattle.std.proofs.lemmas.Result.{IfOk-weaker}
use Rattle.clap.specs.Simple.{with_rule}
use Rattle.hs_words.proofs.command.with_flags.Goals as goal

pub returns : goal.returns
returns c =
    let one = c.in_ok-arg.ensures.shape c.flag.ensures.local ∙ ap (with_rule _) c.flag.ensures.rule in
    let two = c.in_ok-arg-2.ensures.shape c.flag-2.ensures.local ∙ ap₂ with_rule one c.flag-2.ensures.rule in
    let three = c.in_ok-arg-3.ensures.shape c.flag-3.ensures.local ∙ ap₂ with_rule two c.flag-3.ensures.rule in
    let four = c.in_ok-arg-4.ensures.shape c.flag-4.ensures.local ∙ ap₂ with_rule three c.flag-4.ensures.rule in
    let five = c.in_ok-arg-5.ensures.shape c.flag-5.ensures.local ∙ ap₂ with_rule four c.flag-5.ensures.rule in
    IfOk-weaker c.arg-6.result _ _ (λ command added. added.shape c.flag-6.ensures.local ∙ ap₂ with_rule five c.flag-6.ensures.rule) c.arg-6.ensures
