use Rattle.std.proofs.Common.{◌∙◌, ap, ap₂}
use Rattle.std.proofs.lemmas.Result.{IfOk-weaker}
use Rattle.clap.specs.Simple.{with_rule}
use Rattle.hs_words.proofs.command.with_bounds.Goals as goal

pub returns : goal.returns
returns c =
    let one = c.in_ok-arg.ensures.shape c.option.ensures.local ∙ ap (with_rule _) c.option.ensures.rule in
    let two = c.in_ok-arg-2.ensures.shape c.option-2.ensures.local ∙ ap₂ with_rule one c.option-2.ensures.rule in
    IfOk-weaker c.arg-3.result _ _ (λ command added. added.shape c.option-3.ensures.local ∙ ap₂ with_rule two c.option-3.ensures.rule) c.arg-3.ensures
