use Rattle.std.proofs.Common.{◌∙◌, ap, ap₂}
use Rattle.std.proofs.lemmas.Result.{IfOk-weaker}
use Rattle.clap.specs.Simple.{with_rule}
use Rattle.hs_words.specs.Words.{with_bounds, with_flags}
use Rattle.hs_words.proofs.command.horsat.Goals as goal

pub returns : goal.returns
returns c =
    let bounded = c.in_ok-with_bounds.ensures ∙ ap with_bounds c.bare.ensures in
    let flagged = c.in_ok-with_flags.ensures ∙ ap with_flags bounded in
    let generating = c.in_ok-arg.ensures.shape c.option.ensures.local ∙ ap₂ with_rule flagged c.option.ensures.rule in
    IfOk-weaker c.arg-2.result _ _ (λ command added. added.shape c.new.ensures.optional.1 ∙ ap₂ with_rule generating c.new.ensures.rule) c.arg-2.ensures
