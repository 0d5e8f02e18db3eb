use Rattle.std.proofs.Common.{◌∙◌, ap, Some}
use Rattle.clap.specs.declared.builder.action.ArgAction.TheVariants.{SetTrue}
use Rattle.clap.specs.Walk.{Rule, rule_of}
use Rattle.hs_words.proofs.command.flag.Goals as goal

pub returns-clause-rule : goal.returns-clause-rule
returns-clause-rule c = ap rule_of c.action.ensures ∙ ap (λ (r : Rule). record r { action = Some SetTrue }) c.option.ensures.rule
