use Rattle.std.proofs.Common.{◌∙◌, ap, Some}
use Rattle.clap.specs.Walk.{Rule, rule_of}
use Rattle.hs_words.proofs.command.option.Goals as goal

pub returns-clause-rule : goal.returns-clause-rule
returns-clause-rule c = ap rule_of c.long.ensures ∙ ap (λ (r : Rule). record r { long = Some c.args.name.now }) c.new.ensures.rule
