use Rattle.std.proofs.Common.{◌∙◌}
use Rattle.hs_scheme.specs.Tree.{children}
use Rattle.hs_scheme.specs.TreeTerms.{ground}
use Rattle.hs_steps.proofs.Terms.{unfolds_full}
use Rattle.hs_steps.proofs.Sorted.{count}
use Rattle.hs_steps.proofs.laws.full_rules_take_all_arguments.Goals as goal

pub returns : goal.returns
returns c = λ rules s f rule us at full is. unfolds_full rules f rule (children us) at (count (ground s) us (s.nonterminal f) is ∙ full)
