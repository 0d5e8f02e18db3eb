use Rattle.hs_steps.proofs.Trees.{same_steps, same_failures, same_acceptance, same_tree}
use Rattle.hs_steps.proofs.lengthening.lengthening_keeps_the_tree.Goals as goal

pub returns : goal.returns
returns c = record {
  steps = λ rules terminals ranks ts s sorted ks are. same_steps rules terminals ranks ts s sorted ks are;
  failures = λ rules terminals ranks ts s sorted ks are. same_failures rules terminals ranks ts s sorted ks are;
  acceptance = λ rules terminals ranks ts s sorted ks are. same_acceptance rules terminals ranks ts s sorted ks are;
  tree = same_tree;
}
