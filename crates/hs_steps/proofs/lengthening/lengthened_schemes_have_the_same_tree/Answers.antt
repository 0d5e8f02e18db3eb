use Rattle.hs_steps.proofs.Trees.{tree_of_file, reaches_of_file, failures_of_file, refusals_of_file, acceptance_of_file}
use Rattle.hs_steps.proofs.lengthening.lengthened_schemes_have_the_same_tree.Goals as goal

pub returns : goal.returns
returns c = record { tree = tree_of_file; reaching = reaches_of_file; failures = failures_of_file; refusals = refusals_of_file; acceptance = acceptance_of_file }
