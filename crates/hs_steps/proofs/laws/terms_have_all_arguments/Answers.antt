use Rattle.hs_scheme.specs.TreeTerms.{ground}
use Rattle.hs_steps.proofs.Sorted.{count}
use Rattle.hs_steps.proofs.laws.terms_have_all_arguments.Goals as goal

pub returns : goal.returns
returns c = record {
  nonterminal = λ s f us is. count (ground s) us (s.nonterminal f) is;
  terminal = λ s a us is. count (ground s) us (s.terminal a) is;
}
