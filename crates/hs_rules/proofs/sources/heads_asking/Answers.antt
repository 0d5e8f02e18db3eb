use Rattle.std.proofs.Common.{subst}
use Rattle.hs_scheme.specs.declared.term.Head.{Head}
use Rattle.hs_rules.specs.Seeking.{IsHeadWithin}
use Rattle.hs_rules.proofs.sources.heads_asking.Goals as goal

pub nonterminal_asking-requires-clause-head : goal.nonterminal_asking-requires-clause-head
nonterminal_asking-requires-clause-head c = subst (λ (h : Head). IsHeadWithin c.args.at.now.problem.now c.args.at.now.params h) c.in-Nt.is c.requires.can.head

pub parameter_asking-requires-clause-head : goal.parameter_asking-requires-clause-head
parameter_asking-requires-clause-head c = subst (λ (h : Head). IsHeadWithin c.args.at.now.problem.now c.args.at.now.params h) c.in-Var.is c.requires.can.head
