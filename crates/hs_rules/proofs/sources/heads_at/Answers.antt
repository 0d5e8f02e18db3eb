use Rattle.std.proofs.Common.{subst}
use Rattle.hs_scheme.specs.declared.term.Head.{Head}
use Rattle.hs_rules.specs.Seeking.{IsHeadWithin}
use Rattle.hs_rules.proofs.sources.heads_at.Goals as goal

pub nonterminal_at-requires-clause-head : goal.nonterminal_at-requires-clause-head
nonterminal_at-requires-clause-head c = subst (λ (h : Head). IsHeadWithin c.args.at.now.problem.now c.args.at.now.params h) c.in-Nt.is c.requires.can.head

pub parameter_at-requires-clause-head : goal.parameter_at-requires-clause-head
parameter_at-requires-clause-head c = subst (λ (h : Head). IsHeadWithin c.args.at.now.problem.now c.args.at.now.params h) c.in-Var.is c.requires.can.head
