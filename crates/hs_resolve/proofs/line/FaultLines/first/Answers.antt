use Rattle.std.proofs.Common.{◌∙◌, sym, subst, Option, IfNone}
use Rattle.hs_resolve.specs.declared.fault.NameFault.{NameFault}
use Rattle.hs_resolve.specs.Answer.{HasNoLineFault, IsAnswered}
use Rattle.hs_resolve.proofs.FirstFault.{first-answered, first-none}
use Rattle.hs_resolve.proofs.line.FaultLines.first.Goals as goal

pub returns-in_err-line-clause-none : goal.returns-in_err-line-clause-none
returns-in_err-line-clause-none c = λ raw a.
    subst (λ (o : Option NameFault). IfNone o (HasNoLineFault raw)) (sym c.from_residual.ensures) (first-none raw c.args.self.now a (sym c.least.ensures ∙ c.in_err-line.was))

pub returns-clause-fault : goal.returns-clause-fault
returns-clause-fault c = λ raw a.
    subst (IsAnswered raw) (sym c.on.ensures) (first-answered raw c.args.self.now c.in_ok-line.line a (sym c.least.ensures ∙ c.in_ok-line.was))
