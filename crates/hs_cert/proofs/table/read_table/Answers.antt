use Rattle.std.proofs.Common.{subst, List, ℕ}
use Rattle.std.proofs.lemmas.Result.{err_from_is_err_and}
use Rattle.hs_cert.specs.Certificate.{IsTableFault}
use Rattle.hs_cert.proofs.Right.{fault_of}
use Rattle.hs_cert.proofs.table.read_table.Goals as goal

pub returns-in_err-heading-clause-fault : goal.returns-in_err-heading-clause-fault
returns-in_err-heading-clause-fault c =
    let p = err_from_is_err_and c.from_residual-in_err-heading.result c.from_residual-in_err-heading.ensures.1 in
    let problem = c.args.problem.now in
    fault_of c.from_residual-in_err-heading.result p.0 c.in_err-heading.field-0.0 (IsTableFault problem c.args.bytes.now) p.1 p.2
    (subst (λ (x : List ℕ). IsTableFault problem x c.in_err-heading.field-0.0) c.new-lines.ensures (c.in_err-heading.ensures.fault problem))
