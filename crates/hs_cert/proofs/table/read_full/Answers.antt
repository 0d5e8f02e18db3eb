use Rattle.std.proofs.Common.{[], subst}
use Rattle.std.proofs.lemmas.Result.{err_from_is_err_and}
use Rattle.hs_cert.specs.declared.heading.Form.{Form}
use Rattle.hs_cert.specs.Certificate.{IsCertificateIn}
use Rattle.hs_cert.proofs.Right.{fault_of}
use Rattle.hs_cert.proofs.table.read_full.Goals as goal

pub returns-clause-cert : goal.returns-clause-cert
returns-clause-cert c = λ bytes head.
    subst (λ (f : Form). IsCertificateIn f c.args.problem.now bytes c.args.heading.number c.read_full_rows.new.table.items []) c.requires.full (c.in_ok-read_full_rows.ensures.read bytes head)

pub returns-in_err-read_full_rows-clause-fault : goal.returns-in_err-read_full_rows-clause-fault
returns-in_err-read_full_rows-clause-fault c =
    let p = err_from_is_err_and c.from_residual.result c.from_residual.ensures.1 in
    fault_of c.from_residual.result p.0 c.in_err-read_full_rows.field-0.0 _ p.1 p.2 c.in_err-read_full_rows.ensures.fault
