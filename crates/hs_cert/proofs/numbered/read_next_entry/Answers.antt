use Rattle.std.proofs.Common.{◌≡◌, ap, subst, Ok}
use Rattle.std.proofs.lemmas.Result.{err_from_is_err_and}
use Rattle.hs_table.specs.Entries.{entry_cmp}
use Rattle.hs_cert.specs.Certificate.{IsEntry}
use Rattle.hs_numbered.specs.Certificates.{IsAboveLast}
use Rattle.hs_cert.proofs.Numbers.{faulty_of}
use Rattle.hs_cert.proofs.Entries.{same_entry}
use Rattle.hs_cert.proofs.Right.{next_item}
use Rattle.hs_cert.proofs.numbered.read_next_entry.Goals as goal

pub returns-in_err-entry-clause-faulty : goal.returns-in_err-entry-clause-faulty
returns-in_err-entry-clause-faulty c = λ h x rest n.
    let p = err_from_is_err_and c.from_residual.result c.from_residual.ensures.1 in
    c.in_err-entry.ensures.faulty (faulty_of c.from_residual.result p.0 c.in_err-entry.field-0.0 p.1 p.2 h) x
    (next_item (IsEntry c.args.problem.now) entry_cmp c.args.certificate.now.table c.args.lines.now.rest.now c.in-Some.line.now c.next.new.self.rest.now x rest c.in-Some.ensures.some c.in-Some.ensures.inside n)

pub returns-clause-faulty : goal.returns-clause-faulty
returns-clause-faulty c = λ h x rest n.
    let p = c.args.problem.now in
    let line = c.in-Some.line.now in
    let read = c.in_ok-entry.entry in
    let there = next_item (IsEntry p) entry_cmp c.args.certificate.now.table c.args.lines.now.rest.now line c.next.new.self.rest.now x rest c.in-Some.ensures.some c.in-Some.ensures.inside n in
    let same : x ≡ read = same_entry p c.args.states.now c.requires.same c.requires.states.are c.requires.same.few line x read there c.in_ok-entry.ensures.read in
    c.in_ok-import_entry.ensures.refused (ap (λ b. Ok b) c.if-branch.false) (subst (IsAboveLast entry_cmp c.args.certificate.now.table) same n.above)
