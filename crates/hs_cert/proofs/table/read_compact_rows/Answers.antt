use Rattle.std.proofs.Common.{◌≡◌, refl, sym, ◌∙◌, ap, subst, ℕ, List, ◌+◌, true, false}
use Rattle.std.proofs.lemmas.Result.{err_from_is_err_and}
use Rattle.hs_table.specs.Entries.{EntryData}
use Rattle.hs_cert.specs.declared.heading.Form.{Form}
use Rattle.hs_cert.specs.declared.heading.Form.TheVariants.{Compact}
use Rattle.hs_cert.specs.Certificate.{IsFirstFaulty, IsCertificateIn, pairs_of}
use Rattle.hs_cert.proofs.Right.{certified, first_beyond, fault_of}
use Rattle.hs_cert.proofs.table.read_compact_rows.Goals as goal

pairs_are : (form : Form) (number : ℕ) → form ≡ Compact → number ≡ pairs_of form number
pairs_are form number is = ap (λ (f : Form). pairs_of f number) (sym is)

pub returns-in_err-read_numbered_entries-clause-fault : goal.returns-in_err-read_numbered_entries-clause-fault
returns-in_err-read_numbered_entries-clause-fault c =
    let p = err_from_is_err_and c.from_residual.result c.from_residual.ensures.1 in
    fault_of c.from_residual.result p.0 c.in_err-read_numbered_entries.field-0.0 _ p.1 p.2 c.in_err-read_numbered_entries.ensures.fault

pub returns-in_err-read_pairs-clause-fault : goal.returns-in_err-read_pairs-clause-fault
returns-in_err-read_pairs-clause-fault c =
    let p = err_from_is_err_and c.from_residual-in_err-read_pairs.result c.from_residual-in_err-read_pairs.ensures.1 in
    fault_of c.from_residual-in_err-read_pairs.result p.0 c.in_err-read_pairs.field-0.0 _ p.1 p.2
    (λ bytes head. c.in_err-read_pairs.ensures.fault bytes c.read_numbered_entries.new.certificate.table c.in_ok-read_numbered_entries.ensures.all (c.in_ok-read_numbered_entries.ensures.read bytes head))

pub returns-then-is_empty-clause-read : goal.returns-then-is_empty-clause-read
returns-then-is_empty-clause-read c = λ bytes head.
    let table = c.read_numbered_entries.new.certificate.table in
    let begun = c.in_ok-read_pairs.ensures.read bytes table c.in_ok-read_numbered_entries.ensures.all (c.in_ok-read_numbered_entries.ensures.read bytes head) in
    subst (λ (T : List EntryData). IsCertificateIn c.args.heading.form c.args.problem.now bytes c.args.heading.number T c.read_pairs.new.certificate.void) (sym c.in_ok-read_pairs.ensures.table)
    (certified c.args.problem.now c.requires.names bytes c.args.heading table c.read_pairs.new.certificate.void c.read_pairs.new.lines.rest.now begun c.in_ok-read_numbered_entries.ensures.all
    (c.in_ok-read_pairs.ensures.all ∙ (pairs_are c.args.heading.form c.args.heading.number c.requires.compact)) (c.if-is_empty.ensures.0 refl))

pub returns-else-is_empty-clause-fault : goal.returns-else-is_empty-clause-fault
returns-else-is_empty-clause-fault c = λ bytes head.
    let table = c.read_numbered_entries.new.certificate.table in
    let h = c.args.heading in
    let begun = c.in_ok-read_pairs.ensures.read bytes table c.in_ok-read_numbered_entries.ensures.all (c.in_ok-read_numbered_entries.ensures.read bytes head) in
    subst (λ k. IsFirstFaulty c.args.problem.now bytes (h.entries + k + 4)) (sym (pairs_are c.args.heading.form c.args.heading.number c.requires.compact))
    (first_beyond c.args.problem.now c.requires.names bytes h table c.read_pairs.new.certificate.void c.read_pairs.new.lines.rest.now begun c.in_ok-read_numbered_entries.ensures.all
    (c.in_ok-read_pairs.ensures.all ∙ (pairs_are c.args.heading.form c.args.heading.number c.requires.compact)) (λ e. (let f : false ≡ true = c.if-is_empty.ensures.1 e in cc)))
