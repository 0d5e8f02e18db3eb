use Rattle.std.proofs.Common.{◌≡◌, refl, sym, ap, subst, ℕ, ◌+◌, true, false, [], arith}
use Rattle.std.proofs.lemmas.Result.{err_from_is_err_and}
use Rattle.hs_cert.specs.declared.heading.Form.{Form}
use Rattle.hs_cert.specs.declared.heading.Form.TheVariants.{Full}
use Rattle.hs_cert.specs.Certificate.{IsFirstFaulty, pairs_of}
use Rattle.hs_cert.proofs.Right.{certified, first_beyond, fault_of}
use Rattle.hs_cert.proofs.table.read_full_rows.Goals as goal

no_pairs : (form : Form) (number : ℕ) → form ≡ Full → 0 ≡ pairs_of form number
no_pairs form number is = ap (λ (f : Form). pairs_of f number) (sym is)

pub returns-in_err-read_entries-clause-fault : goal.returns-in_err-read_entries-clause-fault
returns-in_err-read_entries-clause-fault c =
    let p = err_from_is_err_and c.from_residual.result c.from_residual.ensures.1 in
    fault_of c.from_residual.result p.0 c.in_err-read_entries.field-0.0 _ p.1 p.2 c.in_err-read_entries.ensures.fault

pub returns-then-is_empty-clause-read : goal.returns-then-is_empty-clause-read
returns-then-is_empty-clause-read c = λ bytes head.
    let table = c.read_entries.new.table.items in
    certified c.args.problem.now c.requires.names bytes c.args.heading table [] c.read_entries.new.lines.rest.now (c.in_ok-read_entries.ensures.read bytes head) c.in_ok-read_entries.ensures.all
    (no_pairs c.args.heading.form c.args.heading.number c.requires.full) (c.if-is_empty.ensures.0 refl)

pub returns-else-is_empty-clause-fault : goal.returns-else-is_empty-clause-fault
returns-else-is_empty-clause-fault c = λ bytes head.
    let table = c.read_entries.new.table.items in
    let h = c.args.heading in
    let none = no_pairs h.form h.number c.requires.full in
    let place : h.entries + pairs_of h.form h.number + 4 ≡ h.entries + 4 = omega (arith, none) in
    subst (λ k. IsFirstFaulty c.args.problem.now bytes k) place
    (first_beyond c.args.problem.now c.requires.names bytes h table [] c.read_entries.new.lines.rest.now (c.in_ok-read_entries.ensures.read bytes head) c.in_ok-read_entries.ensures.all
    (no_pairs c.args.heading.form c.args.heading.number c.requires.full) (λ e. (let f : false ≡ true = c.if-is_empty.ensures.1 e in cc)))
