use Rattle.std.proofs.Common.{◌≡◌, sym, subst, ℕ, List}
use Rattle.hs_scheme.specs.Problem.{ProblemData}
use Rattle.hs_table.specs.Entries.{EntryData}
use Rattle.hs_weak.specs.Void.{VoidData}
use Rattle.hs_cert.specs.declared.heading.Form.{Form}
use Rattle.hs_cert.specs.declared.heading.Form.TheVariants.{Compact}
use Rattle.hs_cert.specs.Certificate.{IsCertificateIn, IsCompactCertificate}
use Rattle.hs_cert.proofs.table.read_compact.Goals as goal

compact : (form : Form) (number : ℕ) (p : ProblemData) (bytes : List ℕ) (table : List EntryData) (void : List VoidData) → form ≡ Compact → IsCertificateIn form p bytes number table void → IsCompactCertificate p bytes table void
compact form number p bytes table void is h =
    let own = subst (λ (f : Form). IsCertificateIn f p bytes number table void) is h in
    subst (λ n. IsCertificateIn Compact p bytes n table void) (sym own.counted) own

pub returns-in-Ok-clause-cert : goal.returns-in-Ok-clause-cert
returns-in-Ok-clause-cert c = λ bytes head.
    let d = c.read_compact_rows-read.new.certificate in
    compact c.args.heading.form c.args.heading.number c.args.problem.now bytes d.table d.void c.requires.compact (c.in-Ok.ensures.read bytes head)
