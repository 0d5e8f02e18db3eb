use Rattle.std.proofs.Common.{◌≡◌, subst, ◌⊎◌, inl, inr, arith}
use Rattle.std.proofs.lemmas.Option.{slice_get_within}
use Rattle.hs_scheme.specs.Problem.{ProblemData}
use Rattle.hs_weak.specs.Void.{VoidData}
use Rattle.hs_certificate_checker.specs.declared.fault.CertificateFault.{CertificateFault}
use Rattle.hs_certificate_checker.specs.Faults.{HasCause}
use Rattle.hs_check.specs.Evidence.{CompactShows, TellsNotVoid}
use Rattle.hs_cert.specs.Certificate.{pair_text}
use Rattle.hs_check.specs.declared.fault.Fault.{Fault}
use Rattle.hs_check.specs.Fault.{no_memory}
use Rattle.hs_check.proofs.Running.{told_missing, told_not_void, first_within, told_pair, pair_at, told_line}
use Rattle.hs_check.proofs.verified.shown_by.Goals as goal

told_of : {L : ProblemData → VoidData → Type 0} (p : ProblemData) (v : VoidData) (f : Fault) → (f ≡ no_memory) ⊎ ((q : ProblemData) (w : VoidData) → L q w → TellsNotVoid q w f) → L p v → (f ≡ no_memory) ⊎ TellsNotVoid p v f
told_of p v f (inl is) line = inl is
told_of p v f (inr tells) line = inr (tells p v line)

pub missing-requires : goal.missing-requires
missing-requires c =
    let p = c.args.problem.now in
    let e = c.in-Err-Missing.entry in
    let fault = subst (λ (f : CertificateFault). HasCause p c.args.certificate.table c.args.certificate.void c.args.reads.now f) c.in-Err-Missing.field-0-is c.in-Err-Missing.ensures.fault in
    slice_get_within p.points.points e.point fault.3.follows.1.of fault.3.follows.1.at

pub returns-in-Err-Missing-clause-shows : goal.returns-in-Err-Missing-clause-shows
returns-in-Err-Missing-clause-shows c =
    let p = c.args.problem.now in
    let e = c.in-Err-Missing.entry in
    let fault = subst (λ (f : CertificateFault). HasCause p c.args.certificate.table c.args.certificate.void c.args.reads.now f) c.in-Err-Missing.field-0-is c.in-Err-Missing.ensures.fault in
    told_missing p e (CompactShows p c.args.certificate.table c.args.certificate.void c.args.reads.now) (λ entry line. (fault.1, fault.2, e, (fault.3, line))) c.missing.result c.missing.ensures

pub line_of_pair-requires-clause-entries : goal.line_of_pair-requires-clause-entries
line_of_pair-requires-clause-entries c = omega (arith, c.entry_count-entries.ensures, c.requires.text.few)

pub line_of_pair-requires-clause-place : goal.line_of_pair-requires-clause-place
line_of_pair-requires-clause-place c =
    let p = c.args.problem.now in
    let d = c.args.certificate in
    let place = c.in-Err-NotVoid.place in
    let fault = subst (λ (f : CertificateFault). HasCause p d.table d.void c.args.reads.now f) c.in-Err-NotVoid.field-0-is c.in-Err-NotVoid.ensures.fault in
    omega (arith, first_within p d.table d.void place fault.2, c.requires.text.within)

pub not_void-requires : goal.not_void-requires
not_void-requires c =
    let p = c.args.problem.now in
    let d = c.args.certificate in
    let place = c.in-Err-NotVoid.place in
    let fault = subst (λ (f : CertificateFault). HasCause p d.table d.void c.args.reads.now f) c.in-Err-NotVoid.field-0-is c.in-Err-NotVoid.ensures.fault in
    let entries = c.entry_count-entries.result in
    let number = c.line_of_pair.result in (
      pair_text p (told_pair p c.args.bytes.now d.table d.void c.requires.text place fault.2 entries number c.entry_count-entries.ensures c.line_of_pair.ensures),
      told_line p c.args.bytes.now d.table d.void c.requires.text place fault.2 entries number c.entry_count-entries.ensures c.line_of_pair.ensures,
    )

pub returns-in-Err-NotVoid-clause-shows : goal.returns-in-Err-NotVoid-clause-shows
returns-in-Err-NotVoid-clause-shows c =
    let p = c.args.problem.now in
    let d = c.args.certificate in
    let place = c.in-Err-NotVoid.place in
    let fault = subst (λ (f : CertificateFault). HasCause p d.table d.void c.args.reads.now f) c.in-Err-NotVoid.field-0-is c.in-Err-NotVoid.ensures.fault in
    let entries = c.entry_count-entries.result in
    let number = c.line_of_pair.result in
    let v = told_pair p c.args.bytes.now d.table d.void c.requires.text place fault.2 entries number c.entry_count-entries.ensures c.line_of_pair.ensures in
    let at = pair_at p c.args.bytes.now d.table d.void c.requires.text place fault.2 entries number c.entry_count-entries.ensures c.line_of_pair.ensures in
    let line = told_line p c.args.bytes.now d.table d.void c.requires.text place fault.2 entries number c.entry_count-entries.ensures c.line_of_pair.ensures in
    told_not_void p v (CompactShows p d.table d.void c.args.reads.now) (λ pair told. (fault.1, place, fault.2, v, (at, told))) c.not_void.result (told_of p v c.not_void.result c.not_void.ensures line)
