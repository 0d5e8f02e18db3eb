use Rattle.std.proofs.Common.{◌≡◌, refl, sym, ◌∙◌, true, false}
use Rattle.std.proofs.lemmas.Slice.Eq.{bytes_eq-Decides}
use Rattle.hs_cert.specs.Certificate.{verdict_line}
use Rattle.hs_cert.proofs.LineLemmas.{same_line}
use Rattle.hs_cert.proofs.heading.read_verdict.Goals as goal

pub returns-in-Some-clause-faulty : goal.returns-in-Some-clause-faulty
returns-in-Some-clause-faulty c = λ no behind e.
    let line = c.in-Some.line.now in
    let same : line ≡ verdict_line = (same_line line verdict_line c.next.new.self.rest.now behind c.in-Some.ensures.inside refl (sym c.in-Some.ensures.some ∙ e)).0 in
    let yes : c.eq.result ≡ true = c.eq.ensures ∙ (bytes_eq-Decides line c.as_slice.result.now).1 (same ∙ sym c.as_slice.ensures) in
    let f : false ≡ true = sym no ∙ yes in cc

pub returns-in-None-clause-faulty : goal.returns-in-None-clause-faulty
returns-in-None-clause-faulty c = λ no behind e. c.in-None.ensures.none verdict_line behind e
