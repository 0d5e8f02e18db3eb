use Rattle.std.proofs.Common.{subst, IsTrue, List, map, ◌↔◌}
use Rattle.hs_weak.specs.Void.{void_cmp}
use Rattle.hs_numbered.specs.Certificates.{VoidRowData, void_of, CertificateData, IsAboveLast}
use Rattle.hs_numbered.proofs.Above.{above_at_end}
use Rattle.hs_numbered.proofs.certificate.NumberedCertificate.is_above_last_void.Goals as goal

pub returns-in-len1-up : goal.returns-in-len1-up
returns-in-len1-up c =
    let I = c.self.inside.interner in
    let row = c.args.row.now in
    subst (λ (d : CertificateData). IsTrue c.eq.result ↔ IsAboveLast void_cmp d.void (void_of d.numbers row)) c.self.view_is
    (subst (λ (rs : List VoidRowData). IsTrue c.eq.result ↔ IsAboveLast void_cmp (map (void_of I) rs) (void_of I row)) c.as_slice.ensures.value
    (above_at_end (void_of I) void_cmp (void_of I row) c.as_slice.result.now c.last-item.result c.in-len1-up.len_at_least c.last-item.is c.compare_void_rows.result c.eq.result c.eq.ensures c.compare_void_rows.ensures))
