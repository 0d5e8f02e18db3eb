use Rattle.std.proofs.Common.{subst, IsTrue, List, map, ◌↔◌}
use Rattle.hs_table.specs.Entries.{entry_cmp}
use Rattle.hs_types.specs.Interned.{RowData, entry_of}
use Rattle.hs_numbered.specs.Certificates.{CertificateData, IsAboveLast}
use Rattle.hs_numbered.proofs.Above.{above_at_end}
use Rattle.hs_numbered.proofs.certificate.NumberedCertificate.is_above_last.Goals as goal

pub returns-in-len1-up : goal.returns-in-len1-up
returns-in-len1-up c =
    let I = c.self.inside.interner in
    let row = c.args.row.now in
    subst (λ (d : CertificateData). IsTrue c.eq.result ↔ IsAboveLast entry_cmp d.table (entry_of d.numbers row)) c.self.view_is
    (subst (λ (rs : List RowData). IsTrue c.eq.result ↔ IsAboveLast entry_cmp (map (entry_of I) rs) (entry_of I row)) c.as_slice.ensures.value
    (above_at_end (entry_of I) entry_cmp (entry_of I row) c.as_slice.result.now c.last-item.result c.in-len1-up.len_at_least c.last-item.is c.compare_rows.result c.eq.result c.eq.ensures c.compare_rows.ensures))
