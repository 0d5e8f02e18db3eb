use Rattle.std.proofs.Common.{◌∙◌, sym, subst, List}
use Rattle.hs_scheme.specs.flow.Flow.{IsAscending}
use Rattle.hs_table.specs.Entries.{EntryData, entry_cmp}
use Rattle.hs_table_laws.proofs.Orders.{entry_cmp_total}
use Rattle.hs_weak.specs.Void.{VoidData, void_cmp}
use Rattle.hs_text.proofs.VoidOrder.{void_cmp_total}
use Rattle.hs_app.proofs.EvidenceLemmas.{distinct}
use Rattle.hs_app.proofs.evidence.listed_report.Goals as goal

pub certificate_report-requires-clause-distinct : goal.certificate_report-requires-clause-distinct
certificate_report-requires-clause-distinct c =
    let same = c.as_slice.ensures.value ∙ (c.in_ok-table.ensures ∙ c.in_ok-void.ensures.table) in
    distinct entry_cmp entry_cmp_total c.as_slice.result.now (subst (λ (xs : List EntryData). IsAscending entry_cmp xs) (sym same) c.requires.entries)

pub certificate_report-requires-clause-distinct_void : goal.certificate_report-requires-clause-distinct_void
certificate_report-requires-clause-distinct_void c =
    let same = c.as_slice-2.ensures.value ∙ c.in_ok-void.ensures.pairs in
    distinct void_cmp void_cmp_total c.as_slice-2.result.now (subst (λ (xs : List VoidData). IsAscending void_cmp xs) (sym same) c.requires.pairs)
