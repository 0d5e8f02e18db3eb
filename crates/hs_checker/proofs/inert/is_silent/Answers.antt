use Rattle.std.proofs.Common.{◌≡◌, sym, ◌∙◌, ap, length, map, Bor}
use Rattle.std.proofs.lemmas.Bool.{eqb-true}
use Rattle.hs_table.specs.Entries.{EntryData}
use Rattle.hs_table_laws.proofs.Members.{from_map}
use Rattle.hs_types.specs.Interned.{RowData, entry_of}
use Rattle.hs_flow_checker.proofs.Parts.{nothing_in}
use Rattle.hs_checker.proofs.IndexLemmas.{length-map}
use Rattle.hs_checker.proofs.inert.is_silent.Goals as goal

pub returns-then-is_empty : goal.returns-then-is_empty
returns-then-is_empty c = λ silent I.
    let rows = c.at_point.result.now in
    let heads = c.at_point-then-is_empty.result.now in
    let f : Bor RowData → RowData = λ r. r.now in
    let no_rows : length (map f rows) ≡ 0 = length-map f rows ∙ eqb-true (length rows) 0 (sym c.is_empty.ensures ∙ c.if-is_empty.true) in
    let no_heads : length heads ≡ 0 = eqb-true (length heads) 0 (sym c.is_empty-then-is_empty.ensures ∙ silent) in
    record {
      becomes = λ h there is. nothing_in heads h no_heads ((c.at_point-then-is_empty.ensures.has h).1 (there, is));
      has = λ e there is.
          let s = from_map (entry_of I) c.args.index.now e there in
          nothing_in (map f rows) s.item no_rows ((c.at_point.ensures.has s.item).1 (s.there, sym (ap (λ (z : EntryData). z.point) s.is) ∙ is));
    }
