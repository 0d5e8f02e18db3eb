use Rattle.std.proofs.Common.{◌≡◌, refl, ap, length, slice_get, Some, Bor}
use Rattle.std.specs.List.{flat_map}
use Rattle.std.proofs.lemmas.List.{take_all}
use Rattle.std.proofs.lemmas.Option.{slice_get_read}
use Rattle.hs_table.specs.Entries.{EntryData}
use Rattle.hs_text.specs.Report.{entry_line}
use Rattle.hs_text.proofs.Puts.{puts_none, puts_then, puts_as, flat_map-more}
use Rattle.hs_text.proofs.table.push_entries.Goals as goal

pub loop-entry-init : goal.loop-entry-init
loop-entry-init c = puts_none _

pub loop-entry-preserved : goal.loop-entry-preserved
loop-entry-preserved c =
    let entries = c.args.entries.now in
    let n = c.loop-entry.entry-index in
    let e = c.entry-item.result in
    let at : slice_get entries n ≡ Some e = slice_get_read entries (length entries) n e refl c.loop-entry-test.true c.entry-item.is in
    puts_as (flat_map-more (λ (r : Bor EntryData). entry_line c.args.problem.now r.now) entries n e at) (puts_then c.loop-entry.invariant c.push_entry_line.ensures)

pub returns : goal.returns
returns c =
    puts_as (ap (flat_map (λ (r : Bor EntryData). entry_line c.args.problem.now r.now)) (take_all _ c.args.entries.now c.loop-entry-test.false)) c.loop-entry.invariant
