use Rattle.std.proofs.Common.{refl, ◌∙◌, ap, sym, subst, map, length, All, ◌<◌, Bor}
use Rattle.std.specs.List.{flat_map}
use Rattle.std.proofs.lemmas.List.Folds.{flat_map-map}
use Rattle.hs_table.specs.Entries.{EntryData}
use Rattle.hs_text.specs.Report.{entry_line}
use Rattle.hs_text.proofs.Ascending.{points_within}
use Rattle.hs_text.proofs.Puts.{puts_as}
use Rattle.hs_text.proofs.table.push_table.Goals as goal

pub push_entries-requires : goal.push_entries-requires
push_entries-requires c =
    subst (All (λ (r : Bor EntryData). r.now.point < length c.args.problem.now.points.points)) (sym c.as_slice.ensures.value)
    (points_within c.args.problem.now c.args.table.now c.in-Ok.entries.items c.requires.shape c.in-Ok.ensures.same)

pub returns-in-Ok : goal.returns-in-Ok
returns-in-Ok c =
    let refs = c.in-Ok.entries.items in
    let line = entry_line c.args.problem.now in
    let entries = map (λ (r : Bor EntryData). r.now) refs in
    λ whole. (
      flat_map line entries,
      record { entries = entries; ascending = c.in-Ok.ensures.ascending; same = c.in-Ok.ensures.same; is = refl },
      puts_as (ap (flat_map (λ (r : Bor EntryData). line r.now)) c.as_slice.ensures.value ∙ sym (flat_map-map line (λ (r : Bor EntryData). r.now) refs)) c.push_entries.ensures,
    )

pub returns-in-Err : goal.returns-in-Err
returns-in-Err c = λ whole. absurd (c.refuse.ensures whole)
