use Rattle.std.proofs.Common.{◌≡◌, ◌∙◌, ap, subst, List, map}
use Rattle.hs_table.specs.Entries.{EntryData}
use Rattle.hs_table.specs.Tables.{HasStart}
use Rattle.hs_types.specs.Interned.{InternerData, entry_of}
use Rattle.hs_core.specs.Core.{log_of}
use Rattle.hs_app.proofs.counting.instances_of.Goals as goal

pub count_rows-checked-requires-clause-lacks : goal.count_rows-checked-requires-clause-lacks
count_rows-checked-requires-clause-lacks c =
    let rows = c.as_slice.result.now in
    let told : map (entry_of c.into_interner-types.result) rows ≡ log_of c.args.core =
    ap (λ (I : InternerData). map (entry_of I) rows) c.into_interner-types.ensures ∙ (ap (map (entry_of c.args.core.ids)) c.as_slice.ensures.value ∙ c.in-Ok.ensures.entries) in
    λ start. c.requires.lacks (subst (λ (T : List EntryData). HasStart c.args.problem.now T) told start)
