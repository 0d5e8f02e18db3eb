use Rattle.std.proofs.Common.{◌∙◌, ap, subst, Contains, ◌⊎◌, ◌↔◌, List, OnOk}
use Rattle.hs_table.specs.Entries.{EntryData}
use Rattle.hs_table_plain.specs.Enumeration as plain
use Rattle.hs_table_plain.proofs.following.add_typed.Goals as goal

pub returns-clause-each : goal.returns-clause-each
returns-clause-each c =
    subst (λ (xs : List EntryData). OnOk c.add_new.result ((e : EntryData) → Contains c.add_new.new.found.items e ↔ (Contains c.args.found.now.items e ⊎ Contains xs e)))
    (c.as_slice.ensures.value ∙ (c.in_ok-entries.ensures ∙ ap (plain.through c.args.log.now c.args.args.now c.args.ty.now) c.in_ok-vec.ensures.items)) c.add_new.ensures.each
