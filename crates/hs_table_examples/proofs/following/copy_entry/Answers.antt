use Rattle.std.proofs.Common.{sym, ap, ◌∙◌, List, [], ◌∷◌, ◌++◌, take}
use Rattle.hs_table.specs.Entries.{EntryData}
use Rattle.hs_types.specs.Interned.{InternerData, entry_of}
use Rattle.hs_core.proofs.Slots.{taken_at}
use Rattle.hs_table_examples.proofs.following.copy_entry.Goals as goal

pub returns : goal.returns
returns c =
    let log = c.args.from.now.log in
    c.in_ok-append.ensures.ok
    ∙ ap (λ (xs : List EntryData). xs ++ entry_of c.interner.result.now c.row.result ∷ []) c.requires.before
    ∙ ap (λ (ids : InternerData). take c.args.place log ++ entry_of ids c.row.result ∷ []) c.interner.ensures
    ∙ sym (taken_at log c.args.place (entry_of c.args.from.now.ids c.row.result) c.row.ensures.entry)
