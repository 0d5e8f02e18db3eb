use Rattle.std.proofs.Common.{sym, ap, ◌∙◌, List, [], ◌∷◌, ◌++◌, take}
use Rattle.std.proofs.lemmas.List.{append-nil}
use Rattle.hs_table.specs.Entries.{EntryData}
use Rattle.hs_types.specs.Interned.{InternerData, entry_of}
use Rattle.hs_core.proofs.Slots.{taken_at}
use Rattle.hs_shared.proofs.Leaving.{done_mapped, done_or}
use Rattle.hs_shared.proofs.hold.copy_entry.Goals as goal

pub returns-clause-ok : goal.returns-clause-ok
returns-clause-ok c =
    let log = c.args.from.now.log in
    done_mapped c.append.result
    (λ h. h ∙ ap (λ (xs : List EntryData). xs ++ entry_of c.interner.result.now c.row.result ∷ []) c.requires.before
    ∙ ap (λ (ids : InternerData). take c.args.place log ++ entry_of ids c.row.result ∷ []) c.interner.ensures
    ∙ sym (taken_at log c.args.place (entry_of c.args.from.now.ids c.row.result) c.row.ensures.entry))
    c.append.ensures.ok

pub returns-clause-more : goal.returns-clause-more
returns-clause-more c =
    done_or c.append.result
    (λ h. (entry_of c.interner.result.now c.row.result ∷ [], sym h))
    (λ h. ([], append-nil c.args.to.now.log ∙ sym h))
    c.append.ensures.ok c.append.ensures.err
