use Rattle.std.proofs.Common.{◌≡◌, sym, ap, ◌∙◌, ◌+◌, Some, slice_get, take, ◌∷◌, ◌++◌, []}
use Rattle.std.proofs.lemmas.List.{take_more}
use Rattle.std.proofs.lemmas.Option.{get_or_from_slice_get}
use Rattle.hs_table_laws.proofs.Places.{within_from}
use Rattle.hs_table.specs.Entries.{EntryData}
use Rattle.hs_types.specs.Interned.{entry_of}
use Rattle.hs_table_examples.proofs.growing.trees.Goals as goal

pub loop-place-preserved : goal.loop-place-preserved
loop-place-preserved c =
    let log = c.args.replica.now.log in
    let i = c.loop-place.place in
    let e = c.in_ok-tree.field-0 in
    let at : slice_get log i ≡ Some e = c.row.ensures.entry ∙ (λ j. Some (entry_of (sym c.interner.ensures j) c.row.result)) ∙ ap (λ (x : EntryData). Some x) (sym c.in_ok-tree.ensures) in
    let more : take (i + 1) log ≡ take i log ++ e ∷ [] = take_more log i e (within_from log i e at) ∙ ap (λ y. take i log ++ y ∷ []) (get_or_from_slice_get log i e e at) in
    c.in_ok-push.ensures.items ∙ ap (λ xs. xs ++ e ∷ []) c.loop-place.invariant ∙ sym more
