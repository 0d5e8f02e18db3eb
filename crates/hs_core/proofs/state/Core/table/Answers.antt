use Rattle.std.proofs.Common.{◌≡◌, sym, ap, ◌∙◌, Some, slice_get, ◌∷◌, ◌++◌, [], arith, length}
use Rattle.std.proofs.lemmas.List.{take_all}
use Rattle.hs_table.specs.Entries.{EntryData}
use Rattle.hs_types.specs.Interned.{entry_of}
use Rattle.hs_core.specs.Core.{log_of}
use Rattle.hs_core.proofs.Slots.{taken_at}
use Rattle.hs_core.proofs.Stepping.{base_of, fields_of, seen}
use Rattle.hs_core.proofs.state.Core.table.Goals as goal

pub loop-place-preserved : goal.loop-place-preserved
loop-place-preserved c =
    let log = (seen (base_of c.self.inside) (fields_of c.self.inside) c.self.invariant.0 c.self.inside.spare c.args.self.now c.self.view_is).log in
    let e = c.in_ok-tree.field-0 in
    let at : slice_get (log_of c.args.self.now) c.loop-place.place ≡ Some e =
    ap (λ xs. slice_get xs c.loop-place.place) log ∙ c.row.ensures.entry ∙ (λ i. Some (entry_of (sym c.interner-interner.ensures i) c.row.result)) ∙ ap (λ (x : EntryData). Some x) (sym c.in_ok-tree.ensures) in
    record {
      items = c.push_reserved.ensures.items ∙ ap (λ xs. xs ++ e ∷ []) c.loop-place.invariant.items ∙ sym (taken_at (log_of c.args.self.now) c.loop-place.place e at);
      len = omega (arith, c.push_reserved.ensures.len, c.loop-place.invariant.len);
      room = omega (arith, c.push_reserved.ensures.capacity, c.loop-place.invariant.room);
    }

pub returns : goal.returns
returns c =
    let log = (seen (base_of c.self.inside) (fields_of c.self.inside) c.self.invariant.0 c.self.inside.spare c.args.self.now c.self.view_is).log in
    c.loop-place.invariant.items ∙ take_all c.loop-place.place (log_of c.args.self.now) (omega (arith, ap (λ xs. length xs) log, c.len-place-end.ensures.len, c.loop-place-test.false))
