use Rattle.std.proofs.Common.{sym, ◌∙◌, ap, subst, List, [], ◌∷◌, ◌++◌, map, All, arith}
use Rattle.std.proofs.lemmas.List.{take_all, map_push}
use Rattle.std.proofs.lemmas.List.Elements.{All-push}
use Rattle.hs_types.specs.Interned.{InternerData, RowData, IsRow, entry_of}
use Rattle.hs_core.proofs.Slots.{taken_at}
use Rattle.hs_app.proofs.counting.rows_of.Goals as goal

pub loop-place-preserved : goal.loop-place-preserved
loop-place-preserved c =
    let ids = c.replica-replica.result.now.ids in
    let log = c.replica-replica.result.now.log in
    let r = c.row.result in
    let h = c.loop-place.invariant in
    record {
      range = subst (λ (rs : List RowData). All (IsRow ids) rs) (sym c.push_reserved.ensures.items) (All-push (IsRow ids) c.loop-place.rows.items r h.range c.row.ensures.row);
      entries = ap (map (entry_of ids)) c.push_reserved.ensures.items ∙ (map_push (entry_of ids) c.loop-place.rows.items r ∙ (ap (λ es. es ++ entry_of ids r ∷ []) h.entries ∙ sym (taken_at log c.loop-place.place (entry_of ids r) c.row.ensures.entry)));
      len = omega (arith, c.push_reserved.ensures.len, h.len);
      room = omega (arith, c.push_reserved.ensures.capacity, h.room);
    }

pub returns-clause-rows : goal.returns-clause-rows
returns-clause-rows c = subst (λ (I : InternerData). All (IsRow I) c.loop-place.rows.items) c.replica-replica.ensures.ids c.loop-place.invariant.range

pub returns-clause-entries : goal.returns-clause-entries
returns-clause-entries c =
    let rows = c.loop-place.rows.items in
    ap (λ (I : InternerData). map (entry_of I) rows) (sym c.replica-replica.ensures.ids)
    ∙ (c.loop-place.invariant.entries ∙ (take_all c.loop-place.place c.replica-replica.result.now.log (omega (arith, c.len-place-end.ensures.len, c.loop-place-test.false)) ∙ c.replica-replica.ensures.log))
