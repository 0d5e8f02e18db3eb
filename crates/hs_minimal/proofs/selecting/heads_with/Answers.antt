use Rattle.std.proofs.Common.{sym, subst, List, Contains}
use Rattle.hs_types.specs.Interned.{RowData}
use Rattle.hs_minimal.specs.Growing.{AreAdded}
use Rattle.hs_minimal.proofs.GrowingLemmas.{added_in_use}
use Rattle.hs_minimal.proofs.SettlingLemmas.{added_more, added_none, added_push}
use Rattle.hs_minimal.proofs.selecting.heads_with.Goals as goal

pub asks_new-requires-clause-said : goal.asks_new-requires-clause-said
asks_new-requires-clause-said c =
    let g = c.args.growing.now in
    let I = c.args.types.now in
    let said = c.said-item.result in
    let all : AreAdded g c.add_head.new.rows.items = added_more g I c.requires.growing _ c.new-all.result.items c.add_head.new.rows.items c.in_ok-add_head.ensures (added_none g c.new-all.result.items c.new-all.ensures.items) in
    added_in_use I g c.requires.growing said (all said (subst (λ (z : List RowData). Contains z said) c.as_slice-said-items.ensures.value (c.loop-said.said-index, c.loop-said-test.true, sym c.said-item.is)))

pub asks_new-requires-clause-new : goal.asks_new-requires-clause-new
asks_new-requires-clause-new c = λ r m. added_in_use c.args.types.now c.args.growing.now c.requires.growing r (c.requires.new r m)

pub loop-said-preserved : goal.loop-said-preserved
loop-said-preserved c =
    let g = c.args.growing.now in
    let I = c.args.types.now in
    let said = c.said-item.result in
    let all : AreAdded g c.add_head.new.rows.items = added_more g I c.requires.growing _ c.new-all.result.items c.add_head.new.rows.items c.in_ok-add_head.ensures (added_none g c.new-all.result.items c.new-all.ensures.items) in
    added_push g c.loop-said.chosen.items c.push.new.self.items said c.in_ok-push.ensures.items c.loop-said.invariant (all said (subst (λ (z : List RowData). Contains z said) c.as_slice-said-items.ensures.value (c.loop-said.said-index, c.loop-said-test.true, sym c.said-item.is)))
