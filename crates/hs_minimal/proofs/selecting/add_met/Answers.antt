use Rattle.std.proofs.Common.{sym, ◌∙◌, subst}
use Rattle.hs_types.specs.Interned.{InternerData}
use Rattle.hs_minimal.specs.Growing.{IsGrowing}
use Rattle.hs_minimal.proofs.CoverLemmas.{row_in}
use Rattle.hs_minimal.proofs.GrowingLemmas.{added_in_use}
use Rattle.hs_minimal.proofs.SettlingLemmas.{added_push}
use Rattle.hs_minimal.proofs.selecting.add_met.Goals as goal

pub may_be_met-requires-clause-growing : goal.may_be_met-requires-clause-growing
may_be_met-requires-clause-growing c = subst (λ (K : InternerData). IsGrowing K c.args.growing.now) (sym c.loop-row.invariant.same) c.requires.growing

pub may_be_met-requires-clause-said : goal.may_be_met-requires-clause-said
may_be_met-requires-clause-said c =
    row_in c.args.types.now c.loop-row.types c.loop-row.invariant.same c.row-item.result
    (added_in_use c.args.types.now c.args.growing.now c.requires.growing c.row-item.result (c.requires.said c.row-item.result (c.loop-row.row-index, c.loop-row-test.true, sym c.row-item.is)))

pub loop-row-preserved : goal.loop-row-preserved
loop-row-preserved c = record {
  same = c.may_be_met.ensures ∙ c.loop-row.invariant.same;
  added = added_push c.args.growing.now c.loop-row.rows.items c.push.new.self.items c.row-item.result c.in_ok-push.ensures.items c.loop-row.invariant.added (c.requires.said c.row-item.result (c.loop-row.row-index, c.loop-row-test.true, sym c.row-item.is));
}
