use Rattle.std.proofs.Common.{ℕ}
use Rattle.smallvec.specs.SmallVec.{SmallVec}
use Rattle.hs_flow.proofs.ListLemmas.{row_pushed}
use Rattle.hs_flow.proofs.short_lists.ShortLists.push.Goals as goal

pub returns : goal.returns
returns c = record {
  pushed = row_pushed (λ (r : SmallVec ℕ). r.items) c.self.inside.rows.items c.args.number c.index_mut-row.result.now c.push.new.self c.args.self.now c.self.view_is c.requires c.index_mut-row.ensures.value c.args.item c.in_ok-push.ensures.ok;
}
