use Rattle.hs_reads.proofs.ListLemmas.{row_pushed}
use Rattle.hs_reads.proofs.lists.Lists.push.Goals as goal

pub returns : goal.returns
returns g c = record {
  pushed = row_pushed (λ r. r.items) c.self.inside.rows.items c.args.number c.index_mut-row.result.now c.push.new.self c.args.self.now c.self.view_is c.requires c.index_mut-row.ensures.value c.args.item c.in_ok-push.ensures.items;
}
