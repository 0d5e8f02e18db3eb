use Rattle.hs_reads.proofs.ListLemmas.{row_pushed}
use Rattle.hs_minimal.proofs.rows.PointRows.push.Goals as goal

pub returns : goal.returns
returns c = row_pushed (λ r. r.items) c.self.inside.points.items c.args.point c.index_mut-rows.result.now c.push.new.self c.args.self.now c.self.view_is c.requires c.index_mut-rows.ensures.value c.args.row c.in_ok-push.ensures.items
