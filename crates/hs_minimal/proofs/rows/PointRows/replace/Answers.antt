use Rattle.hs_reads.proofs.ListLemmas.{row_set}
use Rattle.hs_minimal.proofs.rows.PointRows.replace.Goals as goal

pub returns-clause-each : goal.returns-clause-each
returns-clause-each c = row_set (λ r. r.items) c.self.inside.points.items c.args.point c.index_mut.result.now c.args.rows c.args.self.now c.self.view_is c.requires c.index_mut.ensures.value
