use Rattle.hs_scheme.proofs.Lists.{on_err}
use Rattle.hs_flow.proofs.ListLemmas.{row_pushed, row_same}
use Rattle.hs_flow.proofs.lists.Lists.push.Goals as goal

pub returns-in_err-push-clause-same : goal.returns-in_err-push-clause-same
returns-in_err-push-clause-same g c =
    on_err c.from_residual.result _ (row_same (λ r. r.items) c.self.inside.rows.items c.args.number c.index_mut-row.result.now c.push.new.self c.args.self.now c.self.view_is c.requires c.index_mut-row.ensures.value c.in_err-push.ensures.items)

pub returns-clause-pushed : goal.returns-clause-pushed
returns-clause-pushed g c =
    row_pushed (λ r. r.items) c.self.inside.rows.items c.args.number c.index_mut-row.result.now c.push.new.self c.args.self.now c.self.view_is c.requires c.index_mut-row.ensures.value c.args.item c.in_ok-push.ensures.items
