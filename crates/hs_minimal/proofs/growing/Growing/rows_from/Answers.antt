use Rattle.std.proofs.Common.{rules}
use Rattle.std.proofs.lemmas.List.Sorted.{IsNonDecreasingBy-from_sort_by_key}
use Rattle.hs_scheme.proofs.Lists.{Contains-at}
use Rattle.hs_types.specs.Interned.{RowData}
use Rattle.hs_minimal.proofs.SettlingLemmas.{added_none, added_push, added_moved}
use Rattle.hs_minimal.proofs.growing.Growing.rows_from.Goals as goal

pub loop-own-init : goal.loop-own-init
loop-own-init c = added_none c.args.self.now c.new-rows.result.items c.new-rows.ensures.items

pub loop-own-preserved : goal.loop-own-preserved
loop-own-preserved c =
    added_push c.args.self.now c.loop-own.rows.items c.push.new.self.items c.row.result c.in_ok-push.ensures.items c.loop-own.invariant (Contains-at c.args.self.now.history c.loop-own.own c.row.result c.row.ensures)

pub returns-clause-added : goal.returns-clause-added
returns-clause-added c = added_moved c.args.self.now c.loop-own.rows.items c.sort_unstable_by_key.new.self.items c.sort_unstable_by_key.ensures.permutation c.loop-own.invariant

pub returns-clause-order : goal.returns-clause-order
returns-clause-order c = IsNonDecreasingBy-from_sort_by_key (λ (r : RowData). r.point) _ c.sort_unstable_by_key.ensures.sorted (λ a r q k. search rules)
