use Rattle.std.proofs.Common.{rules, sym, ◌∙◌, subst}
use Rattle.std.proofs.lemmas.List.Sorted.{IsNonDecreasingBy-from_sort_by_key}
use Rattle.hs_types.specs.Interned.{InternerData, RowData}
use Rattle.hs_minimal.specs.Growing.{IsGrowing}
use Rattle.hs_minimal.proofs.SettlingLemmas.{added_none, added_moved}
use Rattle.hs_minimal.proofs.selecting.selected.Goals as goal

pub add_said-requires-clause-rows : goal.add_said-requires-clause-rows
add_said-requires-clause-rows c = added_none c.args.growing.now c.new-rows.result.items c.new-rows.ensures.items

pub add_other_args-requires-clause-growing : goal.add_other_args-requires-clause-growing
add_other_args-requires-clause-growing c = subst (λ (K : InternerData). IsGrowing K c.args.growing.now) (sym (c.interner.ensures ∙ c.add_said.ensures.same)) c.requires.growing

pub returns-clause-added : goal.returns-clause-added
returns-clause-added c = added_moved c.args.growing.now c.add_other_args.new.rows.items c.sort_unstable_by_key.new.self.items c.sort_unstable_by_key.ensures.permutation c.in_ok-add_other_args.ensures

pub returns-clause-order : goal.returns-clause-order
returns-clause-order c = IsNonDecreasingBy-from_sort_by_key (λ (r : RowData). r.point) _ c.sort_unstable_by_key.ensures.sorted (λ a r q k. search rules)
