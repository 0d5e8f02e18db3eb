use Rattle.std.proofs.Common.{ap, ◌∙◌, Some}
use Rattle.hs_table.specs.Entries.{Env}
use Rattle.hs_table_laws.proofs.Sets.{no_set}
use Rattle.hs_types.proofs.MakeLemmas.{empty_sets, empty_range}
use Rattle.hs_types.proofs.Numbers.{Grows-refl, Grows-trans}
use Rattle.hs_types.proofs.nodes.Nodes.empty_env.Goals as goal

pub returns-clause-ok : goal.returns-clause-ok
returns-clause-ok c =
    c.in_ok-id.ensures.ok
    ∙ ap (λ (e : Env). Some e) (empty_sets c.add_set.new.self c.args.n c.in_ok-empty.empty c.in_ok-sets.sets.items c.as_slice-2.result.now c.in_ok-empty.ensures.ok (c.in_ok-sets.ensures.items_if_clones_equal (λ y e. e)) c.as_slice-2.ensures)

pub returns-then-is_empty_env-clause-ok : goal.returns-then-is_empty_env-clause-ok
returns-then-is_empty_env-clause-ok c = c.is_empty_env.ensures c.if-is_empty_env.true

pub returns-then-is_empty_env-clause-grows : goal.returns-then-is_empty_env-clause-grows
returns-then-is_empty_env-clause-grows c = Grows-refl c.args.self.now

pub add_set-requires-clause-ascends : goal.add_set-requires-clause-ascends
add_set-requires-clause-ascends c = no_set

pub add_env-requires : goal.add_env-requires
add_env-requires c =
    empty_range c.add_set.new.self c.args.n c.in_ok-empty.empty c.in_ok-sets.sets.items c.as_slice-2.result.now c.in_ok-empty.ensures.ok (c.in_ok-sets.ensures.items_if_clones_equal (λ y e. e)) c.as_slice-2.ensures

pub returns-in_err-id-clause-grows : goal.returns-in_err-id-clause-grows
returns-in_err-id-clause-grows c = Grows-trans c.args.self.now c.add_set.new.self c.add_env.new.self c.add_set.ensures.grows c.add_env.ensures.grows

pub returns-in_err-keep-clause-grows : goal.returns-in_err-keep-clause-grows
returns-in_err-keep-clause-grows c = Grows-trans c.args.self.now c.add_set.new.self c.add_env.new.self c.add_set.ensures.grows c.add_env.ensures.grows

pub returns-clause-grows : goal.returns-clause-grows
returns-clause-grows c = Grows-trans c.args.self.now c.add_set.new.self c.add_env.new.self c.add_set.ensures.grows c.add_env.ensures.grows
