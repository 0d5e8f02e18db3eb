use Rattle.std.proofs.Common.{◌≡◌, ◌<◌, ◌∙◌, sym, ap, subst, ℕ, List, [], All, length, map, Some, arith}
use Rattle.hs_table.specs.Entries.{Env}
use Rattle.hs_types.specs.Interned.{set_of_id, env_of_id, Grows}
use Rattle.hs_types.proofs.ListLemmas.{more_range, more_same, made_all}
use Rattle.hs_types.proofs.OrderLemmas.{member_within}
use Rattle.hs_types.proofs.Numbers.{Grows-trans}
use Rattle.hs_types.specs.declared.translations.Translation.{Translation}
use Rattle.hs_types.specs.Translations.{ImportedData, AreFound}
use Rattle.hs_types.proofs.TranslationLemmas.{more_envs, found_grow}
use Rattle.hs_types.proofs.nodes.Nodes.import_env.Goals as goal

pub loop-set-preserved : goal.loop-set-preserved
loop-set-preserved c =
    let J = c.loop-set.self in
    let K = c.import_set.new.self in
    let g : Grows J K = c.import_set.ensures.grows in
    let h = c.loop-set.invariant in
    let F = set_of_id c.args.from.now in
    record {
      found = c.import_set.ensures.found;
      grows = Grows-trans c.args.self.now J K h.grows g;
      range = more_range J.sets K.sets [] F c.loop-set.own_sets.items c.push.new.self.items c.sets-sets.result.now c.loop-set.set-index c.in_ok-import_set.field-0 c.set-item.result
          g.sets h.range h.same c.in_ok-import_set.ensures.ok c.loop-set-test.true c.set-item.is c.in_ok-push.ensures.ok;
      same = more_same J.sets K.sets [] F c.loop-set.own_sets.items c.push.new.self.items c.sets-sets.result.now c.loop-set.set-index c.in_ok-import_set.field-0 c.set-item.result
          g.sets h.range h.same c.in_ok-import_set.ensures.ok c.loop-set-test.true c.set-item.is c.in_ok-push.ensures.ok;
    }

pub import_set-requires : goal.import_set-requires
import_set-requires c = record {
  id = member_within (length c.args.from.now.sets) c.sets-sets.result.now c.loop-set.set-index c.set-item.result c.sets-sets.ensures.range c.loop-set-test.true c.set-item.is;
  found = c.loop-set.invariant.found;
}

pub returns-in_err-import_set-clause-grows : goal.returns-in_err-import_set-clause-grows
returns-in_err-import_set-clause-grows c = Grows-trans c.args.self.now c.loop-set.self c.import_set.new.self c.loop-set.invariant.grows c.import_set.ensures.grows

pub returns-in_err-push-clause-grows : goal.returns-in_err-push-clause-grows
returns-in_err-push-clause-grows c = Grows-trans c.args.self.now c.loop-set.self c.import_set.new.self c.loop-set.invariant.grows c.import_set.ensures.grows

pub add_env-requires : goal.add_env-requires
add_env-requires c = subst (λ (zs : List ℕ). All (λ i. i < length c.loop-set.self.sets) zs) (sym c.as_slice.ensures) c.loop-set.invariant.range

pub returns-clause-ok : goal.returns-clause-ok
returns-clause-ok c =
    let I = c.args.from.now in
    let J = c.loop-set.self in
    let all : map (set_of_id J) c.loop-set.own_sets.items ≡ env_of_id I c.args.id =
    made_all (set_of_id I) c.sets-sets.result.now (map (set_of_id J) c.loop-set.own_sets.items) (env_of_id I c.args.id) c.loop-set.set-index c.loop-set.invariant.same (omega (arith, c.loop-set-test.false)) c.sets-sets.ensures.sets in
    c.in_ok-own.ensures.ok ∙ ap (λ (e : Env). Some e) (ap (λ (zs : List ℕ). map (set_of_id J) zs) c.as_slice.ensures ∙ all)

pub returns-clause-found : goal.returns-clause-found
returns-clause-found c =
    let f : ImportedData = record { types = c.found-2.inside.types.pairs.items; sets = c.found-2.inside.sets.pairs.items; envs = c.found-2.inside.envs.pairs.items } in
    more_envs c.args.from.now c.add_env.new.self f c.keep.new.self.pairs.items c.stored-2.result c.args.id c.stored-3.result c.in_ok-own.own
    (subst (λ (g : ImportedData). AreFound c.args.from.now c.add_env.new.self g) (sym c.found-2.view_is)
    (found_grow c.args.from.now c.loop-set.self c.add_env.new.self c.loop-set.found c.add_env.ensures.grows c.loop-set.invariant.found))
    c.stored-2.ensures c.stored-3.ensures (returns-clause-ok c) c.in_ok-keep.ensures.ok

pub returns-in_err-keep-clause-found : goal.returns-in_err-keep-clause-found
returns-in_err-keep-clause-found c =
    let f : ImportedData = record { types = c.found-2.inside.types.pairs.items; sets = c.found-2.inside.sets.pairs.items; envs = c.found-2.inside.envs.pairs.items } in
    subst (λ (pairs : List Translation). AreFound c.args.from.now c.add_env.new.self (record { types = f.types; sets = f.sets; envs = pairs })) (sym c.in_err-keep.ensures.err)
    (subst (λ (g : ImportedData). AreFound c.args.from.now c.add_env.new.self g) (sym c.found-2.view_is)
    (found_grow c.args.from.now c.loop-set.self c.add_env.new.self c.loop-set.found c.add_env.ensures.grows c.loop-set.invariant.found))

pub returns-in_err-own-clause-found : goal.returns-in_err-own-clause-found
returns-in_err-own-clause-found c = found_grow c.args.from.now c.loop-set.self c.add_env.new.self c.loop-set.found c.add_env.ensures.grows c.loop-set.invariant.found

pub returns-clause-grows : goal.returns-clause-grows
returns-clause-grows c = Grows-trans c.args.self.now c.loop-set.self c.add_env.new.self c.loop-set.invariant.grows c.add_env.ensures.grows
