use Rattle.std.proofs.Common.{◌≡◌, ◌<◌, ◌∙◌, sym, ap, subst, ℕ, List, [], All, length, map, slice_get, Some}
use Rattle.std.proofs.lemmas.List.{take_all}
use Rattle.std.proofs.lemmas.Result.{IfOk-weaker}
use Rattle.hs_table.specs.Types.{TypeTree}
use Rattle.hs_table.specs.Entries.{Env}
use Rattle.hs_types.specs.Interned.{set_of_id, Grows}
use Rattle.hs_types.proofs.Numbers.{Grows-trans}
use Rattle.hs_numbered.specs.Trees.{IsSomeSet}
use Rattle.hs_numbered.proofs.TreeLemmas.{set_some, range_more, same_more}
use Rattle.hs_numbered.proofs.import.import_env.Goals as goal

pub import_set-requires : goal.import_set-requires
import_set-requires c =
    let same = c.as_slice.ensures.value ∙ c.set.view_is in
    subst (λ (xs : List TypeTree). IsSomeSet xs) (sym same) (set_some c.args.env.now c.loop-set.set-index c.set-item.result c.loop-set-test.true c.set-item.is c.requires)

pub loop-set-preserved : goal.loop-set-preserved
loop-set-preserved c =
    let J = c.loop-set.interner in
    let K = c.import_set.new.interner in
    let g : Grows J K = c.import_set.ensures.grows in
    let h = c.loop-set.invariant in
    let own = c.in_ok-import_set.field-0 in
    let at : slice_get K.sets own ≡ Some c.set-item.result = c.in_ok-import_set.ensures.ok ∙ ap (λ (s : List TypeTree). Some s) (c.as_slice.ensures.value ∙ c.set.view_is) in
    record {
      grows = Grows-trans c.args.interner.now J K h.grows g;
      range = range_more J.sets K.sets [] c.loop-set.sets.items c.push.new.self.items c.args.env.now c.loop-set.set-index own c.set-item.result g.sets h.range h.same at c.loop-set-test.true c.set-item.is c.in_ok-push.ensures.ok;
      same = same_more J.sets K.sets [] c.loop-set.sets.items c.push.new.self.items c.args.env.now c.loop-set.set-index own c.set-item.result g.sets h.range h.same at c.loop-set-test.true c.set-item.is c.in_ok-push.ensures.ok;
    }

pub returns-in_err-import_set-clause-grows : goal.returns-in_err-import_set-clause-grows
returns-in_err-import_set-clause-grows c = Grows-trans c.args.interner.now c.loop-set.interner c.import_set.new.interner c.loop-set.invariant.grows c.import_set.ensures.grows

pub returns-in_err-push-clause-grows : goal.returns-in_err-push-clause-grows
returns-in_err-push-clause-grows c = Grows-trans c.args.interner.now c.loop-set.interner c.import_set.new.interner c.loop-set.invariant.grows c.import_set.ensures.grows

pub env-requires : goal.env-requires
env-requires c = subst (λ (zs : List ℕ). All (λ i. i < length c.loop-set.interner.sets) zs) (sym c.as_slice-2.ensures) c.loop-set.invariant.range

pub returns-clause-ok : goal.returns-clause-ok
returns-clause-ok c =
    let J = c.loop-set.interner in
    let K = c.env.new.self in
    let ids = c.as_slice-2.result.now in
    let all : map (set_of_id J) ids ≡ c.args.env.now =
    ap (λ (zs : List ℕ). map (set_of_id J) zs) c.as_slice-2.ensures ∙ (c.loop-set.invariant.same ∙ take_all c.loop-set.set-index c.args.env.now c.loop-set-test.false) in
    IfOk-weaker c.env.result (λ own. slice_get K.envs own ≡ Some (map (set_of_id J) ids)) (λ own. slice_get K.envs own ≡ Some c.args.env.now)
    (λ own at. at ∙ ap (λ (e : Env). Some e) all) c.env.ensures.ok

pub returns-clause-grows : goal.returns-clause-grows
returns-clause-grows c = Grows-trans c.args.interner.now c.loop-set.interner c.env.new.self c.loop-set.invariant.grows c.env.ensures.grows
