use Rattle.std.proofs.Common.{◌≡◌, refl, sym, ◌∙◌, ap, subst, ℕ, ◌+◌, ◌<◌, List, length, slice_get, Option, Some, IfSome, Contains}
use Rattle.std.proofs.lemmas.List.{length_push}
use Rattle.hs_types.specs.Interned.{env_of_id}
use Rattle.hs_replica.specs.Masks.{IsMask}
use Rattle.hs_replica.specs.Replica.{ReplicaData}
use Rattle.hs_rules.specs.Joins.{PartialData}
use Rattle.hs_rules.proofs.JoinLemmas.{item_at}
use Rattle.hs_rules.proofs.ExtendLemmas.{own_none, own_more}
use Rattle.hs_rules.proofs.masks.own_masks.Goals as goal

pub returns-then-is_empty-clause-masks : goal.returns-then-is_empty-clause-masks
returns-then-is_empty-clause-masks c = own_none c.args.replica.now.ids c.args.run.now c.new-owns.result.items c.new-owns.ensures.items

pub loop-partial-init : goal.loop-partial-init
loop-partial-init c = record {
  kept = refl;
  long = ap (λ (os : List (Option ℕ)). length os) c.new-owns.ensures.items;
  are = own_none c.args.replica.now.ids c.args.run.now c.new-owns.result.items c.new-owns.ensures.items;
}

pub mask_of-requires : goal.mask_of-requires
mask_of-requires c =
    let item = c.partial-item.result in
    let among : Contains c.args.run.now item = (c.loop-partial.partial-index, c.loop-partial-test.true, sym c.partial-item.is) in
    subst (λ (r : ReplicaData). c.partial.inside.env < length r.ids.envs) (sym c.loop-partial.invariant.kept)
    (subst (λ (n : ℕ). n < length c.args.replica.now.ids.envs) (sym (ap (λ (x : PartialData). x.env) c.partial.view_is)) (c.requires item among))

pub loop-partial-preserved : goal.loop-partial-preserved
loop-partial-preserved c =
    let item = c.partial-item.result in
    let r = c.args.replica.now in
    let k = c.loop-partial.partial-index in
    let owns = c.loop-partial.owns.items in
    let more = c.push.new.self.items in
    let own = c.in_ok-own.own in
    let same = c.loop-partial.invariant.kept in
    let at : slice_get c.args.run.now k ≡ Some item = item_at c.args.run.now k item c.loop-partial-test.true c.partial-item.is in
    let told : IfSome own (IsMask r.ids (length (env_of_id r.ids item.env)) (env_of_id r.ids item.env)) =
    subst (λ (s : ReplicaData). IfSome own (IsMask s.ids (length (env_of_id s.ids item.env)) (env_of_id s.ids item.env))) same
    (subst (λ (y : PartialData). IfSome own (IsMask c.loop-partial.replica.ids (length (env_of_id c.loop-partial.replica.ids y.env)) (env_of_id c.loop-partial.replica.ids y.env))) c.partial.view_is c.in_ok-own.ensures.mask) in
    record {
      kept = c.mask_of.ensures.kept ∙ same;
      long = ap (λ (os : List (Option ℕ)). length os) c.in_ok-push.ensures.ok ∙ (length_push owns own ∙ ap (λ (n : ℕ). n + 1) c.loop-partial.invariant.long);
      are = own_more r.ids c.args.run.now owns more item own c.loop-partial.invariant.are c.in_ok-push.ensures.ok (ap (λ (i : ℕ). slice_get c.args.run.now i) c.loop-partial.invariant.long ∙ at) told;
    }
