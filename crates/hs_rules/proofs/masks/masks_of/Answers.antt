use Rattle.std.proofs.Common.{◌≡◌, sym, ◌∙◌, ap, subst, ℕ, ◌+◌, ◌<◌, List, length, get_or, slice_get, Option, Some, IfSome, Contains}
use Rattle.std.proofs.lemmas.List.{length_push}
use Rattle.std.proofs.lemmas.List.Elements.{Contains-get_or}
use Rattle.hs_types.specs.Interned.{env_of_id, entry_of}
use Rattle.hs_replica.specs.Masks.{IsMask}
use Rattle.hs_replica.specs.Replica.{ReplicaData}
use Rattle.hs_rules.specs.Slots.{FilledData}
use Rattle.hs_rules.specs.Joins.{IsMaskAt}
use Rattle.hs_rules.proofs.ExtendLemmas.{one_mask_more}
use Rattle.hs_rules.proofs.masks.masks_of.Goals as goal

pub row-env-requires : goal.row-env-requires
row-env-requires c =
    let items = c.as_slice-place-items.result.now in
    let k = c.loop-place.place-index in
    subst (λ (r : ReplicaData). get_or items k 0 < length r.log) (sym c.loop-place.invariant.kept)
    (c.requires (get_or items k 0) (subst (λ (xs : List ℕ). Contains xs (get_or items k 0)) (c.as_slice-place-items.ensures ∙ ap (λ (f : FilledData). f.places) c.slot.view_is) (Contains-get_or items k 0 c.loop-place-test.true)))

pub loop-place-preserved : goal.loop-place-preserved
loop-place-preserved c =
    let items = c.as_slice-place-items.result.now in
    let k = c.loop-place.place-index in
    let r = c.args.replica.now in
    let same = c.loop-place.invariant.kept in
    let row = c.row-env.result in
    let at : slice_get r.log (get_or items k 0) ≡ Some (entry_of r.ids row) = subst (λ (s : ReplicaData). slice_get s.log (get_or items k 0) ≡ Some (entry_of s.ids row)) same c.row-env.ensures.entry in
    let is : IsMask r.ids (length (env_of_id r.ids row.env)) (env_of_id r.ids row.env) c.in-Some.mask = subst (λ (s : ReplicaData). IsMask s.ids (length (env_of_id s.ids row.env)) (env_of_id s.ids row.env) c.in-Some.mask) same (subst (λ (o : Option ℕ). IfSome o (IsMask c.loop-place.replica.ids (length (env_of_id c.loop-place.replica.ids row.env)) (env_of_id c.loop-place.replica.ids row.env))) c.in-Some.is c.in_ok-mask.ensures.mask) in
    let own : IsMaskAt r.ids r.log (get_or items (length c.loop-place.masks.items) 0) c.in-Some.mask =
    subst (λ (i : ℕ). IsMaskAt r.ids r.log (get_or items i 0) c.in-Some.mask) (sym c.loop-place.invariant.long) (record { entry = entry_of r.ids row; at = at; is = is }) in
    let long : length c.push.new.self.items ≡ length c.loop-place.masks.items + 1 = ap (λ (xs : List ℕ). length xs) c.in_ok-push.ensures.items ∙ length_push c.loop-place.masks.items c.in-Some.mask in
    record {
      kept = c.mask_of.ensures.kept ∙ same;
      long = long ∙ ap (λ (n : ℕ). n + 1) c.loop-place.invariant.long;
      are = λ i lt. one_mask_more r.ids r.log items c.loop-place.masks.items c.push.new.self.items c.in-Some.mask c.loop-place.invariant.are c.in_ok-push.ensures.items own i (subst (λ (n : ℕ). i < n) long lt);
    }
