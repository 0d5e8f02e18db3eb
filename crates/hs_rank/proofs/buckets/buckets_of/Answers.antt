use Rattle.std.proofs.Common.{◌≡◌, sym, ◌∙◌, ap, subst, ℕ, ◌<◌, ◌∷◌, ◌++◌, [], List, length, set, slice_get, Some, arith}
use Rattle.std.proofs.lemmas.List.{length-map}
use Rattle.std.proofs.lemmas.Option.{slice_get-get_or}
use Rattle.hs_flow.specs.Lists.{list_of}
use Rattle.hs_rules.specs.Conclusions.{DeducedData}
use Rattle.hs_rank.specs.Buckets.{bucket_of, chain, lists_in}
use Rattle.hs_rank.proofs.Spreading.{AreSpread, spread_none, spread_more, apart}
use Rattle.hs_rank.proofs.buckets.buckets_of.Goals as goal

pub loop-place-init : goal.loop-place-init
loop-place-init c =
    let b = c.in_ok-buckets.buckets.before.items in
    let l = c.in_ok-buckets.buckets.lasts.items in
    record {
      spread = spread_none c.spread_of-spread.result c.args.found.now (lists_in b l) (length-map l (chain b (length b)) ∙ c.in_ok-buckets.ensures.len) c.in_ok-buckets.ensures.empty;
      linked = c.in_ok-buckets.ensures.linked;
      next = ap (λ (xs : List ℕ). length xs) c.in_ok-buckets.ensures.none;
      room = c.in_ok-buckets.ensures.room;
    }

pub loop-place-preserved : goal.loop-place-preserved
loop-place-preserved c =
    let F = c.args.found.now in
    let n = c.loop-place.place in
    let d = c.index-found-place.result in
    let s = c.spread_of-spread.result in
    let k = c.bucket_for-number.result in
    let old = lists_in c.loop-place.buckets.before.items c.loop-place.buckets.lasts.items in
    let new = lists_in c.add_next.new.buckets.before.items c.add_next.new.buckets.lasts.items in
    let lt : n < length F = omega (arith, c.loop-place-test.true) in
    let at : slice_get F n ≡ Some d = slice_get-get_or F n d lt ∙ ap (λ (x : DeducedData). Some x) (sym c.index-found-place.is) in
    let is : k ≡ bucket_of s d.row.point = c.bucket_for-number.ensures ∙ ap (λ (x : DeducedData). bucket_of s x.row.point) c.deduced.view_is in
    let pushed : new ≡ set old k (list_of old k ++ n ∷ []) = c.add_next.ensures.added ∙ ap (λ (x : ℕ). set old k (list_of old k ++ x ∷ [])) c.loop-place.invariant.next in
    record {
      spread = spread_more s F n d at k is old new pushed c.spread_of-spread.ensures.count c.loop-place.invariant.spread;
      linked = c.add_next.ensures.linked;
      next = omega (arith, c.add_next.ensures.next, c.loop-place.invariant.next);
      room = omega (arith, c.add_next.ensures.room, c.loop-place.invariant.room);
    }

pub returns-clause-apart : goal.returns-clause-apart
returns-clause-apart c =
    let s = c.spread_of-spread.result in
    let F = c.args.found.now in
    let end : c.loop-place.place ≡ length F = omega (arith, c.loop-place-test.false, c.loop-place.auto.place-end) in
    let L = lists_in c.loop-place.buckets.before.items c.loop-place.buckets.lasts.items in
    apart s F L c.spread_of-spread.ensures.width (subst (λ (n : ℕ). AreSpread s F n L) end c.loop-place.invariant.spread)
