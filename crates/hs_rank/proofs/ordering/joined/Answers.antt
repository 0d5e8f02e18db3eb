use Rattle.std.proofs.Common.{◌≡◌, subst, ℕ, ◌<◌, List, length, take, arith}
use Rattle.std.specs.List.{concat, range_with_len}
use Rattle.std.specs.List.Sorted.{IsPermutation}
use Rattle.std.proofs.lemmas.List.{length-map, take_all}
use Rattle.std.proofs.lemmas.List.Sorted.{IsPermutation-trans}
use Rattle.hs_rank.specs.Buckets.{chain, lists_in}
use Rattle.hs_rank.specs.Ordering.{HasSorted}
use Rattle.hs_rank.proofs.Joined.{joined_none, joined_more, sorted_joined}
use Rattle.hs_rank.proofs.ordering.joined.Goals as goal

pub loop-number-init : goal.loop-number-init
loop-number-init c = joined_none c.args.interner.now c.args.found.now (lists_in c.args.buckets.now.before.items c.args.buckets.now.lasts.items) c.in_ok-places.places.items c.in_ok-places.ensures.items

pub loop-number-preserved : goal.loop-number-preserved
loop-number-preserved c =
    let I = c.args.interner.now in
    let F = c.args.found.now in
    let b = c.args.buckets.now.before.items in
    let l = c.args.buckets.now.lasts.items in
    let places = c.loop-number.places.items in
    let new = c.add_sorted.new.places.items in
    let within : c.loop-number.number < length (lists_in b l) = omega (arith, c.loop-number-test.true, c.bucket_count-number-end.ensures, length-map l (chain b (length b))) in
    joined_more I F (lists_in b l) c.requires.apart c.loop-number.number within places new c.loop-number.invariant (subst (λ (k : List ℕ). HasSorted I F k places new) c.in_ok-list_bucket.ensures c.in_ok-add_sorted.ensures)

pub returns : goal.returns
returns c =
    let I = c.args.interner.now in
    let F = c.args.found.now in
    let b = c.args.buckets.now.before.items in
    let l = c.args.buckets.now.lasts.items in
    let buckets = lists_in b l in
    let places = c.loop-number.places.items in
    let so_far = c.loop-number.invariant in
    let whole : take c.loop-number.number buckets ≡ buckets = take_all c.loop-number.number buckets (omega (arith, c.loop-number-test.false, c.bucket_count-number-end.ensures, length-map l (chain b (length b)))) in
    record {
      permutation = IsPermutation-trans (range_with_len 0 (length F)) (concat buckets) places c.requires.all (subst (λ (ls : List (List ℕ)). IsPermutation (concat ls) places) whole so_far.permutation);
      sorted = sorted_joined I F places so_far.sorted;
    }
