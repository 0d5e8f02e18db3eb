use Rattle.std.proofs.Common.{◌≡◌, sym, ◌∙◌, ap, ℕ, ◌-◌, ◌<◌, ◌≤◌, suc, List, [], ◌∷◌, ◌++◌, append-nil, length, reverse, get_or, arith}
use Rattle.std.proofs.lemmas.List.{get_or_default}
use Rattle.hs_flow.specs.Lists.{list_of}
use Rattle.hs_rank.specs.Buckets.{chain, lists_in}
use Rattle.hs_rank.proofs.Chains.{list_from, step_back}
use Rattle.hs_rank.proofs.buckets.list_bucket.Goals as goal

pub loop-at-init : goal.loop-at-init
loop-at-init c =
    let b = c.args.buckets.now.before.items in
    let l = c.args.buckets.now.lasts.items in
    let n = c.args.number in
    let at = c.index-at.result.now in
    let at_is : at ≡ get_or l n 0 = c.index-at.ensures ∙ get_or_default l n at 0 c.requires.number in
    record {
      whole = list_from b l n c.requires.linked c.requires.number ∙ ((λ i. chain b (sym at_is i) (sym at_is i)) ∙ (sym (append-nil (chain b at at)) ∙ (λ i. chain b at at ++ reverse (sym c.clear.ensures.items i))));
      within = omega (arith, at_is, c.requires.linked.within n);
    }

pub loop-at-preserved : goal.loop-at-preserved
loop-at-preserved c =
    let b = c.args.buckets.now.before.items in
    let l = c.args.buckets.now.lasts.items in
    let at = c.loop-at.at in
    let a = at - 1 in
    let next = c.index-at-in-loop-at.result.now in
    let places = c.loop-at.places.items in
    let some : at ≡ suc a = omega (arith, c.loop-at-test.true) in
    let lt : a < length b = omega (arith, some, c.loop-at.invariant.within) in
    let next_is : next ≡ get_or b a 0 = c.index-at-in-loop-at.ensures ∙ get_or_default b a next 0 lt in
    let le : get_or b a 0 ≤ a = c.requires.linked.earlier a lt in
    record {
      whole = step_back b (list_of (lists_in b l) c.args.number) places at a some le c.loop-at.invariant.whole ∙ (λ i. chain b (sym next_is i) (sym next_is i) ++ reverse (sym c.in_ok-push.ensures.items i));
      within = omega (arith, next_is, le, lt);
    }
