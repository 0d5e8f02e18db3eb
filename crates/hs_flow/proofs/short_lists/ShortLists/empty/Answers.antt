use Rattle.std.proofs.Common.{◌≡◌, sym, ap, subst, ℕ, List, [], length, length-append, ◌∷◌, map, arith}
use Rattle.smallvec.specs.SmallVec.{SmallVec}
use Rattle.hs_flow.specs.Lists.{list_of}
use Rattle.hs_flow.proofs.ListLemmas.{mapped-push}
use Rattle.hs_flow.proofs.short_lists.ShortLists.empty.Goals as goal

pub loop-preserved : goal.loop-preserved
loop-preserved c = record {
  long = omega (arith, ap (λ (rs : List (SmallVec ℕ)). length rs) c.push_reserved.ensures.items, length-append c.loop.rows.items (c.new.result ∷ []), c.loop.invariant.long);
  empty = subst (λ (rs : List (SmallVec ℕ)). (k : ℕ) → list_of (map (λ (r : SmallVec ℕ). r.items) rs) k ≡ []) (sym c.push_reserved.ensures.items)
      (mapped-push (λ (r : SmallVec ℕ). r.items) c.loop.rows.items c.new.result c.new.ensures.items c.loop.invariant.empty);
  room = omega (arith, c.push_reserved.ensures.capacity, c.loop.invariant.room);
}

pub push_reserved-requires : goal.push_reserved-requires
push_reserved-requires c = omega (arith, c.loop.rows.ok, c.loop.invariant.long, c.loop.invariant.room, c.loop-test.true)
