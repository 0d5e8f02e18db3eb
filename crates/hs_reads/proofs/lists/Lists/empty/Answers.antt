use Rattle.std.proofs.Common.{◌≡◌, sym, ap, subst, ℕ, List, [], length, length-append, ◌∷◌, map, Vec, arith}
use Rattle.std.specs.declared.alloc.Global.{Global}
use Rattle.hs_reads.specs.Lists.{list_of}
use Rattle.hs_reads.proofs.ListLemmas.{mapped-push}
use Rattle.hs_reads.proofs.lists.Lists.empty.Goals as goal

pub loop-preserved : goal.loop-preserved
loop-preserved g c = record {
  long = omega (arith, ap (λ (rs : List (Vec g.row.T.Denot Global)). length rs) c.push_reserved.ensures.items, length-append c.loop.rows.items (c.new.result ∷ []), c.loop.invariant.long);
  empty = subst (λ (rs : List (Vec g.row.T.Denot Global)). (k : ℕ) → list_of (map (λ (r : Vec g.row.T.Denot Global). r.items) rs) k ≡ []) (sym c.push_reserved.ensures.items)
      (mapped-push (λ (r : Vec g.row.T.Denot Global). r.items) c.loop.rows.items c.new.result c.new.ensures.items c.loop.invariant.empty);
  room = omega (arith, c.push_reserved.ensures.capacity, c.loop.invariant.room);
}

pub push_reserved-requires : goal.push_reserved-requires
push_reserved-requires g c = omega (arith, c.loop.rows.ok, c.loop.invariant.long, c.loop.invariant.room, c.loop-test.true)
