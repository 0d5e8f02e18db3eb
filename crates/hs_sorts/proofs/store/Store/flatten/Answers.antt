use Rattle.std.proofs.Common.{◌≡◌, ◌+◌, ◌∙◌, sym, ap, subst, slice_get, Some, arith}
use Rattle.hs_sorts.specs.declared.store.Node.TheVariants.{Root}
use Rattle.hs_sorts.specs.Nodes.{IsSameStore, FlatBelow}
use Rattle.hs_sorts.proofs.NodeLemmas.{same_trans, link_below}
use Rattle.hs_sorts.proofs.Flattening.{flat_root}
use Rattle.hs_sorts.proofs.store.Store.flatten.Goals as goal
use Rattle.hs_sorts.proofs.store.Store.flatten.Goals.{in-Link, in_default}

pub loop-node-preserved : goal.loop-node-preserved
loop-node-preserved c = elim c.match-node_at.branch [
  | in-Link w ↦ record {
    same = subst (IsSameStore c.args.self.now) (sym w.self-is) (same_trans c.args.self.now c.loop-node.self w.shorten.new.self c.loop-node.invariant.same w.shorten.ensures.same);
    flat = subst (FlatBelow (c.loop-node.node + 1)) (sym w.self-is) (w.shorten.ensures.flat c.loop-node.invariant.flat);
  }
  | in_default w ↦
      let ends : slice_get c.loop-node.self c.loop-node.node ≡ Some (Root w.in_default.field-0) =
      c.node_at.ensures.node ∙ ap (λ n. Some n) w.in_default.is in
      record {
        same = subst (IsSameStore c.args.self.now) (sym w.self-is) c.loop-node.invariant.same;
        flat = subst (FlatBelow (c.loop-node.node + 1)) (sym w.self-is) (flat_root c.loop-node.self c.loop-node.node w.in_default.field-0 ends c.loop-node.invariant.flat);
      }
]

pub returns-clause-flat : goal.returns-clause-flat
returns-clause-flat c = record {
  all = λ i up below is. c.loop-node.invariant.flat i up (omega (arith, below, c.loop-node-test.false, c.loop-node.invariant.same.as_long, c.len-node-end.ensures.len)) is;
}

pub node_at-requires : goal.node_at-requires
node_at-requires c = omega (arith, c.loop-node-test.true, c.loop-node.invariant.same.as_long, c.len-node-end.ensures.len)

pub shorten-requires-clause-within : goal.shorten-requires-clause-within
shorten-requires-clause-within c =
    omega (arith, link_below c.loop-node.self c.loop-node.node c.in-Link.up c.node_at.ensures.store (c.node_at.ensures.node ∙ ap (λ n. Some n) c.in-Link.is))

pub shorten-requires-clause-link : goal.shorten-requires-clause-link
shorten-requires-clause-link c = c.node_at.ensures.node ∙ ap (λ n. Some n) c.in-Link.is
