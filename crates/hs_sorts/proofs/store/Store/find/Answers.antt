use Rattle.std.proofs.Common.{◌≡◌, ◌∙◌, ap, subst, ℕ, slice_get, Some, arith}
use Rattle.hs_sorts.specs.declared.store.Node.TheVariants.{Root, Link}
use Rattle.hs_sorts.specs.Nodes.{ShapeInRange}
use Rattle.hs_sorts.proofs.NodeLemmas.{same_trans, link_below}
use Rattle.hs_sorts.proofs.store.Store.find.Goals as goal

pub loop-shape-smaller : goal.loop-shape-smaller
loop-shape-smaller c =
    let at_link : slice_get c.loop-shape.self c.loop-shape.at ≡ Some (Link c.in-Link.up) =
    c.node_at.ensures.node ∙ ap (λ n. Some n) c.in-Link.is in
    omega (arith, link_below c.loop-shape.self c.loop-shape.at c.in-Link.up c.node_at.ensures.store at_link)

pub loop-shape-preserved : goal.loop-shape-preserved
loop-shape-preserved c =
    let at_link : slice_get c.loop-shape.self c.loop-shape.at ≡ Some (Link c.in-Link.up) =
    c.node_at.ensures.node ∙ ap (λ n. Some n) c.in-Link.is in
    let below = link_below c.loop-shape.self c.loop-shape.at c.in-Link.up c.node_at.ensures.store at_link in
    record {
      same = same_trans c.args.self.now c.loop-shape.self c.shorten.new.self c.loop-shape.invariant.same c.shorten.ensures.same;
      within = omega (arith, below, c.shorten.ensures.same.as_long);
      equal = λ v r. c.loop-shape.invariant.equal v r ∙ (c.loop-shape.invariant.same.onward v r).fits c.loop-shape.at (Link c.in-Link.up) at_link;
    }

pub shorten-requires-clause-within : goal.shorten-requires-clause-within
shorten-requires-clause-within c =
    let at_link : slice_get c.loop-shape.self c.loop-shape.at ≡ Some (Link c.in-Link.up) = c.node_at.ensures.node ∙ ap (λ n. Some n) c.in-Link.is in
    omega (arith, link_below c.loop-shape.self c.loop-shape.at c.in-Link.up c.node_at.ensures.store at_link)

pub shorten-requires-clause-link : goal.shorten-requires-clause-link
shorten-requires-clause-link c =
    c.node_at.ensures.node ∙ ap (λ n. Some n) c.in-Link.is

pub returns-in-Root : goal.returns-in-Root
returns-in-Root c =
    let at_root : slice_get c.loop-shape.self c.loop-shape.at ≡ Some (Root c.in-Root.shape) =
    c.node_at.ensures.node ∙ ap (λ n. Some n) c.in-Root.is in
    record {
      same = c.loop-shape.invariant.same;
      at = at_root;
      in_range =
          subst (λ (n : ℕ). ShapeInRange n c.in-Root.shape) c.loop-shape.invariant.same.as_long
          (c.node_at.ensures.store.in_range c.loop-shape.at (Root c.in-Root.shape) at_root);
      equal = c.loop-shape.invariant.equal;
    }
