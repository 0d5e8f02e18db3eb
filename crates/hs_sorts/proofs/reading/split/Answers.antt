use Rattle.std.proofs.Common.{◌≡◌, refl, sym, ◌∙◌, ap, slice_get, Some, arith}
use Rattle.hs_sorts.specs.declared.store.Node.TheVariants.{Root, Link}
use Rattle.hs_sorts.proofs.NodeLemmas.{link_below}
use Rattle.hs_sorts.proofs.Readings.{split_at}
use Rattle.hs_sorts.proofs.reading.split.Goals as goal

pub returns-in-Root : goal.returns-in-Root
returns-in-Root c =
    let at : slice_get c.args.store.now c.args.node ≡ Some (Root c.in-Root.shape) = c.node_at.ensures.node ∙ ap (λ n. Some n) c.in-Root.is in
    split_at c.args.store.now c.args.node c.args.node c.in-Root.shape c.parts.result c.requires.store at (λ v r. refl) c.parts.ensures

pub node_at-requires-in-Link : goal.node_at-requires-in-Link
node_at-requires-in-Link c =
    omega (arith, link_below c.args.store.now c.args.node c.in-Link.up c.requires.store (c.node_at.ensures.node ∙ ap (λ n. Some n) c.in-Link.is))

pub returns-in-Root-node_at : goal.returns-in-Root-node_at
returns-in-Root-node_at c =
    let link : slice_get c.args.store.now c.args.node ≡ Some (Link c.in-Link.up) = c.node_at.ensures.node ∙ ap (λ n. Some n) c.in-Link.is in
    let at : slice_get c.args.store.now c.in-Link.up ≡ Some (Root c.in-Root-node_at.shape) = c.node_at-in-Link.ensures.node ∙ ap (λ n. Some n) c.in-Root-node_at.is in
    split_at c.args.store.now c.args.node c.in-Link.up c.in-Root-node_at.shape c.parts-in-Root-node_at.result c.requires.store at (λ v r. r.reads c.args.node (Link c.in-Link.up) link) c.parts-in-Root-node_at.ensures

pub returns-in-Link-node_at : goal.returns-in-Link-node_at
returns-in-Link-node_at c =
    let link : slice_get c.args.store.now c.args.node ≡ Some (Link c.in-Link.up) = c.node_at.ensures.node ∙ ap (λ n. Some n) c.in-Link.is in
    let at : slice_get c.args.store.now c.in-Link.up ≡ Some (Link c.in-Link-node_at._top) = c.node_at-in-Link.ensures.node ∙ ap (λ n. Some n) c.in-Link-node_at.is in
    absurd (let root = c.requires.flat.all c.args.node c.in-Link.up c.requires.node link in let both : Some (Link c.in-Link-node_at._top) ≡ Some (Root root.0) = sym at ∙ root.1 in cc)
