use Rattle.std.proofs.Common.{◌≡◌, sym, ◌∙◌, ap, subst, ◌+◌, List, slice_get, Some, arith}
use Rattle.std.proofs.lemmas.Option.{slice_get_within}
use Rattle.hs_sorts.specs.declared.store.Node.{Node}
use Rattle.hs_sorts.specs.declared.store.Node.TheVariants.{Link}
use Rattle.hs_sorts.specs.Nodes.{IsSameStore, FlatBelow}
use Rattle.hs_sorts.proofs.Flattening.{flat_more, flat_link}
use Rattle.hs_sorts.proofs.NodeLemmas.{shortened, link_below}
use Rattle.hs_sorts.proofs.store.Store.shorten.Goals as goal

pub put-requires-clause-within : goal.put-requires-clause-within
put-requires-clause-within c = slice_get_within c.args.self.now c.args.at (Link c.args.up) c.requires.link

pub put-requires-clause-in_range : goal.put-requires-clause-in_range
put-requires-clause-in_range c =
    let second : slice_get c.args.self.now c.args.up ≡ Some (Link c.in-Link.top) = c.node_at.ensures.node ∙ ap (λ n. Some n) c.in-Link.is in
    omega (arith, link_below c.args.self.now c.args.at c.args.up c.node_at.ensures.store c.requires.link, link_below c.args.self.now c.args.up c.in-Link.top c.node_at.ensures.store second)

pub returns-in-Link-clause-same : goal.returns-in-Link-clause-same
returns-in-Link-clause-same c =
    let second : slice_get c.args.self.now c.args.up ≡ Some (Link c.in-Link.top) = c.node_at.ensures.node ∙ ap (λ n. Some n) c.in-Link.is in
    subst (IsSameStore c.args.self.now) (sym c.put.ensures) (shortened c.args.self.now c.args.at c.args.up c.in-Link.top c.node_at.ensures.store c.requires.link second)

pub returns-in-Link-clause-flat : goal.returns-in-Link-clause-flat
returns-in-Link-clause-flat c =
    let second : slice_get c.args.self.now c.args.up ≡ Some (Link c.in-Link.top) = c.node_at.ensures.node ∙ ap (λ n. Some n) c.in-Link.is in
    subst (λ (xs : List Node). FlatBelow c.args.at c.args.self.now → FlatBelow (c.args.at + 1) xs) (sym c.put.ensures)
    (flat_more c.args.self.now c.args.at c.args.up c.in-Link.top c.node_at.ensures.store c.requires.link second)

pub returns-in_default-clause-flat : goal.returns-in_default-clause-flat
returns-in_default-clause-flat c =
    flat_link c.args.self.now c.args.at c.args.up c.in_default.field-0 c.requires.link (c.node_at.ensures.node ∙ ap (λ n. Some n) c.in_default.is)
