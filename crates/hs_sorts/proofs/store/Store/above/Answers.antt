use Rattle.std.proofs.Common.{◌∙◌, ap, Some}
use Rattle.hs_sorts.specs.declared.store.Node.TheVariants.{Link}
use Rattle.hs_sorts.proofs.store.Store.above.Goals as goal

pub returns-in-Link : goal.returns-in-Link
returns-in-Link c = λ v r. r.fits c.args.node (Link c.in-Link.up) (c.node_at.ensures.node ∙ ap (λ n. Some n) c.in-Link.is)
