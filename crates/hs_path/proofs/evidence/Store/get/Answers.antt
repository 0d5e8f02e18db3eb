use Rattle.std.proofs.Common.{sym, ◌∙◌, ap, slice_get}
use Rattle.hs_scheme.proofs.Lists.{got_some, got_none}
use Rattle.hs_path.proofs.StoredLemmas.{node_got, node_missed}
use Rattle.hs_path.proofs.evidence.Store.get.Goals as goal

pub returns-in-Some : goal.returns-in-Some
returns-in-Some c = λ bound e h.
    node_got bound c.args.self.now c.args.number e c.in-Some.node.now h (ap (λ xs. slice_get xs c.args.number) (sym c.deref.ensures.value)
    ∙ got_some c.deref.result.now c.args.number c.in-Some.node.now c.in-Some.ensures.lookup.0 c.in-Some.ensures.lookup.1)

pub returns-in-None : goal.returns-in-None
returns-in-None c = λ bound e h.
    absurd (node_missed bound c.args.self.now c.args.number e h (ap (λ xs. slice_get xs c.args.number) (sym c.deref.ensures.value)
    ∙ got_none c.deref.result.now c.args.number c.in-None.ensures.lookup.0))
