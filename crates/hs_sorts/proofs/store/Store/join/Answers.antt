use Rattle.std.proofs.Common.{sym, subst}
use Rattle.hs_sorts.specs.Nodes.{IsMerge, Joins}
use Rattle.hs_sorts.specs.declared.store.Node.{Node}
use Rattle.std.proofs.Common.{List}
use Rattle.hs_sorts.proofs.Joining.{joined, joined_shape, not_joined}
use Rattle.hs_sorts.proofs.store.Store.join.Goals as goal

pub returns-in_default : goal.returns-in_default
returns-in_default c =
    not_joined c.args.self.now c.find-a.new.self c.find-b.new.self c.args.a c.args.b c.find-a.result.0 c.find-b.result.0 c.find-a.result.1 c.find-b.result.1 c.find-a.ensures c.find-b.ensures
    (subst (IsMerge c.find-a.result.1 c.find-b.result.1 c.args.pairs.now.items c.merged.new.pairs.items) c.in_default.is c.in_ok-shape.ensures)

pub link-requires-clause-in_range : goal.link-requires-clause-in_range
link-requires-clause-in_range c =
    joined_shape c.args.self.now c.find-a.new.self c.find-b.new.self c.args.a c.args.b c.find-a.result.0 c.find-b.result.0 c.find-a.result.1 c.find-b.result.1 c.find-a.ensures c.find-b.ensures
    c.in-Some.shape c.args.pairs.now.items c.merged.new.pairs.items
    (subst (IsMerge c.find-a.result.1 c.find-b.result.1 c.args.pairs.now.items c.merged.new.pairs.items) c.in-Some.is c.in_ok-shape.ensures)

pub returns : goal.returns
returns c = let e = c.link.ensures in
    subst (λ (new : List Node). Joins c.args.a c.args.b c.args.self.now new c.args.pairs.now.items c.merged.new.pairs.items) (sym c.link.ensures)
    (joined c.args.self.now c.find-a.new.self c.find-b.new.self c.args.a c.args.b c.find-a.result.0 c.find-b.result.0 c.find-a.result.1 c.find-b.result.1 c.find-a.ensures c.find-b.ensures
    c.in-Some.shape c.args.pairs.now.items c.merged.new.pairs.items c.if-a-b.false
    (subst (IsMerge c.find-a.result.1 c.find-b.result.1 c.args.pairs.now.items c.merged.new.pairs.items) c.in-Some.is c.in_ok-shape.ensures))
