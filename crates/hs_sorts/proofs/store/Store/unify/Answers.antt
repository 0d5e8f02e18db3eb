use Rattle.std.proofs.Common.{subst, Bool}
use Rattle.hs_sorts.specs.Nodes.{JoinsOrRefuses}
use Rattle.hs_sorts.proofs.Joining.{pending_less}
use Rattle.hs_sorts.proofs.store.Store.unify.Goals as goal

pub loop-a-preserved : goal.loop-a-preserved
loop-a-preserved c =
    pending_less c.args.self.now c.loop-a.self c.join-in-Some.new.self c.args.a c.args.b c.in-Some.a c.in-Some.b c.loop-a.pairs.items c.pop.new.self.items c.join-in-Some.new.pairs.items
    c.in-Some.ensures.items c.loop-a.invariant
    (subst (λ (b : Bool). JoinsOrRefuses c.in-Some.a c.in-Some.b c.loop-a.self c.join-in-Some.new.self c.pop.new.self.items c.join-in-Some.new.pairs.items b) c.if-not-branch-2.false c.in_ok-join-2.ensures)
