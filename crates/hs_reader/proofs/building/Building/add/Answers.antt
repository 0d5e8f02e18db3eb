use Rattle.std.proofs.Common.{subst, sym, refl}
use Rattle.hs_reader.specs.Building.{IsBuilding}
use Rattle.hs_reader.proofs.Begun.{remains, begun_is, next-added}
use Rattle.hs_reader.proofs.building.Building.add.Goals as goal

pub invariant_of-self-then-not-bare : goal.invariant_of-self-then-not-bare
invariant_of-self-then-not-bare c =
    let ns = c.self.inside.nodes.items in
    let h = subst (IsBuilding ns c.self.inside.outer.items c.self.inside.start) c.self.view_is c.self.invariant in
    remains _ _ _ _ (next-added ns c.self.inside.outer.items c.self.inside.start c.args.self.now h c.args.name _ c.index_mut.result.now c.push.new.self.items c.requires.room (sym c.if-not-bare.ensures) refl c.in_ok-push.ensures.items c.index_mut.ensures.value)

pub returns-then-not-bare-clause-added : goal.returns-then-not-bare-clause-added
returns-then-not-bare-clause-added c =
    let ns = c.self.inside.nodes.items in
    let h = subst (IsBuilding ns c.self.inside.outer.items c.self.inside.start) c.self.view_is c.self.invariant in
    begun_is _ _ _ _ (next-added ns c.self.inside.outer.items c.self.inside.start c.args.self.now h c.args.name _ c.index_mut.result.now c.push.new.self.items c.requires.room (sym c.if-not-bare.ensures) refl c.in_ok-push.ensures.items c.index_mut.ensures.value)
