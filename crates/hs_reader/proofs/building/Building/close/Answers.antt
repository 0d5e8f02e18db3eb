use Rattle.std.proofs.Common.{◌∙◌, ap, subst, sym, Some}
use Rattle.std.specs.Option.{option_map}
use Rattle.hs_reader.specs.ReadingStages.{in_body}
use Rattle.hs_reader.specs.Building.{Begun, IsBuilding}
use Rattle.hs_reader.proofs.Begun.{remains, begun_is, more-closed, closed-stage}
use Rattle.hs_reader.proofs.building.Building.close.Goals as goal

pub invariant_of-self-2 : goal.invariant_of-self-2
invariant_of-self-2 c =
    let h = subst (IsBuilding c.self.inside.nodes.items c.self.inside.outer.items c.self.inside.start) c.self.view_is c.self.invariant in
    let made = more-closed _ _ c.pop.new.self.items _ c.in-Some.below _ h c.in-Some.ensures.items (sym c.is_bare.ensures ∙ c.if-is_bare.false) c.index_mut.result.now c.index_mut.ensures.value c.if-below-self.false in
    remains _ _ _ _ made.2

pub returns : goal.returns
returns c = λ rs n ps.
    let h = subst (IsBuilding c.self.inside.nodes.items c.self.inside.outer.items c.self.inside.start) c.self.view_is c.self.invariant in
    let made = more-closed _ _ c.pop.new.self.items _ c.in-Some.below _ h c.in-Some.ensures.items (sym c.is_bare.ensures ∙ c.if-is_bare.false) c.index_mut.result.now c.index_mut.ensures.value c.if-below-self.false in
    let stage = λ (b : Begun). in_body rs n ps b.outer b.top in
    closed-stage rs n ps c.args.self.now.outer c.args.self.now.top ∙ (ap (option_map stage) made.1 ∙ ap (λ (b : Begun). Some (stage b)) (sym (begun_is _ _ _ _ made.2)))
