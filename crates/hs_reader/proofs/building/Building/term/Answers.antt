use Rattle.std.proofs.Common.{◌≡◌, ◌∙◌, ap, subst, sym, Some, arith}
use Rattle.hs_scheme.specs.Tree.{Tree}
use Rattle.hs_reader.specs.declared.raw.RawName.{RawName}
use Rattle.hs_reader.specs.Preorder.{preorder, first_term}
use Rattle.hs_reader.specs.ReadingStages.{in_rules, with_rule, ends}
use Rattle.hs_reader.specs.Building.{IsBuilding}
use Rattle.hs_reader.proofs.Nodes.{first-whole}
use Rattle.hs_reader.proofs.Begun.{whole}
use Rattle.hs_reader.proofs.building.Building.term.Goals as goal

pub of-requires : goal.of-requires
of-requires c =
    let h = subst (IsBuilding c.self.inside.nodes.items c.self.inside.outer.items c.self.inside.start) c.self.view_is c.self.invariant in
    let made = whole _ _ _ _ h (omega (arith, c.depth.ensures, c.if-depth-gt0.false)) (sym c.is_bare.ensures ∙ c.if-is_bare.false) in
    made.3 ∙ ap preorder (sym (first-whole made.0) ∙ ap first_term (sym made.3))

pub returns : goal.returns
returns c = λ rs n ps.
    let h = subst (IsBuilding c.self.inside.nodes.items c.self.inside.outer.items c.self.inside.start) c.self.view_is c.self.invariant in
    let made = whole _ _ _ _ h (omega (arith, c.depth.ensures, c.if-depth-gt0.false)) (sym c.is_bare.ensures ∙ c.if-is_bare.false) in
    let is : made.0 ≡ c.of.result = sym (first-whole made.0) ∙ (ap first_term (sym made.3) ∙ sym c.of.ensures) in
    (λ i. ends rs n ps (made.2 i) (made.1 i)) ∙ ap (λ (t : Tree RawName). Some (in_rules (with_rule rs n ps t))) is
