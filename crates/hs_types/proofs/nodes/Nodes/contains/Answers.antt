use Rattle.std.proofs.Common.{◌≡◌, refl, sym, ap, ◌∙◌, subst, ◌<◌, ◌+◌, ◌-◌, ◌/◌, length, List, Contains, true, false, arith}
use Rattle.hs_table.specs.Types.{type_cmp, TypeTree, IsSet}
use Rattle.hs_types.specs.Interned.{type_of_id}
use Rattle.hs_types.proofs.SearchLemmas.{middle_within, read_at, below_more, above_more, found_at, nowhere}
use Rattle.hs_types.proofs.nodes.Nodes.contains.Goals as goal

pub loop-low-preserved-in-Less : goal.loop-low-preserved-in-Less
loop-low-preserved-in-Less c =
    let I = c.args.self.now in
    let f = type_of_id I in
    let ms = c.members-members.result.now in
    let t = type_of_id I c.args.ty in
    let m = c.loop-low.low + (c.loop-low.high - c.loop-low.low) / 2 in
    let up = subst IsSet (sym c.members-members.ensures.members) (c.know_numbers.ensures.set_ascends c.args.set) in
    let before = middle_within c.loop-low.low c.loop-low.high c.loop-low-test.true in
    let within : m < length ms = omega (arith, before, c.loop-low.invariant.within) in
    let e = ap (λ u. type_cmp u t) (read_at f ms t up m c.index-members-middle.result within c.index-members-middle.is) ∙ sym c.in-Less.ensures in
    record {
      order = omega (arith, before);
      within = c.loop-low.invariant.within;
      below = below_more f ms t up m within e;
      above = c.loop-low.invariant.above;
    }

pub returns-in-Equal : goal.returns-in-Equal
returns-in-Equal c =
    let I = c.args.self.now in
    let f = type_of_id I in
    let ms = c.members-members.result.now in
    let t = type_of_id I c.args.ty in
    let m = c.loop-low.low + (c.loop-low.high - c.loop-low.low) / 2 in
    let up = subst IsSet (sym c.members-members.ensures.members) (c.know_numbers.ensures.set_ascends c.args.set) in
    let before = middle_within c.loop-low.low c.loop-low.high c.loop-low-test.true in
    let within : m < length ms = omega (arith, before, c.loop-low.invariant.within) in
    let e = ap (λ u. type_cmp u t) (read_at f ms t up m c.index-members-middle.result within c.index-members-middle.is) ∙ sym c.in-Equal.ensures in
    (λ h. subst (λ (s : List TypeTree). Contains s t) c.members-members.ensures.members (found_at f ms t up m within e), λ h. refl)

pub loop-low-preserved : goal.loop-low-preserved
loop-low-preserved c =
    let I = c.args.self.now in
    let f = type_of_id I in
    let ms = c.members-members.result.now in
    let t = type_of_id I c.args.ty in
    let m = c.loop-low.low + (c.loop-low.high - c.loop-low.low) / 2 in
    let up = subst IsSet (sym c.members-members.ensures.members) (c.know_numbers.ensures.set_ascends c.args.set) in
    let before = middle_within c.loop-low.low c.loop-low.high c.loop-low-test.true in
    let within : m < length ms = omega (arith, before, c.loop-low.invariant.within) in
    let e = ap (λ u. type_cmp u t) (read_at f ms t up m c.index-members-middle.result within c.index-members-middle.is) ∙ sym c.in-Greater.ensures in
    record {
      order = omega arith;
      within = omega (arith, within);
      below = c.loop-low.invariant.below;
      above = above_more f ms t up m within e;
    }

pub returns : goal.returns
returns c =
    let I = c.args.self.now in
    let f = type_of_id I in
    let ms = c.members-members.result.now in
    let t = type_of_id I c.args.ty in
    let up = subst IsSet (sym c.members-members.ensures.members) (c.know_numbers.ensures.set_ascends c.args.set) in
    let none = nowhere f ms t up c.loop-low.low c.loop-low.high c.loop-low-test.false c.loop-low.invariant.below c.loop-low.invariant.above in
    (λ h. absurd (let g : false ≡ true = h in cc), λ h. absurd (none (subst (λ (s : List TypeTree). Contains s t) (sym c.members-members.ensures.members) h)))
