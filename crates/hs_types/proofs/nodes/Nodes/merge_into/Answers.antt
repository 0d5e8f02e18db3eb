use Rattle.std.proofs.Common.{◌≤◌, length, arith, inl, inr, ◌⊎◌, ap, ◌∙◌, List, ℕ, ◌++◌, take, drop, ◌-◌, ◌≡◌}
use Rattle.std.proofs.lemmas.List.{take_rest}
use Rattle.hs_types.specs.Interned.{type_of_id}
use Rattle.hs_types.proofs.MergeLemmas.{step_less, step_equal, step_greater, merged_end, range_end}
use Rattle.hs_types.proofs.nodes.Nodes.merge_into.Goals.{then-loop-i-test+else-j-ys, else-loop-i-test}
use Rattle.hs_types.proofs.OrderLemmas.{member_within}
use Rattle.hs_types.proofs.nodes.Nodes.merge_into.Goals as goal

pub loop-i-preserved-in-Less : goal.loop-i-preserved-in-Less
loop-i-preserved-in-Less c =
    let I = c.args.self.now in
    let s = step_less (type_of_id I) (length I.types) c.args.xs.now c.args.ys.now c.loop-i.merged.items c.loop-i.i c.loop-i.j c.index-xs-i.result c.index-ys-j.result c.loop-i-test.true c.if-j-ys.true
    c.requires.xs_ascend c.requires.ys_ascend c.requires.xs_range c.requires.ys_range c.loop-i.invariant.range c.loop-i.invariant.merged c.index-xs-i.is c.index-ys-j.is
    c.index-xs-i.result c.push.new.self.items c.in-Less.ensures c.index-xs-i.is c.in_ok-push-in-Less.ensures.items in
    record { first = omega (arith, c.loop-i-test.true); second = c.loop-i.invariant.second; range = s.in_range; merged = s.merged }

pub loop-i-preserved-in-Equal : goal.loop-i-preserved-in-Equal
loop-i-preserved-in-Equal c =
    let I = c.args.self.now in
    let s = step_equal (type_of_id I) (length I.types) c.args.xs.now c.args.ys.now c.loop-i.merged.items c.loop-i.i c.loop-i.j c.index-xs-i.result c.index-ys-j.result c.loop-i-test.true c.if-j-ys.true
    c.requires.xs_ascend c.requires.ys_ascend c.requires.xs_range c.requires.ys_range c.loop-i.invariant.range c.loop-i.invariant.merged c.index-xs-i.is c.index-ys-j.is
    c.index-xs-i.result c.push-in-Equal.new.self.items c.in-Equal.ensures c.index-xs-i.is c.in_ok-push-in-Equal.ensures.items in
    record { first = omega (arith, c.loop-i-test.true); second = omega (arith, c.if-j-ys.true); range = s.in_range; merged = s.merged }

pub loop-i-preserved : goal.loop-i-preserved
loop-i-preserved c =
    let I = c.args.self.now in
    let s = step_greater (type_of_id I) (length I.types) c.args.xs.now c.args.ys.now c.loop-i.merged.items c.loop-i.i c.loop-i.j c.index-xs-i.result c.index-ys-j.result c.loop-i-test.true c.if-j-ys.true
    c.requires.xs_ascend c.requires.ys_ascend c.requires.xs_range c.requires.ys_range c.loop-i.invariant.range c.loop-i.invariant.merged c.index-xs-i.is c.index-ys-j.is
    c.index-ys-j.result c.push-in-Greater.new.self.items c.in-Greater.ensures c.index-ys-j.is c.in_ok-push-in-Greater.ensures.items in
    record { first = c.loop-i.invariant.first; second = omega (arith, c.if-j-ys.true); range = s.in_range; merged = s.merged }

-- what the two calls append
appended : (ms new newer xs ys : List ℕ) (i j : ℕ) → new ≡ ms ++ take (length xs - i) (drop i xs) → newer ≡ new ++ take (length ys - j) (drop j ys) → newer ≡ (ms ++ drop i xs) ++ drop j ys
appended ms new newer xs ys i j e f = f ∙ (λ q. (e ∙ ap (λ z. ms ++ z) (take_rest xs i)) q ++ take_rest ys j q)

pub returns-clause-range : goal.returns-clause-range
returns-clause-range c =
    range_end (length c.args.self.now.types) c.args.xs.now c.args.ys.now c.loop-i.merged.items c.extend_from_slice-2.new.self.items c.loop-i.i c.loop-i.j
    c.requires.xs_range c.requires.ys_range c.loop-i.invariant.range
    (appended c.loop-i.merged.items c.extend_from_slice.new.self.items c.extend_from_slice-2.new.self.items c.args.xs.now c.args.ys.now c.loop-i.i c.loop-i.j
    c.in_ok-extend_from_slice.ensures.items c.in_ok-extend_from_slice-2.ensures.items)

pub returns-clause-union : goal.returns-clause-union
returns-clause-union c =
    let over : (length c.args.xs.now ≤ c.loop-i.i) ⊎ (length c.args.ys.now ≤ c.loop-i.j) =
    elim c.loop-i-test.branch as (λ w. (length c.args.xs.now ≤ c.loop-i.i) ⊎ (length c.args.ys.now ≤ c.loop-i.j)) [ then-loop-i-test+else-j-ys w ↦ inr w.if-j-ys.false | else-loop-i-test w ↦ inl w.loop-i-test.false ] in
    merged_end (type_of_id c.args.self.now) c.args.xs.now c.args.ys.now c.loop-i.merged.items c.extend_from_slice-2.new.self.items c.loop-i.i c.loop-i.j
    c.requires.xs_ascend c.requires.ys_ascend over c.loop-i.invariant.merged
    (appended c.loop-i.merged.items c.extend_from_slice.new.self.items c.extend_from_slice-2.new.self.items c.args.xs.now c.args.ys.now c.loop-i.i c.loop-i.j
    c.in_ok-extend_from_slice.ensures.items c.in_ok-extend_from_slice-2.ensures.items)

pub compare-requires-clause-a : goal.compare-requires-clause-a
compare-requires-clause-a c = member_within (length c.args.self.now.types) c.args.xs.now c.loop-i.i c.index-xs-i.result c.requires.xs_range c.loop-i-test.true c.index-xs-i.is

pub compare-requires-clause-b : goal.compare-requires-clause-b
compare-requires-clause-b c = member_within (length c.args.self.now.types) c.args.ys.now c.loop-i.j c.index-ys-j.result c.requires.ys_range c.if-j-ys.true c.index-ys-j.is

pub loop-i-smaller-in-Less : goal.loop-i-smaller-in-Less
loop-i-smaller-in-Less c = omega (arith, c.loop-i-test.true)

pub loop-i-smaller-in-Equal : goal.loop-i-smaller-in-Equal
loop-i-smaller-in-Equal c = omega (arith, c.loop-i-test.true, c.if-j-ys.true)

pub loop-i-smaller : goal.loop-i-smaller
loop-i-smaller c = omega (arith, c.if-j-ys.true)
