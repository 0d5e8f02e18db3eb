use Rattle.std.proofs.Common.{◌<◌, ◌-◌, map, subst, sym, All, List, ℕ, length, drop, length-take, length-drop, ◌/◌, arith}
use Rattle.std.proofs.lemmas.List.Elements.{All-take, All-drop}
use Rattle.hs_table.specs.Types.{IsSet}
use Rattle.std.proofs.lemmas.Result.{IfOk-weaker}
use Rattle.hs_types.specs.Interned.{type_of_id, IsSetOf, IsUnion}
use Rattle.hs_types.proofs.MakeLemmas.{few_ascend, set_itself}
use Rattle.hs_types.proofs.MergeLemmas.{sorted_parts}
use Rattle.hs_types.proofs.nodes.Nodes.+sorted.Goals as goal

pub returns-then-ids-le1-clause-range : goal.returns-then-ids-le1-clause-range
returns-then-ids-le1-clause-range t c =
    subst (λ (zs : List ℕ). All (λ i. i < length c.args.self.now.types) zs) (sym (c.in_ok-to_vec.ensures.items_if_clones_equal (λ x y e. e))) c.requires

pub returns-then-ids-le1-clause-set : goal.returns-then-ids-le1-clause-set
returns-then-ids-le1-clause-set t c =
    let f = type_of_id c.args.self.now in
    let ids = c.args.ids.now in
    subst (λ (zs : List ℕ). IsSetOf (map f ids) (map f zs)) (sym (c.in_ok-to_vec.ensures.items_if_clones_equal (λ x y e. e)))
    (set_itself (map f ids) (few_ascend f ids (omega (arith, c.if-ids-le1.true))))

-- the two halves are shorter
pub sorted-requires : goal.sorted-requires
sorted-requires t c =
    let ids = c.args.ids.now in
    let half = length ids / 2 in
    (omega (arith, length-take half ids, c.if-ids-le1.false), All-take (λ i. i < length c.args.self.now.types) half ids c.requires)

pub sorted-requires-2 : goal.sorted-requires-2
sorted-requires-2 t c =
    let ids = c.args.ids.now in
    let half = length ids / 2 in
    let P : ℕ → Type 0 = λ i. i < length c.args.self.now.types in
    (omega (arith, length-take (length ids - half) (drop half ids), length-drop half ids, c.if-ids-le1.false), All-take P (length ids - half) (drop half ids) (All-drop P half ids c.requires))

pub returns-clause-set : goal.returns-clause-set
returns-clause-set t c =
    let f = type_of_id c.args.self.now in
    let first = c.in_ok-first.first.items in
    let second = c.in_ok-second.second.items in
    IfOk-weaker c.merge.result (λ r. IsUnion (map f c.as_slice.result.now) (map f c.as_slice-2.result.now) (map f r.items)) (λ r. IsSetOf (map f c.args.ids.now) (map f r.items))
    (λ r h.
    let u = map f r.items in
    let m = subst (λ (zs : List ℕ). IsUnion (map f zs) (map f c.as_slice-2.result.now) u) c.as_slice.ensures.value h in
    let n = subst (λ (zs : List ℕ). IsUnion (map f first) (map f zs) u) c.as_slice-2.ensures.value m in
    sorted_parts f c.args.ids.now (length c.args.ids.now / 2) (map f first) (map f second) u c.in_ok-first.ensures.set c.in_ok-second.ensures.set n) c.merge.ensures.union

pub merge-requires-clause-xs_range : goal.merge-requires-clause-xs_range
merge-requires-clause-xs_range t c = subst (λ (zs : List ℕ). All (λ i. i < length c.args.self.now.types) zs) (sym c.as_slice.ensures.value) c.in_ok-first.ensures.range

pub merge-requires-clause-ys_range : goal.merge-requires-clause-ys_range
merge-requires-clause-ys_range t c = subst (λ (zs : List ℕ). All (λ i. i < length c.args.self.now.types) zs) (sym c.as_slice-2.ensures.value) c.in_ok-second.ensures.range

pub merge-requires-clause-xs_ascend : goal.merge-requires-clause-xs_ascend
merge-requires-clause-xs_ascend t c = subst (λ (zs : List ℕ). IsSet (map (type_of_id c.args.self.now) zs)) (sym c.as_slice.ensures.value) c.in_ok-first.ensures.set.ascends

pub merge-requires-clause-ys_ascend : goal.merge-requires-clause-ys_ascend
merge-requires-clause-ys_ascend t c = subst (λ (zs : List ℕ). IsSet (map (type_of_id c.args.self.now) zs)) (sym c.as_slice-2.ensures.value) c.in_ok-second.ensures.set.ascends
