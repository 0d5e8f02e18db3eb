use Rattle.std.proofs.Common.{◌≡◌, ◌<◌, ◌∙◌, sym, ap, subst, ℕ, List, All, length, map, slice_get, Some, arith}
use Rattle.std.proofs.lemmas.Result.{IfOk-weaker}
use Rattle.hs_table.specs.Types.{IsSet}
use Rattle.hs_types.specs.Interned.{type_of_id, set_of_id, IsSetOf}
use Rattle.hs_types.proofs.MakeLemmas.{few_ascend, set_itself, numbered_set}
use Rattle.hs_types.proofs.nodes.Nodes.set.Goals as goal

pub latest_set-requires-clause-ascends : goal.latest_set-requires-clause-ascends
latest_set-requires-clause-ascends c = few_ascend (type_of_id c.args.self.now) c.args.ids.now (omega (arith, c.if-ids-le1.true))

pub returns-then-ids-le1-clause-ok : goal.returns-then-ids-le1-clause-ok
returns-then-ids-le1-clause-ok c =
    let K = c.latest_set.new.self in
    let members = map (type_of_id c.args.self.now) c.args.ids.now in
    let up = few_ascend (type_of_id c.args.self.now) c.args.ids.now (omega (arith, c.if-ids-le1.true)) in
    IfOk-weaker c.latest_set.result (λ id. slice_get K.sets id ≡ Some members) (λ id. (id < length K.sets) × IsSetOf members (set_of_id K id)) (λ id at. numbered_set K id members members at (set_itself members up)) c.latest_set.ensures.ok

pub add_set-requires-clause-ascends : goal.add_set-requires-clause-ascends
add_set-requires-clause-ascends c = c.ascends.ensures c.if-ascends.true

pub returns-then-ascends-clause-ok : goal.returns-then-ascends-clause-ok
returns-then-ascends-clause-ok c =
    let K = c.add_set.new.self in
    let members = map (type_of_id c.args.self.now) c.args.ids.now in
    IfOk-weaker c.add_set.result (λ id. slice_get K.sets id ≡ Some members) (λ id. (id < length K.sets) × IsSetOf members (set_of_id K id))
    (λ id at. numbered_set K id members members at (set_itself members (c.ascends.ensures c.if-ascends.true))) c.add_set.ensures.ok

pub add_set-requires-2-clause-range : goal.add_set-requires-2-clause-range
add_set-requires-2-clause-range c = subst (λ (zs : List ℕ). All (λ t. t < length c.args.self.now.types) zs) (sym c.as_slice.ensures.value) c.in_ok-sorted.ensures.range

pub add_set-requires-2-clause-ascends : goal.add_set-requires-2-clause-ascends
add_set-requires-2-clause-ascends c = subst (λ (zs : List ℕ). IsSet (map (type_of_id c.args.self.now) zs)) (sym c.as_slice.ensures.value) c.in_ok-sorted.ensures.set.ascends

pub returns-clause-ok : goal.returns-clause-ok
returns-clause-ok c =
    let f = type_of_id c.args.self.now in
    let K = c.add_set-2.new.self in
    let members = map f c.args.ids.now in
    IfOk-weaker c.add_set-2.result (λ id. slice_get K.sets id ≡ Some (map f c.as_slice.result.now)) (λ id. (id < length K.sets) × IsSetOf members (set_of_id K id))
    (λ id at. numbered_set K id members (map f c.in_ok-sorted.sorted.items) (at ∙ ap (λ (zs : List ℕ). Some (map f zs)) c.as_slice.ensures.value) c.in_ok-sorted.ensures.set) c.add_set-2.ensures.ok
