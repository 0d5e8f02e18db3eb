use Rattle.std.proofs.Common.{◌≡◌, ◌<◌, ◌∙◌, sym, ap, subst, ℕ, List, All, length, map, slice_get, Some}
use Rattle.std.proofs.lemmas.Result.{IfOk-weaker}
use Rattle.hs_table.specs.Types.{TypeTree, IsSet}
use Rattle.hs_types.specs.Interned.{type_of_id, set_of_id, IsUnion}
use Rattle.hs_types.proofs.MakeLemmas.{numbered_union}
use Rattle.hs_types.proofs.nodes.Nodes.union_sets.Goals as goal

pub merge-requires-clause-xs_ascend : goal.merge-requires-clause-xs_ascend
merge-requires-clause-xs_ascend c = subst (λ (s : List TypeTree). IsSet s) (sym c.members.ensures.members) (c.know_numbers.ensures.set_ascends c.args.a)

pub merge-requires-clause-ys_ascend : goal.merge-requires-clause-ys_ascend
merge-requires-clause-ys_ascend c = subst (λ (s : List TypeTree). IsSet s) (sym c.members-2.ensures.members) (c.know_numbers.ensures.set_ascends c.args.b)

pub set_among-requires-clause-range : goal.set_among-requires-clause-range
set_among-requires-clause-range c = subst (λ (zs : List ℕ). All (λ t. t < length c.args.self.now.types) zs) (sym c.as_slice.ensures.value) c.in_ok-merged.ensures.range

pub set_among-requires-clause-ascends : goal.set_among-requires-clause-ascends
set_among-requires-clause-ascends c = subst (λ (zs : List ℕ). IsSet (map (type_of_id c.args.self.now) zs)) (sym c.as_slice.ensures.value) c.in_ok-merged.ensures.union.ascends

pub returns-clause-ok : goal.returns-clause-ok
returns-clause-ok c =
    let I = c.args.self.now in
    let f = type_of_id I in
    let K = c.set_among.new.self in
    let union = map f c.in_ok-merged.merged.items in
    let first = subst (λ (s : List TypeTree). IsUnion s (map f c.members-2.result.now) union) c.members.ensures.members c.in_ok-merged.ensures.union in
    let both = subst (λ (s : List TypeTree). IsUnion (set_of_id I c.args.a) s union) c.members-2.ensures.members first in
    IfOk-weaker c.set_among.result (λ id. slice_get K.sets id ≡ Some (map f c.as_slice.result.now)) (λ id. (id < length K.sets) × IsUnion (set_of_id I c.args.a) (set_of_id I c.args.b) (set_of_id K id))
    (λ id at. numbered_union K id (set_of_id I c.args.a) (set_of_id I c.args.b) union (at ∙ ap (λ (zs : List ℕ). Some (map f zs)) c.as_slice.ensures.value) both) c.set_among.ensures.ok
