use Rattle.std.proofs.Common.{◌≡◌, ◌<◌, ◌∙◌, sym, ap, subst, ℕ, List, All, length, map, slice_get, Some, arith}
use Rattle.std.proofs.lemmas.List.{take_all}
use Rattle.std.proofs.lemmas.Option.{slice_get_within}
use Rattle.std.proofs.lemmas.Result.{IfOk-weaker}
use Rattle.hs_scheme.specs.Tree.{height, heights, forest}
use Rattle.hs_table.specs.Types.{TypeTree, state, arrow}
use Rattle.hs_table.specs.TypeView.{type_of}
use Rattle.hs_weak.proofs.ComparingLemmas.{below_heights}
use Rattle.hs_types.specs.Interned.{type_of_id, set_of_id, Grows, IsSetOf}
use Rattle.hs_types.proofs.Numbers.{Grows-trans, set_within}
use Rattle.hs_types.proofs.RowLemmas.{found_arrow}
use Rattle.hs_numbered.specs.Trees.{IsSomeType, IsSomeSet}
use Rattle.hs_numbered.proofs.TreeLemmas.{arrow_some, member_some, range_more, same_more, set_numbered}
use Rattle.hs_numbered.proofs.import.+import.Goals as goal

pub import_set-import_type-requires : goal.import_set-import_type-requires
import_set-import_type-requires t c =
    let lower = below_heights c.args.set.now c.member-item.result (c.loop-member.member-index, c.loop-member-test.true, sym c.member-item.is) in (
      omega (arith, c.decreases, lower),
      member_some c.args.set.now c.member-item.result (c.loop-member.member-index, c.loop-member-test.true, sym c.member-item.is) c.requires,
    )

pub import_set-loop-member-preserved : goal.import_set-loop-member-preserved
import_set-loop-member-preserved t c =
    let J = c.loop-member.interner in
    let K = c.import_type.new.interner in
    let g : Grows J K = c.import_type.ensures.grows in
    let h = c.loop-member.invariant in
    record {
      grows = Grows-trans c.args.interner.now J K h.grows g;
      range = range_more J.types K.types (state 0) c.loop-member.members.items c.push.new.self.items c.args.set.now c.loop-member.member-index c.in_ok-import_type.field-0 c.member-item.result
          g.types h.range h.same c.in_ok-import_type.ensures.ok c.loop-member-test.true c.member-item.is c.in_ok-push.ensures.ok;
      same = same_more J.types K.types (state 0) c.loop-member.members.items c.push.new.self.items c.args.set.now c.loop-member.member-index c.in_ok-import_type.field-0 c.member-item.result
          g.types h.range h.same c.in_ok-import_type.ensures.ok c.loop-member-test.true c.member-item.is c.in_ok-push.ensures.ok;
    }

pub import_set-returns-in_err-import_type-clause-grows : goal.import_set-returns-in_err-import_type-clause-grows
import_set-returns-in_err-import_type-clause-grows t c = Grows-trans c.args.interner.now c.loop-member.interner c.import_type.new.interner c.loop-member.invariant.grows c.import_type.ensures.grows

pub import_set-returns-in_err-push-clause-grows : goal.import_set-returns-in_err-push-clause-grows
import_set-returns-in_err-push-clause-grows t c = Grows-trans c.args.interner.now c.loop-member.interner c.import_type.new.interner c.loop-member.invariant.grows c.import_type.ensures.grows

pub import_set-set-requires : goal.import_set-set-requires
import_set-set-requires t c = subst (λ (zs : List ℕ). All (λ i. i < length c.loop-member.interner.types) zs) (sym c.as_slice.ensures) c.loop-member.invariant.range

pub import_set-returns-clause-ok : goal.import_set-returns-clause-ok
import_set-returns-clause-ok t c =
    let J = c.loop-member.interner in
    let K = c.set.new.self in
    let ids = c.as_slice.result.now in
    let all : map (type_of_id J) ids ≡ c.args.set.now =
    ap (λ (zs : List ℕ). map (type_of_id J) zs) c.as_slice.ensures ∙ (c.loop-member.invariant.same ∙ take_all c.loop-member.member-index c.args.set.now c.loop-member-test.false) in
    IfOk-weaker c.set.result (λ id. (id < length K.sets) × IsSetOf (map (type_of_id J) ids) (set_of_id K id)) (λ id. slice_get K.sets id ≡ Some c.args.set.now)
    (λ id at. set_numbered J K ids c.args.set.now id c.requires all at) c.set.ensures.ok

pub import_set-returns-clause-grows : goal.import_set-returns-clause-grows
import_set-returns-clause-grows t c = Grows-trans c.args.interner.now c.loop-member.interner c.set.new.self c.loop-member.invariant.grows c.set.ensures.grows

pub import_type-import_set-requires : goal.import_type-import_set-requires
import_type-import_set-requires t c =
    let is : c.args.ty.now ≡ arrow c.in-Arrow.set.items c.in-Arrow.rest.value = sym c.ty.view_is ∙ ap type_of c.in-Arrow.is in
    let high = ap height is in
    let same = ap (λ (s : List TypeTree). heights (forest s)) c.as_slice.ensures.value in (
      omega (arith, c.decreases, high, same),
      subst (λ (s : List TypeTree). IsSomeSet s) (sym c.as_slice.ensures.value) (arrow_some c.args.ty.now c.in-Arrow.set.items c.in-Arrow.rest.value is c.requires).0,
    )

pub import_type-import_type-requires : goal.import_type-import_type-requires
import_type-import_type-requires t c =
    let is : c.args.ty.now ≡ arrow c.in-Arrow.set.items c.in-Arrow.rest.value = sym c.ty.view_is ∙ ap type_of c.in-Arrow.is in
    let high = ap height is in
    let same = ap (λ (z : TypeTree). height z) c.deref.ensures in (
      omega (arith, c.decreases, high, same),
      subst (λ (z : TypeTree). IsSomeType z) (sym c.deref.ensures) (arrow_some c.args.ty.now c.in-Arrow.set.items c.in-Arrow.rest.value is c.requires).1,
    )

pub import_type-arrow-requires-clause-set : goal.import_type-arrow-requires-clause-set
import_type-arrow-requires-clause-set t c =
    let J = c.import_set.new.interner in
    let K = c.import_type.new.interner in
    set_within J K c.import_type.ensures.grows c.in_ok-own_set-in-Arrow.own_set (slice_get_within J.sets c.in_ok-own_set-in-Arrow.own_set c.as_slice.result.now c.in_ok-own_set-in-Arrow.ensures.ok)

pub import_type-arrow-requires-clause-rest : goal.import_type-arrow-requires-clause-rest
import_type-arrow-requires-clause-rest t c =
    let K = c.import_type.new.interner in
    slice_get_within K.types c.in_ok-own_rest-in-Arrow.own_rest c.deref.result.now c.in_ok-own_rest-in-Arrow.ensures.ok

pub import_type-returns-in_ok-own_rest-in-Arrow-clause-ok : goal.import_type-returns-in_ok-own_rest-in-Arrow-clause-ok
import_type-returns-in_ok-own_rest-in-Arrow-clause-ok t c =
    let J = c.import_set.new.interner in
    let K = c.import_type.new.interner in
    let N = c.arrow.new.self in
    let s = c.in_ok-own_set-in-Arrow.own_set in
    let r = c.in_ok-own_rest-in-Arrow.own_rest in
    let is : c.args.ty.now ≡ arrow c.as_slice.result.now c.deref.result.now = sym c.ty.view_is ∙ ap type_of c.in-Arrow.is ∙ (λ i. arrow (sym c.as_slice.ensures.value i) (sym c.deref.ensures i)) in
    IfOk-weaker c.arrow.result (λ id. slice_get N.types id ≡ Some (arrow (set_of_id K s) (type_of_id K r))) (λ id. slice_get N.types id ≡ Some c.args.ty.now)
    (λ id at. at ∙ ap (λ (z : TypeTree). Some z) (found_arrow J K s r c.as_slice.result.now c.deref.result.now c.args.ty.now c.import_type.ensures.grows c.in_ok-own_set-in-Arrow.ensures.ok c.in_ok-own_rest-in-Arrow.ensures.ok is)) c.arrow.ensures.ok

pub import_type-returns-in_err-own_rest-in-Arrow-clause-grows : goal.import_type-returns-in_err-own_rest-in-Arrow-clause-grows
import_type-returns-in_err-own_rest-in-Arrow-clause-grows t c = Grows-trans c.args.interner.now c.import_set.new.interner c.import_type.new.interner c.import_set.ensures.grows c.import_type.ensures.grows

pub import_type-returns-in_ok-own_rest-in-Arrow-clause-grows : goal.import_type-returns-in_ok-own_rest-in-Arrow-clause-grows
import_type-returns-in_ok-own_rest-in-Arrow-clause-grows t c =
    let J = c.import_set.new.interner in
    let K = c.import_type.new.interner in
    Grows-trans c.args.interner.now K c.arrow.new.self (Grows-trans c.args.interner.now J K c.import_set.ensures.grows c.import_type.ensures.grows) c.arrow.ensures.grows
