use Rattle.std.proofs.Common.{refl, ◌∙◌, ap, sym, ◌+◌, ◌++◌, length, take, map, codes, slice_get, Some, ◌≡◌, arith}
use Rattle.std.specs.List.{join_by}
use Rattle.std.proofs.lemmas.List.{take_all}
use Rattle.std.proofs.lemmas.Option.{slice_get_read}
use Rattle.hs_table.specs.TypeView.{type_of}
use Rattle.hs_text.specs.Report.{type_text, braced}
use Rattle.hs_text.proofs.Joins.{joined-more, mapped-more, mapped-long}
use Rattle.hs_text.proofs.Puts.{puts_none, puts_then, puts_as}
use Rattle.hs_text.proofs.Types.{type_texts-forest, height-member}
use Rattle.hs_text.proofs.table.+types.Goals as goal

pub push_set-push_type-requires : goal.push_set-push_type-requires
push_set-push_type-requires t c =
    let set = c.args.set.now in
    let at : slice_get set c.loop-place.place ≡ Some c.index-set-place.result = slice_get_read set (length set) c.loop-place.place c.index-set-place.result refl c.loop-place-test.true c.index-set-place.is in
    let low = height-member set c.loop-place.place c.index-set-place.result at in (omega (arith, c.decreases, low), tt)

pub push_set-loop-place-init : goal.push_set-loop-place-init
push_set-loop-place-init t c = puts_none _

pub push_set-loop-place-preserved : goal.push_set-loop-place-preserved
push_set-loop-place-preserved t c =
    let set = c.args.set.now in
    let n = c.loop-place.place in
    let ty = c.index-set-place.result in
    let write = type_text c.args.states.now in
    let at : slice_get set n ≡ Some ty = slice_get_read set (length set) n ty refl c.loop-place-test.true c.index-set-place.is in
    puts_as (joined-more (λ t. t) (codes ",") (map write (take n set)) (map write (take (n + 1) set)) (write ty) n (mapped-more set n ty at write) (mapped-long set n ty at write))
    (puts_then c.loop-place.invariant (puts_then (puts_as c.separator_before.ensures c.push-in-loop-place.ensures) c.push_type.ensures))

pub push_set-returns : goal.push_set-returns
push_set-returns t c =
    puts_then c.push.ensures (puts_then (puts_as (ap (λ set. join_by (λ t. t) (codes ",") (map (type_text c.args.states.now) set)) (take_all _ c.args.set.now c.loop-place-test.false)) c.loop-place.invariant) c.push-2.ensures)

pub push_type-returns-in-State : goal.push_type-returns-in-State
push_type-returns-in-State t c =
    puts_as (c.name_of.ensures ∙ ap (type_text c.args.states.now) (ap type_of (sym c.in-State.is) ∙ c.ty.view_is)) c.push.ensures

pub push_type-returns-in-Arrow : goal.push_type-returns-in-Arrow
push_type-returns-in-Arrow t c =
    let set = c.in-Arrow.set.items in
    let states = c.args.states.now in
    let rest : c.deref.result.now ≡ c.in-Arrow.rest.value = c.deref.ensures in
    let is : type_of c.ty.inside.shape ≡ c.args.ty.now = c.ty.view_is in
    puts_as (ap (λ u. braced (map (type_text states) c.as_slice.result.now) ++ (codes " -> " ++ type_text states u)) rest
    ∙ (ap (λ ms. braced (map (type_text states) ms) ++ (codes " -> " ++ type_text states c.in-Arrow.rest.value)) c.as_slice.ensures.value
    ∙ (ap (λ ms. braced ms ++ (codes " -> " ++ type_text states c.in-Arrow.rest.value)) (sym (type_texts-forest states set))
    ∙ ap (type_text states) (ap type_of (sym c.in-Arrow.is) ∙ is)))) (puts_then c.push_set.ensures (puts_then c.push-in-Arrow.ensures c.push_type.ensures))
