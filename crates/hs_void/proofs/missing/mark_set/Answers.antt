use Rattle.std.proofs.Common.{◌≡◌, refl, sym, ◌∙◌, subst, ◌<◌, ◌≤◌, ◌⊎◌, ◌↔◌, length, slice_get, Some}
use Rattle.hs_types.specs.Interned.{InternerData, type_of_id, set_of_id}
use Rattle.hs_sites.specs.Listed.{data_of}
use Rattle.hs_sites.specs.Reaching.{IsOn}
use Rattle.hs_void.specs.Rows.{LacksAt}
use Rattle.hs_void.specs.Voids.{Remembers, AreRows}
use Rattle.hs_void.proofs.Marked.{set_begun, set_more, set_done}
use Rattle.hs_void.proofs.missing.mark_set.Goals as goal

pub loop-place-init : goal.loop-place-init
loop-place-init c =
    let I = c.args.types.now in
    let b = c.args.basis.now in
    record {
      same = refl;
      memo = c.requires.memo;
      len = refl;
      marks = λ k x at. set_begun b.problem I b.table c.args.parameter (set_of_id I c.args.set) (data_of x) (IsOn c.args.marks.now.items k);
    }

pub member-ty-requires-clause-set : goal.member-ty-requires-clause-set
member-ty-requires-clause-set c = subst (λ (I : InternerData). c.args.set < length I.sets) (sym c.loop-place.invariant.same) c.requires.set

pub member-ty-requires-clause-place : goal.member-ty-requires-clause-place
member-ty-requires-clause-place c =
    subst (λ (I : InternerData). c.loop-place.place < length (set_of_id I c.args.set)) (sym c.loop-place.invariant.same) (subst (λ n. c.loop-place.place < n) c.count-count.ensures c.loop-place-test.true)

pub mark_type-requires-clause-rows : goal.mark_type-requires-clause-rows
mark_type-requires-clause-rows c = subst (λ (I : InternerData). AreRows I c.args.basis.now) (sym c.loop-place.invariant.same) c.requires.rows

pub mark_type-requires-clause-memo : goal.mark_type-requires-clause-memo
mark_type-requires-clause-memo c = subst (λ (I : InternerData). Remembers I c.args.basis.now c.loop-place.memo) (sym c.loop-place.invariant.same) c.loop-place.invariant.memo

pub mark_type-requires-clause-len : goal.mark_type-requires-clause-len
mark_type-requires-clause-len c = c.loop-place.invariant.len ∙ c.requires.len

pub loop-place-preserved : goal.loop-place-preserved
loop-place-preserved c =
    let I = c.args.types.now in
    let b = c.args.basis.now in
    let h = c.loop-place.invariant in
    let i = c.loop-place.place in
    let ty = c.member-ty.result in
    let at_type : slice_get (set_of_id I c.args.set) i ≡ Some (type_of_id I ty) = subst (λ (J : InternerData). slice_get (set_of_id J c.args.set) i ≡ Some (type_of_id J ty)) h.same c.member-ty.ensures.is in
    record {
      same = c.mark_type.ensures.same ∙ h.same;
      memo = subst (λ (J : InternerData). Remembers J b c.mark_type.new.memo) h.same c.mark_type.ensures.memo;
      len = c.mark_type.ensures.len ∙ h.len;
      marks = λ k x at.
          let one = subst (λ (J : InternerData). IsOn c.mark_type.new.marks.items k ↔ (IsOn c.loop-place.marks.items k ⊎ LacksAt b.problem J b.table c.args.parameter (type_of_id J ty) (data_of x))) h.same (c.in_ok-mark_type.ensures.marks k x at) in
          set_more b.problem I b.table c.args.parameter (set_of_id I c.args.set) i (type_of_id I ty) at_type (data_of x) (IsOn c.args.marks.now.items k) (IsOn c.loop-place.marks.items k) (IsOn c.mark_type.new.marks.items k) (h.marks k x at) one;
    }

pub returns-in_err-mark_type-clause-len : goal.returns-in_err-mark_type-clause-len
returns-in_err-mark_type-clause-len c = c.mark_type.ensures.len ∙ c.loop-place.invariant.len

pub returns-in_err-mark_type-clause-memo : goal.returns-in_err-mark_type-clause-memo
returns-in_err-mark_type-clause-memo c = subst (λ (J : InternerData). Remembers J c.args.basis.now c.mark_type.new.memo) c.loop-place.invariant.same c.mark_type.ensures.memo

pub returns-in_err-mark_type-clause-same : goal.returns-in_err-mark_type-clause-same
returns-in_err-mark_type-clause-same c = c.mark_type.ensures.same ∙ c.loop-place.invariant.same

pub returns-clause-marks : goal.returns-clause-marks
returns-clause-marks c = λ k x at.
    let I = c.args.types.now in
    let b = c.args.basis.now in
    set_done b.problem I b.table c.args.parameter (set_of_id I c.args.set) c.loop-place.place (subst (λ n. n ≤ c.loop-place.place) c.count-count.ensures c.loop-place-test.false) (data_of x) (IsOn c.args.marks.now.items k) (IsOn c.loop-place.marks.items k) (c.loop-place.invariant.marks k x at)
