use Rattle.std.proofs.Common.{◌≡◌, refl, sym, ◌∙◌, ap, subst, ℕ, List, ◌∷◌, [], ◌++◌, ◌+◌, ◌*◌, ◌%◌, ◌^◌, ◌<◌, length, bit_or, map, take}
use Rattle.std.proofs.lemmas.List.{map-append, take_all}
use Rattle.std.proofs.lemmas.Option.{slice_get-get_or}
use Rattle.hs_table.specs.Types.{TypeTree, state}
use Rattle.hs_table_laws.proofs.Members.{taken_next}
use Rattle.hs_types.specs.Interned.{type_of_id}
use Rattle.hs_replica.specs.Masks.{AddsBitsOf}
use Rattle.hs_replica.proofs.MaskLemmas.{no_bits, one_bit}
use Rattle.hs_replica.proofs.masks.with_set.Goals as goal

pub loop-ty-init : goal.loop-ty-init
loop-ty-init c = no_bits c.args.interner.now c.args.count c.args.param c.args.mask

pub loop-ty-preserved : goal.loop-ty-preserved
loop-ty-preserved c =
    let I = c.args.interner.now in
    let f = type_of_id I in
    let ms = c.members-ty-items.result.now in
    let k = c.loop-ty.ty-index in
    let t = c.ty-item.result in
    let j = c.args.param in
    let n = c.args.count in
    let known : t < length I.types = subst (λ (u : ℕ). u < length I.types) (sym c.ty-item.is) (c.members-ty-items.ensures.range k t c.loop-ty-test.true) in
    let taken : map f (take (k + 1) ms) ≡ map f (take k ms) ++ f t ∷ [] = ap (map f) (taken_next ms k t c.loop-ty-test.true c.ty-item.is) ∙ map-append f (take k ms) (t ∷ []) in
    let new = bit_or c.loop-ty.all (1 * 2 ^ c.in_ok-bit.bit % 2 ^ 128) in
    subst (λ (set : List TypeTree). AddsBitsOf I n j set c.args.mask new) (sym taken)
    (one_bit I n j (map f (take k ms)) c.args.mask c.loop-ty.all new c.in_ok-bit.bit t (f t) c.loop-ty.invariant c.in_ok-bit.ensures.bit.0 (c.in_ok-bit.ensures.bit.1 ∙ ap (λ (u : ℕ). u * n + j) c.number.ensures) known (slice_get-get_or I.types t (state 0) known) refl refl)

pub returns : goal.returns
returns c =
    let f = type_of_id c.args.interner.now in
    let ms = c.members-ty-items.result.now in
    subst (λ (set : List TypeTree). AddsBitsOf c.args.interner.now c.args.count c.args.param set c.args.mask c.loop-ty.all) (ap (map f) (take_all c.loop-ty.ty-index ms c.loop-ty-test.false) ∙ c.members-ty-items.ensures.members) c.loop-ty.invariant
