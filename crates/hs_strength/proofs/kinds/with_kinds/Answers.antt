use Rattle.std.proofs.Common.{◌≡◌, refl, sym, ◌∙◌, ap, subst, List, ◌∷◌, [], ◌++◌, ◌+◌, ◌*◌, ◌%◌, ◌^◌, bit_or, map, take}
use Rattle.std.proofs.lemmas.List.{map-append, take_all}
use Rattle.hs_table.specs.Types.{TypeTree}
use Rattle.hs_table_laws.proofs.Members.{taken_next}
use Rattle.hs_types.specs.Interned.{type_of_id}
use Rattle.hs_strength.specs.Kinds.{kind_of, AddsKinds}
use Rattle.hs_strength.proofs.KindBits.{no_kinds, one_kind}
use Rattle.hs_strength.proofs.kinds.with_kinds.Goals as goal

pub loop-member-init : goal.loop-member-init
loop-member-init c = no_kinds c.args.parameter c.args.kinds

pub loop-member-preserved : goal.loop-member-preserved
loop-member-preserved c =
    let f = type_of_id c.args.types.now in
    let ms = c.members-members.result.now in
    let k = c.loop-member.member-index in
    let t = c.member-item.result in
    let j = c.args.parameter in
    let taken : map f (take (k + 1) ms) ≡ map f (take k ms) ++ f t ∷ [] = ap (map f) (taken_next ms k t c.loop-member-test.true c.member-item.is) ∙ map-append f (take k ms) (t ∷ []) in
    let new = bit_or c.loop-member.all (1 * 2 ^ c.kind_of.result % 2 ^ 64) in
    subst (λ (set : List TypeTree). AddsKinds set j c.args.kinds new) (sym taken)
    (one_kind (map f (take k ms)) j c.args.kinds c.loop-member.all new c.kind_of.result (f t) c.loop-member.invariant c.kind_of.ensures.range (c.kind_of.ensures.kind ∙ ap (kind_of j) c.last_state.ensures) refl)

pub returns : goal.returns
returns c =
    let f = type_of_id c.args.types.now in
    let ms = c.members-members.result.now in
    subst (λ (set : List TypeTree). AddsKinds set c.args.parameter c.args.kinds c.loop-member.all) (ap (map f) (take_all c.loop-member.member-index ms c.loop-member-test.false) ∙ c.members-members.ensures.members) c.loop-member.invariant
