use Rattle.std.proofs.Common.{◌≡◌, sym, ◌∙◌, ap, [], ◌∷◌, ◌++◌, get_or, take}
use Rattle.std.proofs.lemmas.List.{take_all, take_more}
use Rattle.hs_table.specs.Types.{arrow}
use Rattle.hs_table.specs.TypeView.{type_of}
use Rattle.hs_table.proofs.ty.Ty.+copy.Goals as goal

pub returns-in_ok-rest-in-Arrow : goal.returns-in_ok-rest-in-Arrow
returns-in_ok-rest-in-Arrow t c =
    let items = c.deref-member-items.result.now in
    let copied : c.loop-member.copies.items ≡ c.in-Arrow.set.items =
    c.loop-member.invariant ∙ (take_all c.loop-member.member-index items c.loop-member-test.false ∙ c.deref-member-items.ensures.value) in
    let rest : c.in_ok-rest-in-Arrow.rest.value ≡ c.in-Arrow.result_type.value =
    c.in_ok-rest-in-Arrow.ensures.ok ∙ (c.in_ok-copy-in-Arrow-2.ensures ∙ c.deref.ensures) in
    (λ i. arrow (copied i) (rest i)) ∙ (ap type_of (sym c.in-Arrow.is) ∙ c.self.view_is)

pub loop-member-preserved : goal.loop-member-preserved
loop-member-preserved t c =
    let items = c.deref-member-items.result.now in
    let k = c.loop-member.member-index in
    let made : c.in_ok-copy-in-Arrow.field-0 ≡ get_or items k c.member-item.result = c.in_ok-copy-in-Arrow.ensures ∙ c.member-item.is in
    let more : (c.loop-member.copies.items ++ (c.in_ok-copy-in-Arrow.field-0 ∷ [])) ≡ (take k items ++ (get_or items k c.member-item.result ∷ [])) =
    λ i. c.loop-member.invariant i ++ (made i ∷ []) in
    c.in_ok-push-in-Arrow.ensures.items ∙ (more ∙ sym (take_more items k c.member-item.result c.loop-member-test.true))
