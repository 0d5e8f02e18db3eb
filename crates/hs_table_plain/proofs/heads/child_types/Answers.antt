use Rattle.std.proofs.Common.{◌≡◌, sym, ◌∙◌, ap, [], ◌∷◌, ◌++◌, length, append_assoc, add-one, arith}
use Rattle.hs_table_plain.specs.Enumeration as plain
use Rattle.hs_table_plain.proofs.heads.child_types.Goals as goal

pub loop-place-preserved : goal.loop-place-preserved
loop-place-preserved c =
    let old = c.args.out.now.items in
    let before = plain.child_types c.args.to.now c.args.q c.loop-place.place in
    let made = plain.child_type c.args.to.now c.args.q c.loop-place.place in
    let more : (c.loop-place.out.items ++ (c.in_ok-child_type.field-0 ∷ [])) ≡ ((old ++ before) ++ (made ∷ [])) =
    λ i. c.loop-place.invariant i ++ (c.in_ok-child_type.ensures i ∷ []) in
    c.in_ok-push.ensures.items
    ∙ (more ∙ (append_assoc old before (made ∷ []) ∙ ap (λ n. old ++ plain.child_types c.args.to.now c.args.q n) (sym (add-one c.loop-place.place))))

pub returns : goal.returns
returns c =
    let all : c.loop-place.place ≡ length c.args.to.now = omega (arith, c.loop-place-test.false) in
    c.loop-place.invariant ∙ ap (λ n. c.args.out.now.items ++ plain.child_types c.args.to.now c.args.q n) all
