use Rattle.std.proofs.Common.{◌≡◌, sym, ◌∙◌, ap, ℕ, suc, ◌+◌, List, ◌∷◌, [], ◌++◌, append_assoc, arith}
use Rattle.hs_sorts.specs.Naming.{added_name, added_names}
use Rattle.hs_sorts.proofs.lengthening.add_names.Goals as goal

one_more : (names now new : List (List ℕ)) (n : ℕ) (name : List ℕ) → now ≡ names ++ added_names n → name ≡ added_name (n + 1) → new ≡ now ++ name ∷ [] → new ≡ names ++ added_names (n + 1)
one_more names now new n name so_far is pushed =
    let e : suc n ≡ n + 1 = omega arith in
    pushed
    ∙ (ap (λ (ns : List (List ℕ)). ns ++ name ∷ []) so_far
    ∙ (append_assoc names (added_names n) (name ∷ [])
    ∙ (ap (λ (m : List ℕ). names ++ (added_names n ++ m ∷ [])) (is ∙ ap added_name (sym e)) ∙ ap (λ (k : ℕ). names ++ added_names k) e)))

pub loop-number-preserved : goal.loop-number-preserved
loop-number-preserved c = one_more c.args.names.now.items c.loop-number.names.items c.push.new.self.items c.loop-number.number c.in_ok-added_name.field-0 c.loop-number.invariant c.in_ok-added_name.ensures c.in_ok-push.ensures.items
