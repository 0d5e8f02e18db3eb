-- Types as texts, and how deep they are.
use Rattle.std.proofs.Common.{◌≡◌, refl, ap, ℕ, zero, suc, ◌+◌, ◌≤◌, List, [], ◌∷◌, map, slice_get, Some, arith}
use Rattle.std.proofs.lemmas.Option.{same_Some}
use Rattle.hs_scheme.specs.Tree.{height, heights, forest}
use Rattle.hs_table.specs.Types.{TypeTree}
use Rattle.hs_text.specs.Report.{type_text, type_texts}

pub type_texts-forest : (states : List (List ℕ)) (s : List TypeTree) → type_texts states (forest s) ≡ map (type_text states) s
type_texts-forest states [] = refl
type_texts-forest states (t ∷ s) = ap (λ ts. type_text states t ∷ ts) (type_texts-forest states s)

-- a member is lower than its set
pub height-member : (s : List TypeTree) (n : ℕ) (t : TypeTree) → slice_get s n ≡ Some t → height t + 1 ≤ heights (forest s)
height-member [] n t at = absurd (cc)
height-member (u ∷ s) zero t at = let e : height u ≡ height t = ap height (same_Some u t at) in omega arith
height-member (u ∷ s) (suc n) t at = omega (arith, height-member s n t at)
