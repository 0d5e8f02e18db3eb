-- Copies of lists whose elements contracts see through a function, element after element.
use Rattle.std.proofs.Common.{◌≡◌, sym, ◌∙◌, ap, ℕ, ◌+◌, ◌<◌, List, [], ◌∷◌, ◌++◌, length, map, take, get_or}
use Rattle.std.proofs.lemmas.List.{take_more, map-append}

pub copied_more : {A B : Type 0} (f : A → B) (done more all : List A) (i : ℕ) (x y : A) → more ≡ done ++ x ∷ [] → map f done ≡ map f (take i all) → i < length all → y ≡ get_or all i y → f x ≡ f y
    → map f more ≡ map f (take (i + 1) all)
copied_more f done more all i x y pushed was within at same =
    ap (map f) pushed
    ∙ (map-append f done (x ∷ [])
    ∙ ((λ j. was j ++ (same ∙ ap f at) j ∷ [])
    ∙ (sym (map-append f (take i all) (get_or all i y ∷ []))
    ∙ ap (map f) (sym (take_more all i y within)))))
