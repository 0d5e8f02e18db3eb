-- How pieces that are put at the end of a text join.
use Rattle.std.proofs.Common.{◌≡◌, sym, ◌∙◌, ap, subst as along, ℕ, ◌+◌, List, [], ◌∷◌, ◌++◌, take, slice_get, Some, append_assoc}
use Rattle.std.specs.List.{flat_map}
use Rattle.std.proofs.lemmas.List.{append-nil, take_more}
use Rattle.std.proofs.lemmas.List.Concat.{flat_map-append}
use Rattle.std.proofs.lemmas.Option.{get_or_from_slice_get, slice_get_within}
use Rattle.hs_text.specs.declared.pieces.Text.{Text}
use Rattle.hs_text.specs.Pieces.{Puts}

pub puts_none : (t : Text) → Puts t t []
puts_none t = record { before = λ w. w; bytes = λ w. sym (append-nil t.bytes.items) }

pub puts_then : {a b c : Text} {x y : List ℕ} → Puts a b x → Puts b c y → Puts a c (x ++ y)
puts_then {a} {b} {c} {x} {y} p q =
    record { before = λ w. p.before (q.before w); bytes = λ w. q.bytes w ∙ (ap (λ r. r ++ y) (p.bytes (q.before w)) ∙ append_assoc a.bytes.items x y) }

pub puts_as : {a b : Text} {x y : List ℕ} → x ≡ y → Puts a b x → Puts a b y
puts_as {a} {b} e p = along (λ (z : List ℕ). Puts a b z) e p

-- the pieces so far, and that of one more item
pub flat_map-more : {X : Type 0} (f : X → List ℕ) (xs : List X) (n : ℕ) (x : X) → slice_get xs n ≡ Some x → flat_map f (take n xs) ++ f x ≡ flat_map f (take (n + 1) xs)
flat_map-more f xs n x at =
    sym (ap (flat_map f) (take_more xs n x (slice_get_within xs n x at) ∙ ap (λ u. take n xs ++ u ∷ []) (get_or_from_slice_get xs n x x at))
    ∙ (flat_map-append f (take n xs) (x ∷ []) ∙ ap (λ t. flat_map f (take n xs) ++ t) (append-nil (f x))))
