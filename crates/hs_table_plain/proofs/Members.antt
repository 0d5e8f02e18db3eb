-- Members of lists that are made of lists.
use Rattle.std.proofs.Common.{◌≡◌, ◌≢◌, refl, sym, ◌∙◌, ap, subst, ℕ, ◌+◌, ◌<◌, List, [], ◌∷◌, ◌++◌, length, get_or, take, arith, append_assoc, append-nil, AllPairs, Contains, ◌⊎◌, inl, inr, ◌↔◌}
use Rattle.std.specs.List.{flat_map}
use Rattle.std.proofs.lemmas.List.Elements.{Contains-append_left, Contains-append_right, Contains-append_cases}
use Rattle.std.proofs.lemmas.Grind.{flat_map-append}
use Rattle.hs_scheme.proofs.Lists.{none_in, here, later, uncons, only}
use Rattle.hs_table_laws.proofs.Places.{pairs_cons, pairs_head, pairs_tail}
use Rattle.hs_table_laws.proofs.Members.{taken_next}

pub record Source {X Y : Type 0} (f : X → List Y) (xs : List X) (y : Y) : Type 0 where
  pub item : X
  pub there : Contains xs item
  pub gives : Contains (f item) y

pub from_flat_map : {X Y : Type 0} (f : X → List Y) (xs : List X) (y : Y) → Contains (flat_map f xs) y → Source f xs y
from_flat_map f [] y c = absurd (none_in y c)
from_flat_map f (x ∷ xs) y c = elim (Contains-append_cases (f x) (flat_map f xs) y c) [
  | inl h ↦ record { item = x; there = here x xs; gives = h }
  | inr h ↦ let r = from_flat_map f xs y h in record { item = r.item; there = later x r.item xs r.there; gives = r.gives }
]

pub into_flat_map : {X Y : Type 0} (f : X → List Y) (xs : List X) (x : X) (y : Y) → Contains xs x → Contains (f x) y → Contains (flat_map f xs) y
into_flat_map f [] x y c h = absurd (none_in x c)
into_flat_map f (z ∷ xs) x y c h = elim (uncons z x xs c) [
  | inl e ↦ Contains-append_left (f z) (flat_map f xs) y (subst (λ w. Contains (f w) y) e h)
  | inr there ↦ Contains-append_right (f z) (flat_map f xs) y (into_flat_map f xs x y there h)
]

pub in_pushed : {X : Type 0} (xs : List X) (y x : X) → Contains (xs ++ y ∷ []) x ↔ (Contains xs x ⊎ (x ≡ y))
in_pushed xs y x = (
  λ c. elim (Contains-append_cases xs (y ∷ []) x c) [
    | inl h ↦ inl h
    | inr h ↦ inr (only y x h)
  ],
  λ h. back h,
)
  where
    back : Contains xs x ⊎ (x ≡ y) → Contains (xs ++ y ∷ []) x
    back (inl h) = Contains-append_left xs (y ∷ []) x h
    back (inr e) = Contains-append_right xs (y ∷ []) x (subst (λ z. Contains (y ∷ []) z) (sym e) (here y []))

pub next_member : {X : Type 0} (xs : List X) (k : ℕ) (y x : X) → k < length xs → y ≡ get_or xs k y → Contains (take (k + 1) xs) x ↔ (Contains (take k xs) x ⊎ (x ≡ y))
next_member xs k y x lt is = subst (λ zs. Contains zs x ↔ (Contains (take k xs) x ⊎ (x ≡ y))) (sym (taken_next xs k y lt is)) (in_pushed (take k xs) y x)

pub next_gives : {X Y : Type 0} (f : X → List Y) (xs : List X) (k : ℕ) (y : X) (z : Y) → k < length xs → y ≡ get_or xs k y
    → Contains (flat_map f (take (k + 1) xs)) z ↔ (Contains (flat_map f (take k xs)) z ⊎ Contains (f y) z)
next_gives f xs k y z lt is =
    subst (λ zs. Contains (flat_map f zs) z ↔ (Contains (flat_map f (take k xs)) z ⊎ Contains (f y) z)) (sym (taken_next xs k y lt is)) (
      λ c. out (from_flat_map f (take k xs ++ y ∷ []) z c),
      λ h. back h,
    )
  where
    out : Source f (take k xs ++ y ∷ []) z → Contains (flat_map f (take k xs)) z ⊎ Contains (f y) z
    out s = elim ((in_pushed (take k xs) y s.item).0 s.there) [
      | inl h ↦ inl (into_flat_map f (take k xs) s.item z h s.gives)
      | inr e ↦ inr (subst (λ w. Contains (f w) z) e s.gives)
    ]

    back : Contains (flat_map f (take k xs)) z ⊎ Contains (f y) z → Contains (flat_map f (take k xs ++ y ∷ [])) z
    back (inl h) = let s = from_flat_map f (take k xs) z h in into_flat_map f (take k xs ++ y ∷ []) s.item z ((in_pushed (take k xs) y s.item).1 (inl s.there)) s.gives
    back (inr h) = into_flat_map f (take k xs ++ y ∷ []) y z ((in_pushed (take k xs) y y).1 (inr refl)) h

-- what one more item gives
pub flat_map_more : {X Y : Type 0} (f : X → List Y) (xs : List X) (k : ℕ) (y : X) → k < length xs → y ≡ get_or xs k y → flat_map f (take k xs) ++ f y ≡ flat_map f (take (k + 1) xs)
flat_map_more f xs k y lt is =
    sym (ap (flat_map f) (taken_next xs k y lt is) ∙ (flat_map-append f (take k xs) (y ∷ []) ∙ ap (λ zs. flat_map f (take k xs) ++ zs) (append-nil (f y))))

-- so behind others
pub flat_map_behind : {X Y : Type 0} (f : X → List Y) (xs : List X) (k : ℕ) (y : X) (old : List Y) → k < length xs → y ≡ get_or xs k y
    → (old ++ flat_map f (take k xs)) ++ f y ≡ old ++ flat_map f (take (k + 1) xs)
flat_map_behind f xs k y old lt is = append_assoc old (flat_map f (take k xs)) (f y) ∙ ap (λ zs. old ++ zs) (flat_map_more f xs k y lt is)

-- lists with the same members, told in two steps
pub two_steps : (A B C D F : Type 0) → A ↔ (B ⊎ C) → B ↔ D → F ↔ (D ⊎ C) → A ↔ F
two_steps A B C D F f g h = (λ a. h.1 (forth (f.0 a)), λ x. f.1 (back (h.0 x)))
  where
    forth : B ⊎ C → D ⊎ C
    forth (inl b) = inl (g.0 b)
    forth (inr c) = inr c

    back : D ⊎ C → B ⊎ C
    back (inl d) = inl (g.1 d)
    back (inr c) = inr c

pub two_steps_beside : (A B C D E F : Type 0) → A ↔ (B ⊎ C) → B ↔ (E ⊎ D) → F ↔ (D ⊎ C) → A ↔ (E ⊎ F)
two_steps_beside A B C D E F f g h = (λ a. forth (f.0 a), λ x. f.1 (back x))
  where
    forth : B ⊎ C → E ⊎ F
    forth (inl b) = elim (g.0 b) [ inl e ↦ inl e | inr d ↦ inr (h.1 (inl d)) ]
    forth (inr c) = inr (h.1 (inr c))

    back : E ⊎ F → B ⊎ C
    back (inl e) = inl (g.1 (inl e))
    back (inr x) = elim (h.0 x) [ inl d ↦ inl (g.1 (inr d)) | inr c ↦ inr c ]

-- a new one at the end of a list without repeats
pub pairs_push : {X : Type 0} (xs : List X) (y : X) → AllPairs (λ a b. a ≢ b) xs → (Contains xs y → ⊥) → AllPairs (λ a b. a ≢ b) (xs ++ y ∷ [])
pairs_push [] y h new = λ i j d lt below. absurd (omega arith)
pairs_push (x ∷ xs) y h new =
    pairs_cons (λ a b. a ≢ b) x (xs ++ y ∷ []) (λ z c. elim ((in_pushed xs y z).0 c) [
      | inl k ↦ pairs_head (λ a b. a ≢ b) x z xs h k
      | inr e ↦ λ f. new (subst (λ w. Contains (x ∷ xs) w) (f ∙ e) (here x xs))
    ]) (pairs_push xs y (pairs_tail (λ a b. a ≢ b) x xs h) (λ c. new (later x y xs c)))
