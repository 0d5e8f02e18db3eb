-- Sets that are merged: fronts are merged already, and all of that is below what is left.
use Rattle.std.proofs.Common.{◌≡◌, sym, ◌∙◌, ap, subst, ℕ, zero, suc, ◌+◌, ◌-◌, ◌<◌, ◌≤◌, List, [], ◌∷◌, ◌++◌, length, take, drop, get_or, arith, map, All, Contains, ◌⊎◌, inl, inr, append-nil}
use Rattle.std.specs.Ordering.{ordering_reverse}
use Rattle.std.specs.declared.cmp.Ordering.{Ordering}
use Rattle.std.specs.declared.cmp.Ordering.TheVariants.{Less, Equal, Greater}
use Rattle.std.proofs.lemmas.List.Elements.{All-push, All-append, All-drop, Contains-append_left, Contains-append_right, Contains-append_cases}
use Rattle.std.proofs.lemmas.List.{take-append-drop, take_more, drop_all, drop-map, map-append, length-map, get_or-map, take_rest, map_push}
use Rattle.std.proofs.Math.Seq.{drop-cons}
use Rattle.hs_scheme.proofs.Lists.{here, later, uncons, only}
use Rattle.hs_table.specs.Types.{TypeTree, type_cmp, IsSet}
use Rattle.hs_table_laws.proofs.Orders.{type_cmp_total, type_same}
use Rattle.hs_table_laws.proofs.Places.{pairs_head, pairs_tail, pairs_cons}
use Rattle.hs_table_laws.proofs.Sets.{one_set}
use Rattle.hs_types.specs.Interned.{IsSetOf, IsUnion}
use Rattle.hs_types.proofs.OrderLemmas.{member_within}

-- each of the first is below each of the second
abbrev pub AreBelow : List TypeTree → List TypeTree → Type 0
AreBelow s r = (a b : TypeTree) → Contains s a → Contains r b → type_cmp a b ≡ Less

pub IsSet-append : (s r : List TypeTree) → IsSet s → IsSet r → AreBelow s r → IsSet (s ++ r)
IsSet-append [] r h k below = k
IsSet-append (a ∷ s) r h k below =
    let R : TypeTree → TypeTree → Type 0 = λ x y. type_cmp x y ≡ Less in
    pairs_cons R a (s ++ r) (λ b c. elim (Contains-append_cases s r b c) [
      | inl there ↦ pairs_head R a b s h there
      | inr there ↦ below a b (here a s) there
    ]) (IsSet-append s r (pairs_tail R a s h) k (λ x y c d. below x y (later a x s c) d))

pub IsSet-drop : (n : ℕ) (s : List TypeTree) → IsSet s → IsSet (drop n s)
IsSet-drop zero s h = h
IsSet-drop (suc n) [] h = h
IsSet-drop (suc n) (a ∷ s) h = IsSet-drop n s (pairs_tail (λ x y. type_cmp x y ≡ Less) a s h)

pub record Merging (s s' r r' u : List TypeTree) : Type 0 where
  pub union : IsUnion s r u
  pub first : AreBelow u s'
  pub second : AreBelow u r'

pub union_swap : (s r u : List TypeTree) → IsUnion s r u → IsUnion r s u
union_swap s r u h = record {
  ascends = h.ascends;
  exact = λ a. (
    λ c. elim ((h.exact a).0 c) [ inl x ↦ inr x | inr x ↦ inl x ],
    λ c. elim c [ inl x ↦ (h.exact a).1 (inr x) | inr x ↦ (h.exact a).1 (inl x) ],
  );
}

pub merging_swap : (s s' r r' u : List TypeTree) → Merging s s' r r' u → Merging r r' s s' u
merging_swap s s' r r' u m = record { union = union_swap s r u m.union; first = m.second; second = m.first }

-- the first of what is left is below all else that is left
pub merge_less : (s s' r r' u : List TypeTree) (x y : TypeTree) → Merging s (x ∷ s') r (y ∷ r') u → IsSet (x ∷ s') → IsSet (y ∷ r') → type_cmp x y ≡ Less
    → Merging (s ++ x ∷ []) s' r (y ∷ r') (u ++ x ∷ [])
merge_less s s' r r' u x y m h k e = record {
  union = record {
    ascends = IsSet-append u (x ∷ []) m.union.ascends (one_set x) (λ a b c d. m.first a b c (subst (Contains (x ∷ s')) (sym (only x b d)) (here x s')));
    exact = λ a. (to a, from a);
  };
  first = λ a b c d. elim (Contains-append_cases u (x ∷ []) a c) [
    | inl was ↦ m.first a b was (later x b s' d)
    | inr last ↦ subst (λ z. type_cmp z b ≡ Less) (sym (only x a last)) (pairs_head R x b s' h d)
  ];
  second = λ a b c d. elim (Contains-append_cases u (x ∷ []) a c) [
    | inl was ↦ m.second a b was d
    | inr last ↦ subst (λ z. type_cmp z b ≡ Less) (sym (only x a last)) (elim (uncons y b r' d) [
      | inl is ↦ subst (λ z. type_cmp x z ≡ Less) (sym is) e
      | inr there ↦ type_cmp_total.trans x y b e (pairs_head R y b r' k there)
    ])
  ];
}
  where
    R : TypeTree → TypeTree → Type 0
    R a b = type_cmp a b ≡ Less

    to : (a : TypeTree) → Contains (u ++ x ∷ []) a → Contains (s ++ x ∷ []) a ⊎ Contains r a
    to a c = elim (Contains-append_cases u (x ∷ []) a c) [
      | inl was ↦ elim ((m.union.exact a).0 was) [ inl there ↦ inl (Contains-append_left s (x ∷ []) a there) | inr there ↦ inr there ]
      | inr last ↦ inl (Contains-append_right s (x ∷ []) a last)
    ]

    from : (a : TypeTree) → Contains (s ++ x ∷ []) a ⊎ Contains r a → Contains (u ++ x ∷ []) a
    from a (inl c) = elim (Contains-append_cases s (x ∷ []) a c) [
      | inl there ↦ Contains-append_left u (x ∷ []) a ((m.union.exact a).1 (inl there))
      | inr last ↦ Contains-append_right u (x ∷ []) a last
    ]
    from a (inr c) = Contains-append_left u (x ∷ []) a ((m.union.exact a).1 (inr c))

pub merge_greater : (s s' r r' u : List TypeTree) (x y : TypeTree) → Merging s (x ∷ s') r (y ∷ r') u → IsSet (x ∷ s') → IsSet (y ∷ r') → type_cmp x y ≡ Greater
    → Merging s (x ∷ s') (r ++ y ∷ []) r' (u ++ y ∷ [])
merge_greater s s' r r' u x y m h k e =
    merging_swap (r ++ y ∷ []) r' s (x ∷ s') (u ++ y ∷ [])
    (merge_less r r' s s' u y x (merging_swap s (x ∷ s') r (y ∷ r') u m) k h (type_cmp_total.antisymm y x ∙ ap ordering_reverse e))

-- one type stands first in both
merge_same : (s s' r r' u : List TypeTree) (x : TypeTree) → Merging s (x ∷ s') r (x ∷ r') u → IsSet (x ∷ s') → IsSet (x ∷ r')
    → Merging (s ++ x ∷ []) s' (r ++ x ∷ []) r' (u ++ x ∷ [])
merge_same s s' r r' u x m h k = record {
  union = record {
    ascends = IsSet-append u (x ∷ []) m.union.ascends (one_set x) (λ a b c d. m.first a b c (subst (Contains (x ∷ s')) (sym (only x b d)) (here x s')));
    exact = λ a. (to a, from a);
  };
  first = λ a b c d. elim (Contains-append_cases u (x ∷ []) a c) [
    | inl was ↦ m.first a b was (later x b s' d)
    | inr last ↦ subst (λ z. type_cmp z b ≡ Less) (sym (only x a last)) (pairs_head R x b s' h d)
  ];
  second = λ a b c d. elim (Contains-append_cases u (x ∷ []) a c) [
    | inl was ↦ m.second a b was (later x b r' d)
    | inr last ↦ subst (λ z. type_cmp z b ≡ Less) (sym (only x a last)) (pairs_head R x b r' k d)
  ];
}
  where
    R : TypeTree → TypeTree → Type 0
    R a b = type_cmp a b ≡ Less

    to : (a : TypeTree) → Contains (u ++ x ∷ []) a → Contains (s ++ x ∷ []) a ⊎ Contains (r ++ x ∷ []) a
    to a c = elim (Contains-append_cases u (x ∷ []) a c) [
      | inl was ↦ elim ((m.union.exact a).0 was) [ inl there ↦ inl (Contains-append_left s (x ∷ []) a there) | inr there ↦ inr (Contains-append_left r (x ∷ []) a there) ]
      | inr last ↦ inl (Contains-append_right s (x ∷ []) a last)
    ]

    from : (a : TypeTree) → Contains (s ++ x ∷ []) a ⊎ Contains (r ++ x ∷ []) a → Contains (u ++ x ∷ []) a
    from a (inl c) = elim (Contains-append_cases s (x ∷ []) a c) [
      | inl there ↦ Contains-append_left u (x ∷ []) a ((m.union.exact a).1 (inl there))
      | inr last ↦ Contains-append_right u (x ∷ []) a last
    ]
    from a (inr c) = elim (Contains-append_cases r (x ∷ []) a c) [
      | inl there ↦ Contains-append_left u (x ∷ []) a ((m.union.exact a).1 (inr there))
      | inr last ↦ Contains-append_right u (x ∷ []) a last
    ]

pub merge_equal : (s s' r r' u : List TypeTree) (x y : TypeTree) → Merging s (x ∷ s') r (y ∷ r') u → IsSet (x ∷ s') → IsSet (y ∷ r') → type_cmp x y ≡ Equal
    → Merging (s ++ x ∷ []) s' (r ++ y ∷ []) r' (u ++ x ∷ [])
merge_equal s s' r r' u x y m h k e =
    let is = sym (type_same x y e) in
    let P : TypeTree → Type 0 = λ z. Merging (s ++ x ∷ []) s' (r ++ z ∷ []) r' (u ++ x ∷ []) in
    subst P (sym is) (merge_same s s' r r' u x (subst (λ z. Merging s (x ∷ s') r (z ∷ r') u) is m) h (subst (λ z. IsSet (z ∷ r')) is k))

-- what is left of one set goes last
finish_second : (s r r' u : List TypeTree) → Merging s [] r r' u → IsSet r' → IsUnion s (r ++ r') (u ++ r')
finish_second s r r' u m k = record {
  ascends = IsSet-append u r' m.union.ascends k m.second;
  exact = λ a. (
    λ c. elim (Contains-append_cases u r' a c) [
      | inl was ↦ elim ((m.union.exact a).0 was) [ inl there ↦ inl there | inr there ↦ inr (Contains-append_left r r' a there) ]
      | inr last ↦ inr (Contains-append_right r r' a last)
    ],
    λ c. elim c [
      | inl there ↦ Contains-append_left u r' a ((m.union.exact a).1 (inl there))
      | inr there ↦ elim (Contains-append_cases r r' a there) [
        | inl was ↦ Contains-append_left u r' a ((m.union.exact a).1 (inr was))
        | inr last ↦ Contains-append_right u r' a last
      ]
    ],
  );
}

-- one of the rests is empty
finish : (s s' r r' u : List TypeTree) → Merging s s' r r' u → IsSet s' → IsSet r' → (s' ≡ []) ⊎ (r' ≡ []) → IsUnion (s ++ s') (r ++ r') ((u ++ s') ++ r')
finish s s' r r' u m h k (inl e) =
    let P : List TypeTree → Type 0 = λ z. IsUnion (s ++ z) (r ++ r') ((u ++ z) ++ r') in
    subst P (sym e) (subst (λ z. IsUnion z (r ++ r') ((u ++ []) ++ r')) (sym (append-nil s)) (subst (λ z. IsUnion s (r ++ r') (z ++ r')) (sym (append-nil u)) (finish_second s r r' u (subst (λ z. Merging s z r r' u) e m) k)))
finish s s' r r' u m h k (inr e) =
    let P : List TypeTree → Type 0 = λ z. IsUnion (s ++ s') (r ++ z) ((u ++ s') ++ z) in
    let f = finish_second r s s' u (merging_swap s s' r [] u (subst (λ z. Merging s s' r z u) e m)) h in
    subst P (sym e) (subst (λ z. IsUnion (s ++ s') z ((u ++ s') ++ [])) (sym (append-nil r)) (subst (λ z. IsUnion (s ++ s') r z) (sym (append-nil (u ++ s'))) (union_swap r (s ++ s') (u ++ s') f)))

drop_first : (s : List TypeTree) (i : ℕ) (d : TypeTree) → i < length s → drop i s ≡ get_or s i d ∷ drop (i + 1) s
drop_first s i d h =
    let e : suc i ≡ i + 1 = omega arith in
    drop-cons s i d h ∙ ap (λ n. get_or s i d ∷ drop n s) e

-- the same by places: so many of each set are merged
abbrev pub IsMerged : List TypeTree → List TypeTree → ℕ → ℕ → List TypeTree → Type 0
IsMerged s r i j u = Merging (take i s) (drop i s) (take j r) (drop j r) u

module _ (s r u : List TypeTree) (i j : ℕ) (d : TypeTree) (h : i < length s) (k : j < length r) (up : IsSet s) (up' : IsSet r) (m : IsMerged s r i j u) where
  abbrev x : TypeTree
  x = get_or s i d

  abbrev y : TypeTree
  y = get_or r j d

  opened : Merging (take i s) (x ∷ drop (i + 1) s) (take j r) (y ∷ drop (j + 1) r) u
  opened =
      let e : drop i s ≡ x ∷ drop (i + 1) s = drop_first s i d h in
      let f : drop j r ≡ y ∷ drop (j + 1) r = drop_first r j d k in
      subst (λ z. Merging (take i s) z (take j r) (y ∷ drop (j + 1) r) u) e (subst (λ z. Merging (take i s) (drop i s) (take j r) z u) f m)

  up_x : IsSet (x ∷ drop (i + 1) s)
  up_x = subst IsSet (drop_first s i d h) (IsSet-drop i s up)

  up_y : IsSet (y ∷ drop (j + 1) r)
  up_y = subst IsSet (drop_first r j d k) (IsSet-drop j r up')

  more_s : take i s ++ x ∷ [] ≡ take (i + 1) s
  more_s = sym (take_more s i d h)

  more_r : take j r ++ y ∷ [] ≡ take (j + 1) r
  more_r = sym (take_more r j d k)

  pub IsMerged-less : type_cmp x y ≡ Less → IsMerged s r (i + 1) j (u ++ x ∷ [])
  IsMerged-less e =
      let f : y ∷ drop (j + 1) r ≡ drop j r = sym (drop_first r j d k) in
      subst (λ z. Merging (take (i + 1) s) (drop (i + 1) s) (take j r) z (u ++ x ∷ [])) f
      (subst (λ z. Merging z (drop (i + 1) s) (take j r) (y ∷ drop (j + 1) r) (u ++ x ∷ [])) more_s (merge_less (take i s) (drop (i + 1) s) (take j r) (drop (j + 1) r) u x y opened up_x up_y e))

  pub IsMerged-equal : type_cmp x y ≡ Equal → IsMerged s r (i + 1) (j + 1) (u ++ x ∷ [])
  IsMerged-equal e =
      subst (λ z. Merging (take (i + 1) s) (drop (i + 1) s) z (drop (j + 1) r) (u ++ x ∷ [])) more_r
      (subst (λ z. Merging z (drop (i + 1) s) (take j r ++ y ∷ []) (drop (j + 1) r) (u ++ x ∷ [])) more_s (merge_equal (take i s) (drop (i + 1) s) (take j r) (drop (j + 1) r) u x y opened up_x up_y e))

  pub IsMerged-greater : type_cmp x y ≡ Greater → IsMerged s r i (j + 1) (u ++ y ∷ [])
  IsMerged-greater e =
      let f : x ∷ drop (i + 1) s ≡ drop i s = sym (drop_first s i d h) in
      subst (λ z. Merging (take i s) z (take (j + 1) r) (drop (j + 1) r) (u ++ y ∷ [])) f
      (subst (λ z. Merging (take i s) (x ∷ drop (i + 1) s) z (drop (j + 1) r) (u ++ y ∷ [])) more_r (merge_greater (take i s) (drop (i + 1) s) (take j r) (drop (j + 1) r) u x y opened up_x up_y e))

pub IsMerged-end : (s r u : List TypeTree) (i j : ℕ) → IsSet s → IsSet r → (length s ≤ i) ⊎ (length r ≤ j) → IsMerged s r i j u → IsUnion s r ((u ++ drop i s) ++ drop j r)
IsMerged-end s r u i j up up' over m =
    let f = finish (take i s) (drop i s) (take j r) (drop j r) u m (IsSet-drop i s up) (IsSet-drop j r up') (elim over [ inl h ↦ inl (drop_all i s h) | inr h ↦ inr (drop_all j r h) ]) in
    subst (λ z. IsUnion z r ((u ++ drop i s) ++ drop j r)) (take-append-drop i s) (subst (λ z. IsUnion (take i s ++ drop i s) z ((u ++ drop i s) ++ drop j r)) (take-append-drop j r) f)

-- the set of a list, from those of its parts
pub IsSetOf-append : (xs ys s r u : List TypeTree) → IsSetOf xs s → IsSetOf ys r → IsUnion s r u → IsSetOf (xs ++ ys) u
IsSetOf-append xs ys s r u h k m = record {
  ascends = m.ascends;
  exact = λ a. (
    λ c. elim ((m.exact a).0 c) [
      | inl there ↦ Contains-append_left xs ys a ((h.exact a).0 there)
      | inr there ↦ Contains-append_right xs ys a ((k.exact a).0 there)
    ],
    λ c. elim (Contains-append_cases xs ys a c) [
      | inl there ↦ (m.exact a).1 (inl ((h.exact a).1 there))
      | inr there ↦ (m.exact a).1 (inr ((k.exact a).1 there))
    ],
  );
}

-- the same of numbers that stand for types
module _ (f : ℕ → TypeTree) (n : ℕ) (xs ys ms : List ℕ) (i j a b : ℕ) (h : i < length xs) (k : j < length ys) (up : IsSet (map f xs)) (up' : IsSet (map f ys))
    (xs_range : All (λ t. t < n) xs) (ys_range : All (λ t. t < n) ys) (range : All (λ t. t < n) ms) (m : IsMerged (map f xs) (map f ys) i j (map f ms)) (at_a : a ≡ get_or xs i a) (at_b : b ≡ get_or ys j b) where
  type_at_place : (zs : List ℕ) (p v : ℕ) → p < length zs → v ≡ get_or zs p v → get_or (map f zs) p (f v) ≡ f v
  type_at_place zs p v lt e = get_or-map f zs p v (f v) lt ∙ ap f (sym e)

  default_same : (zs : List ℕ) (p v w : ℕ) → p < length zs → v ≡ get_or zs p v → w ≡ get_or zs p w → v ≡ w
  default_same [] p v w lt e g = absurd (omega arith)
  default_same (z ∷ zs) zero v w lt e g = e ∙ sym g
  default_same (z ∷ zs) (suc p) v w lt e g = default_same zs p v w (omega arith) e g

  long : (zs : List ℕ) (p : ℕ) → p < length zs → p < length (map f zs)
  long zs p lt = omega (arith, lt, length-map zs f)

  x_is : get_or (map f xs) i (f a) ≡ f a
  x_is = type_at_place xs i a h at_a

  y_at : get_or (map f ys) j (f a) ≡ f b
  y_at = get_or-map f ys j b (f a) k ∙ ap f (sym at_b)

  pushed : (v : ℕ) (new : List ℕ) → new ≡ ms ++ v ∷ [] → map f ms ++ f v ∷ [] ≡ map f new
  pushed v new e = sym (map_push f ms v) ∙ ap (λ (zs : List ℕ). map f zs) (sym e)

  range_pushed : (v : ℕ) (new : List ℕ) → v < n → new ≡ ms ++ v ∷ [] → All (λ t. t < n) new
  range_pushed v new lt e = subst (λ (zs : List ℕ). All (λ t. t < n) zs) (sym e) (All-push (λ t. t < n) ms v range lt)

  pub record StepTo (i' j' : ℕ) (new : List ℕ) : Type 0 where
    pub in_range : All (λ t. t < n) new
    pub merged : IsMerged (map f xs) (map f ys) i' j' (map f new)

  cmp_is : (o : Ordering) → o ≡ type_cmp (f a) (f b) → type_cmp (get_or (map f xs) i (f a)) (get_or (map f ys) j (f a)) ≡ o
  cmp_is o e = (λ q. type_cmp (x_is q) (y_at q)) ∙ sym e

  pub step_less : (v : ℕ) (new : List ℕ) → Less ≡ type_cmp (f a) (f b) → v ≡ get_or xs i v → new ≡ ms ++ v ∷ [] → StepTo (i + 1) j new
  step_less v new e at is = record {
    in_range = range_pushed v new (member_within n xs i v xs_range h at) is;
    merged =
        let g : map f ms ++ get_or (map f xs) i (f a) ∷ [] ≡ map f new = ap (λ t. map f ms ++ t ∷ []) (x_is ∙ ap f (default_same xs i a v h at_a at)) ∙ pushed v new is in
        subst (IsMerged (map f xs) (map f ys) (i + 1) j) g (IsMerged-less (map f xs) (map f ys) (map f ms) i j (f a) (long xs i h) (long ys j k) up up' m (cmp_is Less e));
  }

  pub step_equal : (v : ℕ) (new : List ℕ) → Equal ≡ type_cmp (f a) (f b) → v ≡ get_or xs i v → new ≡ ms ++ v ∷ [] → StepTo (i + 1) (j + 1) new
  step_equal v new e at is = record {
    in_range = range_pushed v new (member_within n xs i v xs_range h at) is;
    merged =
        let g : map f ms ++ get_or (map f xs) i (f a) ∷ [] ≡ map f new = ap (λ t. map f ms ++ t ∷ []) (x_is ∙ ap f (default_same xs i a v h at_a at)) ∙ pushed v new is in
        subst (IsMerged (map f xs) (map f ys) (i + 1) (j + 1)) g (IsMerged-equal (map f xs) (map f ys) (map f ms) i j (f a) (long xs i h) (long ys j k) up up' m (cmp_is Equal e));
  }

  pub step_greater : (v : ℕ) (new : List ℕ) → Greater ≡ type_cmp (f a) (f b) → v ≡ get_or ys j v → new ≡ ms ++ v ∷ [] → StepTo i (j + 1) new
  step_greater v new e at is = record {
    in_range = range_pushed v new (member_within n ys j v ys_range k at) is;
    merged =
        let g : map f ms ++ get_or (map f ys) j (f a) ∷ [] ≡ map f new = ap (λ t. map f ms ++ t ∷ []) (y_at ∙ ap f (default_same ys j b v k at_b at)) ∙ pushed v new is in
        subst (IsMerged (map f xs) (map f ys) i (j + 1)) g (IsMerged-greater (map f xs) (map f ys) (map f ms) i j (f a) (long xs i h) (long ys j k) up up' m (cmp_is Greater e));
  }

-- the rests of both go last
module _ (f : ℕ → TypeTree) (xs ys ms new : List ℕ) (i j : ℕ) where
  map_rests : new ≡ (ms ++ drop i xs) ++ drop j ys → (map f ms ++ drop i (map f xs)) ++ drop j (map f ys) ≡ map f new
  map_rests e =
      (λ q. (map f ms ++ drop-map f i xs q) ++ drop-map f j ys q) ∙ ap (λ (z : List TypeTree). z ++ map f (drop j ys)) (sym (map-append f ms (drop i xs)))
      ∙ sym (map-append f (ms ++ drop i xs) (drop j ys)) ∙ ap (λ (zs : List ℕ). map f zs) (sym e)

  pub merged_end : IsSet (map f xs) → IsSet (map f ys) → (length xs ≤ i) ⊎ (length ys ≤ j) → IsMerged (map f xs) (map f ys) i j (map f ms) → new ≡ (ms ++ drop i xs) ++ drop j ys
      → IsUnion (map f xs) (map f ys) (map f new)
  merged_end up up' over m e =
      let o : (length (map f xs) ≤ i) ⊎ (length (map f ys) ≤ j) = elim over [ inl h ↦ inl (omega (arith, h, length-map xs f)) | inr h ↦ inr (omega (arith, h, length-map ys f)) ] in
      subst (IsUnion (map f xs) (map f ys)) (map_rests e) (IsMerged-end (map f xs) (map f ys) (map f ms) i j up up' o m)

pub range_end : (n : ℕ) (xs ys ms new : List ℕ) (i j : ℕ) → All (λ t. t < n) xs → All (λ t. t < n) ys → All (λ t. t < n) ms → new ≡ (ms ++ drop i xs) ++ drop j ys → All (λ t. t < n) new
range_end n xs ys ms new i j h k m e =
    let P : ℕ → Type 0 = λ t. t < n in
    subst (λ (zs : List ℕ). All P zs) (sym e) (All-append P (ms ++ drop i xs) (drop j ys) (All-append P ms (drop i xs) m (All-drop P i xs h)) (All-drop P j ys k))

-- a set of a list by its parts, of numbers
pub sorted_parts : (f : ℕ → TypeTree) (ids : List ℕ) (k : ℕ) (s r u : List TypeTree) → IsSetOf (map f (take k ids)) s → IsSetOf (map f (take (length ids - k) (drop k ids))) r → IsUnion s r u → IsSetOf (map f ids) u
sorted_parts f ids k s r u h g m =
    subst (λ z. IsSetOf z u) (sym (map-append f (take k ids) (drop k ids)) ∙ ap (λ (zs : List ℕ). map f zs) (take-append-drop k ids)) (IsSetOf-append (map f (take k ids)) (map f (drop k ids)) s r u h (subst (λ (zs : List ℕ). IsSetOf (map f zs) r) (take_rest ids k) g) m)
