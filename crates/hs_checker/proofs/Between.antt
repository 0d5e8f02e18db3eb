-- What stands between two places of a list that rises.
use Rattle.std.proofs.Common.{◌≡◌, refl, sym, ◌∙◌, ap, subst, ℕ, ◌+◌, ◌-◌, ◌<◌, ◌≤◌, true, false, List, length, get_or, take, drop, filter, arith, Contains, ◌↔◌}
use Rattle.std.specs.Ordering.{is_lt, is_eq, ordering_index}
use Rattle.std.specs.declared.cmp.Ordering.{Ordering}
use Rattle.std.specs.declared.cmp.Ordering.TheVariants.{Less, Equal, Greater}
use Rattle.std.specs.List.Sorted.{IsPartitionedBy, IsPartitionPoint, IsNonDecreasingBy}
use Rattle.std.proofs.lemmas.List.{get_or-drop, length-drop, take_all}
use Rattle.hs_scheme.proofs.FlowLemmas.{filter-middle}
use Rattle.hs_scheme.proofs.Orderings.{equal_of}
use Rattle.hs_scheme.proofs.Lists.{filter_keeps, filter_has, filter_passes}

lt_below : (a b : Ordering) → ordering_index a ≤ ordering_index b → is_lt b ≡ true → is_lt a ≡ true
lt_below Less b le h = refl
lt_below Equal Less le h = absurd (omega arith)
lt_below Equal Equal le h = absurd (cc)
lt_below Equal Greater le h = absurd (cc)
lt_below Greater Less le h = absurd (omega arith)
lt_below Greater Equal le h = absurd (cc)
lt_below Greater Greater le h = absurd (cc)

eq_between : (a b : Ordering) → ordering_index a ≤ ordering_index b → is_lt a ≡ false → is_eq b ≡ true → is_eq a ≡ true
eq_between Less b le h e = absurd (cc)
eq_between Equal b le h e = refl
eq_between Greater Less le h e = absurd (cc)
eq_between Greater Equal le h e = absurd (omega arith)
eq_between Greater Greater le h e = absurd (cc)

lt_not_eq : (a : Ordering) → is_lt a ≡ true → is_eq a ≡ false
lt_not_eq Less h = refl
lt_not_eq Equal h = absurd (cc)
lt_not_eq Greater h = refl

module _ {X : Type 0} (ord : X → Ordering) (xs : List X) (rises : IsNonDecreasingBy (λ y. ordering_index (ord y)) xs) where
  pub parted_less : IsPartitionedBy (λ y. is_lt (ord y)) xs
  parted_less i j d le lt h = lt_below (ord (get_or xs i d)) (ord (get_or xs j d)) (rises i j d le lt) h

  -- past the first low, which alone are less
  module _ (low : ℕ) (point : IsPartitionPoint (λ y. is_lt (ord y) ≡ true) (λ y. is_lt (ord y) ≡ false) xs low) (within : low ≤ length xs) where
    pub parted_same : IsPartitionedBy (λ y. is_eq (ord y)) (drop low xs)
    parted_same i j d le lt h =
        let there : low + j < length xs = omega (arith, length-drop low xs) in
        ap (λ x. is_eq (ord x)) (get_or-drop low xs i d)
        ∙ eq_between (ord (get_or xs (low + i) d)) (ord (get_or xs (low + j) d)) (rises (low + i) (low + j) d (omega arith) there) (point.1 (low + i) d (omega arith) (omega arith))
        (ap (λ x. is_eq (ord x)) (sym (get_or-drop low xs j d)) ∙ h)

    between : (high : ℕ) → IsPartitionPoint (λ y. is_eq (ord y) ≡ true) (λ y. is_eq (ord y) ≡ false) (drop low xs) high → high ≤ length (drop low xs) → take high (drop low xs) ≡ filter (λ y. is_eq (ord y)) xs
    between high split short = filter-middle (λ y. is_eq (ord y)) xs low high
        (λ i d h l. lt_not_eq (ord (get_or xs i d)) (point.0 i d (omega arith) h))
        (λ i d h k l. subst (λ n. is_eq (ord (get_or xs n d)) ≡ true) (back i h) (ap (λ x. is_eq (ord x)) (sym (get_or-drop low xs (i - low) d)) ∙ split.0 (i - low) d (omega arith) (omega arith)))
        (λ i d h l. subst (λ n. is_eq (ord (get_or xs n d)) ≡ false) (back i (omega arith)) (ap (λ x. is_eq (ord x)) (sym (get_or-drop low xs (i - low) d)) ∙ split.1 (i - low) d (omega arith) (omega (arith, length-drop low xs))))
      where
        back : (i : ℕ) → low ≤ i → low + (i - low) ≡ i
        back i h = omega arith

    -- those behind them that are equal are all that are
    pub between_has : (high : ℕ) → IsPartitionPoint (λ y. is_eq (ord y) ≡ true) (λ y. is_eq (ord y) ≡ false) (drop low xs) high → high ≤ length (drop low xs)
        → (x : X) → Contains (take high (drop low xs)) x ↔ (Contains xs x × (ord x ≡ Equal))
    between_has high split short x =
        let e = between high split short in (
          λ c. let d = subst (λ ys. Contains ys x) e c in (filter_has (λ y. is_eq (ord y)) xs x d, equal_of (ord x) (filter_passes (λ y. is_eq (ord y)) xs x d)),
          λ both. subst (λ ys. Contains ys x) (sym e) (filter_keeps (λ y. is_eq (ord y)) xs x (ap is_eq both.1) both.0),
        )

    rest_is : take (length xs - low) (drop low xs) ≡ drop low xs
    rest_is = take_all (length xs - low) (drop low xs) (omega (arith, length-drop low xs))

    pub rest_parted : IsPartitionedBy (λ y. is_eq (ord y)) (take (length xs - low) (drop low xs))
    rest_parted = subst (λ (r : List X). IsPartitionedBy (λ y. is_eq (ord y)) r) (sym rest_is) parted_same

    pub rest_has : (high : ℕ) → IsPartitionPoint (λ y. is_eq (ord y) ≡ true) (λ y. is_eq (ord y) ≡ false) (take (length xs - low) (drop low xs)) high
        → high ≤ length (take (length xs - low) (drop low xs)) → (x : X) → Contains (take high (take (length xs - low) (drop low xs))) x ↔ (Contains xs x × (ord x ≡ Equal))
    rest_has =
        let F : List X → Type 0 = λ r. (high : ℕ) → IsPartitionPoint (λ y. is_eq (ord y) ≡ true) (λ y. is_eq (ord y) ≡ false) r high → high ≤ length r → (x : X) → Contains (take high r) x ↔ (Contains xs x × (ord x ≡ Equal)) in
        subst F (sym rest_is) between_has
