-- A type that is sought in a set.
use Rattle.std.proofs.Common.{◌≡◌, sym, ◌∙◌, ap, ℕ, zero, suc, ◌+◌, ◌-◌, ◌/◌, ◌<◌, ◌≤◌, List, [], ◌∷◌, length, map, get_or, arith, Contains, inl, inr}
use Rattle.std.specs.Ordering.{ordering_reverse}
use Rattle.std.specs.declared.cmp.Ordering.TheVariants.{Less, Equal, Greater}
use Rattle.std.proofs.lemmas.Bool.{cases_order}
use Rattle.std.proofs.lemmas.Cmp.{tied_itself}
use Rattle.std.proofs.lemmas.List.{length-map, get_or-map}
use Rattle.hs_table.specs.Types.{TypeTree, type_cmp, IsSet}
use Rattle.hs_table_laws.proofs.Orders.{type_cmp_total, type_same}

pub middle_within : (low high : ℕ) → low < high → low + (high - low) / 2 < high
middle_within low high h = omega (arith, h)

module _ (f : ℕ → TypeTree) (ms : List ℕ) (t : TypeTree) (up : IsSet (map f ms)) where
  at : ℕ → TypeTree
  at k = f (get_or ms k 0)

  pub read_at : (k v : ℕ) → k < length ms → v ≡ get_or ms k v → f (get_or ms k 0) ≡ f v
  read_at k v h e = ap f (go ms k v h e)
    where
      go : (zs : List ℕ) (k v : ℕ) → k < length zs → v ≡ get_or zs k v → get_or zs k 0 ≡ v
      go [] k v h e = absurd (omega arith)
      go (z ∷ zs) zero v h e = sym e
      go (z ∷ zs) (suc k) v h e = go zs k v (omega arith) e

  long : (k : ℕ) → k < length ms → k < length (map f ms)
  long k h = omega (arith, h, length-map ms f)

  ascends_at : (i j : ℕ) → i < j → j < length ms → type_cmp (f (get_or ms i 0)) (f (get_or ms j 0)) ≡ Less
  ascends_at i j lt h = (λ q. type_cmp (sym (get_or-map f ms i 0 t (omega arith)) q) (sym (get_or-map f ms j 0 t h) q)) ∙ up i j t lt (long j h)

  pub below_more : (m : ℕ) → m < length ms → type_cmp (f (get_or ms m 0)) t ≡ Less → (k : ℕ) → k < m + 1 → type_cmp (f (get_or ms k 0)) t ≡ Less
  below_more m h e k lt = elim (cases_order k m) [
    | inl same ↦ ap (λ i. type_cmp (f (get_or ms i 0)) t) same ∙ e
    | inr other ↦ elim other [
      | inl less ↦ type_cmp_total.trans (f (get_or ms k 0)) (f (get_or ms m 0)) t (ascends_at k m less h) e
      | inr more ↦ absurd (omega arith)
    ]
  ]

  pub above_more : (m : ℕ) → m < length ms → type_cmp (f (get_or ms m 0)) t ≡ Greater → (k : ℕ) → m ≤ k → k < length ms → type_cmp (f (get_or ms k 0)) t ≡ Greater
  above_more m h e k le lt = elim (cases_order m k) [
    | inl same ↦ ap (λ i. type_cmp (f (get_or ms i 0)) t) (sym same) ∙ e
    | inr other ↦ elim other [
      | inl less ↦
          let back : type_cmp t (f (get_or ms m 0)) ≡ Less = type_cmp_total.antisymm t (f (get_or ms m 0)) ∙ ap ordering_reverse e in
          type_cmp_total.antisymm (f (get_or ms k 0)) t ∙ ap ordering_reverse (type_cmp_total.trans t (f (get_or ms m 0)) (f (get_or ms k 0)) back (ascends_at m k less lt))
      | inr more ↦ absurd (omega arith)
    ]
  ]

  pub found_at : (m : ℕ) → m < length ms → type_cmp (f (get_or ms m 0)) t ≡ Equal → Contains (map f ms) t
  found_at m h e = (m, long m h, get_or-map f ms m 0 t h ∙ type_same (f (get_or ms m 0)) t e)

  pub nowhere : (low high : ℕ) → high ≤ low → ((k : ℕ) → k < low → type_cmp (f (get_or ms k 0)) t ≡ Less) → ((k : ℕ) → high ≤ k → k < length ms → type_cmp (f (get_or ms k 0)) t ≡ Greater) → Contains (map f ms) t → ⊥
  nowhere low high le below above (k, h, e) =
      let lt : k < length ms = omega (arith, h, length-map ms f) in
      let same : type_cmp (f (get_or ms k 0)) t ≡ Equal = ap (λ u. type_cmp u t) (sym (get_or-map f ms k 0 t lt) ∙ e) ∙ tied_itself type_cmp_total t in
      elim (cases_order k low) [
        | inl is ↦ let g = sym same ∙ above k (omega arith) lt in let g : Equal ≡ Greater = g in cc
        | inr other ↦ elim other [
          | inl less ↦ let g : Equal ≡ Less = sym same ∙ below k less in cc
          | inr more ↦ let g : Equal ≡ Greater = sym same ∙ above k (omega arith) lt in cc
        ]
      ]
