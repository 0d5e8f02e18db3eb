-- Ascending flow pairs, and what a binary search finds in them.
use Rattle.std.proofs.Common.{◌≡◌, refl, sym, ◌∙◌, ap, ℕ, zero, suc, ◌+◌, ◌-◌, ◌<◌, ◌≤◌, Bool, true, false, ◌&&◌, nat_eq, List, [], ◌∷◌, length, get_or, take, drop, filter, cond, arith, inl, inr, Contains, Result, Ok, Err, is_ok}
use Rattle.std.proofs.lemmas.Bool.{cases_lt}
use Rattle.std.specs.Cmp.{IsTotalOrder}
use Rattle.std.specs.Ordering.{nat_cmp, ordering_then, ordering_reverse, is_lt, ordering_index}
use Rattle.std.specs.declared.cmp.Ordering.{Ordering}
use Rattle.std.specs.declared.cmp.Ordering.TheVariants.{Less, Equal, Greater}
use Rattle.std.specs.List.Sorted.{IsSearchInRange, IsBinarySearchResult, IsNonDecreasingBy}
use Rattle.std.proofs.lemmas.Cmp.{then_total, on_total, nat_cmp_total, tied_itself}
use Rattle.std.proofs.lemmas.List.Sorted.{searchable_from_sorted}
use Rattle.hs_scheme.specs.declared.flow.FlowPair.{FlowPair}
use Rattle.hs_scheme.specs.declared.flow.HeadPair.{HeadPair}
use Rattle.hs_scheme.specs.flow.Flow.{flow_cmp, head_cmp, IsAscending}
use Rattle.hs_scheme.proofs.Orderings.{nat_equal, then_equal}

-- the elements from the a-th to the b-th, where these pass and no others
pub filter-middle : {X : Type 0} (m : X → Bool) (xs : List X) (a b : ℕ)
    → ((i : ℕ) (d : X) → i < a → i < length xs → m (get_or xs i d) ≡ false)
    → ((i : ℕ) (d : X) → a ≤ i → i < a + b → i < length xs → m (get_or xs i d) ≡ true)
    → ((i : ℕ) (d : X) → a + b ≤ i → i < length xs → m (get_or xs i d) ≡ false)
    → take b (drop a xs) ≡ filter m xs
filter-middle m [] zero zero before within after = refl
filter-middle m [] zero (suc b) before within after = refl
filter-middle m [] (suc a) zero before within after = refl
filter-middle m [] (suc a) (suc b) before within after = refl
filter-middle m (x ∷ xs) (suc a) b before within after =
    filter-middle m xs a b (λ i d h l. before (suc i) d (omega arith) (omega arith)) (λ i d h k l. within (suc i) d (omega arith) (omega arith) (omega arith)) (λ i d h l. after (suc i) d (omega arith) (omega arith))
    ∙ ap (λ t. cond t (x ∷ filter m xs) (filter m xs)) (sym (before 0 x (omega arith) (omega arith)))
filter-middle m (x ∷ xs) zero (suc b) before within after =
    ap (λ ys. x ∷ ys) (filter-middle m xs zero b (λ i d h l. absurd (omega arith)) (λ i d h k l. within (suc i) d (omega arith) (omega arith) (omega arith)) (λ i d h l. after (suc i) d (omega arith) (omega arith)))
    ∙ ap (λ t. cond t (x ∷ filter m xs) (filter m xs)) (sym (within 0 x (omega arith) (omega arith) (omega arith)))
filter-middle m (x ∷ xs) zero zero before within after =
    filter-middle m xs zero zero (λ i d h l. absurd (omega arith)) (λ i d h k l. absurd (omega arith)) (λ i d h l. after (suc i) d (omega arith) (omega arith))
    ∙ ap (λ t. cond t (x ∷ filter m xs) (filter m xs)) (sym (after 0 x (omega arith) (omega arith)))

pub flow_cmp-equal : (a b : FlowPair) → flow_cmp a b ≡ Equal → a ≡ b
flow_cmp-equal a b h =
    let p = then_equal (nat_cmp a.rule b.rule) (ordering_then (nat_cmp a.param b.param) (nat_cmp a.point b.point)) h in
    let q = then_equal (nat_cmp a.param b.param) (nat_cmp a.point b.point) p.1 in
    λ i. record { rule = nat_equal a.rule b.rule p.0 i; param = nat_equal a.param b.param q.0 i; point = nat_equal a.point b.point q.1 i }

pub head_cmp-equal : (a b : HeadPair) → head_cmp a b ≡ Equal → a ≡ b
head_cmp-equal a b h =
    let p = then_equal (nat_cmp a.point b.point) (ordering_then (nat_cmp a.rule b.rule) (nat_cmp a.given b.given)) h in
    let q = then_equal (nat_cmp a.rule b.rule) (nat_cmp a.given b.given) p.1 in
    λ i. record { point = nat_equal a.point b.point p.0 i; rule = nat_equal a.rule b.rule q.0 i; given = nat_equal a.given b.given q.1 i }

pub flow_cmp_total : IsTotalOrder flow_cmp
flow_cmp_total = then_total (on_total (λ (p : FlowPair). p.rule) nat_cmp_total) (then_total (on_total (λ (p : FlowPair). p.param) nat_cmp_total) (on_total (λ (p : FlowPair). p.point) nat_cmp_total))

pub head_cmp_total : IsTotalOrder head_cmp
head_cmp_total = then_total (on_total (λ (p : HeadPair). p.point) nat_cmp_total) (then_total (on_total (λ (p : HeadPair). p.rule) nat_cmp_total) (on_total (λ (p : HeadPair). p.given) nat_cmp_total))

module _ {X : Type 0} (cmp : X → X → Ordering) (total : IsTotalOrder cmp) (equal : (a b : X) → cmp a b ≡ Equal → a ≡ b) (xs : List X) (up : IsAscending cmp xs) where
  itself : (x : X) → cmp x x ≡ Equal
  itself x = tied_itself total x

  rises : (x : X) → IsNonDecreasingBy (λ y. ordering_index (cmp y x)) xs
  rises x = searchable_from_sorted total (λ y. y) xs x
      (λ k d low high. ap is_lt (total.antisymm (get_or xs (k + 1) d) (get_or xs k d) ∙ ap ordering_reverse (up k (k + 1) d (omega arith) high)))

  pub found_there : (x : X) (r : Result ℕ ℕ) → IsSearchInRange r (length xs) → IsBinarySearchResult (λ y. cmp y x) xs r → is_ok r ≡ true → Contains xs x
  found_there x (Ok i) within there h = (i, within, equal _ _ (there x))
  found_there x (Err i) within there h = absurd (cc)

  pub there_found : (x : X) (r : Result ℕ ℕ) → IsBinarySearchResult (λ y. cmp y x) xs r → Contains xs x → is_ok r ≡ true
  there_found x (Ok i) there h = refl
  there_found x (Err i) there (k, within, is) =
      let sides = there (rises x) in
      let same : cmp (get_or xs k x) x ≡ Equal = ap (λ y. cmp y x) is ∙ itself x in
      elim (cases_lt k i) [
        | inl low ↦ let e : cmp (get_or xs k x) x ≡ Less = sides.0 k x (omega arith) low in absurd (cc)
        | inr high ↦ let e : cmp (get_or xs k x) x ≡ Greater = sides.1 k x high within in absurd (cc)
      ]

-- the pair is one of those of this parameter
abbrev pub is_of : ℕ → ℕ → FlowPair → Bool
is_of rule param p = nat_eq p.rule rule && nat_eq p.param param
