-- The first pair of which some chain has no blocked site.
use Rattle.std.proofs.Common.{◌≡◌, sym, ◌∙◌, ap, subst, ℕ, ◌+◌, ◌<◌, ◌≤◌, Bool, true, false, IsTrue, List, length, map, get_or, slice_get, Some, Contains, ◌↔◌, inl, inr, arith}
use Rattle.std.proofs.lemmas.List.{length-map}
use Rattle.std.proofs.lemmas.Option.{same_Some}
use Rattle.std.proofs.lemmas.Bool.{cases_lt}
use Rattle.hs_scheme.specs.Problem.{ProblemData}
use Rattle.hs_scheme.proofs.Lists.{slice_get-read}
use Rattle.hs_table.specs.Entries.{EntryData}
use Rattle.hs_table_laws.proofs.Places.{place_of, within_from}
use Rattle.hs_weak.specs.Void.{VoidData}
use Rattle.hs_types.specs.Interned.{InternerData, Grows}
use Rattle.hs_numbered.specs.Certificates.{VoidRowData, void_of}
use Rattle.hs_choices.specs.Numbered.{AreNumbered}
use Rattle.hs_choices.proofs.Choosing.{map_read}
use Rattle.hs_choices.proofs.Staying.{void_stays}
use Rattle.hs_void.specs.Voids.{BasisData, HasBlocked, IsWithout}
use Rattle.hs_void.proofs.Chosen.{numbered_later}

module _ (p : ProblemData) (C : List EntryData) (V : List VoidData) (I : InternerData) (void : List VoidRowData) (pairs : map (void_of I) void ≡ V) where
  at_row : (i : ℕ) (x : VoidRowData) → i < length void → x ≡ get_or void i x → slice_get V i ≡ Some (void_of I x)
  at_row i x lt is =
      ap (λ (vs : List VoidData). slice_get vs i) (sym pairs) ∙ slice_get-read (map (void_of I) void) i (void_of I x) (omega (arith, lt, length-map void (void_of I))) (sym (map_read (void_of I) void i x lt is))

  abbrev pub Before : ℕ → Type 0
  Before i = (k : ℕ) (v : VoidData) → k < i → slice_get V k ≡ Some v → HasBlocked p C V v

  pub before_more : (i : ℕ) (x : VoidRowData) → i < length void → x ≡ get_or void i x → Before i → HasBlocked p C V (void_of I x) → Before (i + 1)
  before_more i x lt is so_far has k v below at = elim (cases_lt k i) [
    | inl less ↦ so_far k v less at
    | inr more ↦
        let e : i ≡ k = omega (arith, below, more) in
        subst (λ (w : VoidData). HasBlocked p C V w) (same_Some (void_of I x) v (sym (at_row i x lt is) ∙ (ap (λ n. slice_get V n) e ∙ at))) has
  ]

  pub first_at : (i : ℕ) (x : VoidRowData) → i < length void → x ≡ get_or void i x → Before i → (HasBlocked p C V (void_of I x) → ⊥) → IsWithout p C V i
  first_at i x lt is so_far without = record { pair = void_of I x; at = at_row i x lt is; without = without; before = so_far }

  pub none_left : (i : ℕ) → length void ≤ i → Before i → (v : VoidData) → Contains V v → HasBlocked p C V v
  none_left i past so_far v m =
      let place = place_of V v m in
      so_far place.0 v (omega (arith, past, within_from V place.0 v place.1, length-map void (void_of I), ap length pairs)) place.1

-- what was told later
module _ (b : BasisData) (I : InternerData) (C : List EntryData) (V : List VoidData) (are : AreNumbered b.problem C V I b.table b.void) (a : BasisData) (a_is : a ≡ b) (J : InternerData) (grows : Grows I J) (x : VoidRowData) (lt : x.env < length I.envs) (has : Bool)
    (tells : (C : List EntryData) (V : List VoidData) → AreNumbered a.problem C V J a.table a.void → IsTrue has ↔ HasBlocked a.problem C V (void_of J x)) where
  told : IsTrue has ↔ HasBlocked b.problem C V (void_of I x)
  told =
      subst (λ (k : BasisData). IsTrue has ↔ HasBlocked k.problem C V (void_of I x)) a_is
      (subst (λ (v : VoidData). IsTrue has ↔ HasBlocked a.problem C V v) (void_stays I J grows x lt) (tells C V (numbered_later b I a a_is J grows C V are)))

  pub has_so : has ≡ true → HasBlocked b.problem C V (void_of I x)
  has_so is = told.0 is

  pub has_not_so : has ≡ false → HasBlocked b.problem C V (void_of I x) → ⊥
  has_not_so isnt h = let f : false ≡ true = sym isnt ∙ told.1 h in cc
