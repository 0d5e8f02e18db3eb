-- Which of some rows a row covers, and which cover it.
use Rattle.std.proofs.Common.{◌≡◌, sym, ◌∙◌, subst, ℕ, ◌+◌, ◌<◌, ◌≤◌, Bool, true, false, List, [], ◌∷◌, ◌++◌, length, get_or, take, All, Contains, IsTrue, ◌↔◌, ◌⊎◌, inl, inr}
use Rattle.std.proofs.lemmas.List.{take_all}
use Rattle.std.proofs.lemmas.List.Elements.{Contains-append_left, Contains-append_right}
use Rattle.hs_scheme.proofs.Lists.{none_in, here}
use Rattle.hs_table_laws.proofs.Members.{taken_next, pushed_cases}
use Rattle.hs_weak.specs.Strength.{AsStrongAs, Covers}
use Rattle.hs_types.specs.Interned.{InternerData, RowData, IsRow, entry_of}
use Rattle.hs_strength.specs.Remembered.{IsCovered}
use Rattle.hs_strength.proofs.Rows.{each_all}
use Rattle.hs_minimal.specs.Growing.{AreLeft}

pub row_in : (I J : InternerData) → J ≡ I → (row : RowData) → IsRow I row → IsRow J row
row_in I J same row h = subst (λ (K : InternerData). IsRow K row) (sym same) h

pub covers_in : (I J : InternerData) → J ≡ I → (own row : RowData) (b : Bool) → (IsTrue b ↔ Covers AsStrongAs (entry_of J own) (entry_of J row)) → IsTrue b ↔ Covers AsStrongAs (entry_of I own) (entry_of I row)
covers_in I J same own row b tells = subst (λ (K : InternerData). IsTrue b ↔ Covers AsStrongAs (entry_of K own) (entry_of K row)) same tells

pub at_index : {X : Type 0} (P : X → Type 0) (xs : List X) (k : ℕ) (x : X) → All P xs → k < length xs → x ≡ get_or xs k x → P x
at_index P xs k x all lt is = subst P (sym is) (all k x lt)

module _ (I : InternerData) (row : RowData) (rows : List RowData) where
  abbrev CoveredBy : RowData → Type 0
  CoveredBy r = Covers AsStrongAs (entry_of I row) (entry_of I r)

  pub none_covers : (k : ℕ) → length rows ≤ k → ((r : RowData) → Contains (take k rows) r → Covers AsStrongAs (entry_of I r) (entry_of I row) → ⊥) → IsCovered I row rows → ⊥
  none_covers k past none f = each_all (λ (r : RowData). Covers AsStrongAs (entry_of I r) (entry_of I row) → ⊥) rows k past none f.0 f.1.0 f.1.1

  -- it covers none of those so far
  pub covers_none : (k : ℕ) → length rows ≤ k → ((r : RowData) → Contains (take k rows) r → CoveredBy r → ⊥) → (r : RowData) → Contains rows r → CoveredBy r → ⊥
  covers_none k past none = each_all (λ (r : RowData). CoveredBy r → ⊥) rows k past none

  pub none_left : (left : List RowData) → left ≡ [] → AreLeft I row (take 0 rows) left
  none_left left is = record {
    come = λ r m. absurd (none_in r (subst (λ (z : List RowData). Contains z r) is m));
    gone = λ r m. absurd (none_in r m);
  }

  pub all_left : (k : ℕ) → length rows ≤ k → (left : List RowData) → AreLeft I row (take k rows) left → AreLeft I row rows left
  all_left k past left h = subst (λ (z : List RowData). AreLeft I row z left) (take_all k rows past) h

  module _ (k : ℕ) (own : RowData) (lt : k < length rows) (is : own ≡ get_or rows k own) (left : List RowData) (h : AreLeft I row (take k rows) left) where
    next : take (k + 1) rows ≡ take k rows ++ own ∷ []
    next = taken_next rows k own lt is

    split : (r : RowData) → Contains (take (k + 1) rows) r → Contains (take k rows) r ⊎ (r ≡ own)
    split r m = pushed_cases (take k rows) own r (subst (λ (z : List RowData). Contains z r) next m)

    was : (r : RowData) → Contains (take k rows) r → Contains (take (k + 1) rows) r
    was r m = subst (λ (z : List RowData). Contains z r) (sym next) (Contains-append_left (take k rows) (own ∷ []) r m)

    own_there : Contains (take (k + 1) rows) own
    own_there = subst (λ (z : List RowData). Contains z own) (sym next) (Contains-append_right (take k rows) (own ∷ []) own (here own []))

    pub one_gone : CoveredBy own → AreLeft I row (take (k + 1) rows) left
    one_gone covers = record {
      come = λ r m. let c = h.come r m in (was r c.0, c.1);
      gone = λ r m. elim (split r m) [
        | inl before ↦ h.gone r before
        | inr same ↦ inr (subst CoveredBy (sym same) covers)
      ];
    }

    pub one_left : (CoveredBy own → ⊥) → (new : List RowData) → new ≡ left ++ own ∷ [] → AreLeft I row (take (k + 1) rows) new
    one_left not new new_is = record {
      come = λ r m. elim (pushed_cases left own r (subst (λ (z : List RowData). Contains z r) new_is m)) [
        | inl before ↦ let c = h.come r before in (was r c.0, c.1)
        | inr same ↦ (subst (λ (z : RowData). Contains (take (k + 1) rows) z) (sym same) own_there, λ covers. not (subst CoveredBy same covers))
      ];
      gone = λ r m. elim (split r m) [
        | inl before ↦ elim (h.gone r before) [
          | inl stays ↦ inl (subst (λ (z : List RowData). Contains z r) (sym new_is) (Contains-append_left left (own ∷ []) r stays))
          | inr covers ↦ inr covers
        ]
        | inr same ↦ inl (subst (λ (z : List RowData). Contains z r) (sym new_is) (Contains-append_right left (own ∷ []) r (subst (λ (z : RowData). Contains (own ∷ []) z) (sym same) (here own []))))
      ];
    }

pub not_so : (b : Bool) (P : Type 0) → b ≡ false → (IsTrue b ↔ P) → P → ⊥
not_so b P is tells h = let f : false ≡ true = sym is ∙ tells.1 h in cc
