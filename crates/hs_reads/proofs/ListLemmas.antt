-- Lists by number.
use Rattle.std.proofs.Common.{◌≡◌, refl, sym, ◌∙◌, ap, ℕ, zero, suc, ◌<◌, Bool, true, false, nat_eq, List, [], ◌∷◌, ◌++◌, map, set, length, get_or, slice_get, Option, Some, cond, arith}
use Rattle.std.specs.Prelude.{unwrap_or}
use Rattle.std.specs.Option.{option_map}
use Rattle.std.proofs.Math.Seq.{map-set_same}
use Rattle.std.proofs.lemmas.Bool.{eqb-true, eq-eqb}
use Rattle.std.proofs.lemmas.List.{length-set, length-map, map-set, get_or-set_other}
use Rattle.std.proofs.lemmas.Option.{slice_get-map, unwrap_or-slice_get}
use Rattle.std.proofs.lemmas.Grind.{get_or-set_at}
use Rattle.hs_scheme.proofs.Lists.{slice_get-read}
use Rattle.hs_reads.specs.Lists.{list_of, IsPushed}

-- a list that was read is the list of its number
pub list-read : {T : Type 0} (lists : List (List T)) (k : ℕ) (xs : List T) → slice_get lists k ≡ Some xs → list_of lists k ≡ xs
list-read {T} lists k xs at = ap (λ (o : Option (List T)). unwrap_or o []) at

-- one more empty list, among rows that are read so
pub mapped-push : {T R : Type 0} (items : R → List T) (rows : List R) (v : R) → items v ≡ [] → ((k : ℕ) → list_of (map items rows) k ≡ []) → (k : ℕ) → list_of (map items (rows ++ v ∷ [])) k ≡ []
mapped-push items [] v e so_far zero = e
mapped-push items [] v e so_far (suc k) = refl
mapped-push items (r ∷ rows) v e so_far zero = so_far zero
mapped-push items (r ∷ rows) v e so_far (suc k) = mapped-push items rows v e (λ j. so_far (suc j)) k

-- a list in the place of another
list-set : {T : Type 0} (lists : List (List T)) (n : ℕ) (xs : List T) → n < length lists → (k : ℕ) → list_of (set lists n xs) k ≡ cond (nat_eq k n) xs (list_of lists k)
list-set {T} lists n xs lt k = by (nat_eq k n) refl
  where
    other : nat_eq k n ≡ false → k ≡ n → ⊥
    other e same = let yes = eq-eqb k n same in absurd (cc)

    by : (t : Bool) → nat_eq k n ≡ t → list_of (set lists n xs) k ≡ cond t xs (list_of lists k)
    by true e = unwrap_or-slice_get (set lists n xs) k [] ∙ get_or-set_at lists n k xs [] (eqb-true k n e) lt
    by false e = unwrap_or-slice_get (set lists n xs) k [] ∙ (get_or-set_other lists n k xs [] (other e) ∙ sym (unwrap_or-slice_get lists k []))

-- the row of this number is replaced, among the rows as which lists are kept
module _ {T R : Type 0} (items : R → List T) (rows : List R) (n : ℕ) (old new : R) (lists : List (List T)) (view : map items rows ≡ lists)
    (lt : n < length lists) (is : old ≡ get_or rows n old) where
  within : n < length rows
  within = omega (arith, lt, ap (λ (ls : List (List T)). length ls) view, length-map rows items)

  pub row_is : list_of lists n ≡ items old
  row_is =
      ap (λ (ls : List (List T)). list_of ls n) (sym view)
      ∙ (ap (λ (o : Option (List T)). unwrap_or o []) (slice_get-map items rows n ∙ ap (option_map items) (slice_get-read rows n old within (sym is))))

  pub row_set : (k : ℕ) → list_of (map items (set rows n new)) k ≡ cond (nat_eq k n) (items new) (list_of lists k)
  row_set k = ap (λ (ls : List (List T)). list_of ls k) (map-set items rows n new ∙ ap (λ (ls : List (List T)). set ls n (items new)) view) ∙ list-set lists n (items new) lt k

  pub row_pushed : (x : T) → items new ≡ items old ++ x ∷ [] → IsPushed n x lists (map items (set rows n new))
  row_pushed x pushed = record {
    len = length-map (set rows n new) items ∙ (length-set rows n new ∙ (sym (length-map rows items) ∙ ap (λ (ls : List (List T)). length ls) view));
    each = λ k. row_set k ∙ by k (nat_eq k n) refl;
  }
    where
      by : (k : ℕ) (t : Bool) → nat_eq k n ≡ t → cond t (items new) (list_of lists k) ≡ cond t (list_of lists k ++ x ∷ []) (list_of lists k)
      by k true e = pushed ∙ ap (λ (xs : List T). xs ++ x ∷ []) (sym (ap (λ (j : ℕ). list_of lists j) (eqb-true k n e) ∙ row_is))
      by k false e = refl

  pub row_same : items new ≡ items old → map items (set rows n new) ≡ lists
  row_same same = map-set_same items rows n new old (same ∙ ap items is) ∙ view
