-- A list and what stands at its front.
use Rattle.std.proofs.Common.{◌≡◌, ◌≢◌, refl, sym, ◌∙◌, ap, subst, ℕ, zero, suc, ◌<◌, true, List, [], ◌∷◌, ◌++◌, length, get_or, unwrap_or, arith, All, ◌⊎◌, inl, inr}
use Rattle.std.specs.List.{list_all, prefix_len}
use Rattle.std.proofs.lemmas.Bool.{and_parts}
use Rattle.std.proofs.lemmas.Option.{get_or_from_slice_get}
use Rattle.hs_scheme.proofs.Lists.{some_at}
use Rattle.hs_reader.specs.Tokens.{is_name_byte, EndsRun}
use Rattle.hs_reader.proofs.Runs.{run_whole}
use Rattle.hs_text.specs.Canonical.{name_at}
use Rattle.hs_cert.specs.Certificate.{AreNames}

abbrev pub first : List ℕ → ℕ
first [] = 0
first (b ∷ bs) = b

abbrev pub behind_first : {A : Type 0} → List A → List A
behind_first [] = []
behind_first (b ∷ bs) = bs

-- lists that are equal from a front of the same length on
pub same_split : (w v r s : List ℕ) → length w ≡ length v → w ++ r ≡ v ++ s → (w ≡ v) × (r ≡ s)
same_split [] [] r s l e = (refl, e)
same_split [] (b ∷ v) r s l e = absurd (omega (arith, l))
same_split (a ∷ w) [] r s l e = absurd (omega (arith, l))
same_split (a ∷ w) (b ∷ v) r s l e =
    let p = same_split w v r s (omega (arith, l)) (ap behind_first e) in (λ i. ap first e i ∷ p.0 i, p.1)

-- so are two whole runs of name bytes
pub run_split : (w v r s : List ℕ) → list_all is_name_byte w ≡ true → list_all is_name_byte v ≡ true → EndsRun r → EndsRun s → w ++ r ≡ v ++ s → (w ≡ v) × (r ≡ s)
run_split w v r s aw av er es e =
    same_split w v r s (sym (run_whole is_name_byte w r aw er) ∙ (ap (prefix_len is_name_byte) e ∙ run_whole is_name_byte v s av es)) e

pub first_of_word : (w r x : List ℕ) (c : ℕ) → w ≢ [] → list_all is_name_byte w ≡ true → w ++ r ≡ c ∷ x → is_name_byte c ≡ true
first_of_word [] r x c some all e = absurd (some refl)
first_of_word (b ∷ w) r x c some all e = subst (λ d. is_name_byte d ≡ true) (ap first e) (and_parts (is_name_byte b) (list_all is_name_byte w) all).0

pub order : (q k : ℕ) → (q < k) ⊎ ((q ≡ k) ⊎ (k < q))
order zero zero = inr (inl refl)
order zero (suc k) = inl (omega arith)
order (suc q) zero = inr (inr (omega arith))
order (suc q) (suc k) = elim (order q k) [
  | inl less ↦ inl (omega (arith, less))
  | inr rest ↦ elim rest [
    | inl same ↦ inr (inl (ap suc same))
    | inr more ↦ inr (inr (omega (arith, more)))
  ]
]

pub all_behind : {A : Type 0} (P : A → Type 0) (x : A) (xs : List A) → All P (x ∷ xs) → All P xs
all_behind P x xs h k d lt = h (suc k) d (omega (arith, lt))

-- ---- the names of the states

pub name_read : (names : List (List ℕ)) (q : ℕ) → q < length names → name_at names q ≡ get_or names q []
name_read names q lt =
    let x = some_at names q lt in ap (λ o. unwrap_or o []) x.1 ∙ sym (get_or_from_slice_get names q x.0 [] x.1)

module _ (names : List (List ℕ)) (are : AreNames names) where
  pub word_some : (q : ℕ) → q < length names → name_at names q ≢ []
  word_some q lt = subst (λ (w : List ℕ). w ≢ []) (sym (name_read names q lt)) (are.words q [] lt).0

  pub word_all : (q : ℕ) → q < length names → list_all is_name_byte (name_at names q) ≡ true
  word_all q lt = subst (λ (w : List ℕ). list_all is_name_byte w ≡ true) (sym (name_read names q lt)) (are.words q [] lt).1

  apart : (q k : ℕ) → q < k → k < length names → name_at names q ≡ name_at names k → ⊥
  apart q k less within e =
      are.differ q k [] less within (sym (name_read names q (omega (arith, less, within))) ∙ (e ∙ name_read names k within))

  pub same_number : (q k : ℕ) → q < length names → k < length names → name_at names q ≡ name_at names k → q ≡ k
  same_number q k a b e = elim (order q k) [
    | inl less ↦ absurd (apart q k less b e)
    | inr rest ↦ elim rest [
      | inl same ↦ same
      | inr more ↦ absurd (apart k q more a (sym e))
    ]
  ]
