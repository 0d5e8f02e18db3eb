-- The values that the entries of a map give to names, one entry after another.
use Rattle.std.proofs.Common.{◌≡◌, refl, sym, ◌∙◌, ap, ℕ, suc, Bool, true, false, ◌||◌, cond, List, [], ◌∷◌, ◌++◌, append_assoc, length, map, set, replicate, position, Option, Some, None, option_map, is_some, Bor}
use Rattle.std.specs.Cmp.{IsEquivalence}
use Rattle.std.specs.List.{list_any, AllByRecursion, IsDistinct}
use Rattle.std.specs.Map.{update_all, lookup, keys_of}
use Rattle.std.specs.Str.{bytes_eq}
use Rattle.std.proofs.lemmas.Cmp.{nat_list_eq_equiv}
use Rattle.std.proofs.lemmas.Map.{update_all_push}
use Rattle.std.proofs.lemmas.Map.Keys.{IsDistinct-head, IsDistinct-tail}
use Rattle.std.proofs.lemmas.Map.Made.{update_all_none}
use Rattle.std.proofs.lemmas.Option.{same_Some}
use Rattle.std.proofs.lemmas.Simd.{splat_is_map}
use Rattle.hs_resolve.proofs.Lists.{position-cons, is_some-position}

abbrev pub Name : Type 0
Name = Bor (List ℕ)

abbrev pub is_name : Name → Name → Bool
is_name k t = bytes_eq k.now t.now

-- the value that the last of the entries with its name gives to a name
abbrev pub value_by : List (Name × ℕ) → Name → Option ℕ
value_by es = update_all is_name (λ _. None) es

laws : IsEquivalence is_name
laws = record {
  refl = λ x. nat_list_eq_equiv.refl x.now;
  symm = λ x y. nat_list_eq_equiv.symm x.now y.now;
  congr = λ x y z. nat_list_eq_equiv.congr x.now y.now z.now;
}

module _ {A B : Type 0} (p : A → Bool) (f : A → B) (w : B) where
  -- where no element passes, nothing is put in
  none-passes : (xs : List A) → list_any p xs ≡ false → map f xs ≡ map (λ x. cond (p x) w (f x)) xs
  none-passes [] h = refl
  none-passes (x ∷ xs) h =
      elim (p x) as (λ b. (b || list_any p xs) ≡ false → f x ∷ map f xs ≡ cond b w (f x) ∷ map (λ y. cond (p y) w (f y)) xs) [
        | true ↦ λ e. absurd (cc)
        | false ↦ λ e. ap (λ ys. f x ∷ ys) (none-passes xs e)
      ] h

  none-others : (q : A → Bool) → ((y : A) → q y ≡ false → p y ≡ false) → (xs : List A) → AllByRecursion (λ y. q y ≡ false) xs → list_any p xs ≡ false
  none-others q other [] h = refl
  none-others q other (x ∷ xs) h = (λ i. other x h.0 i || none-others q other xs h.1 i)

  -- where the elements are distinct, what is put in at the one that passes is put in at its place
  one-passes : (eq : A → A → Bool) → ((x y : A) → p x ≡ true → eq x y ≡ false → p y ≡ false) → (xs : List A) (i : ℕ) → IsDistinct eq xs → position p xs ≡ Some i
      → set (map f xs) i w ≡ map (λ x. cond (p x) w (f x)) xs
  one-passes eq apart [] i distinct at = absurd (let e : None ≡ Some i = at in (cc))
  one-passes eq apart (x ∷ xs) i distinct at =
      put (p x) refl (position p xs) refl (sym (position-cons p x xs) ∙ at) (λ j later. one-passes eq apart xs j (IsDistinct-tail eq x xs distinct) later)
    where
      put : (b : Bool) → p x ≡ b → (o : Option ℕ) → position p xs ≡ o → cond b (Some 0) (option_map suc o) ≡ Some i
          → ((j : ℕ) → position p xs ≡ Some j → set (map f xs) j w ≡ map (λ y. cond (p y) w (f y)) xs)
          → set (f x ∷ map f xs) i w ≡ cond (p x) w (f x) ∷ map (λ y. cond (p y) w (f y)) xs
      put true e o is here later =
          let n : 0 ≡ i = same_Some 0 i here in
          let rest = none-passes xs (none-others (eq x) (λ y. apart x y e) xs (IsDistinct-head eq x xs distinct)) in
          ap (λ m. set (f x ∷ map f xs) m w) (sym n) ∙ (λ k. cond (sym e k) w (f x) ∷ rest k)
      put false e None is here later = absurd (cc)
      put false e (Some j) is here later =
          let n : suc j ≡ i = same_Some (suc j) i here in
          let rest = later j is in
          ap (λ m. set (f x ∷ map f xs) m w) (sym n) ∙ (λ k. cond (sym e k) w (f x) ∷ rest k)

-- no entry gives a value yet
pub no-values : (names : List Name) (n : ℕ) (items : List (Option ℕ)) → items ≡ replicate n None → n ≡ length names → items ≡ map (value_by []) names
no-values names n items is count = is ∙ splat_is_map names n None (sym count)

-- one more entry is among those so far
pub next-taken : {A : Type 0} {all rest : List A} (done : List A) (x : A) (later : List A) → all ≡ done ++ rest → rest ≡ x ∷ later → all ≡ (done ++ x ∷ []) ++ later
next-taken done x later split next = split ∙ (ap (λ xs. done ++ xs) next ∙ sym (append_assoc done (x ∷ []) later))

module _ (names : List Name) (done : List (Name × ℕ)) (k : Name) (v : ℕ) where
  pushed : map (λ t. cond (is_name k t) (Some v) (value_by done t)) names ≡ map (value_by (done ++ (k, v) ∷ [])) names
  pushed = ap (λ g. map g names) (λ i t. update_all_push is_name (λ _. None) (value_by done) done (k, v) t refl i)

  pub value-absent : position (is_name k) names ≡ None → map (value_by done) names ≡ map (value_by (done ++ (k, v) ∷ [])) names
  value-absent none = none-passes (is_name k) (value_by done) (Some v) names (sym (is_some-position (is_name k) names) ∙ ap is_some none) ∙ pushed

  pub value-put : (i : ℕ) → IsDistinct is_name names → position (is_name k) names ≡ Some i → set (map (value_by done) names) i (Some v) ≡ map (value_by (done ++ (k, v) ∷ [])) names
  value-put i distinct at =
      one-passes (is_name k) (value_by done) (Some v) is_name (λ x y here other. laws.congr k x y here ∙ other) names i distinct at ∙ pushed

-- what the last entry with its name gives is what the map has
pub all-values : (names : List Name) (es : List (Name × ℕ)) → IsDistinct is_name (keys_of es) → map (value_by es) names ≡ map (λ t. lookup (is_name t) es) names
all-values names es distinct = ap (λ g. map g names) (λ i t. update_all_none laws is_name (λ x y. refl) es t distinct i)
