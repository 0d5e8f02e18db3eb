-- Names behind which others are put: what has a number keeps it.
use Rattle.std.proofs.Common.{◌≡◌, refl, sym, ◌∙◌, ap, ℕ, suc, ◌+◌, Bool, true, false, not, ◌||◌, cond, List, [], ◌∷◌, ◌++◌, position, unwrap_or, Some, option_map, arith, append_assoc}
use Rattle.std.specs.List.{list_any, position_or_len}
use Rattle.std.specs.Str.{bytes_eq}
use Rattle.std.proofs.lemmas.List.{append-nil}
use Rattle.hs_resolve.specs.Names.{is_among, number, with_name, with_names}
use Rattle.hs_resolve.proofs.Lists.{position-cons}
use Rattle.hs_resolve.proofs.Distinct.{same_self}

-- where an element passes that is put behind a list in which none does, the first that passes stands where it was looked for
here : {A : Type 0} (p : A → Bool) (xs : List A) (y : A) (later : List A) → p y ≡ true
    → position p (cond (list_any p xs) xs (xs ++ y ∷ []) ++ later) ≡ Some (position_or_len p xs)
here p [] y later e = position-cons p y later ∙ ap (λ b. cond b (Some 0) (option_map suc (position p later))) e
here p (x ∷ xs) y later e =
    elim (p x) as (λ b. p x ≡ b → position p (cond (b || list_any p xs) (x ∷ xs) (x ∷ (xs ++ y ∷ [])) ++ later) ≡ Some (cond (not b) (1 + position_or_len p xs) 0)) [
      | true ↦ λ f. position-cons p x (xs ++ later) ∙ ap (λ b. cond b (Some 0) (option_map suc (position p (xs ++ later)))) f
      | false ↦ λ f.
          ap (position p) (behind (list_any p xs))
          ∙ (position-cons p x (cond (list_any p xs) xs (xs ++ y ∷ []) ++ later)
          ∙ (ap (λ b. cond b (Some 0) (option_map suc (position p (cond (list_any p xs) xs (xs ++ y ∷ []) ++ later)))) f
          ∙ (ap (option_map suc) (here p xs y later e)
          ∙ (let g : suc (position_or_len p xs) ≡ 1 + position_or_len p xs = omega arith in ap (λ n. Some n) g))))
    ] refl
  where
    behind : (b : Bool) → cond b (x ∷ xs) (x ∷ (xs ++ y ∷ [])) ++ later ≡ x ∷ (cond b xs (xs ++ y ∷ []) ++ later)
    behind true = refl
    behind false = refl

pub number-here : (names : List (List ℕ)) (x : List ℕ) (later : List (List ℕ)) → number (with_name names x ++ later) x ≡ position_or_len (bytes_eq x) names
number-here names x later = ap (λ o. unwrap_or o 0) (here (bytes_eq x) names x later (same_self x))

pub extends : (names xs : List (List ℕ)) → (more : List (List ℕ)) × (with_names names xs ≡ names ++ more)
extends names [] = ([], sym (append-nil names))
extends names (x ∷ xs) =
    let r = extends (with_name names x) xs in
    elim (is_among names x) as (λ b. with_names (cond b names (names ++ x ∷ [])) xs ≡ cond b names (names ++ x ∷ []) ++ r.0 → (more : List (List ℕ)) × (with_names (cond b names (names ++ x ∷ [])) xs ≡ names ++ more)) [
      | true ↦ λ e. (r.0, e)
      | false ↦ λ e. (x ∷ r.0, e ∙ append_assoc names (x ∷ []) r.0)
    ] r.1

-- what comes behind the names, where further ones were put behind them before
pub behind_all : (names xs : List (List ℕ)) → List (List ℕ) → List (List ℕ)
behind_all names xs later = (extends names xs).0 ++ later

pub all-behind : (names xs later : List (List ℕ)) → names ++ behind_all names xs later ≡ with_names names xs ++ later
unfolding behind_all extends
all-behind names xs later =
    let r = extends names xs in
    sym (append_assoc names r.0 later) ∙ sym (ap (λ ns. ns ++ later) r.1)

pub with_names-append : (names xs ys : List (List ℕ)) → with_names names (xs ++ ys) ≡ with_names (with_names names xs) ys
with_names-append names [] ys = refl
with_names-append names (x ∷ xs) ys = with_names-append (with_name names x) xs ys
