-- Terms that are just parameters, in order.
use Rattle.std.proofs.Common.{◌≡◌, refl, sym, ◌∙◌, ap, ℕ, zero, suc, ◌+◌, ◌<◌, Bool, true, false, List, [], ◌∷◌, length, get_or, arith}
use Rattle.std.specs.Prelude.{nat_eq, nat_lt}
use Rattle.std.proofs.lemmas.Bool.{eq-eqb, eqb-true, ltb-true, ltb-false, and_parts, and_from, false_from_ne_true}
use Rattle.std.proofs.lemmas.List.{get_or_default}
use Rattle.hs_scheme.specs.declared.term.Head.TheVariants.{Var}
use Rattle.hs_scheme.specs.declared.term.Head.{Head}
use Rattle.hs_scheme.specs.Tree.{Tree, node, forest}
use Rattle.hs_passes.specs.Aliases.{is_parameter, are_parameters}

-- the first d of the terms are the parameters from the first on
abbrev pub EachIs : ℕ → ℕ → List (Tree Head) → Type 0
EachIs first d ts = (k : ℕ) (t : Tree Head) → k < d → k < length ts → is_parameter (first + k) (get_or ts k t) ≡ true

pub all_are : (first d : ℕ) (ts : List (Tree Head)) → length ts ≡ d → EachIs first d ts → are_parameters first d (forest ts) ≡ true
all_are first zero [] e each = refl
all_are first zero (t ∷ ts) e each = absurd (omega arith)
all_are first (suc d) [] e each = absurd (omega arith)
all_are first (suc d) (t ∷ ts) e each =
    and_from (is_parameter first t) (are_parameters (first + 1) d (forest ts))
    (ap (λ n. is_parameter n t) (omega arith) ∙ each 0 t (omega arith) (omega arith))
    (all_are (first + 1) d ts (omega arith) (λ k u lt l. ap (λ n. is_parameter n (get_or ts k u)) (omega arith) ∙ each (suc k) u (omega arith) (omega arith)))

pub as_many : (first d : ℕ) (ts : List (Tree Head)) → are_parameters first d (forest ts) ≡ true → length ts ≡ d
as_many first zero [] e = refl
as_many first zero (t ∷ ts) e = absurd (cc)
as_many first (suc d) [] e = absurd (cc)
as_many first (suc d) (t ∷ ts) e = let p = and_parts (is_parameter first t) (are_parameters (first + 1) d (forest ts)) e in let q = as_many (first + 1) d ts p.1 in omega (arith, q)

pub each_is : (first d : ℕ) (ts : List (Tree Head)) → are_parameters first d (forest ts) ≡ true → EachIs first d ts
each_is first zero ts e k t lt l = absurd (omega arith)
each_is first (suc d) [] e k t lt l = absurd (omega arith)
each_is first (suc d) (u ∷ ts) e zero t lt l =
    ap (λ n. is_parameter n u) (omega arith) ∙ (and_parts (is_parameter first u) (are_parameters (first + 1) d (forest ts)) e).0
each_is first (suc d) (u ∷ ts) e (suc k) t lt l =
    ap (λ n. is_parameter n (get_or ts k t)) (omega arith) ∙ each_is (first + 1) d ts (and_parts (is_parameter first u) (are_parameters (first + 1) d (forest ts)) e).1 k t (omega arith) (omega arith)

pub each_more : (first i : ℕ) (d : Tree Head) (ts : List (Tree Head)) → EachIs first i ts → i < length ts → is_parameter (first + i) (get_or ts i d) ≡ true → EachIs first (i + 1) ts
each_more first i d ts each lt here k t below l = by (nat_lt k i) refl
  where
    by : (b : Bool) → nat_lt k i ≡ b → is_parameter (first + k) (get_or ts k t) ≡ true
    by true e = each k t (ltb-true k i e) l
    by false e =
        let le = ltb-false k i e in
        let same : k ≡ i = omega (arith, le, below) in
        ap (is_parameter (first + k)) (get_or_default ts k t d l) ∙ (ap (λ n. is_parameter (first + n) (get_or ts n d)) same ∙ here)

pub parameter_made : (j k n : ℕ) (us : List (Tree Head)) → n ≡ length us → k ≡ j → nat_eq n 0 ≡ is_parameter j (node (Var k) (forest us))
parameter_made j k n [] e same = eq-eqb n 0 e ∙ sym (eq-eqb k j same)
parameter_made j k n (u ∷ us) e same = false_from_ne_true (nat_eq n 0) (λ d. let z = eqb-true n 0 d in absurd (omega (arith, z, e)))
