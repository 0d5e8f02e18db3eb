-- Types with several arguments, and rows of sets that are empty but for one.
use Rattle.std.proofs.Common.{◌≡◌, refl, sym, ◌∙◌, ap, subst, ℕ, zero, suc, ◌<◌, List, [], ◌∷◌, ◌++◌, length, Option, Some, None, replicate, set, arith, Contains, ◌↔◌}
use Rattle.hs_scheme.specs.Tree.{Trees, node, none, more, children, children-forest}
use Rattle.hs_scheme.proofs.Lists.{none_in, here, only}
use Rattle.hs_table.specs.Types.{TypeTree, state, arrow, arrows, IsSet}
use Rattle.hs_table.specs.Entries.{Env, Has, set_at}
use Rattle.hs_table_laws.proofs.Sets.{no_set}

abbrev row_of : TypeTree → Trees (Option ℕ)
row_of (node x ts) = ts

abbrev first_of : Trees (Option ℕ) → TypeTree
first_of none = state 0
first_of (more t ts) = t

abbrev others_of : Trees (Option ℕ) → Trees (Option ℕ)
others_of none = none
others_of (more t ts) = ts

abbrev pub label_of : TypeTree → Option ℕ
label_of (node x ts) = x

pub arrow_same : (s r : List TypeTree) (t u : TypeTree) → arrow s t ≡ arrow r u → (s ≡ r) × (t ≡ u)
arrow_same s r t u e = (
  sym (children-forest s) ∙ (ap (λ (x : TypeTree). children (others_of (row_of x))) e ∙ children-forest r),
  ap (λ (x : TypeTree). first_of (row_of x)) e,
)

pub state_no_arrow : (q : ℕ) (s : List TypeTree) (t : TypeTree) → state q ≡ arrow s t → ⊥
state_no_arrow q s t e = let f : Some q ≡ None = ap label_of e in cc

pub arrows_same : (ss rs : Env) (t u : TypeTree) → length ss ≡ length rs → arrows ss t ≡ arrows rs u → (ss ≡ rs) × (t ≡ u)
arrows_same [] [] t u long e = (refl, e)
arrows_same [] (r ∷ rs) t u long e = absurd (omega arith)
arrows_same (s ∷ ss) [] t u long e = absurd (omega arith)
arrows_same (s ∷ ss) (r ∷ rs) t u long e =
    let a = arrow_same s r (arrows ss t) (arrows rs u) e in
    let b = arrows_same ss rs t u (omega arith) a.1 in
    (λ i. a.0 i ∷ b.0 i, b.1)

pub arrows-append : (ss rs : Env) (t : TypeTree) → arrows (ss ++ rs) t ≡ arrows ss (arrows rs t)
arrows-append [] rs t = refl
arrows-append (s ∷ ss) rs t = ap (arrow s) (arrows-append ss rs t)

pub has_within : (ss : Env) (j : ℕ) (a : TypeTree) → Has ss j a → j < length ss
has_within [] j a h = absurd (none_in a h)
has_within (s ∷ ss) zero a h = omega arith
has_within (s ∷ ss) (suc j) a h = let r = has_within ss j a h in omega (arith, r)

pub empties : (k j : ℕ) → set_at (replicate k []) j ≡ []
empties zero j = refl
empties (suc k) zero = refl
empties (suc k) (suc j) = empties k j

pub length-empties : (k : ℕ) → length (replicate k (let none : List TypeTree = [] in none)) ≡ k
length-empties zero = refl
length-empties (suc k) = ap suc (length-empties k)

pub empties_set : (k j : ℕ) → IsSet (set_at (replicate k []) j)
empties_set k j = subst (λ (s : List TypeTree). IsSet s) (sym (empties k j)) no_set

pub empties_has : (k j : ℕ) (a : TypeTree) → Has (replicate k []) j a → ⊥
empties_has k j a h = none_in a (subst (λ (s : List TypeTree). Contains s a) (empties k j) h)

pub one_long : (k i : ℕ) (s : List TypeTree) → length (set (replicate k []) i s) ≡ k
one_long zero i s = refl
one_long (suc k) zero s = ap suc (length-empties k)
one_long (suc k) (suc i) s = ap suc (one_long k i s)

pub one_sets : (k i j : ℕ) (s : List TypeTree) → IsSet s → IsSet (set_at (set (replicate k []) i s) j)
one_sets zero i j s h = no_set
one_sets (suc k) zero zero s h = h
one_sets (suc k) zero (suc j) s h = empties_set k j
one_sets (suc k) (suc i) zero s h = no_set
one_sets (suc k) (suc i) (suc j) s h = one_sets k i j s h

pub one_has : (k i j : ℕ) (t a : TypeTree) → j < k → Has (set (replicate k []) i (t ∷ [])) j a ↔ ((j ≡ i) × (a ≡ t))
one_has zero i j t a lt = absurd (omega arith)
one_has (suc k) zero zero t a lt = (λ h. (refl, only t a h), λ h. subst (λ z. Contains (t ∷ []) z) (sym h.1) (here t []))
one_has (suc k) zero (suc j) t a lt = (λ h. absurd (empties_has k j a h), λ h. absurd (omega (arith, h.0)))
one_has (suc k) (suc i) zero t a lt = (λ h. absurd (none_in a h), λ h. absurd (omega (arith, h.0)))
one_has (suc k) (suc i) (suc j) t a lt =
    let r = one_has k i j t a (omega arith) in
    (λ h. let q = r.0 h in (ap suc q.0, q.1), λ h. let z : j ≡ i = omega (arith, h.0) in r.1 (z, h.1))
