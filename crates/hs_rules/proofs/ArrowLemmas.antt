-- Types with several arguments.
use Rattle.std.proofs.Common.{◌≡◌, refl, sym, ap, subst, ℕ, zero, suc, ◌<◌, ◌≤◌, List, [], ◌∷◌, length, take, drop, arith, Contains}
use Rattle.hs_scheme.proofs.Lists.{none_in}
use Rattle.hs_table.specs.Types.{TypeTree, state, arrow, arrows}
use Rattle.hs_table.specs.Entries.{Env, Has}
use Rattle.hs_table_laws.proofs.Arrows.{arrow_same, state_no_arrow}
use Rattle.hs_replica.specs.Places.{HasArgumentType}

-- a type that is a state behind its sets has no more of them
pub arrows_long : (ss rs : Env) (q : ℕ) (u : TypeTree) → arrows ss (state q) ≡ arrows rs u → length rs ≤ length ss
arrows_long ss [] q u e = omega arith
arrows_long [] (r ∷ rs) q u e = absurd (state_no_arrow q r (arrows rs u) e)
arrows_long (s ∷ ss) (r ∷ rs) q u e = omega (arith, arrows_long ss rs q u (arrow_same s r (arrows ss (state q)) (arrows rs u) e).1)

-- nor so many as are wanted, where it has fewer
pub arrows_short : (ss rs : Env) (q : ℕ) (u : TypeTree) (n count : ℕ) → arrows ss (state q) ≡ arrows rs u → length ss ≡ n → length rs ≡ count → n < count → ⊥
arrows_short ss rs q u n count e have want less = omega (arith, arrows_long ss rs q u e, have, want, less)

pub arrows_parts : (n : ℕ) (ss : Env) (t : TypeTree) → arrows ss t ≡ arrows (take n ss) (arrows (drop n ss) t)
arrows_parts zero ss t = refl
arrows_parts (suc n) [] t = refl
arrows_parts (suc n) (s ∷ ss) t = ap (arrow s) (arrows_parts n ss t)

-- the sets in front, and what is left
pub arrows_first : (n : ℕ) (ss rs : Env) (t u : TypeTree) → n ≤ length ss → length rs ≡ n → arrows ss t ≡ arrows rs u → (take n ss ≡ rs) × (arrows (drop n ss) t ≡ u)
arrows_first zero ss [] t u le long e = (refl, e)
arrows_first zero ss (r ∷ rs) t u le long e = absurd (omega arith)
arrows_first (suc n) [] rs t u le long e = absurd (omega arith)
arrows_first (suc n) (s ∷ ss) [] t u le long e = absurd (omega arith)
arrows_first (suc n) (s ∷ ss) (r ∷ rs) t u le long e =
    let a = arrow_same s r (arrows ss t) (arrows rs u) e in
    let b = arrows_first n ss rs t u (omega arith) (omega arith) a.1 in
    (λ i. a.0 i ∷ b.0 i, b.1)

-- what a type takes is in its sets
in_sets : (ss rs : Env) (t u : TypeTree) (j : ℕ) (a : TypeTree) → arrows ss t ≡ arrows rs u → Has rs j a → j < length ss → Has ss j a
in_sets [] rs t u j a e h lt = absurd (omega arith)
in_sets (s ∷ ss) [] t u j a e h lt = absurd (none_in a h)
in_sets (s ∷ ss) (r ∷ rs) t u zero a e h lt = subst (λ (x : List TypeTree). Contains x a) (sym (arrow_same s r (arrows ss t) (arrows rs u) e).0) h
in_sets (s ∷ ss) (r ∷ rs) t u (suc j) a e h lt = in_sets ss rs t u j a (arrow_same s r (arrows ss t) (arrows rs u) e).1 h (omega arith)

pub takes_has : (ss : Env) (t : TypeTree) (j : ℕ) (a : TypeTree) → HasArgumentType (arrows ss t) j a → j < length ss → Has ss j a
takes_has ss t j a k lt = in_sets ss k.sets t k.rest j a k.is k.has lt
