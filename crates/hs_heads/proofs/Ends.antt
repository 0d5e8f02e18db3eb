-- Types with several sets: the state at their end, and how many sets there are.
use Rattle.std.proofs.Common.{◌≡◌, refl, ap, ℕ, zero, suc, ◌<◌, ◌≤◌, [], ◌∷◌, length, drop, arith}
use Rattle.std.proofs.lemmas.Option.{same_Some}
use Rattle.hs_table.specs.Types.{TypeTree, state, arrows}
use Rattle.hs_table.specs.Entries.{Env, set_at}
use Rattle.hs_table_laws.proofs.Arrows.{arrow_same, state_no_arrow, label_of}
use Rattle.hs_weak.specs.Reads.{last_state}

pub last_over : (ss : Env) (t : TypeTree) → last_state (arrows ss t) ≡ last_state t
last_over [] t = refl
last_over (s ∷ ss) t = last_over ss t

pub same_state : (q r : ℕ) → state q ≡ state r → q ≡ r
same_state q r e = same_Some q r (ap label_of e)

-- a state behind sets has no more of them
pub no_more_sets : (ss rs : Env) (q : ℕ) (t : TypeTree) → arrows ss (state q) ≡ arrows rs t → length rs ≤ length ss
no_more_sets ss [] q t e = omega arith
no_more_sets [] (r ∷ rs) q t e = absurd (state_no_arrow q r (arrows rs t) e)
no_more_sets (s ∷ ss) (r ∷ rs) q t e = let few = no_more_sets ss rs q t (arrow_same s r (arrows ss (state q)) (arrows rs t) e).1 in omega (arith, few)

-- the sets of an environment from one more on
pub one_before : (E : Env) (n : ℕ) → n < length E → drop n E ≡ set_at E n ∷ drop (suc n) E
one_before [] n lt = absurd (omega (arith, lt))
one_before (s ∷ E) zero lt = refl
one_before (s ∷ E) (suc n) lt = one_before E n (omega (arith, lt))
