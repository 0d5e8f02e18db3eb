-- What the induction asks of the relation that says which type is as strong as which, and the two relations that have it.
use Rattle.std.proofs.Common.{◌≡◌, refl, ◌∙◌, ap, ℕ, List, [], ◌∷◌}
use Rattle.hs_table.specs.Types.{TypeTree, state, arrow, arrows, IsType}
use Rattle.hs_table.specs.Entries.{Env}
use Rattle.hs_weak.specs.Strength.{AsStrongAs, AsksEach}
use Rattle.hs_weak.proofs.Strength.{strong_refl, strong_trans, state_only, strong_arrow}

-- t is an arrow whose result is as strong as u, and s asks each type of its set
pub record ArrowBy (R : TypeTree → TypeTree → Type 0) (t : TypeTree) (s : List TypeTree) (u : TypeTree) : Type 0 where
  pub set : List TypeTree
  pub result : TypeTree
  pub is : t ≡ arrow set result
  pub strong : R result u
  pub asks : AsksEach R s set

pub record IsStrength (n : ℕ) (R : TypeTree → TypeTree → Type 0) : Type 0 where
  pub itself : (t : TypeTree) → IsType n t → R t t
  pub through : (t u v : TypeTree) → R t u → R u v → R t v
  pub at_state : (t : TypeTree) (q : ℕ) → R t (state q) → t ≡ state q
  pub at_arrow : (t : TypeTree) (s : List TypeTree) (u : TypeTree) → R t (arrow s u) → ArrowBy R t s u

strong_arrow_by : (t : TypeTree) (s : List TypeTree) (u : TypeTree) → AsStrongAs t (arrow s u) → ArrowBy AsStrongAs t s u
strong_arrow_by t s u h = let k = strong_arrow t s u h in record { set = k.set; result = k.result; is = k.is; strong = k.strong; asks = k.asks }

pub strength : (n : ℕ) → IsStrength n AsStrongAs
strength n = record { itself = strong_refl n; through = strong_trans; at_state = state_only; at_arrow = strong_arrow_by }

abbrev pub Same : TypeTree → TypeTree → Type 0
Same t u = t ≡ u

pub equality : (n : ℕ) → IsStrength n Same
equality n = record {
  itself = λ t h. refl;
  through = λ t u v h k. h ∙ k;
  at_state = λ t q h. h;
  at_arrow = λ t s u h. record { set = s; result = u; is = h; strong = refl; asks = λ a m. (a, (m, refl)) };
}

-- set by set, the one asks each type of the other
abbrev pub AskRow : (TypeTree → TypeTree → Type 0) → Env → Env → Type 0
AskRow R [] [] = Unit {0}
AskRow R [] (r ∷ rs) = ⊥
AskRow R (s ∷ ss) [] = ⊥
AskRow R (s ∷ ss) (r ∷ rs) = AsksEach R s r × AskRow R ss rs

pub record ArrowsBy (R : TypeTree → TypeTree → Type 0) (t : TypeTree) (ss : Env) (q : ℕ) : Type 0 where
  pub sets : Env
  pub is : t ≡ arrows sets (state q)
  pub asks : AskRow R ss sets

pub arrows_by : (n : ℕ) (R : TypeTree → TypeTree → Type 0) → IsStrength n R → (t : TypeTree) (ss : Env) (q : ℕ) → R t (arrows ss (state q)) → ArrowsBy R t ss q
arrows_by n R strong t [] q h = record { sets = []; is = strong.at_state t q h; asks = tt }
arrows_by n R strong t (s ∷ ss) q h =
    let k = strong.at_arrow t s (arrows ss (state q)) h in
    let r = arrows_by n R strong k.result ss q k.strong in
    record { sets = k.set ∷ r.sets; is = k.is ∙ ap (arrow k.set) r.is; asks = (k.asks, r.asks) }
