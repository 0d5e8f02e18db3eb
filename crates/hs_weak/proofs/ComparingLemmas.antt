-- How the programs compare.
use Rattle.std.proofs.Common.{◌≡◌, refl, sym, ◌∙◌, ap, subst, ℕ, zero, suc, ◌+◌, ◌≤◌, ◌<◌, List, [], ◌∷◌, length, get_or, Bool, nat_eq, IsTrue, Contains, inl, inr, arith, ◌↔◌}
use Rattle.std.proofs.lemmas.Bool.{eqb-true, eq-eqb}
use Rattle.hs_scheme.specs.Tree.{forest, children-forest, height, heights}
use Rattle.hs_scheme.proofs.Lists.{none_in, here, uncons}
use Rattle.hs_table.specs.Types.{TypeTree, state, arrow}
use Rattle.hs_table.specs.Entries.{Env, EntryData, set_at}
use Rattle.hs_weak.specs.Strength.{AsStrongAs, same_state, stronger_arrow, AsksFor, AsksEach, AsksAtLeast, Covers}
use Rattle.hs_weak.proofs.Strength.{some_asks, arrow_strong}

-- what stands in a row is lower than it
pub below_heights : (xs : List TypeTree) (x : TypeTree) → Contains xs x → height x + 1 ≤ heights (forest xs)
below_heights [] x m = absurd (none_in x m)
below_heights (y ∷ ys) x m = elim (uncons y x ys m) [
  | inl e ↦ let same : height x ≡ height y = ap height e in omega (arith, same)
  | inr there ↦ let rest = below_heights ys x there in omega (arith, rest)
]

same_states : (q r : ℕ) → AsStrongAs (state q) (state r) → q ≡ r
same_states q r same_state = refl

pub states_compare : (q r : ℕ) (t u : TypeTree) → t ≡ state q → u ≡ state r → (IsTrue (nat_eq q r) → AsStrongAs t u) × (AsStrongAs t u → IsTrue (nat_eq q r))
states_compare q r t u is_t is_u = (
  λ h.
      let same : q ≡ r = eqb-true q r h in
      subst (λ (z : TypeTree). AsStrongAs z u) (sym is_t) (subst (λ (z : TypeTree). AsStrongAs (state q) z) (sym is_u) (subst (λ k. AsStrongAs (state q) (state k)) same same_state)),
  λ h. eq-eqb q r (same_states q r (subst (λ (z : TypeTree). AsStrongAs z (state r)) is_t (subst (λ (z : TypeTree). AsStrongAs t z) is_u h))),
)

arrows_ask : (s r : List TypeTree) (t u : TypeTree) → AsStrongAs (arrow s t) (arrow r u) → AsksEach AsStrongAs r s
arrows_ask s r t u (stronger_arrow h f) a m =
    subst (λ (x : List TypeTree). AsksFor AsStrongAs x a) (children-forest r) (some_asks _ a (f a (subst (λ (x : List TypeTree). Contains x a) (sym (children-forest s)) m)))

-- two arrows whose results compare
pub arrows_compare : (s r : List TypeTree) (t u x y : TypeTree) → x ≡ arrow s t → y ≡ arrow r u → AsStrongAs t u → (B : Type 0) → B ↔ AsksEach AsStrongAs r s → (B → AsStrongAs x y) × (AsStrongAs x y → B)
arrows_compare s r t u x y is_x is_y h B asks = (
  λ b. subst (λ (z : TypeTree). AsStrongAs z y) (sym is_x) (subst (λ (z : TypeTree). AsStrongAs (arrow s t) z) (sym is_y) (arrow_strong s r t u h (asks.0 b))),
  λ k. asks.1 (arrows_ask s r t u (subst (λ (z : TypeTree). AsStrongAs z (arrow r u)) is_x (subst (λ (z : TypeTree). AsStrongAs x z) is_y k))),
)

pub set_read : (env : Env) (k : ℕ) (s : List TypeTree) → k < length env → s ≡ get_or env k s → set_at env k ≡ s
set_read [] k s lt read = absurd (omega arith)
set_read (x ∷ env) zero s lt read = sym read
set_read (x ∷ env) (suc k) s lt read = set_read env k s (omega arith) read

set_past : (env : Env) (k : ℕ) → length env ≤ k → set_at env k ≡ []
set_past [] k le = refl
set_past (x ∷ env) zero le = absurd (omega (arith, le))
set_past (x ∷ env) (suc k) le = set_past env k (omega (arith, le))

no_members : (s : List TypeTree) → AsksEach AsStrongAs [] s → length s ≡ 0
no_members [] f = refl
no_members (a ∷ s) f = let k = f a (here a s) in absurd (none_in k.0 k.1.0)

asks_empty : (s r : List TypeTree) → length r ≡ 0 → AsksEach AsStrongAs s r
asks_empty s [] e a m = absurd (none_in a m)
asks_empty s (b ∷ r) e a m = absurd (omega (arith, e))

-- a set that is missing asks no types
pub missing_asks : (env : Env) (k : ℕ) (s : List TypeTree) (b : Bool) → length env ≤ k → b ≡ nat_eq (length s) 0 → (IsTrue b → AsksEach AsStrongAs (set_at env k) s) × (AsksEach AsStrongAs (set_at env k) s → IsTrue b)
missing_asks env k s b le is = (
  λ h. asks_empty (set_at env k) s (eqb-true (length s) 0 (sym is ∙ h)),
  λ f. is ∙ eq-eqb (length s) 0 (no_members s (subst (λ (r : List TypeTree). AsksEach AsStrongAs r s) (set_past env k le) f)),
)

pub one_more : (P : ℕ → Type 0) (n : ℕ) → ((j : ℕ) → j < n → P j) → P n → (j : ℕ) → j < n + 1 → P j
one_more P zero f h zero lt = h
one_more P zero f h (suc j) lt = absurd (omega (arith, lt))
one_more P (suc n) f h zero lt = f 0 (omega arith)
one_more P (suc n) f h (suc j) lt = one_more (λ k. P (suc k)) n (λ k l. f (suc k) (omega (arith, l))) h j (omega (arith, lt))

pub covers_whole : (e f : EntryData) → e.point ≡ f.point → AsStrongAs e.ty f.ty → (B : Type 0) → B ↔ AsksAtLeast AsStrongAs f.env e.env → (B → Covers AsStrongAs e f) × (Covers AsStrongAs e f → B)
covers_whole e f point ty B asks = (λ b. record { point = point; ty = ty; env = asks.0 b }, λ h. asks.1 h.env)
