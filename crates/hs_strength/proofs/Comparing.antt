-- Answers that are so, and what is as strong as itself.
use Rattle.std.proofs.Common.{◌≡◌, refl, sym, subst, ℕ, true, false, List, IsTrue, Contains, ◌↔◌}
use Rattle.std.proofs.lemmas.Bool.{false≢true}
use Rattle.hs_table.specs.Types.{TypeTree, state, arrow}
use Rattle.hs_weak.specs.Strength.{AsStrongAs, same_state, AsksEach}
use Rattle.hs_weak.proofs.Strength.{arrow_strong}

pub agreed : (P : Type 0) → P → IsTrue true ↔ P
agreed P h = (λ _. h, λ _. refl)

pub refused : (P : Type 0) → (P → ⊥) → IsTrue false ↔ P
refused P h = (λ e. absurd (false≢true e), λ p. absurd (h p))

-- a type is as strong as itself where its parts are
pub state_itself : (x : TypeTree) (q : ℕ) → x ≡ state q → AsStrongAs x x
state_itself x q is = subst (λ (z : TypeTree). AsStrongAs z z) (sym is) same_state

pub arrow_itself : (x : TypeTree) (s : List TypeTree) (t : TypeTree) → x ≡ arrow s t → AsStrongAs t t → AsksEach AsStrongAs s s → AsStrongAs x x
arrow_itself x s t is h f = subst (λ (z : TypeTree). AsStrongAs z z) (sym is) (arrow_strong s s t t h f)

pub set_itself : (s : List TypeTree) → ((a : TypeTree) → Contains s a → AsStrongAs a a) → AsksEach AsStrongAs s s
set_itself s h a m = (a, (m, h a m))
