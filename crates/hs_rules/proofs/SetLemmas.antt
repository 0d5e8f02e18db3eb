-- Sets that gain a member.
use Rattle.std.proofs.Common.{◌≡◌, ◌∙◌, ap, ℕ, Bool, List, [], ◌∷◌, ◌++◌, cond, Contains}
use Rattle.std.specs.Bool.{Decides}
use Rattle.std.specs.List.{list_any}
use Rattle.std.proofs.lemmas.Bool.{eqb-true, eq-eqb, false_from_ne_true}
use Rattle.std.proofs.lemmas.Map.Made.{is_member-Decides}
use Rattle.hs_types.specs.contracts.ids.EnvIdPartialEq.TheImpl.{eq-value}
use Rattle.hs_types.specs.contracts.ids.SetIdPartialEq.TheImpl.{eq-value as set_eq}

-- what isn't there comes to the end
pub set_new : {K : Type 0} (eq : K → K → Bool) (same : (a b : K) → Decides (eq a b) (a ≡ b)) (old new : List K) (b : K) → new ≡ cond (list_any (eq b) old) old (old ++ b ∷ []) → (Contains old b → ⊥) → new ≡ old ++ b ∷ []
set_new eq same old new b keys none = keys ∙ ap (λ t. cond t old (old ++ b ∷ [])) (false_from_ne_true (list_any (eq b) old) (λ t. none ((is_member-Decides same old b).0 t)))

pub env_same : (a b : ℕ) → Decides (eq-value.it a b) (a ≡ b)
env_same a b = (eqb-true a b, eq-eqb a b)

pub set_same : (a b : ℕ) → Decides (set_eq.it a b) (a ≡ b)
set_same a b = (eqb-true a b, eq-eqb a b)
