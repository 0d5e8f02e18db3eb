-- Void pairs in shape.
use Rattle.std.proofs.Common.{◌≡◌, sym, ◌∙◌, subst, ℕ, ◌+◌, ◌<◌, ◌≤◌, Bool, IsTrue, List, length, get_or, slice_get, Some, arith, ◌↔◌}
use Rattle.std.proofs.lemmas.Option.{same_Some}
use Rattle.hs_scheme.specs.Problem.{ProblemData}
use Rattle.hs_scheme.proofs.Lists.{slice_get-read}
use Rattle.hs_table.specs.Types.{TypeTree, IsType}
use Rattle.hs_table.specs.Entries.{Env, Has, IsEnv, params_of}
use Rattle.hs_weak.specs.Void.{VoidData, IsVoidShape}
use Rattle.hs_weak.proofs.ComparingLemmas.{one_more}
use Rattle.hs_certificate_checker.specs.Faults.{IsFirstOther, AreInVoidShape}

abbrev pub IsEnvOf : ProblemData → ℕ → Env → Type 0
IsEnvOf p rule E = IsEnv (params_of p rule) E × ((j : ℕ) (a : TypeTree) → Has E j a → IsType p.sorted.automaton.states a)

pub shape_whole : (p : ProblemData) (v : VoidData) (rule : ℕ) (E : Env) (b : Bool) → rule ≡ v.rule → E ≡ v.env → v.rule < length p.sorted.scheme.rules → (IsTrue b ↔ IsEnvOf p rule E) → IsTrue b ↔ IsVoidShape p v
shape_whole p v rule E b rule_is env_is within tells =
    let own = subst (λ (X : Env). IsTrue b ↔ IsEnvOf p v.rule X) env_is (subst (λ f. IsTrue b ↔ IsEnvOf p f E) rule_is tells) in
    (λ h. let parts = own.0 h in record { rule = within; env = parts.0; types = parts.1 }, λ shape. own.1 (shape.env, shape.types))

module _ (p : ProblemData) (V : List VoidData) where
  abbrev pub ShapedBelow : ℕ → Type 0
  ShapedBelow n = (i : ℕ) (v : VoidData) → i < n → slice_get V i ≡ Some v → IsVoidShape p v

  -- one more
  module _ (n : ℕ) (v : VoidData) (lt : n < length V) (is : v ≡ get_or V n v) where
    at : slice_get V n ≡ Some v
    at = slice_get-read V n v lt (sym is)

    pub shapes_more : IsVoidShape p v → ShapedBelow n → ShapedBelow (n + 1)
    shapes_more shape before i w lower own =
        one_more (λ k. (x : VoidData) → slice_get V k ≡ Some x → IsVoidShape p x) n (λ k below x. before k x below) (λ x there. subst (λ (z : VoidData). IsVoidShape p z) (same_Some v x (sym at ∙ there)) shape) i lower w own

    pub first_other : (IsVoidShape p v → ⊥) → ShapedBelow n → IsFirstOther (IsVoidShape p) V n
    first_other not before = record { item = v; at = at; not = not; before = before }

  pub shapes_all : (n : ℕ) → length V ≤ n → ShapedBelow n → AreInVoidShape p V
  shapes_all n past before v (i, lt, is) = before i v (omega (arith, lt, past)) (slice_get-read V i v lt is)
