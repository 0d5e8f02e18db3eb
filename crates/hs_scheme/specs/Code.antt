-- The codes of the enums that trees have at their nodes.
use Rattle.std.specs.Prelude.{◌≡◌, refl, ℕ, ◌⊎◌}
use Rattle.std.proofs.Common.{inl, inr}
use Rattle.std.specs.Coded.{Coded, code_by, coded⊎, coded_ℕ}
use Rattle.hs_scheme.specs.declared.term.Head.{Head}
use Rattle.hs_scheme.specs.declared.term.Head.TheVariants.{Var, Nt, Tm}

abbrev head_cases : Head → ℕ ⊎ (ℕ ⊎ ℕ)
head_cases (Var n) = inl n
head_cases (Nt n) = inr (inl n)
head_cases (Tm n) = inr (inr n)

abbrev head_of : ℕ ⊎ (ℕ ⊎ ℕ) → Head
head_of (inl n) = Var n
head_of (inr (inl n)) = Nt n
head_of (inr (inr n)) = Tm n

pub head_of-cases : (h : Head) → head_of (head_cases h) ≡ h
head_of-cases (Var n) = refl
head_of-cases (Nt n) = refl
head_of-cases (Tm n) = refl

abbrev pub coded_head : Coded Head
coded_head = code_by (ℕ ⊎ (ℕ ⊎ ℕ)) (coded⊎ coded_ℕ (coded⊎ coded_ℕ coded_ℕ)) head_cases head_of head_of-cases
