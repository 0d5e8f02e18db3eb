-- What is still needed where some parameters stay, and the arguments for the others are gone.
--     live keep g f j t          what is left of the term, in rule g, needs the parameter j of f (both in their old numbers)
--     is_live keep rules f j     what is left of some body does
--     KeepsOnlyLive rules keep   each parameter that stays is needed by what is left
--     IsGreatest rules keep      so it is, and so is no parameter more: each set of parameters with this property stays
--     kept counts flags          the parameters that a list of flags keeps, by their numbers
--     GainsFlags counts old new  what is marked in one such list and not in another
use Rattle.std.specs.Prelude.{◌≡◌, ℕ, suc, ◌<◌, Bool, true, false, ◌||◌, ◌&&◌, nat_lt, List, length, slice_get, slice_index, Some, if◌then◌else◌}
use Rattle.hs_scheme.specs.declared.term.Head.{Head}
use Rattle.hs_scheme.specs.declared.term.Rule.{Rule}
use Rattle.hs_scheme.specs.Tree.{Tree, Trees, node, none, more, children}
use Rattle.hs_scheme.specs.sorting.Parameters.{IsParameter, parameter_of}
use Rattle.hs_passes.specs.Leaving.{Keep, keeps}
use Rattle.hs_passes.specs.Unused.{needs_at, of_some}
use Rattle.hs_passes.specs.Selection.{stays}

abbrev mutual
  pub live : Keep → ℕ → ℕ → ℕ → Tree Head → Bool
  live keep g f j (node h ts) = needs_at g f j h (length (children ts)) || live_in keep g f j (keeps keep h) ts

  pub live_in : Keep → ℕ → ℕ → ℕ → (ℕ → Bool) → Trees Head → Bool
  live_in keep g f j stay none = false
  live_in keep g f j stay (more t ts) = (stay 0 && live keep g f j t) || live_in keep g f j (λ i. stay (suc i)) ts

abbrev pub is_live : Keep → List Rule → ℕ → ℕ → Bool
is_live keep rules f j = of_some (λ g r. live keep g f j r.body) rules

abbrev pub KeepsOnlyLive : List Rule → Keep → Type 0
KeepsOnlyLive rules keep = (f j : ℕ) (r : Rule) → slice_get rules f ≡ Some r → j < r.params → keep f j ≡ true → is_live keep rules f j ≡ true

-- no parameter of such a set goes
abbrev pub IsAbove : List Rule → Keep → Type 0
IsAbove rules keep = (other : Keep) → KeepsOnlyLive rules other → (f j : ℕ) → other f j ≡ true → keep f j ≡ true

pub record IsGreatest (rules : List Rule) (keep : Keep) : Type 0 where
  pub supported : KeepsOnlyLive rules keep
  pub above : IsAbove rules keep

abbrev pub kept : List ℕ → List Bool → Keep
kept counts flags f j = if nat_lt j (slice_index counts f) then stays flags (parameter_of counts f j) else true

-- the flags gain those of the parameters of which the test holds
abbrev pub GainsFlags : List ℕ → List Bool → List Bool → (ℕ → ℕ → Bool) → Type 0
GainsFlags counts old new test = (f j : ℕ) → IsParameter counts f j → stays new (parameter_of counts f j) ≡ (stays old (parameter_of counts f j) || test f j)
