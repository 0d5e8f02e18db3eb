-- Parameters that aren't used: they can go, with the arguments for them.
--     needs g f j t         the term, in rule g, needs the parameter j of f: the parameter itself occurs in it, or f does without
--                           an argument at this position
--     is_needed rules f j   some body needs it
--     first_unused rules    the first parameter that no body needs, by rule and then by position
--     dropped n s           without the first such parameter, n times or until there is none
--     without_unused s      until there is none: each time one parameter less is left
use Rattle.std.specs.Prelude.{ℕ, zero, suc, Bool, false, ◌||◌, ◌&&◌, not, nat_eq, nat_le, List, [], ◌∷◌, length, sum_by, option_map, Option, Some, None, if◌then◌else◌}
use Rattle.hs_scheme.specs.declared.term.Head.{Head}
use Rattle.hs_scheme.specs.declared.term.Head.TheVariants.{Var, Nt, Tm}
use Rattle.hs_scheme.specs.declared.term.Rule.{Rule}
use Rattle.hs_scheme.specs.Tree.{Tree, Trees, node, none, more, children}
use Rattle.hs_scheme.specs.sorting.Sorted.{SortedData}
use Rattle.hs_passes.specs.Leaving.{with_parameters}
use Rattle.hs_passes.specs.Weight.{params_of}

-- so does a head with this many arguments
abbrev pub needs_at : ℕ → ℕ → ℕ → Head → ℕ → Bool
needs_at g f j (Var k) n = nat_eq g f && nat_eq k j
needs_at g f j (Nt h) n = nat_eq h f && nat_le n j
needs_at g f j (Tm a) n = false

abbrev mutual
  pub needs : ℕ → ℕ → ℕ → Tree Head → Bool
  needs g f j (node h ts) = needs_at g f j h (length (children ts)) || needed_in g f j ts

  pub needed_in : ℕ → ℕ → ℕ → Trees Head → Bool
  needed_in g f j none = false
  needed_in g f j (more t ts) = needs g f j t || needed_in g f j ts

-- the test holds of some rule and its number
abbrev pub of_some : (ℕ → Rule → Bool) → List Rule → Bool
of_some test [] = false
of_some test (r ∷ rules) = test 0 r || of_some (λ g. test (suc g)) rules

abbrev pub is_needed : List Rule → ℕ → ℕ → Bool
is_needed rules f j = of_some (λ g r. needs g f j r.body) rules

-- the first number below n of which the test holds
abbrev pub first_below : (ℕ → Bool) → ℕ → Option ℕ
first_below test zero = None
first_below test (suc n) = if test 0 then Some 0 else option_map (λ j. suc j) (first_below (λ j. test (suc j)) n)

-- that of the first rule, or one of the rules behind it
abbrev pub here_or_later : Option ℕ → Option (ℕ × ℕ) → Option (ℕ × ℕ)
here_or_later None later = option_map (λ p. (suc p.0, p.1)) later
here_or_later (Some j) later = Some (0, j)

-- the first parameter of which the test holds
abbrev pub first_parameter : (ℕ → ℕ → Bool) → List Rule → Option (ℕ × ℕ)
first_parameter test [] = None
first_parameter test (r ∷ rules) = here_or_later (first_below (test 0) r.params) (first_parameter (λ f. test (suc f)) rules)

abbrev pub first_unused : List Rule → Option (ℕ × ℕ)
first_unused rules = first_parameter (λ f j. not (is_needed rules f j)) rules

abbrev pub without_parameter : ℕ → ℕ → SortedData → SortedData
without_parameter f j s = with_parameters (λ g k. not (nat_eq g f && nat_eq k j)) s

abbrev pub dropped_by : Option (ℕ × ℕ) → (SortedData → SortedData) → SortedData → SortedData
dropped_by None on s = s
dropped_by (Some p) on s = on (without_parameter p.0 p.1 s)

abbrev pub dropped : ℕ → SortedData → SortedData
dropped zero s = s
dropped (suc n) s = dropped_by (first_unused s.scheme.rules) (dropped n) s

unfoldable pub without_unused : SortedData → SortedData
without_unused s = dropped (sum_by params_of s.scheme.rules) s
