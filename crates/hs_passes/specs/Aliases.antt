-- Aliases: rules that only pass their parameters on to another nonterminal.
--     are_parameters first d ts     the terms are just the d parameters from the first on, in order
--     alias_target f r              the nonterminal that f is an alias of, where r is its rule
--     first_alias rules             the first alias behind the start, with its target
--     without_alias f g             the scheme without rule f, and g for f
--     folded n                      without the first alias, n times or until there is none
--     without_aliases               until there is none: each time one rule less is left
use Rattle.std.specs.Prelude.{ℕ, zero, suc, ◌+◌, Bool, true, false, ◌&&◌, not, nat_eq, List, [], ◌∷◌, length, Option, Some, None, if◌then◌else◌}
use Rattle.hs_scheme.specs.declared.term.Head.{Head}
use Rattle.hs_scheme.specs.declared.term.Head.TheVariants.{Var, Nt, Tm}
use Rattle.hs_scheme.specs.declared.term.Rule.{Rule}
use Rattle.hs_scheme.specs.Tree.{Tree, Trees, node, none, more}
use Rattle.hs_scheme.specs.sorting.Sorted.{SortedData}
use Rattle.hs_passes.specs.Selection.{place, selected}

abbrev pub is_parameter : ℕ → Tree Head → Bool
is_parameter j (node (Var k) none) = nat_eq k j
is_parameter j (node (Var k) (more t ts)) = false
is_parameter j (node (Nt f) ts) = false
is_parameter j (node (Tm a) ts) = false

abbrev pub are_parameters : ℕ → ℕ → Trees Head → Bool
are_parameters first zero none = true
are_parameters first zero (more t ts) = false
are_parameters first (suc d) none = false
are_parameters first (suc d) (more t ts) = is_parameter first t && are_parameters (first + 1) d ts

abbrev pub target_in : ℕ → ℕ → Tree Head → Option ℕ
target_in f params (node (Var j) ts) = None
target_in f params (node (Nt g) ts) = if not (nat_eq g f) && are_parameters 0 params ts then Some g else None
target_in f params (node (Tm a) ts) = None

abbrev pub alias_target : ℕ → Rule → Option ℕ
alias_target f r = target_in f r.params r.body

abbrev pub or_later : ℕ → Option ℕ → Option (ℕ × ℕ) → Option (ℕ × ℕ)
or_later f None later = later
or_later f (Some g) later = Some (f, g)

-- the number of the first rule is given
abbrev pub alias_from : ℕ → List Rule → Option (ℕ × ℕ)
alias_from f [] = None
alias_from f (r ∷ rules) = or_later f (alias_target f r) (alias_from (f + 1) rules)

abbrev pub first_alias : List Rule → Option (ℕ × ℕ)
first_alias [] = None
first_alias (start ∷ rules) = alias_from 1 rules

abbrev pub without_alias : ℕ → ℕ → SortedData → SortedData
without_alias f g s =
    let keep : ℕ → Bool = λ h. not (nat_eq h f) in
    selected keep (λ h. place keep (if nat_eq h f then g else h)) s

abbrev pub folded_by : Option (ℕ × ℕ) → (SortedData → SortedData) → SortedData → SortedData
folded_by None on s = s
folded_by (Some alias) on s = on (without_alias alias.0 alias.1 s)

abbrev pub folded : ℕ → SortedData → SortedData
folded zero s = s
folded (suc n) s = folded_by (first_alias s.scheme.rules) (folded n) s

unfoldable pub without_aliases : SortedData → SortedData
without_aliases s = folded (length s.scheme.rules) s
