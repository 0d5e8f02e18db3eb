-- Full rules: a rule whose nonterminal's sort takes more arguments than the rule has parameters gets the
-- missing ones at its end, and its body takes them as its last arguments.
--     missing d k         how many arguments the sort k has beyond d
--     lengthened d r      the rule with d further parameters
--     lengthening         each rule of a scheme with as many parameters as its nonterminal's sort has arguments
--     AreSortsOf          these are the sorts of the rules' nonterminals
use Rattle.std.specs.Prelude.{◌≡◌, ℕ, zero, suc, ◌+◌, ◌-◌, List, [], ◌∷◌, length, slice_get, Some}
use Rattle.hs_scheme.specs.declared.term.Head.{Head}
use Rattle.hs_scheme.specs.declared.term.Head.TheVariants.{Var}
use Rattle.hs_scheme.specs.declared.term.Rule.{Rule}
use Rattle.hs_scheme.specs.Tree.{Trees, node, none, more}
use Rattle.hs_scheme.specs.acceptance.Replacement.{applied}
use Rattle.hs_scheme.specs.sorting.Sorting.{SortTree, arguments, Sorts}

abbrev pub missing : ℕ → SortTree → ℕ
missing params k = length (arguments k) - params

-- d parameters as terms, the first of this number
abbrev pub parameters : ℕ → ℕ → Trees Head
parameters first zero = none
parameters first (suc d) = more (node (Var first) none) (parameters (first + 1) d)

abbrev pub lengthened : ℕ → Rule → Rule
lengthened d r = record { params = r.params + d; body = applied r.body (parameters r.params d) }

-- the rules, by the sorts of their nonterminals
abbrev pub lengthening : List Rule → List SortTree → List Rule
lengthening [] ks = []
lengthening (r ∷ rules) [] = r ∷ rules
lengthening (r ∷ rules) (k ∷ ks) = lengthened (missing r.params k) r ∷ lengthening rules ks

pub record AreSortsOf (ks : List SortTree) (rules : List Rule) (s : Sorts) : Type 0 where
  pub each_rule : length ks ≡ length rules
  pub nonterminals : (f : ℕ) (k : SortTree) → slice_get ks f ≡ Some k → k ≡ s.nonterminal f
