-- What inference answers for a scheme.
--     IsTooLong    a rule that is shorter than its sort, and that with the missing parameters would pass a limit
--     IsInferred   the lengthening and the least sorting, where it has sorts of terminals and is small enough
--     IsSortFault  why there is none
--     IsInferable  there is no fault
use Rattle.std.specs.Prelude.{◌≡◌, ◌<◌, ◌≤◌, ◌+◌, ℕ, List, length, Option, slice_get, Some, ◌⊎◌}
use Rattle.hs_scheme.specs.declared.term.Head.{Head}
use Rattle.hs_scheme.specs.Tree.{Tree, node, children}
use Rattle.hs_scheme.specs.sorting.Lengthening.{missing, lengthened, lengthening}
use Rattle.hs_sorts.specs.Naming.{lengthened_names}
use Rattle.hs_scheme.specs.declared.term.Rule.{Rule}
use Rattle.hs_scheme.specs.sorting.Unsorted.{UnsortedData}
use Rattle.hs_scheme.specs.sorting.Sorting.{SortTree, Sorts, size, HasSorting, IsFirstOrder, AreFirstOrder, IsWellSorted, IsLeastSorting}
use Rattle.hs_scheme.specs.sorting.Sorted.{SortedData, sorts_of}
use Rattle.hs_sorts.specs.declared.fault.SortFault.{SortFault}
use Rattle.hs_sorts.specs.declared.fault.SortFault.TheVariants.{IllSorted, TerminalNotFirstOrder, SortTooLarge, RuleTooLong, OutOfMemory}

-- no nonterminal's sort is larger than 1,000
abbrev pub AreSmall : List Rule → Sorts → Type 0
AreSmall rules s = (f : ℕ) → f < length rules → size (s.nonterminal f) ≤ 1000

-- the number of arguments at a term's head
abbrev pub head_arguments : Tree Head → ℕ
head_arguments (node h ts) = length (children ts)

-- a short rule, where k is its nonterminal's sort, that would have more than 64 parameters, or a body with more than 64 arguments
pub record IsTooLong (rule : Rule) (k : SortTree) : Type 0 where
  pub short : 0 < missing rule.params k
  pub long : (64 < (lengthened (missing rule.params k) rule).params) ⊎ (64 < head_arguments (lengthened (missing rule.params k) rule).body)

abbrev pub NoneTooLong : List Rule → Sorts → Type 0
NoneTooLong rules s = (f : ℕ) (rule : Rule) → slice_get rules f ≡ Some rule → IsTooLong rule (s.nonterminal f) → ⊥

-- the rules are lengthened, the automaton is kept, the names are kept with those of the new parameters added, and the sorts are the least sorting
pub record IsInferred (u : UnsortedData) (s : SortedData) : Type 0 where
  pub rules : s.scheme.rules ≡ lengthening u.rules s.sorts
  pub automaton : s.automaton ≡ u.automaton
  pub names : s.names ≡ lengthened_names u.names s.sorts
  pub least : IsLeastSorting u.rules u.ranks (sorts_of s.sorts s.scheme.ranks)
  pub small : AreSmall u.rules (sorts_of s.sorts s.scheme.ranks)
  pub none_too_long : NoneTooLong u.rules (sorts_of s.sorts s.scheme.ranks)

-- the rules up to this one have no sorting, and those before it have one
pub record IsFirstIllSorted (rules : List Rule) (ranks : List (Option ℕ)) (rule : ℕ) : Type 0 where
  pub before : HasSorting rules ranks rule
  pub with_it : HasSorting rules ranks (rule + 1) → ⊥

-- the least terminal whose least sort has an argument other than o
pub record IsFirstHigherTerminal (rules : List Rule) (ranks : List (Option ℕ)) (terminal : ℕ) : Type 0 where
  pub sorts : Sorts
  pub least : IsLeastSorting rules ranks sorts
  pub in_range : terminal < length ranks
  pub higher : IsFirstOrder (sorts.terminal terminal) → ⊥
  pub before : (a : ℕ) → a < terminal → IsFirstOrder (sorts.terminal a)

-- the first rule whose nonterminal's least sort is larger than 1,000, where all terminals' sorts are first order
pub record IsFirstTooLarge (rules : List Rule) (ranks : List (Option ℕ)) (rule : ℕ) : Type 0 where
  pub sorts : Sorts
  pub least : IsLeastSorting rules ranks sorts
  pub first_order : AreFirstOrder ranks sorts
  pub in_range : rule < length rules
  pub large : 1000 < size (sorts.nonterminal rule)
  pub before : (f : ℕ) → f < rule → size (sorts.nonterminal f) ≤ 1000

-- the first rule that is too long, where all terminals' sorts are first order and no nonterminal's sort is too large
pub record IsFirstTooLong (rules : List Rule) (ranks : List (Option ℕ)) (number : ℕ) : Type 0 where
  pub sorts : Sorts
  pub least : IsLeastSorting rules ranks sorts
  pub first_order : AreFirstOrder ranks sorts
  pub small : AreSmall rules sorts
  pub rule : Rule
  pub at : slice_get rules number ≡ Some rule
  pub long : IsTooLong rule (sorts.nonterminal number)
  pub before : (f : ℕ) (r : Rule) → f < number → slice_get rules f ≡ Some r → IsTooLong r (sorts.nonterminal f) → ⊥

abbrev pub IsSortFault : List Rule → List (Option ℕ) → SortFault → Type 0
IsSortFault rules ranks (IllSorted rule) = IsFirstIllSorted rules ranks rule
IsSortFault rules ranks (TerminalNotFirstOrder terminal) = IsFirstHigherTerminal rules ranks terminal
IsSortFault rules ranks (SortTooLarge rule) = IsFirstTooLarge rules ranks rule
IsSortFault rules ranks (RuleTooLong rule) = IsFirstTooLong rules ranks rule
IsSortFault rules ranks OutOfMemory = Unit {0}

-- the scheme is well-sorted, no nonterminal's least sort is larger than 1,000, and no rule is too long
pub record IsInferable (rules : List Rule) (ranks : List (Option ℕ)) : Type 0 where
  pub well_sorted : IsWellSorted rules ranks
  pub small : (s : Sorts) → IsLeastSorting rules ranks s → AreSmall rules s
  pub none_too_long : (s : Sorts) → IsLeastSorting rules ranks s → NoneTooLong rules s
