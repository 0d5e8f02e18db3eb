-- A scheme with its automaton, its names and its sorts, as plain data, and what holds of each.
use Rattle.std.specs.Prelude.{◌≡◌, refl, ℕ, List, length, map, slice_get, unwrap_or, Option, Some}
use Rattle.std.specs.Coded.{Coded, code_by, coded×, coded_list}
use Rattle.hs_scheme.specs.acceptance.Automaton.{AutomatonData, coded_automaton}
use Rattle.hs_scheme.specs.Names.{NamesData, coded_names}
use Rattle.hs_scheme.specs.Scheme.{SchemeData, coded_scheme}
use Rattle.hs_scheme.specs.declared.term.Rule.{Rule}
use Rattle.hs_scheme.specs.sorting.Unsorted.{HasNames, AgreesWithRanks}
use Rattle.hs_scheme.specs.sorting.Sorting.{SortTree, coded_sort, o, ranked, arguments, Sorts, IsSorting}

-- the sorts are those of the nonterminals, by the numbers of their rules
pub record SortedData : Type 0 where
  pub scheme : SchemeData
  pub automaton : AutomatonData
  pub names : NamesData
  pub sorts : List SortTree

abbrev pub coded_sorted : Coded SortedData
coded_sorted =
    code_by (SchemeData × (AutomatonData × (NamesData × List SortTree)))
    (coded× coded_scheme (coded× coded_automaton (coded× coded_names (coded_list coded_sort))))
    (λ s. (s.scheme, (s.automaton, (s.names, s.sorts))))
    (λ p. record { scheme = p.0; automaton = p.1.0; names = p.1.1.0; sorts = p.1.1.1 }) (λ _. refl)

-- the sort of nonterminal f
abbrev pub sort_at : List SortTree → ℕ → SortTree
sort_at sorts f = unwrap_or (slice_get sorts f) o

-- The sorts that these of the nonterminals and these ranks stand for: a parameter has the sort that
-- its nonterminal's sort has as its argument, and a terminal has the sort of its rank.
abbrev pub sorts_of : List SortTree → List ℕ → Sorts
sorts_of sorts ranks = record {
  nonterminal = sort_at sorts;
  parameter = λ f j. sort_at (arguments (sort_at sorts f)) j;
  terminal = λ a. ranked (unwrap_or (slice_get ranks a) 0);
}

-- the ranks, each of them known
abbrev pub known : List ℕ → List (Option ℕ)
known ranks = map (λ n. Some n) ranks

-- each rule has as many parameters as its nonterminal's sort has arguments
abbrev pub AreFull : List Rule → List SortTree → Type 0
AreFull rules sorts = (f : ℕ) (rule : Rule) → slice_get rules f ≡ Some rule → length (arguments (sort_at sorts f)) ≡ rule.params

pub record IsSorted (s : SortedData) : Type 0 where
  pub each_rule : length s.sorts ≡ length s.scheme.rules
  pub sorting : IsSorting s.scheme.rules (known s.scheme.ranks) (length s.scheme.rules) (sorts_of s.sorts s.scheme.ranks)
  pub full : AreFull s.scheme.rules s.sorts
  pub ranks : AgreesWithRanks (known s.scheme.ranks) s.automaton.transitions
  pub names : HasNames s.names s.scheme.rules (length s.scheme.ranks) s.automaton.states
