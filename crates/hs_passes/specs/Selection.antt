-- A scheme with some of its rules, under new numbers.
--     place keep f         how many of the rules before f stay: the new number of f, where it stays
--     stays, number_in     which rules stay, and the new numbers, as lists tell them
--     chosen keep xs       the elements at the numbers that stay, in their order
--     renamed to t         the term with `to f` for each nonterminal f
--     selected keep to     the scheme with the rules that stay, and `to f` for each nonterminal f in their bodies
--     IsSelection          the start stays, and each nonterminal in a body that stays gets the new number of a rule that
--                          stays and has the same sort
use Rattle.std.specs.Prelude.{◌≡◌, ℕ, zero, suc, ◌+◌, ◌<◌, Bool, true, false, List, [], ◌∷◌, length, map, slice_get, slice_index, slice_index_or, Some, if◌then◌else◌}
use Rattle.hs_scheme.specs.declared.term.Head.{Head}
use Rattle.hs_scheme.specs.declared.term.Head.TheVariants.{Var, Nt, Tm}
use Rattle.hs_scheme.specs.declared.term.Rule.{Rule}
use Rattle.hs_scheme.specs.Tree.{Tree, Trees, node, none, more}
use Rattle.hs_scheme.specs.Names.{NamesData}
use Rattle.hs_scheme.specs.Scheme.{SchemeData}
use Rattle.hs_scheme.specs.sorting.Sorted.{SortedData, sort_at}
use Rattle.hs_passes.specs.Occurrences.{mentions}

abbrev pub stays : List Bool → ℕ → Bool
stays keep f = slice_index_or keep f false

abbrev pub number_in : List ℕ → ℕ → ℕ
number_in numbers f = slice_index numbers f

abbrev pub place : (ℕ → Bool) → ℕ → ℕ
place keep zero = 0
place keep (suc f) = (if keep 0 then 1 else 0) + place (λ g. keep (suc g)) f

abbrev pub chosen : {A : Type 0} → (ℕ → Bool) → List A → List A
chosen keep [] = []
chosen keep (x ∷ xs) = if keep 0 then x ∷ chosen (λ f. keep (suc f)) xs else chosen (λ f. keep (suc f)) xs

abbrev pub renamed_head : (ℕ → ℕ) → Head → Head
renamed_head to (Var j) = Var j
renamed_head to (Nt f) = Nt (to f)
renamed_head to (Tm a) = Tm a

abbrev mutual
  pub renamed : (ℕ → ℕ) → Tree Head → Tree Head
  renamed to (node h ts) = node (renamed_head to h) (renamed_all to ts)

  pub renamed_all : (ℕ → ℕ) → Trees Head → Trees Head
  renamed_all to none = none
  renamed_all to (more t ts) = more (renamed to t) (renamed_all to ts)

abbrev pub renamed_rule : (ℕ → ℕ) → Rule → Rule
renamed_rule to r = record { params = r.params; body = renamed to r.body }

abbrev pub selected_scheme : (ℕ → Bool) → (ℕ → ℕ) → SchemeData → SchemeData
selected_scheme keep to s = record { rules = chosen keep (map (renamed_rule to) s.rules); ranks = s.ranks }

abbrev pub selected_names : (ℕ → Bool) → NamesData → NamesData
selected_names keep n = record { rules = chosen keep n.rules; params = chosen keep n.params; terminals = n.terminals; states = n.states }

-- the automaton, the terminals and their names, and the names of states stay
abbrev pub selected : (ℕ → Bool) → (ℕ → ℕ) → SortedData → SortedData
selected keep to s = record {
  scheme = selected_scheme keep to s.scheme;
  automaton = s.automaton;
  names = selected_names keep s.names;
  sorts = chosen keep s.sorts;
}

-- the rule that stands for the nonterminal g
pub record HasStandIn (keep : ℕ → Bool) (to : ℕ → ℕ) (s : SortedData) (g : ℕ) : Type 0 where
  pub rule : ℕ
  pub in_range : rule < length s.scheme.rules
  pub stays : keep rule ≡ true
  pub number : to g ≡ place keep rule
  pub sort : sort_at s.sorts rule ≡ sort_at s.sorts g

pub record IsSelection (keep : ℕ → Bool) (to : ℕ → ℕ) (s : SortedData) : Type 0 where
  pub start : keep 0 ≡ true
  pub bodies : (f : ℕ) (r : Rule) (g : ℕ) → slice_get s.scheme.rules f ≡ Some r → keep f ≡ true → mentions g r.body ≡ true → HasStandIn keep to s g
