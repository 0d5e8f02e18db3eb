-- Types that have entries; only private contracts cite it.
--     HasTypeAt E u a     an entry at the point has the type
--     FitsSets E us ty    each type of the sets has an entry at its argument
--     AreBare E us        no argument has an entry
--     IsCountAt p E u n   n is the number of instances at the point
use Rattle.std.specs.Prelude.{◌≡◌, ◌≢◌, ◌↔◌, ℕ, ◌<◌, Bool, true, List, [], ◌∷◌, length, slice_get, Some, None, Contains, AllPairs}
use Rattle.hs_scheme.specs.Tree.{node, none, more, children}
use Rattle.hs_table.specs.Types.{TypeTree}
use Rattle.hs_table.specs.Tables.{IsInstance}
use Rattle.hs_table.specs.Follows.{rank_of, HasMove}
use Rattle.hs_scheme.specs.declared.term.Head.{Head}
use Rattle.hs_scheme.specs.Problem.{ProblemData}
use Rattle.hs_table.specs.Entries.{EntryData, InShape}
use Rattle.hs_table_plain.specs.Enumeration.{through, opening}

pub record HasTypeAt (E : List EntryData) (point : ℕ) (ty : TypeTree) : Type 0 where
  pub entry : EntryData
  pub there : Contains E entry
  pub at : entry.point ≡ point
  pub typed : entry.ty ≡ ty

abbrev pub HasTypesAt : List EntryData → ℕ → List TypeTree → Type 0
HasTypesAt E u s = (a : TypeTree) → Contains s a → HasTypeAt E u a

abbrev pub FitsSets : List EntryData → List ℕ → TypeTree → Type 0
FitsSets E [] ty = Unit {0}
FitsSets E (u ∷ us) (node (Some q) ts) = ⊥
FitsSets E (u ∷ us) (node None none) = ⊥
FitsSets E (u ∷ us) (node None (more t ts)) = HasTypesAt E u (children ts) × FitsSets E us t

abbrev pub AreBare : List EntryData → List ℕ → Type 0
AreBare E us = (u : ℕ) (a : TypeTree) → Contains us u → HasTypeAt E u a → ⊥

-- the automaton is complete at the terminal: each state has a transition for it, with no more children than its rank
abbrev pub IsComplete : ProblemData → ℕ → Type 0
IsComplete p a = (q : ℕ) → q < p.sorted.automaton.states → HasMove p.sorted.automaton.transitions a (rank_of p a) q

-- so at each terminal that is marked
abbrev pub AreComplete : ProblemData → List Bool → Type 0
AreComplete p marks = (a : ℕ) → slice_get marks a ≡ Some true → IsComplete p a

abbrev pub AreInShape : ProblemData → List EntryData → Type 0
AreInShape p E = (e : EntryData) → Contains E e → InShape p e

-- the entry comes of one of these types of the head
pub record IsConclusion (E : List EntryData) (point params : ℕ) (head : Head) (args : List ℕ) (types : List TypeTree) (e : EntryData) : Type 0 where
  pub ty : TypeTree
  pub there : Contains types ty
  pub comes : Contains (through E args ty (opening point params head ty ∷ [])) e

-- so many types, of which no two are the same, are the instances at the point
pub record IsCountAt (p : ProblemData) (E : List EntryData) (point n : ℕ) : Type 0 where
  pub types : List TypeTree
  pub distinct : AllPairs (λ a b. a ≢ b) types
  pub exact : (t : TypeTree) → Contains types t ↔ IsInstance p E point t
  pub count : n ≡ length types
