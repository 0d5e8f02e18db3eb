-- Sorts, and what a sorting of a scheme's rules is.
--     SortTree, o, arrow    a sort is its arguments, with result o; arrow a b has the argument a before those of b
--     arrows, behind        the sort with these arguments before those of another; what is left of a sort behind its first arguments
--     size                  1, and for each argument 1 and its size
--     Sorts                 a sort for each nonterminal, parameter and terminal
--     HasSort, Applied      the sort of a term, from those of the heads; that of a head with arguments
--     IsSorting             a sorting of the first k rules
--     IsWellSorted          a sorting of all rules exists in which each terminal's sort has only arguments o
--     IsLeastSorting        each sort has the least size that it has in any sorting
use Rattle.std.specs.Prelude.{◌≡◌, ℕ, zero, suc, ◌+◌, ◌<◌, ◌≤◌, List, All, length, slice_get, Option, Some}
use Rattle.std.specs.Coded.{Coded}
use Rattle.hs_scheme.specs.declared.term.Head.{Head}
use Rattle.hs_scheme.specs.declared.term.Head.TheVariants.{Var, Nt, Tm}
use Rattle.hs_scheme.specs.declared.term.Rule.{Rule}
use Rattle.hs_scheme.specs.Tree.{Tree, Trees, node, none, more, children, tree_code}
use base.Stored.{coded_unit}

abbrev pub SortTree : Type 0
SortTree = Tree (Unit {0})

abbrev pub coded_sort : Coded SortTree
coded_sort = tree_code coded_unit

-- the sort of trees
abbrev pub o : SortTree
o = node tt none

-- the sort of functions from a to b
abbrev pub arrow : SortTree → SortTree → SortTree
arrow a (node u ks) = node u (more a ks)

-- the sort with the n arguments that the function gives, counted from 0, and behind them those of k
abbrev pub arrows : ℕ → (ℕ → SortTree) → SortTree → SortTree
arrows zero args k = k
arrows (suc n) args k = arrow (args 0) (arrows n (λ j. args (suc j)) k)

-- a sort's arguments without the first n, and so what is left of the sort
abbrev pub without : ℕ → Trees (Unit {0}) → Trees (Unit {0})
without zero ks = ks
without (suc n) none = none
without (suc n) (more k ks) = without n ks

abbrev pub behind : ℕ → SortTree → SortTree
behind n (node u ks) = node u (without n ks)

-- the sort of a terminal of rank n
abbrev pub ranked : ℕ → SortTree
ranked n = arrows n (λ _. o) o

abbrev mutual
  pub size : SortTree → ℕ
  size (node u ks) = 1 + sizes ks

  pub sizes : Trees (Unit {0}) → ℕ
  sizes none = 0
  sizes (more k ks) = (1 + size k) + sizes ks

-- the arguments of a sort
abbrev pub arguments : SortTree → List SortTree
arguments (node u ks) = children ks

-- all arguments are o
abbrev pub IsFirstOrder : SortTree → Type 0
IsFirstOrder k = All (λ a. a ≡ o) (arguments k)

-- a sort for each nonterminal, for each parameter of each rule, and for each terminal, by their numbers
pub record Sorts : Type 0 where
  pub nonterminal : ℕ → SortTree
  pub parameter : ℕ → ℕ → SortTree
  pub terminal : ℕ → SortTree

-- the sorts of the heads in the body of rule f
abbrev pub heads : Sorts → ℕ → Head → SortTree
heads s f (Var j) = s.parameter f j
heads s f (Nt g) = s.nonterminal g
heads s f (Tm a) = s.terminal a

-- A term has the sort that is left of its head's sort after its arguments. An argument of sort a is
-- taken by a sort `arrow a b`, of which b is left.
abbrev mutual
  pub HasSort : (Head → SortTree) → Tree Head → SortTree → Type 0
  HasSort of_head (node h ts) k = Applied of_head ts (of_head h) k

  pub Applied : (Head → SortTree) → Trees Head → SortTree → SortTree → Type 0
  Applied of_head none f k = f ≡ k
  Applied of_head (more t ts) f k = (a : SortTree) × (b : SortTree) × (f ≡ arrow a b) × HasSort of_head t a × Applied of_head ts b k

-- Each nonterminal's sort begins with its parameters' sorts, and the start's sort has no arguments; each of
-- the first k bodies has the sort that is left of its nonterminal's sort behind them; each terminal whose
-- rank is known has the sort of its rank.
pub record IsSorting (rules : List Rule) (ranks : List (Option ℕ)) (k : ℕ) (s : Sorts) : Type 0 where
  pub nonterminals : (f : ℕ) (rule : Rule) → slice_get rules f ≡ Some rule → s.nonterminal f ≡ arrows rule.params (s.parameter f) (behind rule.params (s.nonterminal f))
  pub bodies : (f : ℕ) (rule : Rule) → f < k → slice_get rules f ≡ Some rule → HasSort (heads s f) rule.body (behind rule.params (s.nonterminal f))
  pub start : s.nonterminal 0 ≡ o
  pub terminals : (a n : ℕ) → slice_get ranks a ≡ Some (Some n) → s.terminal a ≡ ranked n

-- the first k rules have a sorting
abbrev pub HasSorting : List Rule → List (Option ℕ) → ℕ → Type 0
HasSorting rules ranks k = (s : Sorts) × IsSorting rules ranks k s

-- each terminal's sort has only arguments o
abbrev pub AreFirstOrder : List (Option ℕ) → Sorts → Type 0
AreFirstOrder ranks s = (a : ℕ) → a < length ranks → IsFirstOrder (s.terminal a)

abbrev pub IsWellSorted : List Rule → List (Option ℕ) → Type 0
IsWellSorted rules ranks = (s : Sorts) × IsSorting rules ranks (length rules) s × AreFirstOrder ranks s

-- no sort of the first is larger than the same one of the second
pub record IsNowhereLarger (rules : List Rule) (ranks : List (Option ℕ)) (s t : Sorts) : Type 0 where
  pub nonterminals : (f : ℕ) → f < length rules → size (s.nonterminal f) ≤ size (t.nonterminal f)
  pub parameters : (f j : ℕ) (rule : Rule) → slice_get rules f ≡ Some rule → j < rule.params → size (s.parameter f j) ≤ size (t.parameter f j)
  pub terminals : (a : ℕ) → a < length ranks → size (s.terminal a) ≤ size (t.terminal a)

-- a sorting of all rules in which each sort has the least size that it has in any sorting
pub record IsLeastSorting (rules : List Rule) (ranks : List (Option ℕ)) (s : Sorts) : Type 0 where
  pub sorting : IsSorting rules ranks (length rules) s
  pub least : (t : Sorts) → IsSorting rules ranks (length rules) t → IsNowhereLarger rules ranks s t

-- the two give each nonterminal, parameter and terminal the same sort
pub record AreEqual (rules : List Rule) (ranks : List (Option ℕ)) (s t : Sorts) : Type 0 where
  pub nonterminals : (f : ℕ) → f < length rules → s.nonterminal f ≡ t.nonterminal f
  pub parameters : (f j : ℕ) (rule : Rule) → slice_get rules f ≡ Some rule → j < rule.params → s.parameter f j ≡ t.parameter f j
  pub terminals : (a : ℕ) → a < length ranks → s.terminal a ≡ t.terminal a
