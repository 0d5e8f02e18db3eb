-- The nodes of a scheme's first rules, and what they say of its sortings.
--     Realizes     the nodes of the nonterminals and terminals have their sorts
--     Solves       the valuations of the nodes are the sortings
use Rattle.std.specs.Prelude.{◌≡◌, ℕ, ◌+◌, ◌^◌, ◌<◌, ◌≤◌, List, length, slice_get, Option, Some}
use Rattle.hs_scheme.specs.declared.term.Rule.{Rule}
use Rattle.hs_scheme.specs.sorting.Sorting.{Sorts, arguments, IsSorting}
use Rattle.hs_scheme.specs.sorting.Sorted.{sort_at}
use Rattle.hs_sorts.specs.declared.store.Node.{Node}
use Rattle.hs_sorts.specs.Nodes.{Valuation, IsValuationOf}
use Rattle.hs_sorts.specs.Constraints.{IsRuled}

-- the nodes of these many nonterminals and terminals have the sorts that s gives them
pub record Realizes (rules count : ℕ) (s : Sorts) (v : Valuation) : Type 0 where
  pub nonterminals : (f : ℕ) → f < rules → v f ≡ s.nonterminal f
  pub terminals : (a : ℕ) → a < count → v (rules + a) ≡ s.terminal a

pub record Realization (rules terminals : ℕ) (nodes : List Node) (s : Sorts) : Type 0 where
  pub valuation : Valuation
  pub respects : IsValuationOf valuation nodes
  pub realizes : Realizes rules terminals s valuation

-- each nonterminal and terminal has a node, and any sorts are those of the nodes
pub record LaysOut (rules terminals : ℕ) (nodes : List Node) : Type 0 where
  pub few : length nodes ≤ 2 ^ 32
  pub room : rules + terminals ≤ length nodes
  pub any : (s : Sorts) → Realization rules terminals nodes s

-- the sorts of the nodes; a parameter's is an argument of its nonterminal's
abbrev pub sorts_at : ℕ → Valuation → Sorts
sorts_at rules v = record { nonterminal = λ f. v f; parameter = λ f j. sort_at (arguments (v f)) j; terminal = λ a. v (rules + a) }

-- the valuations of the nodes are the sortings of the first k rules
pub record Solves (rules : List Rule) (ranks : List (Option ℕ)) (k : ℕ) (nodes : List Node) : Type 0 where
  pub room : length rules + length ranks ≤ length nodes
  pub sound : (v : Valuation) → IsValuationOf v nodes → IsSorting rules ranks k (sorts_at (length rules) v)
  pub complete : (s : Sorts) → IsSorting rules ranks k s → Realization (length rules) (length ranks) nodes s

-- what holds of the first i elements
abbrev pub EachBefore : {A : Type 0} → (ℕ → A → Valuation → Type 0) → List A → ℕ → Valuation → Type 0
EachBefore {A = A} Q xs i v = (f : ℕ) (x : A) → f < i → slice_get xs f ≡ Some x → Q f x v

-- all rules get what they ask for, the bodies of the first k
abbrev pub AreRuled : ℕ → List Rule → Valuation → Type 0
AreRuled k rules v = EachBefore (IsRuled (length rules) k) rules (length rules) v
