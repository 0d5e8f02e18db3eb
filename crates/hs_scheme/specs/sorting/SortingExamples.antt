-- Worked examples of sorts and sortings.
--     self_application     `S -> F F. F x -> c.` has no sorting, not even of its first rule
--     open_sort            `S -> G b. G x -> c.` has one, in which b has sort o
use Rattle.std.specs.Prelude.{◌≡◌, refl, ℕ, zero, suc, ◌+◌, List, [], ◌∷◌, slice_get, Option, Some, None}
use Rattle.std.proofs.Common.{sym, ◌∙◌, ap, subst, arith}
use Rattle.hs_scheme.specs.declared.term.Head.{Head}
use Rattle.hs_scheme.specs.declared.term.Head.TheVariants.{Nt, Tm}
use Rattle.hs_scheme.specs.declared.term.Rule.{Rule}
use Rattle.hs_scheme.specs.Tree.{Tree, node, none, more}
use Rattle.hs_scheme.specs.sorting.Sorting.{SortTree, o, arrow, arrows, behind, ranked, size, Sorts, heads, HasSort, HasSorting}

pub size_of_identity : size (arrow o o) ≡ 3
size_of_identity = refl

pub size_of_second_order : size (arrow (arrow (arrow o o) o) o) ≡ 7
size_of_second_order = refl

-- the sort o -> o -> o -> o begins with o, and o -> o -> o is left behind it
pub left_behind : behind 1 (ranked 3) ≡ ranked 2
left_behind = refl

pub size_of_rank_2 : size (ranked 2) ≡ 5
size_of_rank_2 = refl

size_of_arrow : (a b : SortTree) → size (arrow a b) ≡ 1 + size a + size b
size_of_arrow a (node u ks) = omega arith

abbrev leaf : Head → Tree Head
leaf h = node h none

abbrev applied_to_itself : Rule
applied_to_itself = record { params = 0; body = node (Nt 1) (more (leaf (Nt 1)) none) }

abbrev constant : ℕ → Rule
constant a = record { params = 1; body = leaf (Tm a) }

-- a sort would be its own argument
pub self_application : (ranks : List (Option ℕ)) → HasSorting (applied_to_itself ∷ constant 0 ∷ []) ranks 1 → ⊥
self_application ranks (s, p) =
    let body = p.bodies 0 applied_to_itself (omega arith) refl in
    let same : body.0 ≡ arrow body.0 body.1 = sym body.3 ∙ body.2 in
    omega (arith, ap size same, size_of_arrow body.0 body.1)

abbrev applied_to_b : Rule
applied_to_b = record { params = 0; body = node (Nt 1) (more (leaf (Tm 0)) none) }

abbrev open_rules : List Rule
open_rules = applied_to_b ∷ constant 1 ∷ []

abbrev open_nonterminal : ℕ → SortTree
open_nonterminal zero = o
open_nonterminal (suc f) = arrow o o

abbrev open_sorts : Sorts
open_sorts = record { nonterminal = open_nonterminal; parameter = λ f j. o; terminal = λ a. o }

open_nonterminals : (f : ℕ) (rule : Rule) → slice_get open_rules f ≡ Some rule → open_nonterminal f ≡ arrows rule.params (λ _. o) (behind rule.params (open_nonterminal f))
open_nonterminals zero rule at = let e : applied_to_b ≡ rule = cc in subst (λ (r : Rule). o ≡ arrows r.params (λ _. o) (behind r.params o)) e refl
open_nonterminals (suc zero) rule at = let e : constant 1 ≡ rule = cc in subst (λ (r : Rule). arrow o o ≡ arrows r.params (λ _. o) (behind r.params (arrow o o))) e refl
open_nonterminals (suc (suc f)) rule at = absurd (cc)

open_bodies : (f : ℕ) (rule : Rule) → slice_get open_rules f ≡ Some rule → HasSort (heads open_sorts f) rule.body (behind rule.params (open_nonterminal f))
open_bodies zero rule at = let e : applied_to_b ≡ rule = cc in subst (λ (r : Rule). HasSort (heads open_sorts 0) r.body (behind r.params o)) e (o, o, refl, refl, refl)
open_bodies (suc zero) rule at = let e : constant 1 ≡ rule = cc in subst (λ (r : Rule). HasSort (heads open_sorts 1) r.body (behind r.params (arrow o o))) e refl
open_bodies (suc (suc f)) rule at = absurd (cc)

open_terminals : (a n : ℕ) → slice_get (None ∷ Some 0 ∷ []) a ≡ Some (Some n) → o ≡ ranked n
open_terminals zero n at = absurd (cc)
open_terminals (suc zero) n at = let e : 0 ≡ n = cc in ap ranked e
open_terminals (suc (suc a)) n at = absurd (cc)

pub open_sort : HasSorting open_rules (None ∷ Some 0 ∷ []) 2
open_sort = (open_sorts, record { nonterminals = open_nonterminals; bodies = λ f rule below at. open_bodies f rule at; start = refl; terminals = open_terminals })
