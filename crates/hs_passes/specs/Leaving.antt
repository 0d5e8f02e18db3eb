-- A scheme with some of its parameters, and of all arguments those for them.
--     Keep                     which parameters stay: keep f j tells so of the parameter j of rule f
--     keeps keep h             behind this head, the positions of the arguments that stay
--     chosen_trees stays ts    the trees at the numbers that stay, in their order
--     term_left keep own t     what is left of a term in a rule of whose parameters `own` tells which stay
--     sort_left own k          the sort with those of its arguments that stay
--     by_number g xs           what g makes of the number of each element and of itself
--     with_parameters keep s   the scheme with the parameters that stay, each under the number of those before it that stay
use Rattle.std.specs.Prelude.{ℕ, suc, Bool, true, List, [], ◌∷◌, if◌then◌else◌}
use Rattle.hs_scheme.specs.declared.term.Head.{Head}
use Rattle.hs_scheme.specs.declared.term.Head.TheVariants.{Var, Nt, Tm}
use Rattle.hs_scheme.specs.declared.term.Rule.{Rule}
use Rattle.hs_scheme.specs.Tree.{Tree, Trees, node, none, more}
use Rattle.hs_scheme.specs.sorting.Sorting.{SortTree}
use Rattle.hs_scheme.specs.Names.{NamesData}
use Rattle.hs_scheme.specs.Scheme.{SchemeData}
use Rattle.hs_scheme.specs.sorting.Sorted.{SortedData}
use Rattle.hs_passes.specs.Selection.{place, chosen}

abbrev pub Keep : Type 0
Keep = ℕ → ℕ → Bool

abbrev pub keeps : Keep → Head → ℕ → Bool
keeps keep (Var j) i = true
keeps keep (Nt f) i = keep f i
keeps keep (Tm a) i = true

abbrev pub chosen_trees : {A : Type 0} → (ℕ → Bool) → Trees A → Trees A
chosen_trees stays none = none
chosen_trees stays (more t ts) = if stays 0 then more t (chosen_trees (λ i. stays (suc i)) ts) else chosen_trees (λ i. stays (suc i)) ts

abbrev pub head_left : (ℕ → Bool) → Head → Head
head_left own (Var j) = Var (place own j)
head_left own (Nt f) = Nt f
head_left own (Tm a) = Tm a

abbrev mutual
  pub term_left : Keep → (ℕ → Bool) → Tree Head → Tree Head
  term_left keep own (node h ts) = node (head_left own h) (chosen_trees (keeps keep h) (terms_left keep own ts))

  pub terms_left : Keep → (ℕ → Bool) → Trees Head → Trees Head
  terms_left keep own none = none
  terms_left keep own (more t ts) = more (term_left keep own t) (terms_left keep own ts)

abbrev pub rule_left : Keep → (ℕ → Bool) → Rule → Rule
rule_left keep own r = record { params = place own r.params; body = term_left keep own r.body }

abbrev pub sort_left : (ℕ → Bool) → SortTree → SortTree
sort_left own (node u ks) = node u (chosen_trees own ks)

abbrev pub by_number : {A B : Type 0} → (ℕ → A → B) → List A → List B
by_number g [] = []
by_number g (x ∷ xs) = g 0 x ∷ by_number (λ f. g (suc f)) xs

abbrev pub scheme_left : Keep → SchemeData → SchemeData
scheme_left keep s = record { rules = by_number (λ f. rule_left keep (keep f)) s.rules; ranks = s.ranks }

abbrev pub all_names_left : Keep → NamesData → NamesData
all_names_left keep n = record { rules = n.rules; params = by_number (λ f. chosen (keep f)) n.params; terminals = n.terminals; states = n.states }

-- the automaton, the terminals, and the names of rules, terminals and states stay
abbrev pub with_parameters : Keep → SortedData → SortedData
with_parameters keep s = record {
  scheme = scheme_left keep s.scheme;
  automaton = s.automaton;
  names = all_names_left keep s.names;
  sorts = by_number (λ f. sort_left (keep f)) s.sorts;
}
