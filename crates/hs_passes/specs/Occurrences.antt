-- Where nonterminals occur.
--     is_nonterminal f h     the head is the nonterminal f
--     mentions f t           f occurs in the term, at its front or in an argument
--     nonterminals t         the nonterminals that occur in the term, from left to right
use Rattle.std.specs.Prelude.{ℕ, Bool, false, ◌||◌, nat_eq, List, [], ◌∷◌, ◌++◌}
use Rattle.hs_scheme.specs.declared.term.Head.{Head}
use Rattle.hs_scheme.specs.declared.term.Head.TheVariants.{Var, Nt, Tm}
use Rattle.hs_scheme.specs.Tree.{Tree, Trees, node, none, more}

abbrev pub is_nonterminal : ℕ → Head → Bool
is_nonterminal f (Var j) = false
is_nonterminal f (Nt g) = nat_eq g f
is_nonterminal f (Tm a) = false

abbrev mutual
  pub mentions : ℕ → Tree Head → Bool
  mentions f (node h ts) = is_nonterminal f h || mentioned_in f ts

  pub mentioned_in : ℕ → Trees Head → Bool
  mentioned_in f none = false
  mentioned_in f (more t ts) = mentions f t || mentioned_in f ts

abbrev pub own_nonterminal : Head → List ℕ
own_nonterminal (Var j) = []
own_nonterminal (Nt f) = f ∷ []
own_nonterminal (Tm a) = []

abbrev mutual
  pub nonterminals : Tree Head → List ℕ
  nonterminals (node h ts) = own_nonterminal h ++ nonterminals_of ts

  pub nonterminals_of : Trees Head → List ℕ
  nonterminals_of none = []
  nonterminals_of (more t ts) = nonterminals t ++ nonterminals_of ts
