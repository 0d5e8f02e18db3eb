-- In which states a point is read: the automaton may come to a term that the point stands for in this state. A list of pairs of a point
-- and a state that has whatever its own pairs demand, and what the start demands, is closed; over a closed flow it leaves out no such pair.
--     Becomes p point a g      the point may become the terminal a with g arguments given
--     Read p R point q         the pairs R demand the pair of the point and the state
--     IsClosedReads p R        each pair that R demands is in R
--     IsReads p R              R is closed, and within each list that is
--     last_state t             the state at the end of a type
use Rattle.std.specs.Prelude.{◌≡◌, ℕ, ◌+◌, List, length, slice_get, Option, Some, None, Contains}
use Rattle.hs_scheme.specs.declared.term.Head.{Head}
use Rattle.hs_scheme.specs.declared.term.Head.TheVariants.{Var, Nt, Tm}
use Rattle.hs_scheme.specs.Tree.{Tree, node, none, more}
use Rattle.hs_scheme.specs.acceptance.Automaton.{next}
use Rattle.hs_scheme.specs.Problem.{ProblemData}

-- the point is made of this head and these arguments, in this rule
abbrev pub PointIs : ProblemData → ℕ → ℕ → Head → List ℕ → Type 0
PointIs p point rule h args = slice_get p.points.points point ≡ Some (record { rule = rule; head = h; args = args })

-- the point v may stand for parameter x of the rule
abbrev pub FlowsTo : ProblemData → ℕ → ℕ → ℕ → Type 0
FlowsTo p rule x v = Contains p.flow.pairs (record { rule = rule; param = x; point = v })

-- A point with the terminal at its head becomes it with its own arguments given. A point with a parameter at its head becomes what a point
-- that may stand for the parameter becomes, with its own arguments behind the given ones.
pub data Becomes (p : ProblemData) : ℕ → ℕ → ℕ → Type 0 where
  by_terminal : {point rule a g : ℕ} {args : List ℕ} → PointIs p point rule (Tm a) args → g ≡ length args → Becomes p point a g
  by_parameter : {point rule x v a g n : ℕ} {args : List ℕ} → PointIs p point rule (Var x) args → FlowsTo p rule x v → Becomes p v a g → n ≡ g + length args → Becomes p point a n

-- The start's body is read in the initial state; the body of a nonterminal where the nonterminal is; the arguments of a terminal in the
-- states of its transition; and where a parameter is read, so is each point that may stand for it, and the parameter's arguments where that
-- point becomes a terminal with a transition.
pub data Read (p : ProblemData) (R : List (ℕ × ℕ)) : ℕ → ℕ → Type 0 where
  reads_start : {body : ℕ} → slice_get p.points.bodies 0 ≡ Some body → Read p R body 0
  reads_body : {point rule f body q : ℕ} {args : List ℕ} → Contains R (point, q) → PointIs p point rule (Nt f) args → slice_get p.points.bodies f ≡ Some body → Read p R body q
  reads_child : {point rule a q u r : ℕ} {args qs : List ℕ} (i : ℕ) → Contains R (point, q) → PointIs p point rule (Tm a) args → next p.sorted.automaton.transitions q a ≡ Some qs
      → slice_get args i ≡ Some u → slice_get qs i ≡ Some r → Read p R u r
  reads_flow : {point rule x v q : ℕ} {args : List ℕ} → Contains R (point, q) → PointIs p point rule (Var x) args → FlowsTo p rule x v → Read p R v q
  reads_later_child : {point rule x v a g q u r : ℕ} {args qs : List ℕ} (j : ℕ) → Contains R (point, q) → PointIs p point rule (Var x) args → FlowsTo p rule x v → Becomes p v a g
      → next p.sorted.automaton.transitions q a ≡ Some qs → slice_get args j ≡ Some u → slice_get qs (g + j) ≡ Some r → Read p R u r

abbrev pub IsClosedReads : ProblemData → List (ℕ × ℕ) → Type 0
IsClosedReads p R = (point q : ℕ) → Read p R point q → Contains R (point, q)

pub record IsReads (p : ProblemData) (R : List (ℕ × ℕ)) : Type 0 where
  pub closed : IsClosedReads p R
  pub least : (S : List (ℕ × ℕ)) → IsClosedReads p S → (point q : ℕ) → Contains R (point, q) → Contains S (point, q)

abbrev pub last_state : Tree (Option ℕ) → ℕ
last_state (node (Some q) us) = q
last_state (node None none) = 0
last_state (node None (more t us)) = last_state t
