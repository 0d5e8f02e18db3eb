-- A worked example of reads: `S -> T (b c) c. T f x -> f x.`, where b has two children and `q0 b -> q1 q2.`
--     becomes       `f x` may become b with both arguments given: `b c`, which may stand for f, has one
--     read_later    where `f x` is read in q0, x is read in q2: it becomes b's second child
use Rattle.std.specs.Prelude.{refl, List, [], ◌∷◌}
use Rattle.hs_scheme.specs.declared.term.Head.{Head}
use Rattle.hs_scheme.specs.declared.term.Head.TheVariants.{Var, Nt, Tm}
use Rattle.hs_scheme.specs.declared.term.Rule.{Rule}
use Rattle.hs_scheme.specs.Tree.{Tree, node, none, more}
use Rattle.hs_scheme.specs.flow.Points.{points_of}
use Rattle.hs_scheme.specs.sorting.Sorting.{o, arrow}
use Rattle.hs_scheme.specs.Problem.{ProblemData}
use Rattle.hs_scheme.proofs.Lists.{here}
use Rattle.hs_weak.specs.Reads.{FlowsTo, Becomes, by_terminal, by_parameter, Read, reads_later_child}

abbrev leaf : Head → Tree Head
leaf h = node h none

-- b and c are the terminals 0 and 1; the points of S are 0 `T (b c) c`, 1 `b c`, 2 and 3 `c`, those of T are 4 `f x` and 5 `x`
abbrev rules : List Rule
rules =
    record { params = 0; body = node (Nt 1) (more (node (Tm 0) (more (leaf (Tm 1)) none)) (more (leaf (Tm 1)) none)) }
    ∷ record { params = 2; body = node (Var 0) (more (leaf (Var 1)) none) }
    ∷ []

abbrev example : ProblemData
example = record {
  sorted = record {
    scheme = record { rules = rules; ranks = 2 ∷ 0 ∷ [] };
    automaton = record { states = 3; transitions = record { from = 0; terminal = 0; to = 1 ∷ 2 ∷ [] } ∷ [] };
    names = record { rules = []; params = []; terminals = []; states = [] };
    sorts = o ∷ arrow (arrow o o) (arrow o o) ∷ [];
  };
  points = points_of rules;
  flow = record { pairs = record { rule = 1; param = 0; point = 1 } ∷ record { rule = 1; param = 1; point = 3 } ∷ []; heads = [] };
}

flows_to : FlowsTo example 1 0 1
flows_to = here (record { rule = 1; param = 0; point = 1 }) (record { rule = 1; param = 1; point = 3 } ∷ [])

pub becomes : Becomes example 4 0 2
becomes = by_parameter {point = 4} {rule = 1} {x = 0} {v = 1} {a = 0} {g = 1} {args = 5 ∷ []} refl flows_to (by_terminal {rule = 0} {args = 2 ∷ []} refl refl) refl

pub read_later : Read example ((4, 0) ∷ []) 5 2
read_later = reads_later_child {point = 4} {rule = 1} {x = 0} {v = 1} {a = 0} {g = 1} {q = 0} {args = 5 ∷ []} {qs = 1 ∷ 2 ∷ []} 0 (here (4, 0) []) refl flows_to (by_terminal {rule = 0} {args = 2 ∷ []} refl refl) refl refl refl
