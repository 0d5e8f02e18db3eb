-- Worked examples of cuts, runs and acceptance. The rules `S -> Tw a c. Tw f x -> f (f x).` make the tree `a (a c)`, and with the
-- transitions `q0 a -> q1. q1 a -> q2. q2 a -> q2. q0 c -> . q1 c -> .` c is read in q2, where it has none.
--     cut_after_3, cut_after_5     the tree cut at 3, where one a stands over an undefined node; the whole tree, which is reached at 5
--     read_at_4, refused_at_5      the cut at 4 is read to its end, and that at 5 isn't
--     not_accepted                 so the scheme isn't accepted
--     loop_accepted                `S -> a S.` with `q0 a -> q0.` is accepted: each cut of its infinite tree is read
use Rattle.std.specs.Prelude.{◌≡◌, refl, ℕ, zero, suc, List, [], ◌∷◌, true, false, ◌&&◌, IsTrue, Some, None}
use Rattle.std.proofs.Common.{sym, ap, ◌∙◌}
use Rattle.hs_scheme.specs.declared.term.Head.{Head}
use Rattle.hs_scheme.specs.declared.term.Head.TheVariants.{Var, Nt, Tm}
use Rattle.hs_scheme.specs.declared.term.Rule.{Rule}
use Rattle.hs_scheme.specs.acceptance.Transition.{TransitionData}
use Rattle.hs_scheme.specs.Tree.{Tree, node, none, more}
use Rattle.hs_scheme.specs.acceptance.Cut.{CutTree, undefined, cut}
use Rattle.hs_scheme.specs.acceptance.Run.{run, start, Accepts}

abbrev leaf : Head → Tree Head
leaf h = node h none

abbrev with_one : Head → Tree Head → Tree Head
with_one h t = node h (more t none)

-- a and c are the terminals 0 and 1, and Tw is the nonterminal 1
abbrev pub rules : List Rule
rules =
    record { params = 0; body = node (Nt 1) (more (leaf (Tm 0)) (more (leaf (Tm 1)) none)) }
    ∷ record { params = 2; body = with_one (Var 0) (with_one (Var 0) (leaf (Var 1))) }
    ∷ []

abbrev pub transitions : List TransitionData
transitions =
    record { from = 0; terminal = 0; to = 1 ∷ [] }
    ∷ record { from = 1; terminal = 0; to = 2 ∷ [] }
    ∷ record { from = 2; terminal = 0; to = 2 ∷ [] }
    ∷ record { from = 0; terminal = 1; to = [] }
    ∷ record { from = 1; terminal = 1; to = [] }
    ∷ []

abbrev over : ℕ → CutTree → CutTree
over a t = node (Some a) (more t none)

pub cut_after_3 : cut rules 3 start ≡ over 0 undefined
cut_after_3 = refl

pub cut_after_5 : cut rules 5 start ≡ over 0 (over 0 (node (Some 1) none))
cut_after_5 = refl

pub read_at_4 : run transitions 0 (cut rules 4 start) ≡ true
read_at_4 = refl

pub refused_at_5 : run transitions 0 (cut rules 5 start) ≡ false
refused_at_5 = refl

pub not_accepted : Accepts rules transitions → ⊥
not_accepted accepts = let e : true ≡ false = sym (accepts 5) ∙ refused_at_5 in (cc)

-- ---- an infinite tree

abbrev loop : List Rule
loop = record { params = 0; body = with_one (Tm 0) (leaf (Nt 0)) } ∷ []

abbrev loop_transitions : List TransitionData
loop_transitions = record { from = 0; terminal = 0; to = 0 ∷ [] } ∷ []

both_true : (b : _) → b ≡ true → b && true ≡ true
both_true b e = ap (λ c. c && true) e

pub loop_accepted : Accepts loop loop_transitions
loop_accepted zero = refl
loop_accepted (suc zero) = refl
loop_accepted (suc (suc n)) = both_true (run loop_transitions 0 (cut loop n start)) (loop_accepted n)
