-- A worked example of a naming: `S -> F c. F x -> b d x.`, where c has no transition in state 0.
--     named     its log names the path to the second child of b, and needs three steps: the replacements of S and of F, and the descent
use Rattle.std.specs.Prelude.{◌≡◌, refl, ℕ, zero, suc, ◌<◌, List, [], ◌∷◌, slice_get, Some, None}
use Rattle.std.proofs.Common.{sym, ◌∙◌, ap, arith}
use Rattle.hs_scheme.specs.declared.term.Head.{Head}
use Rattle.hs_scheme.specs.declared.term.Head.TheVariants.{Var, Nt, Tm}
use Rattle.hs_scheme.specs.declared.term.Rule.{Rule}
use Rattle.hs_scheme.specs.Tree.{Tree, node, none, more}
use Rattle.hs_scheme.specs.flow.Points.{points_of}
use Rattle.hs_scheme.specs.sorting.Sorting.{o, arrow}
use Rattle.hs_scheme.specs.Problem.{ProblemData}
use Rattle.hs_table.specs.declared.support.HeadBy.TheVariants.{Terminal, Rule as ByRule, Param}
use Rattle.hs_table.specs.Types.{state}
use Rattle.hs_table.specs.Entries.{EntryData}
use Rattle.hs_table.specs.Follows.{Support}
use Rattle.hs_table.specs.Tables.{IsStart}
use Rattle.hs_verdict.specs.Naming.{NamesPath}

abbrev leaf : Head → Tree Head
leaf h = node h none

abbrev rules : List Rule
rules =
    record { params = 0; body = node (Nt 1) (more (leaf (Tm 1)) none) }
    ∷ record { params = 1; body = node (Tm 0) (more (leaf (Tm 2)) (more (leaf (Var 0)) none)) }
    ∷ []

-- the terminals are b, c and d
abbrev example : ProblemData
example = record {
  sorted = record {
    scheme = record { rules = rules; ranks = 2 ∷ 0 ∷ 0 ∷ [] };
    automaton = record { states = 1; transitions = record { from = 0; terminal = 0; to = 0 ∷ 0 ∷ [] } ∷ record { from = 0; terminal = 2; to = [] } ∷ [] };
    names = record { rules = []; params = []; terminals = []; states = [] };
    sorts = o ∷ arrow o o ∷ [];
  };
  points = points_of rules;
  flow = record { pairs = record { rule = 1; param = 0; point = 1 } ∷ []; heads = [] };
}

-- c is rejected; so is x, where x is; so is `b d x`, by its second child; and so is `F c`
abbrev at_c : EntryData
at_c = record { point = 1; env = []; ty = state 0 }

abbrev at_x : EntryData
at_x = record { point = 4; env = (state 0 ∷ []) ∷ []; ty = state 0 }

abbrev at_b : EntryData
at_b = record { point = 2; env = (state 0 ∷ []) ∷ []; ty = state 0 }

abbrev at_start : EntryData
at_start = record { point = 0; env = []; ty = state 0 }

abbrev log : List EntryData
log = at_c ∷ at_x ∷ at_b ∷ at_start ∷ []

abbrev supports : List Support
supports =
    record { head = Terminal 0 None; args = [] }
    ∷ record { head = Param 0 0; args = [] }
    ∷ record { head = Terminal 0 (Some 2); args = (1, 1) ∷ [] }
    ∷ record { head = ByRule 2; args = (0, 0) ∷ [] }
    ∷ []

start_at : (d e : EntryData) → Some d ≡ Some e → IsStart example e → 0 ≡ d.point
start_at d e at is =
    let f : Some 0 ≡ Some e.point = is.body in
    let g : d ≡ e = cc in
    let h : 0 ≡ e.point = cc in
    h ∙ ap (λ (x : EntryData). x.point) (sym g)

not_before : (i : ℕ) (e : EntryData) → i < 3 → slice_get log i ≡ Some e → IsStart example e → ⊥
not_before zero e lt at is = omega (arith, start_at at_c e at is)
not_before (suc zero) e lt at is = omega (arith, start_at at_x e at is)
not_before (suc (suc zero)) e lt at is = omega (arith, start_at at_b e at is)
not_before (suc (suc (suc i))) e lt at is = omega arith

pub named : NamesPath example log supports 3 ((0, 2) ∷ [])
named = record {
  place = 3;
  start = record { entry = at_start; at = refl; is_start = record { body = refl; env = refl; initial = refl }; is_first = not_before };
  moves = 4;
  steps = 2;
  named = (refl, (refl, refl));
  counted = refl;
}
