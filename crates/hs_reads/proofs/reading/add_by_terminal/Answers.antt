use Rattle.std.proofs.Common.{◌≡◌, refl, sym, ◌∙◌, ap, subst, ℕ, List, slice_get, Some, None, Option, option_copied}
use Rattle.std.proofs.lemmas.Option.{same_Some}
use Rattle.hs_scheme.specs.acceptance.Automaton.{AutomatonData, next}
use Rattle.hs_scheme.specs.flow.Points.{point_at}
use Rattle.hs_scheme.specs.Problem.{ProblemData}
use Rattle.hs_reads.specs.Pairs.{IsDemandedBy, IsArgumentRead}
use Rattle.hs_reads.proofs.FoundLemmas.{start_stays}
use Rattle.hs_reads.proofs.GrowLemmas.{both_ok, adds_none, adds_such}
use Rattle.hs_reads.proofs.ReadLemmas.{child_read}
use Rattle.hs_reads.proofs.HeadLemmas.{demands_tm}
use Rattle.hs_reads.proofs.reading.add_by_terminal.Goals as goal

pub returns-in-Some-clause-there : goal.returns-in-Some-clause-there
returns-in-Some-clause-there c =
    let p = c.args.problem.now in
    let w = c.args.point in
    let q = c.args.state in
    let a = c.args.terminal in
    let new = c.add_children.new.found.pairs in
    let args : c.args_of.result.now ≡ (point_at p.points w).args = c.args_of.ensures.args ∙ ap (λ (z : ProblemData). (point_at z.points w).args) c.problem.view_is in
    let automaton = ap (λ (z : ProblemData). z.sorted.automaton) c.problem.view_is in
    let moves : Some c.in-Some.states.now ≡ next p.sorted.automaton.transitions q a =
    sym (ap option_copied c.in-Some.is) ∙ (c.next_of.ensures ∙ ap (λ (z : AutomatonData). next z.transitions q a) automaton) in
    both_ok c.add_children.result (λ gains there start.
    demands_tm p w q new (start_stays p c.args.found.now c.add_children.new.found gains start) p.points refl a (sym c.requires.head)
    (λ i u r qs at at_u at_r. there i u r (subst (λ (us : List ℕ). slice_get us i ≡ Some u) (sym args) at_u)
    (subst (λ (rs : List ℕ). slice_get rs i ≡ Some r) (sym (same_Some c.in-Some.states.now qs (moves ∙ at))) at_r)))
    c.add_children.ensures.gains c.add_children.ensures.there

pub returns-in-Some-clause-only : goal.returns-in-Some-clause-only
returns-in-Some-clause-only c =
    let p = c.args.problem.now in
    let w = c.args.point in
    let q = c.args.state in
    let a = c.args.terminal in
    let args : c.args_of.result.now ≡ (point_at p.points w).args = c.args_of.ensures.args ∙ ap (λ (z : ProblemData). (point_at z.points w).args) c.problem.view_is in
    let automaton = ap (λ (z : ProblemData). z.sorted.automaton) c.problem.view_is in
    let moves : Some c.in-Some.states.now ≡ next p.sorted.automaton.transitions q a =
    sym (ap option_copied c.in-Some.is) ∙ (c.next_of.ensures ∙ ap (λ (z : AutomatonData). next z.transitions q a) automaton) in
    adds_such (IsArgumentRead c.args_of.result.now c.in-Some.states.now) (IsDemandedBy p (w, q)) c.args.found.now.pairs c.add_children.new.found.pairs c.add_children.ensures.only
    (child_read p w q c.requires.point a c.args_of.result.now c.in-Some.states.now (sym c.requires.head) args moves)

pub returns-in-None-clause-only : goal.returns-in-None-clause-only
returns-in-None-clause-only c = adds_none (IsDemandedBy c.args.problem.now (c.args.point, c.args.state)) c.args.found.now.pairs

pub returns-in-None-clause-there : goal.returns-in-None-clause-there
returns-in-None-clause-there c = λ start.
    let p = c.args.problem.now in
    let w = c.args.point in
    let q = c.args.state in
    let a = c.args.terminal in
    let automaton = ap (λ (z : ProblemData). z.sorted.automaton) c.problem.view_is in
    let none : None ≡ next p.sorted.automaton.transitions q a = sym (ap option_copied c.in-None.is) ∙ (c.next_of.ensures ∙ ap (λ (z : AutomatonData). next z.transitions q a) automaton) in
    demands_tm p w q c.args.found.now.pairs start p.points refl a (sym c.requires.head) (λ i u r qs at at_u at_r. absurd (no_move (next p.sorted.automaton.transitions q a) qs none at))
  where
    no_move : (o : Option (List ℕ)) (qs : List ℕ) → None ≡ o → o ≡ Some qs → ⊥
    no_move o qs e f = let no : (let none : Option (List ℕ) = None in none) ≡ Some qs = e ∙ f in cc
