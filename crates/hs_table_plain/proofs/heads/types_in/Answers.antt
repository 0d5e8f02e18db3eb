use Rattle.std.proofs.Common.{◌≡◌, ◌∙◌, ap, subst, [], ◌∷◌, ◌++◌, replicate, Option, List, ℕ, None, Some, OnOk}
use Rattle.hs_scheme.specs.acceptance.Automaton.{AutomatonData, next}
use Rattle.hs_scheme.specs.Problem.{ProblemData}
use Rattle.hs_table.specs.Types.{TypeTree, state, arrows}
use Rattle.hs_table.specs.Follows.{rank_of}
use Rattle.hs_table_plain.specs.Enumeration as plain
use Rattle.hs_table_plain.proofs.heads.types_in.Goals as goal

pub returns-in_ok-push-in-None : goal.returns-in_ok-push-in-None
returns-in_ok-push-in-None c =
    let p = c.args.problem.now in
    let out = c.args.out.now.items in
    let automaton = (λ i. (c.problem-inside.view_is i).sorted.automaton) ∙ ap (λ (q : ProblemData). q.sorted.automaton) c.problem.view_is in
    let next_is : None ≡ next p.sorted.automaton.transitions c.args.q c.args.terminal =
    c.in-None.ensures ∙ ap (λ (a : AutomatonData). next a.transitions c.args.q c.args.terminal) automaton in
    let sets : c.as_slice.result.now ≡ replicate (rank_of p c.args.terminal) [] = c.as_slice.ensures.value ∙ (c.in_ok-sets-in-None.ensures ∙ ap (λ n. replicate {A = List TypeTree} n []) c.rank.ensures) in
    let made : c.in_ok-arrows-in-None.field-0 ≡ arrows (replicate (rank_of p c.args.terminal) []) (state c.args.q) = c.in_ok-arrows-in-None.ensures ∙ (λ i. arrows (sets i) (c.state.ensures i)) in
    c.in_ok-push-in-None.ensures.items ∙ (ap (λ (t : TypeTree). out ++ (t ∷ [])) made ∙ ap (λ (o : Option (List ℕ)). out ++ plain.types_in p c.args.terminal c.args.q o) next_is)

pub returns-in-Some : goal.returns-in-Some
returns-in-Some c =
    let p = c.args.problem.now in
    let automaton = (λ i. (c.problem-inside.view_is i).sorted.automaton) ∙ ap (λ (q : ProblemData). q.sorted.automaton) c.problem.view_is in
    let next_is : Some c.in-Some.to.now ≡ next p.sorted.automaton.transitions c.args.q c.args.terminal =
    c.in-Some.ensures ∙ ap (λ (a : AutomatonData). next a.transitions c.args.q c.args.terminal) automaton in
    subst (λ (o : Option (List ℕ)). OnOk c.child_types.result (c.child_types.new.out.items ≡ (c.args.out.now.items ++ plain.types_in p c.args.terminal c.args.q o))) next_is c.child_types.ensures
