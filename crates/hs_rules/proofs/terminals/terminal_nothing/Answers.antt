use Rattle.std.proofs.Common.{◌≡◌, sym, ◌∙◌, ap, subst, ℕ, [], length, replicate, Some, OnOk}
use Rattle.std.proofs.lemmas.Option.{slice_get_within, get_or_from_slice_get}
use Rattle.hs_scheme.specs.declared.term.Head.TheVariants.{Tm}
use Rattle.hs_scheme.specs.acceptance.Automaton.{AutomatonData, next}
use Rattle.hs_scheme.specs.sorting.Sorted.{SortedData, IsSorted}
use Rattle.hs_scheme.specs.Problem.{ProblemData}
use Rattle.hs_table.specs.Entries.{Env, params_of}
use Rattle.hs_table.specs.Follows.{rank_of}
use Rattle.hs_types.specs.Interned.{env_of_id}
use Rattle.hs_rules.specs.Heads.{GainsHeads, AtRange, InState, AreHeads, AsksNothing}
use Rattle.hs_rules.proofs.Lists.{along, on_ok_map}
use Rattle.hs_rules.proofs.RankLemmas.{ranks_agree}
use Rattle.hs_rules.proofs.SeedLemmas.{terminals_nothing}
use Rattle.hs_rules.proofs.KeepLemmas.{keeps_then}
use Rattle.hs_rules.proofs.terminals.terminal_nothing.Goals as goal

pub push_terminal-requires-clause-own : goal.push_terminal-requires-clause-own
push_terminal-requires-clause-own c = slice_get_within c.empty_env.new.self.ids.envs c.in_ok-own.own (replicate c.args.at.now.params []) c.in_ok-own.ensures.ok

pub push_terminal-requires-clause-ranks : goal.push_terminal-requires-clause-ranks
push_terminal-requires-clause-ranks c = λ q to moves.
    let p = c.args.at.now.problem.now in
    let a = c.args.number in
    let sorted_is : c.problem.inside.sorted ≡ p.sorted = ap (λ (q : ProblemData). q.sorted) c.problem.view_is in
    let m_is : c.sorted.inside.automaton ≡ p.sorted.automaton = ap (λ (q : SortedData). q.automaton) (c.sorted.view_is ∙ sorted_is) in
    let is_sorted : IsSorted p.sorted = subst (λ (q : SortedData). IsSorted q) (c.sorted.view_is ∙ sorted_is) c.sorted.invariant in
    ranks_agree p.sorted is_sorted q a to (subst (λ (m : AutomatonData). next m.transitions q a ≡ Some to) m_is moves) ∙ sym c.rank-rank.ensures

pub returns-clause-heads : goal.returns-clause-heads
returns-clause-heads c =
    let p = c.args.at.now.problem.now in
    let J = c.empty_env.new.self.ids in
    let args = c.args.at.now.search.args.now in
    let a = c.args.number in
    let own = c.in_ok-own.own in
    let none : Env = replicate c.args.at.now.params [] in
    let own_is : env_of_id J own ≡ replicate (params_of p c.args.at.now.rule) [] = get_or_from_slice_get J.envs own none [] c.in_ok-own.ensures.ok ∙ ap (λ (k : ℕ). let e : Env = replicate k [] in e) c.requires.can.params_are in
    let sorted_is : c.problem.inside.sorted ≡ p.sorted = ap (λ (q : ProblemData). q.sorted) c.problem.view_is in
    let m_is : c.sorted.inside.automaton ≡ p.sorted.automaton = ap (λ (q : SortedData). q.automaton) (c.sorted.view_is ∙ sorted_is) in
    let is_sorted : IsSorted p.sorted = subst (λ (q : SortedData). IsSorted q) (c.sorted.view_is ∙ sorted_is) c.sorted.invariant in
    let K = c.push_terminal.new.replica.ids in
    let heads = c.push_terminal.new.out.items in
    let gains = along (λ i. OnOk c.push_terminal.result (GainsHeads K (length args) (AtRange (InState (m_is i).transitions a (c.rank-rank.ensures i) (length args) (own_is i)) 0 (m_is i).states) (c.requires.none i) heads)) c.push_terminal.ensures.gains in
    on_ok_map c.push_terminal.result (GainsHeads K (length args) (AtRange (InState p.sorted.automaton.transitions a (rank_of p a) (length args) (replicate (params_of p c.args.at.now.rule) [])) 0 p.sorted.automaton.states) [] heads)
    (AreHeads p [] (record { rule = c.args.at.now.rule; head = Tm a; args = args }) K AsksNothing heads)
    (λ g. terminals_nothing p [] c.args.at.now.rule args K heads a g (λ q to moves. ranks_agree p.sorted is_sorted q a to moves)) gains

pub returns-in_err-own-clause-kept : goal.returns-in_err-own-clause-kept
returns-in_err-own-clause-kept c = c.empty_env.ensures.kept

pub returns-clause-kept : goal.returns-clause-kept
returns-clause-kept c = keeps_then c.args.replica.now c.empty_env.new.self c.push_terminal.new.replica c.in_ok-own.ensures.kept c.push_terminal.ensures.kept
