use Rattle.std.proofs.Common.{◌≡◌, sym, ◌∙◌, ap, subst, ℕ, [], length, replicate, take, Some, OnOk, Contains, ◌↔◌}
use Rattle.std.proofs.lemmas.Option.{slice_get_within, get_or_from_slice_get}
use Rattle.std.proofs.lemmas.List.Elements.{All-contains}
use Rattle.hs_scheme.specs.declared.term.Head.TheVariants.{Tm}
use Rattle.hs_scheme.specs.acceptance.Automaton.{AutomatonData, next}
use Rattle.hs_scheme.specs.acceptance.Transitions.{Reads}
use Rattle.hs_scheme.specs.sorting.Sorted.{SortedData, IsSorted}
use Rattle.hs_scheme.specs.Problem.{ProblemData}
use Rattle.hs_table.specs.Types.{TypeTree, state}
use Rattle.hs_table.specs.Entries.{Env, EntryData, InShape, params_of}
use Rattle.hs_table_laws.proofs.Arrows.{state_no_arrow}
use Rattle.hs_types.specs.Interned.{InternerData, type_of_id, set_of_id, env_of_id, IsView}
use Rattle.hs_types.specs.declared.ids.View.TheVariants.{Arrow}
use Rattle.hs_rules.specs.Heads.{GainsHeads, AtSome, ReadIn, AreHeads, Asks}
use Rattle.hs_rules.proofs.Lists.{along, on_ok_map}
use Rattle.hs_rules.proofs.RankLemmas.{ranks_agree}
use Rattle.hs_rules.proofs.SourceLemmas.{terminals_asking, terminals_asking_none}
use Rattle.hs_rules.proofs.KeepLemmas.{keeps_then}
use Rattle.hs_rules.proofs.terminals.terminal_asking.Goals as goal

pub push_reading-requires-clause-own : goal.push_reading-requires-clause-own
push_reading-requires-clause-own c = slice_get_within c.empty_env.new.self.ids.envs c.in_ok-own.own (replicate c.args.at.now.params []) c.in_ok-own.ensures.ok

pub push_reading-requires-clause-ranks : goal.push_reading-requires-clause-ranks
push_reading-requires-clause-ranks c = λ q to moves.
    let p = c.args.at.now.problem.now in
    let a = c.args.number in
    let sorted_is : c.problem.inside.sorted ≡ p.sorted = ap (λ (q : ProblemData). q.sorted) c.problem.view_is in
    let m_is : c.sorted.inside.automaton ≡ p.sorted.automaton = ap (λ (q : SortedData). q.automaton) (c.sorted.view_is ∙ sorted_is) in
    let is_sorted : IsSorted p.sorted = subst (λ (q : SortedData). IsSorted q) (c.sorted.view_is ∙ sorted_is) c.sorted.invariant in
    ranks_agree p.sorted is_sorted q a to (subst (λ (m : AutomatonData). next m.transitions q a ≡ Some to) m_is moves) ∙ sym c.rank-rank.ensures

pub returns-clause-heads : goal.returns-clause-heads
returns-clause-heads c =
    let p = c.args.at.now.problem.now in
    let I = c.args.replica.now.ids in
    let J = c.empty_env.new.self.ids in
    let log = c.args.replica.now.log in
    let limit = c.args.at.now.search.limit in
    let args = c.args.at.now.search.args.now in
    let a = c.args.number in
    let own = c.in_ok-own.own in
    let none : Env = replicate c.args.at.now.params [] in
    let own_is : env_of_id J own ≡ replicate (params_of p c.args.at.now.rule) [] = get_or_from_slice_get J.envs own none [] c.in_ok-own.ensures.ok ∙ ap (λ (k : ℕ). let e : Env = replicate k [] in e) c.requires.can.params_are in
    let shapes = λ (e : EntryData) (m : Contains (take limit log) e). All-contains (InShape p) (take limit log) e c.requires.can.shapes m in
    let sorted_is : c.problem.inside.sorted ≡ p.sorted = ap (λ (q : ProblemData). q.sorted) c.problem.view_is in
    let m_is : c.sorted.inside.automaton ≡ p.sorted.automaton = ap (λ (q : SortedData). q.automaton) (c.sorted.view_is ∙ sorted_is) in
    let is_sorted : IsSorted p.sorted = subst (λ (q : SortedData). IsSorted q) (c.sorted.view_is ∙ sorted_is) c.sorted.invariant in
    let K = c.push_reading.new.replica.ids in
    let heads = c.push_reading.new.out.items in
    let states = c.reading-states.result.now in
    let gains = along (λ i. OnOk c.push_reading.result (GainsHeads K (length args) (AtSome (ReadIn (m_is i).states (m_is i).transitions a (own_is i) c.args.asked.now.arg) states) (c.requires.none i) heads)) c.push_reading.ensures.gains in
    let reading = subst (λ (m : AutomatonData). (q : ℕ) → Contains states q ↔ Reads m.transitions a c.args.asked.now.arg c.in-State.state q) m_is c.reading-states.ensures in
    let ty_is = subst (λ (ids : InternerData). type_of_id ids c.args.asked.now.ty ≡ state c.in-State.state) c.interner.ensures c.in-State.ensures in
    on_ok_map c.push_reading.result (GainsHeads K (length args) (AtSome (ReadIn p.sorted.automaton.states p.sorted.automaton.transitions a (replicate (params_of p c.args.at.now.rule) []) c.args.asked.now.arg) states) [] heads)
    (AreHeads p (take limit log) (record { rule = c.args.at.now.rule; head = Tm a; args = args }) K (Asks c.args.asked.now.arg (type_of_id I c.args.asked.now.ty)) heads)
    (λ g. subst (λ (t : TypeTree). AreHeads p (take limit log) (record { rule = c.args.at.now.rule; head = Tm a; args = args }) K (Asks c.args.asked.now.arg t) heads) (sym ty_is)
    (terminals_asking p log limit c.args.at.now.rule args shapes a K heads c.args.asked.now.arg c.requires.arg c.in-State.state states reading g)) gains

pub returns-in_default-clause-heads : goal.returns-in_default-clause-heads
returns-in_default-clause-heads c =
    let p = c.args.at.now.problem.now in
    let I = c.args.replica.now.ids in
    let log = c.args.replica.now.log in
    let limit = c.args.at.now.search.limit in
    let shapes = λ (e : EntryData) (m : Contains (take limit log) e). All-contains (InShape p) (take limit log) e c.requires.can.shapes m in
    let view = subst (λ (ids : InternerData). IsView ids c.args.asked.now.ty (Arrow c.in_default.field-0 c.in_default.field-1)) c.interner.ensures c.in_default.ensures in
    terminals_asking_none p log limit c.args.at.now.rule c.args.at.now.search.args.now shapes c.args.number I c.args.out.now.items c.args.asked.now.arg c.requires.arg (type_of_id I c.args.asked.now.ty)
    (λ q is. state_no_arrow q (set_of_id I c.in_default.field-0) (type_of_id I c.in_default.field-1) (sym is ∙ view.2)) c.requires.none

pub returns-in_err-own-clause-kept : goal.returns-in_err-own-clause-kept
returns-in_err-own-clause-kept c = c.empty_env.ensures.kept

pub returns-clause-kept : goal.returns-clause-kept
returns-clause-kept c = keeps_then c.args.replica.now c.empty_env.new.self c.push_reading.new.replica c.in_ok-own.ensures.kept c.push_reading.ensures.kept
