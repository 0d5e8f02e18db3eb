use Rattle.std.proofs.Common.{◌≡◌, sym, ◌∙◌, subst, get_or}
use Rattle.std.proofs.lemmas.List.{get_or_default}
use Rattle.std.proofs.lemmas.List.Elements.{Contains-get_or}
use Rattle.hs_scheme.specs.acceptance.Transitions.{Reads}
use Rattle.hs_scheme.specs.Problem.{ProblemData}
use Rattle.hs_table.specs.Types.{state}
use Rattle.hs_verdict.specs.Premises.{IsSortedProblem}
use Rattle.hs_types.specs.Interned.{InternerData, RowData, type_of_id, env_of_id, Grows}
use Rattle.hs_types.proofs.Numbers.{Grows-trans}
use Rattle.hs_strength.proofs.Rows.{each_more, each_all}
use Rattle.hs_heads.proofs.Ends.{same_state}
use Rattle.hs_minimal.specs.Following.{HasEntry, KeepsEntries, rejected_in}
use Rattle.hs_minimal.proofs.GrowingLemmas.{growing_stays}
use Rattle.hs_minimal.proofs.ChildLemmas.{child_row, one_at, child_entry}
use Rattle.hs_minimal.proofs.CompleteLemmas.{entry_stays, entry_there, entry_pushed}
use Rattle.hs_minimal.proofs.children.add_by_child.Goals as goal

pub loop-from-preserved : goal.loop-from-preserved
loop-from-preserved c =
    let g = c.args.growing.now in
    let I = c.args.types.now in
    let L = c.loop-from.types in
    let J = c.base.new.self in
    let point = c.args.point in
    let row = c.args.row.now in
    let h = c.requires.growing in
    let given : IsSortedProblem g.problem = subst (λ (p : ProblemData). IsSortedProblem p) c.problem.ensures c.know_sorted_problem.ensures in
    let grows : Grows I J = Grows-trans I L J c.loop-from.invariant.grows c.in_ok-ty.ensures.grows in
    let states = c.reading-states.result.now in
    let q = get_or states c.loop-from.from-index 0 in
    let s = c.in-State.state in
    let state_is : type_of_id I row.ty ≡ state s = subst (λ (K : InternerData). type_of_id K row.ty ≡ state s) c.interner.ensures c.in-State.ensures in
    let read = subst (λ (p : ProblemData). Reads p.sorted.automaton.transitions c.args.terminal c.args.place s q) c.problem-2.ensures ((c.reading-states.ensures q).0 (Contains-get_or states c.loop-from.from-index 0 c.loop-from-test.true)) in
    let child = child_row g given I h point c.requires.point c.args.terminal c.args.place s q c.requires.head c.requires.full row c.requires.row state_is c.requires.place read J grows c.in_ok-ty.ty c.in_ok-ty.ensures.ok in
    let own : RowData = record { point = point; env = row.env; ty = c.in_ok-ty.ty } in
    let old = c.loop-from.found.items in
    let new = c.push.new.self.items in
    let pushed = c.in_ok-push.ensures.items in
    let more : KeepsEntries L J old new = λ e m. entry_there J old new own pushed e (entry_stays L J c.in_ok-ty.ensures.grows old e m) in
    let env = env_of_id I row.env in
    record {
      grows = grows;
      keeps = λ e m. more e (c.loop-from.invariant.keeps e m);
      told = each_more (λ k. HasEntry J new (rejected_in point env k)) states c.loop-from.from-index q c.loop-from-test.true (get_or_default states c.loop-from.from-index 0 q c.loop-from-test.true) (λ k m. more (rejected_in point env k) (c.loop-from.invariant.told k m))
          (entry_pushed J old new own pushed child.in_use (rejected_in point env q) (child_entry I J grows h row c.requires.row point q c.in_ok-ty.ty c.in_ok-ty.ensures.ok));
      found = one_at g given L (growing_stays I g h L c.loop-from.invariant.grows) point J c.in_ok-ty.ensures.grows (record { point = point; env = row.env; ty = c.in_ok-ty.ty }) child c.loop-from.found.items c.push.new.self.items c.in_ok-push.ensures.items c.loop-from.invariant.found;
    }

pub returns-clause-told : goal.returns-clause-told
returns-clause-told c = λ s q is reads.
    let I = c.args.types.now in
    let row = c.args.row.now in
    let states = c.reading-states.result.now in
    let state_is : type_of_id I row.ty ≡ state c.in-State.state = subst (λ (K : InternerData). type_of_id K row.ty ≡ state c.in-State.state) c.interner.ensures c.in-State.ensures in
    let same : s ≡ c.in-State.state = same_state s c.in-State.state (sym is ∙ state_is) in
    let read = subst (λ (p : ProblemData). Reads p.sorted.automaton.transitions c.args.terminal c.args.place c.in-State.state q) (sym c.problem-2.ensures) (subst (λ z. Reads c.args.growing.now.problem.sorted.automaton.transitions c.args.terminal c.args.place z q) same reads) in
    each_all (λ k. HasEntry c.loop-from.types c.loop-from.found.items (rejected_in c.args.point (env_of_id I row.env) k)) states c.loop-from.from-index c.loop-from-test.false c.loop-from.invariant.told q ((c.reading-states.ensures q).1 read)
