use Rattle.std.proofs.Common.{◌≡◌, sym, subst, ℕ, Bool, true, Some, List, slice_get, inl, inr, arith}
use Rattle.hs_scheme.specs.acceptance.Automaton.{AutomatonData}
use Rattle.hs_table.specs.Follows.{rank_of, HasMove}
use Rattle.hs_table_plain.proofs.TableLemmas.{below_or_last}
use Rattle.hs_checker.proofs.terminals.is_complete.Goals as goal

pub loop-q-preserved : goal.loop-q-preserved
loop-q-preserved c = λ q lt. elim (below_or_last q c.loop-q.q lt) [
  | inl below ↦ c.loop-q.invariant q below
  | inr same ↦ subst (λ (n : ℕ). slice_get c.in_ok-marks.marks.items n ≡ Some true) (sym same)
      (subst (λ (ms : List Bool). slice_get ms c.loop-q.q ≡ Some true) c.as_slice.ensures.value (c.is_marked.ensures.0 c.if-not-is_marked.false))
]

pub returns : goal.returns
returns c = λ _ q lt.
    let p = c.args.problem.now in
    let own = c.in_ok-marks.ensures q (c.loop-q.invariant q (omega (arith, lt, c.states-q-end.ensures, c.loop-q-test.false))) in
    subst (λ (A : AutomatonData). HasMove A.transitions c.args.terminal (rank_of p c.args.terminal) q) c.automaton_of-automaton.ensures
    (subst (λ (n : ℕ). HasMove c.automaton_of-automaton.result.now.transitions c.args.terminal n q) c.rank.ensures own)
