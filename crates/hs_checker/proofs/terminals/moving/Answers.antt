use Rattle.std.proofs.Common.{◌≡◌, sym, ◌∙◌, ap, subst, length, Bool, true, Vec, Global, List, get_or, slice_get, Some, inl, inr}
use Rattle.std.proofs.lemmas.Bool.{ltb-true}
use Rattle.std.proofs.lemmas.Option.{slice_get-get_or, same_Some}
use Rattle.std.proofs.lemmas.List.Elements.{Contains-get_or}
use Rattle.hs_scheme.specs.acceptance.Transition.{TransitionData}
use Rattle.hs_table.proofs.MoveLemmas.{moves_at}
use Rattle.hs_checker.proofs.terminals.moving.Goals as goal
use Rattle.hs_checker.proofs.terminals.moving.Goals.{in-Some, in-None}

pub loop-place-preserved : goal.loop-place-preserved
loop-place-preserved c = elim c.match-get.branch [
  | in-Some w ↦
      let ts = c.args.automaton.now.transitions in
      let all = c.transitions-transitions.result.now in
      let items = c.with_terminal-place-items.result.now in
      let i = get_or items c.loop-place.place-index 0 in
      let t = w.in-Some.transition.now in
      let there = (c.with_terminal-place-items.ensures i).0 (Contains-get_or items c.loop-place.place-index 0 c.loop-place-test.true) in
      let read = slice_get-get_or all i t (ltb-true i (length all) (sym w.in-Some.ensures.lookup.0)) ∙ ap (λ (u : TransitionData). Some u) (sym w.in-Some.ensures.lookup.1) in
      let at = subst (λ (us : List TransitionData). slice_get us i ≡ Some t) c.transitions-transitions.ensures read in
      let same : there.0 ≡ t = same_Some there.0 t (sym there.1.0 ∙ at) in
      let terminal = sym (ap (λ (u : TransitionData). u.terminal) same) ∙ there.1.1 in
      record {
        long = ap (λ (v : Vec Bool Global). length v.items) w.marks-is ∙ (w.mark.ensures.long ∙ c.loop-place.invariant.long);
        marked = λ q h. elim (w.mark.ensures.marked q (subst (λ (v : Vec Bool Global). slice_get v.items q ≡ Some true) w.marks-is h)) [
          | inl before ↦ c.loop-place.invariant.marked q before
          | inr own ↦ moves_at ts c.args.terminal c.args.most i q t c.know_automaton.ensures.deterministic at terminal own.0 own.1
        ];
      }
  | in-None w ↦ record {
    long = ap (λ (v : Vec Bool Global). length v.items) w.marks-is ∙ c.loop-place.invariant.long;
    marked = λ q h. c.loop-place.invariant.marked q (subst (λ (v : Vec Bool Global). slice_get v.items q ≡ Some true) w.marks-is h);
  }
]
