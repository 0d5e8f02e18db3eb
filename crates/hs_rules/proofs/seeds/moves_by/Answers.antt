use Rattle.std.proofs.Common.{◌≡◌, sym, ◌∙◌, ap, subst, ◌≤◌, ℕ, length, List, slice_get, Some}
use Rattle.std.proofs.lemmas.Bool.{ltb-true, leb-true}
use Rattle.std.proofs.lemmas.Option.{slice_get-get_or, same_Some}
use Rattle.hs_scheme.specs.acceptance.Transition.{TransitionData}
use Rattle.hs_table.proofs.MoveLemmas.{moves_at}
use Rattle.hs_rules.proofs.seeds.moves_by.Goals as goal

pub returns-then-transition-q : goal.returns-then-transition-q
returns-then-transition-q c = λ h.
    let all = c.transitions.result.now in
    let i = c.args.place in
    let t : TransitionData = c.in-Some.transition.now in
    let there = c.requires in
    let read = slice_get-get_or all i t (ltb-true i (length all) (sym c.in-Some.ensures.lookup.0)) ∙ ap (λ (u : TransitionData). Some u) (sym c.in-Some.ensures.lookup.1) in
    let at = subst (λ (us : List TransitionData). slice_get us i ≡ Some t) c.transitions.ensures read in
    let same : there.0 ≡ t = same_Some there.0 t (sym there.1.0 ∙ at) in
    let terminal = sym (ap (λ (u : TransitionData). u.terminal) same) ∙ there.1.1 in
    let from : t.from ≡ c.args.q = ap (λ (u : TransitionData). u.from) (sym c.transition.view_is) ∙ c.if-transition-q.true in
    let to : c.as_slice.result.now ≡ t.to = c.as_slice.ensures.value ∙ ap (λ (u : TransitionData). u.to) c.transition.view_is in
    let le = subst (λ (qs : List ℕ). length qs ≤ c.args.count) to (leb-true (length c.as_slice.result.now) c.args.count h) in
    moves_at c.args.automaton.now.transitions c.args.terminal c.args.count i c.args.q t c.know_automaton.ensures.deterministic at terminal from le
