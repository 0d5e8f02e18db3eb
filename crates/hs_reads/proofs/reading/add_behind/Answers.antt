use Rattle.std.proofs.Common.{◌≡◌, sym, ◌∙◌, ap, subst, ℕ, List, drop, slice_get, Some, option_copied}
use Rattle.std.proofs.lemmas.Option.{same_Some}
use Rattle.std.proofs.lemmas.Result.{on_ok_weaker}
use Rattle.hs_reads.specs.Pairs.{IsArgumentRead, IsReadBehind}
use Rattle.hs_reads.proofs.GrowLemmas.{at_drop, from_drop, adds_none, adds_such}
use Rattle.hs_reads.proofs.reading.add_behind.Goals as goal

pub returns-in-Some-clause-there : goal.returns-in-Some-clause-there
returns-in-Some-clause-there c = on_ok_weaker c.add_children.result (λ there j u r qs moves at_u at_r.
    let g = c.args.becoming.now.given in
    let states : c.in-Some.states.now ≡ qs = same_Some c.in-Some.states.now qs (sym (ap option_copied c.in-Some.is) ∙ (c.next_of.ensures ∙ moves)) in
    there j u r at_u (subst (λ (rs : List ℕ). slice_get rs j ≡ Some r) (sym c.behind.ensures)
    (subst (λ (rs : List ℕ). slice_get (drop g rs) j ≡ Some r) (sym states) (at_drop qs g j r at_r)))) c.add_children.ensures.there

pub returns-in-Some-clause-only : goal.returns-in-Some-clause-only
returns-in-Some-clause-only c =
    let ts = c.args.sorted.now.automaton.transitions in
    let q = c.args.state in
    let b = c.args.becoming.now in
    let states = c.in-Some.states.now in
    adds_such (IsArgumentRead c.args.args.now c.behind.result.now) (IsReadBehind ts q b c.args.args.now) c.args.found.now.pairs c.add_children.new.found.pairs c.add_children.ensures.only (λ x r. record {
      states = states;
      place = r.place;
      moves = sym c.next_of.ensures ∙ ap option_copied c.in-Some.is;
      arg = r.arg;
      state_is = from_drop states b.given r.place x.1 (subst (λ (rs : List ℕ). slice_get rs r.place ≡ Some x.1) c.behind.ensures r.state);
    })

pub returns-in-None-clause-only : goal.returns-in-None-clause-only
returns-in-None-clause-only c = adds_none (IsReadBehind c.args.sorted.now.automaton.transitions c.args.state c.args.becoming.now c.args.args.now) c.args.found.now.pairs
