use Rattle.std.proofs.Common.{◌≡◌, refl, sym, ◌∙◌, ap, subst, ℕ, Some, None, List, ◌<◌, arith, length}
use Rattle.std.specs.Option.{option_copied}
use Rattle.std.specs.HashMap.{get}
use Rattle.std.proofs.lemmas.Option.{slice_get_read}
use Rattle.hs_scheme.specs.Key.{key_eq}
use Rattle.hs_scheme.specs.acceptance.Transition.{TransitionData}
use Rattle.hs_scheme.specs.acceptance.Automaton.{AutomatonData, next}
use Rattle.hs_scheme.proofs.TransitionIndex.{next-nowhere, next-there}
use Rattle.hs_scheme.proofs.automaton.Automaton.next.Goals as goal

pub returns-in_err-place : goal.returns-in_err-place
returns-in_err-place c =
    ap option_copied c.from_residual.ensures
    ∙ sym (subst (λ (a : AutomatonData). next a.transitions c.args.state c.args.terminal ≡ None) c.self.view_is
    (next-nowhere (λ q a. get key_eq c.self.inside.index (q, a)) c.self.inside.transitions.items c.args.state c.args.terminal c.self.invariant.1
    (sym c.get.ensures.value ∙ ap option_copied c.in_err-place.was)))

pub index-requires : goal.index-requires
index-requires c = let there : c.in_ok-place.field-0.now < length c.self.inside.transitions.items =
    (next-there (λ q a. get key_eq c.self.inside.index (q, a)) c.self.inside.transitions.items c.args.state c.args.terminal c.in_ok-place.field-0.now
    c.self.invariant.0.deterministic c.self.invariant.1 (sym c.get.ensures.value ∙ ap option_copied c.in_ok-place.was)).0
    in omega (arith, c.self.inside.transitions.ok.0)

pub returns : goal.returns
returns c =
    let there = next-there (λ q a. get key_eq c.self.inside.index (q, a)) c.self.inside.transitions.items c.args.state c.args.terminal c.in_ok-place.field-0.now
    c.self.invariant.0.deterministic c.self.invariant.1 (sym c.get.ensures.value ∙ ap option_copied c.in_ok-place.was) in
    let e = there.1 c.index.result.now (slice_get_read c.self.inside.transitions.items (length c.self.inside.transitions.items) c.in_ok-place.field-0.now c.index.result.now refl there.0 c.index.ensures) in
    let f : c.as_slice.result.now ≡ c.index.result.now.to = c.as_slice.ensures.value ∙ ap (λ (t : TransitionData). t.to) c.behind-self.view_is in
    ap (λ (qs : List ℕ). Some qs) f
    ∙ (sym e ∙ ap (λ (a : AutomatonData). next a.transitions c.args.state c.args.terminal) c.self.view_is)
