use Rattle.std.proofs.Common.{◌∙◌, ap, sym, subst, refl, length, Option, ℕ, ◌+◌}
use Rattle.std.proofs.lemmas.Option.{slice_get_read}
use Rattle.hs_reader.specs.Raw.{Transition}
use Rattle.hs_resolve.specs.Lengths.{length_of, clash_line}
use Rattle.hs_resolve.specs.Least.{IsLeast, Before, earliest}
use Rattle.hs_resolve.specs.LineFaults.{Clashes}
use Rattle.hs_resolve.proofs.Leasts.{least-none, least-more, least-all}
use Rattle.hs_resolve.proofs.TransitionLoops.{rank-more, clash-least}
use Rattle.hs_resolve.proofs.transitions.note_lengths.Goals as goal

pub loop-transition-init : goal.loop-transition-init
loop-transition-init c = record { lengths = c.requires.empty; clash = least-none (λ _ t line. Clashes c.args.transitions.now t line) c.args.transitions.now }

pub loop-transition-preserved : goal.loop-transition-preserved
loop-transition-preserved c =
    let ts = c.args.transitions.now in
    let i = c.loop-transition.transition-index in
    let t = c.transition-item.result in
    let at = slice_get_read ts (length ts) i t refl c.loop-transition-test.true c.transition-item.is in
    let P = λ (_ : ℕ) (u : Transition) (line : ℕ). Clashes ts u line in
    record {
      lengths = λ x. rank-more ts i t x (length_of c.loop-transition.lengths x) (length_of c.note_length.new.lengths x) at (c.loop-transition.invariant.lengths x) (c.in_ok-line.ensures.lengths x);
      clash = subst (λ (o : Option ℕ). IsLeast (Before P ts (i + 1)) o)
          (sym (c.earliest-clash.ensures ∙ ap (λ o. earliest c.loop-transition.clash o) (c.in_ok-line.ensures.clash ∙ ap (λ o. clash_line o t) (c.loop-transition.invariant.lengths t.terminal.text))))
          (least-more P ts i t c.loop-transition.clash _ at c.loop-transition.invariant.clash (clash-least ts i t at));
    }

pub returns-clause-clash : goal.returns-clause-clash
returns-clause-clash c =
    least-all (λ _ t line. Clashes c.args.transitions.now t line) c.args.transitions.now c.loop-transition.transition-index c.loop-transition.clash c.loop-transition-test.false
    c.loop-transition.invariant.clash
