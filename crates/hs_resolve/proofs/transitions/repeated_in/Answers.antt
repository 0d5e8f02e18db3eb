use Rattle.std.proofs.Common.{◌≡◌, ◌∙◌, ap, sym, subst, refl, not, length, take, cond, true, Option, Some, None, ◌&&◌, ℕ, ◌+◌}
use Rattle.std.specs.List.{list_any}
use Rattle.std.specs.Str.{bytes_eq}
use Rattle.std.proofs.lemmas.Option.{slice_get_read}
use Rattle.indexmap.specs.IndexSet.{contains}
use Rattle.hs_reader.specs.Raw.{Transition}
use Rattle.hs_resolve.specs.Lengths.{pair_eq}
use Rattle.hs_resolve.specs.Least.{IsLeast, Before, earliest}
use Rattle.hs_resolve.specs.LineFaults.{same_left, RepeatsLeft}
use Rattle.hs_resolve.proofs.Leasts.{least-more, least-all}
use Rattle.hs_resolve.proofs.TransitionLoops.{met-more, repeats_left-least, new_line, old_line}
use Rattle.hs_resolve.proofs.transitions.repeated_in.Goals as goal
use Rattle.hs_resolve.proofs.transitions.repeated_in.Goals.{then-fresh, else-fresh}

pub loop-transition-preserved : goal.loop-transition-preserved
loop-transition-preserved c =
    let ts = c.args.transitions.now in
    let i = c.loop-transition.transition-index in
    let t = c.transition-item.result in
    let at = slice_get_read ts (length ts) i t refl c.loop-transition-test.true c.transition-item.is in
    let from : c.bytes.result.now ≡ t.from.text = c.bytes.ensures ∙ ap (λ (u : Transition). u.from.text) c.transition.view_is in
    let terminal : c.bytes-in-loop-transition.result.now ≡ t.terminal.text = c.bytes-in-loop-transition.ensures ∙ ap (λ (u : Transition). u.terminal.text) c.transition.view_is in
    let here : c.in_ok-fresh.fresh ≡ not (list_any (same_left t) (take i ts)) =
    c.in_ok-fresh.ensures.added ∙ ap not (c.loop-transition.invariant.met (c.bytes.result, c.bytes-in-loop-transition.result)
    ∙ (λ j. list_any (λ (u : Transition). bytes_eq (from j) u.from.text && bytes_eq (terminal j) u.terminal.text) (take i ts))) in
    let line : c.if-fresh.line ≡ cond (list_any (same_left t) (take i ts)) (Some t.from.line) None =
    elim c.if-fresh.branch [
      | then-fresh w ↦ new_line c.in_ok-fresh.fresh (list_any (same_left t) (take i ts)) t.from.line c.if-fresh.line here w.if-fresh.true w.line-is
      | else-fresh w ↦ old_line c.in_ok-fresh.fresh (list_any (same_left t) (take i ts)) t.from.line c.if-fresh.line here w.if-fresh.false (w.line-is ∙ ap (λ (u : Transition). Some u.from.line) c.transition.view_is)
    ] in
    record {
      met = λ p. met-more ts i t p.0.now p.1.now (contains pair_eq c.loop-transition.met p) (contains pair_eq c.insert_full.new.self p) at (c.loop-transition.invariant.met p)
          (c.in_ok-fresh.ensures.updates.0 p ∙ (λ j. cond (bytes_eq (from j) p.0.now && bytes_eq (terminal j) p.1.now) true (contains pair_eq c.loop-transition.met p)));
      least = subst (λ (o : Option ℕ). IsLeast (Before (RepeatsLeft ts) ts (i + 1)) o) (sym (c.earliest-least.ensures ∙ ap (λ o. earliest c.loop-transition.least o) line))
          (least-more (RepeatsLeft ts) ts i t c.loop-transition.least _ at c.loop-transition.invariant.least (repeats_left-least ts i t));
    }

pub returns : goal.returns
returns c =
    least-all (RepeatsLeft c.args.transitions.now) c.args.transitions.now c.loop-transition.transition-index c.loop-transition.least c.loop-transition-test.false
    c.loop-transition.invariant.least
