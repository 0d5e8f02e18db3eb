use Rattle.std.proofs.Common.{◌≡◌, refl, ap, length, slice_get, Some}
use Rattle.std.specs.List.{flat_map}
use Rattle.std.proofs.lemmas.List.{take_all}
use Rattle.std.proofs.lemmas.Option.{slice_get_read}
use Rattle.hs_text.specs.Canonical.{transition_text}
use Rattle.hs_text.proofs.Puts.{puts_none, puts_then, puts_as, flat_map-more}
use Rattle.hs_text.proofs.canonical.push_transitions.Goals as goal

pub loop-transition-init : goal.loop-transition-init
loop-transition-init c = puts_none _

pub loop-transition-preserved : goal.loop-transition-preserved
loop-transition-preserved c =
    let at : slice_get c.args.transitions.now c.loop-transition.transition-index ≡ Some c.transition-item.result = slice_get_read c.args.transitions.now (length c.args.transitions.now) c.loop-transition.transition-index c.transition-item.result refl c.loop-transition-test.true c.transition-item.is in
    puts_as (flat_map-more (transition_text c.args.names.now) c.args.transitions.now c.loop-transition.transition-index c.transition-item.result at) (puts_then c.loop-transition.invariant c.push_transition.ensures)

pub returns : goal.returns
returns c = puts_as (ap (flat_map (transition_text c.args.names.now)) (take_all _ c.args.transitions.now c.loop-transition-test.false)) c.loop-transition.invariant
