use Rattle.std.proofs.Common.{sym, ◌∙◌, ap, get_or, ◌++◌, codes}
use Rattle.std.specs.List.{flat_map}
use Rattle.std.proofs.lemmas.List.{take_all}
use Rattle.std.proofs.lemmas.Option.{slice_get-get_or}
use Rattle.hs_text.specs.Canonical.{name_at}
use Rattle.hs_text.proofs.Texts.{states-none, states-some}
use Rattle.hs_text.proofs.Puts.{puts_none, puts_then, puts_as, flat_map-more}
use Rattle.hs_text.proofs.canonical.push_states.Goals as goal

pub returns-then-is_empty : goal.returns-then-is_empty
returns-then-is_empty c = puts_as (states-none c.args.names.now c.args.states.now (sym c.is_empty.ensures ∙ c.if-is_empty.true)) c.push.ensures

pub loop-state-init : goal.loop-state-init
loop-state-init c = puts_none _

pub loop-state-preserved : goal.loop-state-preserved
loop-state-preserved c =
    let qs = c.args.states.now in
    let n = c.loop-state.state-index in
    puts_as (flat_map-more (λ q. codes " " ++ name_at c.args.names.now.states q) qs n (get_or qs n 0) (slice_get-get_or qs n 0 c.loop-state-test.true))
    (puts_then c.loop-state.invariant (puts_then c.push-in-loop-state.ensures (puts_as c.state_name.ensures c.push-in-loop-state-2.ensures)))

pub returns : goal.returns
returns c =
    puts_as (ap (flat_map (λ q. codes " " ++ name_at c.args.names.now.states q)) (take_all _ c.args.states.now c.loop-state-test.false)
    ∙ states-some c.args.names.now c.args.states.now (sym c.is_empty.ensures ∙ c.if-is_empty.false)) c.loop-state.invariant
