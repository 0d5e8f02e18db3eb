use Rattle.std.proofs.Common.{◌≡◌, refl, ap, ◌++◌, codes, length, slice_get, Some}
use Rattle.std.proofs.lemmas.List.{take_all}
use Rattle.std.proofs.lemmas.Option.{slice_get_read}
use Rattle.hs_text.specs.Canonical.{params_text}
use Rattle.hs_text.proofs.Puts.{puts_none, puts_then, puts_as, flat_map-more}
use Rattle.hs_text.proofs.canonical.push_params.Goals as goal

pub loop-param-init : goal.loop-param-init
loop-param-init c = puts_none _

pub loop-param-preserved : goal.loop-param-preserved
loop-param-preserved c =
    let at : slice_get c.args.params.now c.loop-param.param-index ≡ Some c.param-item.result = slice_get_read c.args.params.now (length c.args.params.now) c.loop-param.param-index c.param-item.result refl c.loop-param-test.true c.param-item.is in
    puts_as (flat_map-more (λ p. p ++ codes " ") c.args.params.now c.loop-param.param-index c.param-item.result at) (puts_then c.loop-param.invariant (puts_then (puts_as c.bytes.ensures c.push.ensures) c.push-in-loop-param.ensures))

pub returns : goal.returns
returns c = puts_as (ap params_text (take_all _ c.args.params.now c.loop-param-test.false)) c.loop-param.invariant
