use Rattle.std.proofs.Common.{length, refl}
use Rattle.std.proofs.lemmas.Option.{slice_get_read}
use Rattle.hs_resolve.specs.LineFaults.{RepeatsAt}
use Rattle.hs_resolve.proofs.Leasts.{least-none, least-all}
use Rattle.hs_resolve.proofs.NameLoops.{index-more, repeated-more}
use Rattle.hs_resolve.proofs.seen.number_params.Goals as goal

pub loop-param-init : goal.loop-param-init
loop-param-init c = record { names = c.requires; repeated = least-none (RepeatsAt c.args.params.now) c.args.params.now }

pub loop-param-preserved : goal.loop-param-preserved
loop-param-preserved c =
    let names = c.args.params.now in
    let i = c.loop-param.param-index in
    let at = slice_get_read names (length names) i c.param-item.result refl c.loop-param-test.true c.param-item.is in
    record {
      names = index-more names i c.param-item.result at c.loop-param.scope c.note_name.new.names c.loop-param.invariant.names c.in_ok-note_name.ensures.names;
      repeated = repeated-more names i c.param-item.result at c.loop-param.scope c.loop-param.repeated c.note_name.new.repeated c.loop-param.invariant.names c.loop-param.invariant.repeated
          c.in_ok-note_name.ensures.repeated;
    }

pub returns-clause-repeated : goal.returns-clause-repeated
returns-clause-repeated c =
    least-all (RepeatsAt c.args.params.now) c.args.params.now c.loop-param.param-index c.loop-param.repeated c.loop-param-test.false c.loop-param.invariant.repeated
