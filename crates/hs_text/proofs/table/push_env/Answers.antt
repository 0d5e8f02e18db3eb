use Rattle.std.proofs.Common.{◌≡◌, refl, ap, ◌+◌, length, take, codes, slice_get, Some}
use Rattle.std.specs.List.{join_by, enumerate_from}
use Rattle.std.proofs.lemmas.List.{take_all}
use Rattle.std.proofs.lemmas.Option.{slice_get_read}
use Rattle.hs_text.specs.Report.{binding_text}
use Rattle.hs_text.proofs.Joins.{joined-more, numbered-more, numbered-long}
use Rattle.hs_text.proofs.Puts.{puts_none, puts_then, puts_as}
use Rattle.hs_text.proofs.table.push_env.Goals as goal

pub loop-number-init : goal.loop-number-init
loop-number-init c = puts_none _

pub loop-number-preserved : goal.loop-number-preserved
loop-number-preserved c =
    let env = c.args.env.now in
    let n = c.loop-number.number in
    let set = c.index-env-number.result in
    let at : slice_get env n ≡ Some set = slice_get_read env (length env) n set refl c.loop-number-test.true c.index-env-number.is in
    puts_as (joined-more (binding_text c.args.states.now c.args.params.now) (codes "; ") (enumerate_from 0 (take n env)) (enumerate_from 0 (take (n + 1) env)) (n, set) n (numbered-more env n set at)
    (numbered-long env n set at)) (puts_then c.loop-number.invariant (puts_then (puts_as c.separator_before.ensures c.push-in-loop-number.ensures) c.push_binding.ensures))

pub returns : goal.returns
returns c =
    puts_then c.push.ensures (puts_then (puts_as (ap (λ env. join_by (binding_text c.args.states.now c.args.params.now) (codes "; ") (enumerate_from 0 env)) (take_all _ c.args.env.now c.loop-number-test.false)) c.loop-number.invariant) c.push-2.ensures)
