use Rattle.std.proofs.Common.{refl, ◌∙◌, ap, length, ◌≡◌, slice_get, Some}
use Rattle.std.proofs.lemmas.List.{take_all}
use Rattle.std.proofs.lemmas.Option.{slice_get_read}
use Rattle.hs_scheme.specs.Tree.{forest}
use Rattle.hs_text.specs.Canonical.{term_text, args_text}
use Rattle.hs_text.proofs.Puts.{puts_none, puts_then, puts_as}
use Rattle.hs_text.proofs.Texts.{argument-more}
use Rattle.hs_text.proofs.canonical.+push_term.Goals as goal

pub loop-arg-init : goal.loop-arg-init
loop-arg-init t c = puts_none _

pub loop-arg-preserved : goal.loop-arg-preserved
loop-arg-preserved t c =
    let args = c.deref-arg-items.result.now in
    let i = c.loop-arg.arg-index in
    let at : slice_get args i ≡ Some c.arg-item.result = slice_get_read args (length args) i c.arg-item.result refl c.loop-arg-test.true c.arg-item.is in
    puts_as (argument-more c.args.names.now c.args.params.now args i c.arg-item.result at)
    (puts_then c.loop-arg.invariant (puts_then (puts_as c.opening.ensures c.push-in-loop-arg.ensures) (puts_then c.push_term.ensures (puts_as c.closing.ensures c.push-in-loop-arg-2.ensures))))

pub returns : goal.returns
returns t c =
    puts_as (ap (term_text c.args.names.now c.args.params.now) c.term.view_is)
    (puts_then (puts_as c.head_name.ensures c.push.ensures)
    (puts_as (ap (λ ts. args_text c.args.names.now c.args.params.now (forest ts)) (take_all _ c.deref-arg-items.result.now c.loop-arg-test.false ∙ c.deref-arg-items.ensures.value)) c.loop-arg.invariant))
