use Rattle.std.proofs.Common.{sym, ◌∙◌, ap, ◌++◌, ◌∷◌, [], take, length, arith}
use Rattle.std.proofs.lemmas.List.{take_more, take_all}
use Rattle.std.proofs.lemmas.Result.{err_from_is_err_and}
use Rattle.hs_scheme.specs.Tree.{node, forest}
use Rattle.hs_scheme.proofs.Exits.{if_ok_err}
use Rattle.hs_scheme.proofs.sort.Sort.+copy.Goals as goal

pub returns-in_err-args : goal.returns-in_err-args
returns-in_err-args t c = if_ok_err _ (err_from_is_err_and c.from_residual.result c.from_residual.ensures.1).1

pub returns-in_err-copy : goal.returns-in_err-copy
returns-in_err-copy t c = if_ok_err _ (err_from_is_err_and c.from_residual-in_err-copy.result c.from_residual-in_err-copy.ensures.1).1

pub loop-arg-init : goal.loop-arg-init
loop-arg-init t c = record { items = c.in_ok-args.ensures.items; long = c.in_ok-args.ensures.len; room = omega (arith, c.in_ok-args.ensures.capacity, c.len.ensures, ap length c.deref-arg-items.ensures.value, c.self.inside.args.ok.0) }

pub push_reserved-requires : goal.push_reserved-requires
push_reserved-requires t c = omega (arith, c.loop-arg.invariant.long, c.loop-arg.invariant.room, c.loop-arg-test.true)

pub loop-arg-preserved : goal.loop-arg-preserved
loop-arg-preserved t c =
    let us = c.deref-arg-items.result.now in let i = c.loop-arg.arg-index in
    record {
      items = c.push_reserved.ensures.items ∙ (ap (λ done. done ++ c.in_ok-copy.field-0 ∷ []) c.loop-arg.invariant.items
          ∙ (ap (λ u. take i us ++ u ∷ []) (c.in_ok-copy.ensures ∙ c.arg-item.is) ∙ sym (take_more us i c.arg-item.result c.loop-arg-test.true)));
      long = omega (arith, c.push_reserved.ensures.len, c.loop-arg.invariant.long);
      room = omega (arith, c.push_reserved.ensures.capacity, c.loop-arg.invariant.room);
    }

pub returns : goal.returns
returns t c =
    ap (λ us. node tt (forest us)) (c.loop-arg.invariant.items ∙ (take_all c.loop-arg.arg-index c.deref-arg-items.result.now c.loop-arg-test.false ∙ c.deref-arg-items.ensures.value)) ∙ c.self.view_is
