use Rattle.std.proofs.Common.{◌≡◌, sym, ◌∙◌, ap, map, ◌∷◌, ◌++◌, [], arith}
use Rattle.hs_scheme.specs.Tree.{node, forest}
use Rattle.hs_passes.specs.Selection.{renamed, renamed_head, number_in}
use Rattle.hs_passes.proofs.Renaming.{forest-renamed}
use Rattle.hs_passes.proofs.Choosing.{mapped_more}
use Rattle.std.proofs.lemmas.List.{take_all}
use Rattle.hs_passes.proofs.selecting.+renamed_term.Goals as goal

pub push_reserved-requires : goal.push_reserved-requires
push_reserved-requires t c = omega (arith, c.loop-arg.invariant.long, c.loop-arg.invariant.room, c.loop-arg-test.true)

pub loop-arg-preserved : goal.loop-arg-preserved
loop-arg-preserved t c =
    let new = renamed (number_in c.args.numbers.now) in
    let inv = c.loop-arg.invariant in
    record {
      items = c.push_reserved.ensures.items
          ∙ ((λ j. inv.items j ++ (c.in_ok-renamed_term.ensures ∙ ap new c.arg-item.is) j ∷ [])
          ∙ sym (mapped_more new c.deref-arg-items.result.now c.loop-arg.arg-index c.arg-item.result c.loop-arg-test.true));
      long = omega (arith, c.push_reserved.ensures.len, inv.long);
      room = omega (arith, c.push_reserved.ensures.capacity, inv.room);
    }

pub returns : goal.returns
returns t c =
    let us = c.deref-arg-items.result.now in
    let all : c.loop-arg.args.items ≡ map (renamed (number_in c.args.numbers.now)) us =
    c.loop-arg.invariant.items ∙ ap (map (renamed (number_in c.args.numbers.now))) (take_all c.loop-arg.arg-index us c.loop-arg-test.false) in
    (λ i. node (c.renamed-head.ensures i) (forest (all i)))
    ∙ (ap (node (renamed_head (number_in c.args.numbers.now) c.term.inside.head)) (sym (forest-renamed (number_in c.args.numbers.now) us))
    ∙ (ap (λ vs. renamed (number_in c.args.numbers.now) (node c.term.inside.head (forest vs))) c.deref-arg-items.ensures.value
    ∙ ap (renamed (number_in c.args.numbers.now)) c.term.view_is))
