use Rattle.std.proofs.Common.{sym, ◌∙◌, ap, ◌++◌, append_assoc, take, get_or}
use Rattle.std.specs.Prelude.{flat_map}
use Rattle.std.proofs.lemmas.List.{take_all}
use Rattle.hs_scheme.specs.Tree.{node, forest}
use Rattle.hs_passes.specs.Occurrences.{nonterminals, own_nonterminal}
use Rattle.hs_passes.proofs.Searching.{nonterminals_of-forest, flat_map_more}
use Rattle.hs_passes.proofs.reachable.+collect.Goals as goal

pub returns : goal.returns
returns t c =
    let us = c.deref-arg-items.result.now in
    let old = c.args.names.now.items in
    let own = own_nonterminal c.term.inside.head in
    c.loop-arg.invariant
    ∙ ((λ j. c.in_ok-collect_own.ensures j ++ flat_map nonterminals (take_all c.loop-arg.arg-index us c.loop-arg-test.false j))
    ∙ (append_assoc old own (flat_map nonterminals us)
    ∙ ap (λ ns. old ++ ns) (ap (λ ns. own ++ ns) (sym (nonterminals_of-forest us)) ∙ (ap (λ vs. nonterminals (node c.term.inside.head (forest vs))) c.deref-arg-items.ensures.value ∙ ap nonterminals c.term.view_is))))

pub loop-arg-preserved : goal.loop-arg-preserved
loop-arg-preserved t c =
    let us = c.deref-arg-items.result.now in
    let k = c.loop-arg.arg-index in
    let start = c.collect_own.new.names.items in
    let before = flat_map nonterminals (take k us) in
    c.in_ok-collect.ensures
    ∙ ((λ j. c.loop-arg.invariant j ++ nonterminals (c.arg-item.is j))
    ∙ (append_assoc start before (nonterminals (get_or us k c.arg-item.result))
    ∙ ap (λ ns. start ++ ns) (sym (flat_map_more nonterminals us k c.arg-item.result c.loop-arg-test.true))))
