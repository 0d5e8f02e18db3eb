use Rattle.std.proofs.Common.{sym, ◌∙◌, ap, subst, ◌+◌, ◌<◌, List, ◌++◌, map, take, get_or, arith, length}
use Rattle.std.proofs.lemmas.Bool.{OnTrue_at, OnFalse_at}
use Rattle.std.proofs.lemmas.Option.{slice_get-get_or}
use Rattle.hs_table.specs.Types.{TypeTree}
use Rattle.hs_types.specs.Interned.{set_of_id}
use Rattle.hs_rules.specs.Slots.{SlotData, FilledData, slots, slots_of}
use Rattle.hs_rules.specs.Filling.{fixed_of, AreFilled, GainsFilled, LacksSlot}
use Rattle.hs_rules.proofs.KeepLemmas.{lists_then, as_before}
use Rattle.hs_rules.proofs.Lists.{read_other}
use Rattle.hs_rules.proofs.FillLemmas.{filled_append, next_of_args, nothing_filled, set_of_place}
use Rattle.hs_rules.proofs.search.fill.Goals as goal

pub loop-arg-preserved : goal.loop-arg-preserved
loop-arg-preserved c =
    let ids = c.args.replica.now.ids in
    let E = take c.args.search.now.limit c.args.replica.now.log in
    let fixed = fixed_of c.args.replica.now.log c.args.search.now.fixed in
    let args = c.args.search.now.args.now in
    let sets = c.args.sets.now in
    let k = c.loop-arg.arg in
    let u = get_or args k 0 in
    let s = c.index-sets-arg.result in
    let small : k < length args = omega (arith, c.requires.long, c.loop-arg-test.true) in
    let old = slots 0 (take k args) (map (set_of_id ids) (take k sets)) in
    let r = c.args.replica.now in
    let kept = c.loop-arg.invariant.kept in
    let g = as_before r c.loop-arg.replica kept
    (λ I es. GainsFilled (take c.args.search.now.limit es) (fixed_of es c.args.search.now.fixed) (slots_of k u (set_of_id I s)) c.loop-arg.out.items c.fill_set.new.out.items)
    (OnTrue_at c.if-not-complete.false c.in_ok-complete.ensures.filled) in
    let filled = subst (λ (fs : List FilledData). AreFilled E fixed (slots 0 (take (k + 1) args) (map (set_of_id ids) (take (k + 1) sets))) fs) (sym g.is)
    (subst (λ (ss : List SlotData). AreFilled E fixed ss (c.loop-arg.out.items ++ g.added))
    (sym (next_of_args ids k args sets u s c.requires.long c.loop-arg-test.true (slice_get-get_or args k 0 small) c.index-sets-arg.is))
    (filled_append E fixed old (slots_of k u (set_of_id ids s)) c.loop-arg.out.items g.added c.loop-arg.invariant.filled g.filled)) in
    record { kept = lists_then r c.loop-arg.replica c.fill_set.new.replica kept c.in_ok-complete.ensures.kept; filled = filled }

pub returns-then-not-complete-clause-shut : goal.returns-then-not-complete-clause-shut
returns-then-not-complete-clause-shut c =
    let ids = c.args.replica.now.ids in
    let log = c.args.replica.now.log in
    let s = c.args.search.now in
    let E = take s.limit log in
    let sets = c.args.sets.now in
    let k = c.loop-arg.arg in
    let u = get_or s.args.now k 0 in
    let small : k < length s.args.now = omega (arith, c.requires.long, c.loop-arg-test.true) in
    let set_is = ap (set_of_id ids) (sym (read_other sets k c.index-sets-arg.result 0 c.loop-arg-test.true (sym c.index-sets-arg.is))) ∙ set_of_place ids sets k c.loop-arg-test.true in
    nothing_filled E (fixed_of log s.fixed) s.args.now (map (set_of_id ids) sets) k u (slice_get-get_or s.args.now k 0 small)
    (subst (λ (t : List TypeTree). LacksSlot E (fixed_of log s.fixed) k u t) set_is
    (as_before c.args.replica.now c.loop-arg.replica c.loop-arg.invariant.kept (λ I es. LacksSlot (take s.limit es) (fixed_of es s.fixed) k u (set_of_id I c.index-sets-arg.result))
    (OnFalse_at c.if-not-complete.true c.in_ok-complete.ensures.lacks)))
