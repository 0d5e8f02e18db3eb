use Rattle.std.proofs.Common.{sym, ◌∙◌, ap, subst, ◌<◌, List, map, take, get_or, arith, length}
use Rattle.std.proofs.lemmas.Option.{slice_get-get_or}
use Rattle.hs_table.specs.Types.{TypeTree}
use Rattle.hs_types.specs.Interned.{set_of_id}
use Rattle.hs_rules.specs.Filling.{fixed_of, LacksCandidate}
use Rattle.hs_rules.proofs.Lists.{read_other}
use Rattle.hs_rules.proofs.FillLemmas.{nothing_picked, set_of_place}
use Rattle.hs_rules.proofs.search.is_open.Goals as goal

pub returns-then-not-is_set_open : goal.returns-then-not-is_set_open
returns-then-not-is_set_open c =
    let ids = c.args.replica.now.ids in
    let log = c.args.replica.now.log in
    let s = c.args.search.now in
    let E = take s.limit log in
    let sets = c.args.sets.now in
    let k = c.loop-arg.arg in
    let small : k < length s.args.now = omega (arith, c.requires.long, c.loop-arg-test.true) in
    let set_is = ap (set_of_id ids) (sym (read_other sets k c.index-sets-arg.result 0 c.loop-arg-test.true (sym c.index-sets-arg.is))) ∙ set_of_place ids sets k c.loop-arg-test.true in
    nothing_picked E (fixed_of log s.fixed) s.args.now (map (set_of_id ids) sets) k (get_or s.args.now k 0) (slice_get-get_or s.args.now k 0 small)
    (subst (λ (t : List TypeTree). LacksCandidate E (get_or s.args.now k 0) t) set_is c.if-not-is_set_open.ensures)
