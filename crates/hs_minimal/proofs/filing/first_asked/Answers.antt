use Rattle.std.proofs.Common.{sym, subst, List, Contains}
use Rattle.hs_table.specs.Types.{TypeTree}
use Rattle.hs_types.specs.Interned.{type_of_id, set_of_id, env_of_id}
use Rattle.hs_strength.proofs.Reading.{set_read_at}
use Rattle.hs_strength.proofs.LastStates.{first_of}
use Rattle.hs_minimal.proofs.FilingLemmas.{asks_end}
use Rattle.hs_minimal.proofs.filing.first_asked.Goals as goal

pub returns-in-Some : goal.returns-in-Some
returns-in-Some c = λ E asks.
    let I = c.args.types.now in
    let B = env_of_id I c.args.env in
    let k = c.loop-set.set-index in
    let set = c.set-item.result in
    let first = c.in-Some.first.now in
    let read = set_read_at (set_of_id I) c.sets-sets.result.now B k set c.sets-sets.ensures.sets c.loop-set-test.true c.set-item.is in
    let there = subst (λ (z : List TypeTree). Contains z (type_of_id I first)) (sym read) (first_of I c.members.result.now (set_of_id I set) first c.members.ensures.members (sym c.in-Some.ensures.value)) in
    asks_end E B k (type_of_id I first) c.last_state.result there c.last_state.ensures asks
