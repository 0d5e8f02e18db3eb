use Rattle.std.proofs.Common.{sym, subst, List, length, IfOk, IsTrue, ◌↔◌}
use Rattle.std.proofs.lemmas.Bool.{ltb-true}
use Rattle.hs_table.specs.Types.{TypeTree}
use Rattle.hs_weak.specs.Strength.{AsStrongAs, AsksEach}
use Rattle.hs_types.specs.Interned.{type_of_id, set_of_id, env_of_id}
use Rattle.hs_strength.proofs.Reading.{set_read_at, missing_set}
use Rattle.hs_strength.proofs.memo.Strengths.asks_at.Goals as goal

pub returns-in-Some-clause-ok : goal.returns-in-Some-clause-ok
returns-in-Some-clause-ok c =
    let I = c.args.types.now in
    let ids = c.sets.result.now in
    let k = c.args.parameter in
    let read = set_read_at (set_of_id I) ids (env_of_id I c.args.env) k c.in-Some.set.now c.sets.ensures.sets (ltb-true k (length ids) (sym c.in-Some.ensures.lookup.0)) c.in-Some.ensures.lookup.1 in
    subst (λ (z : List TypeTree). IfOk c.asks_each.result (λ answer. IsTrue answer ↔ AsksEach AsStrongAs z (set_of_id I c.args.other))) (sym read) c.asks_each.ensures.ok

pub returns-in-None-clause-ok : goal.returns-in-None-clause-ok
returns-in-None-clause-ok c =
    let I = c.args.types.now in
    missing_set (set_of_id I) (type_of_id I) c.sets.result.now c.members.result.now (env_of_id I c.args.env) (set_of_id I c.args.other) c.args.parameter c.is_empty.result
    c.sets.ensures.sets c.members.ensures.members c.in-None.ensures.lookup.3 c.is_empty.ensures
