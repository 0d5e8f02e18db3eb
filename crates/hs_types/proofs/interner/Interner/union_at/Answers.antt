use Rattle.std.proofs.Common.{◌<◌, length, arith}
use Rattle.std.proofs.lemmas.Result.{IfOk-weaker}
use Rattle.hs_table.specs.Entries.{set_at}
use Rattle.hs_types.specs.Interned.{set_of_id, env_of_id, IsUnion}
use Rattle.hs_types.proofs.JoinLemmas.{sets_long, union_at_place}
use Rattle.hs_types.proofs.OrderLemmas.{member_within}
use Rattle.hs_types.proofs.interner.Interner.union_at.Goals as goal

pub bounds-sets-place : goal.bounds-sets-place
bounds-sets-place c = omega (arith, c.requires.in_a, sets_long c.args.self.now c.sets.result.now (env_of_id c.args.self.now c.args.a) c.sets.ensures.sets)

pub bounds-sets-place-2 : goal.bounds-sets-place-2
bounds-sets-place-2 c = omega (arith, c.requires.in_b, sets_long c.args.self.now c.sets-2.result.now (env_of_id c.args.self.now c.args.b) c.sets-2.ensures.sets)

pub union_sets-requires-clause-a : goal.union_sets-requires-clause-a
union_sets-requires-clause-a c =
    let I = c.args.self.now in
    let lx = sets_long I c.sets.result.now (env_of_id I c.args.a) c.sets.ensures.sets in
    member_within (length I.sets) c.sets.result.now c.args.place c.index-sets-place.result c.sets.ensures.range (omega (arith, c.requires.in_a, lx)) c.index-sets-place.is

pub union_sets-requires-clause-b : goal.union_sets-requires-clause-b
union_sets-requires-clause-b c =
    let I = c.args.self.now in
    let ly = sets_long I c.sets-2.result.now (env_of_id I c.args.b) c.sets-2.ensures.sets in
    member_within (length I.sets) c.sets-2.result.now c.args.place c.index-sets-place-2.result c.sets-2.ensures.range (omega (arith, c.requires.in_b, ly)) c.index-sets-place-2.is

pub returns-clause-ok : goal.returns-clause-ok
returns-clause-ok c =
    let I = c.args.self.now in
    let J = c.union_sets.new.self in
    let lx = sets_long I c.sets.result.now (env_of_id I c.args.a) c.sets.ensures.sets in
    let ly = sets_long I c.sets-2.result.now (env_of_id I c.args.b) c.sets-2.ensures.sets in
    IfOk-weaker c.union_sets.result (λ u. (u < length J.sets) × IsUnion (set_of_id I c.index-sets-place.result) (set_of_id I c.index-sets-place-2.result) (set_of_id J u))
    (λ u. (u < length J.sets) × IsUnion (set_at (env_of_id I c.args.a) c.args.place) (set_at (env_of_id I c.args.b) c.args.place) (set_of_id J u))
    (λ u h. union_at_place I J c.sets.result.now c.sets-2.result.now (env_of_id I c.args.a) (env_of_id I c.args.b) c.args.place c.index-sets-place.result c.index-sets-place-2.result u
    c.sets.ensures.sets c.sets-2.ensures.sets (omega (arith, c.requires.in_a, lx)) (omega (arith, c.requires.in_b, ly)) c.index-sets-place.is c.index-sets-place-2.is h) c.union_sets.ensures.ok

pub returns-clause-grows : goal.returns-clause-grows
returns-clause-grows c = c.union_sets.ensures.grows
