use Rattle.std.proofs.Common.{arith}
use Rattle.hs_table_laws.proofs.Places.{place_of, within_from}
use Rattle.hs_types.specs.Interned.{type_of_id}
use Rattle.hs_replica.specs.Replica.{typed_to}
use Rattle.hs_rules.proofs.FillLemmas.{none_below, none_first}
use Rattle.hs_rules.proofs.search.has_candidate.Goals as goal

pub returns-then-places-eq0 : goal.returns-then-places-eq0
returns-then-places-eq0 c =
    let r = c.args.replica.now in
    let places = c.with_type-places.result.now in
    none_below r.log (typed_to r c.args.point) c.args.limit c.args.point (type_of_id r.ids c.args.ty) places c.requires.listed c.with_type-places.ensures
    (λ place there lt. let p = place_of places place there in let w = within_from places p.0 place p.1 in omega (arith, w, c.if-places-eq0.true))

pub returns-then-places-limit : goal.returns-then-places-limit
returns-then-places-limit c =
    let r = c.args.replica.now in
    let places = c.with_type-places.result.now in
    none_below r.log (typed_to r c.args.point) c.args.limit c.args.point (type_of_id r.ids c.args.ty) places c.requires.listed c.with_type-places.ensures
    (none_first places c.args.limit c.with_type-places.ensures.ascending (omega (arith, c.if-places-eq0.false)) c.if-places-limit.true)
