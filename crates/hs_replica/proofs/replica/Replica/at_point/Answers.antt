use Rattle.std.proofs.Common.{sym, subst, ℕ, ◌<◌, List, Contains, ◌↔◌}
use Rattle.hs_replica.specs.declared.key.Key.TheVariants.{At}
use Rattle.hs_replica.specs.Replica.{ReplicaData}
use Rattle.hs_replica.specs.Places.{here, ArePlaces}
use Rattle.hs_replica.specs.Index.{log_of, list_at, reach, RisesTo}
use Rattle.hs_replica.proofs.KeptLemmas.{places_of}
use Rattle.hs_replica.proofs.replica.Replica.at_point.Goals as goal

pub below-requires : goal.below-requires
below-requires c =
    let a = c.self.inside in
    subst (λ (xs : List ℕ). RisesTo a.indexed xs) (sym c.list_of.ensures) (c.self.invariant.index.rises (At c.args.point))

pub returns : goal.returns
returns c =
    let a = c.self.inside in
    let point = c.args.point in
    subst (λ (r : ReplicaData). ArePlaces r.log r.indexed (here point) c.below.result.now) c.self.view_is
    (places_of a.interner c.know_numbers.ensures (log_of a.interner a.rows.keys) (reach a.by_type.items a.asked.items a.indexed) a.indexed (list_at a.lists) c.self.invariant.index (At point) tt
    (λ i lt. c.self.invariant.index.complete i (here point) lt)
    c.below.result.now c.below.ensures.ascending
    (subst (λ (xs : List ℕ). (i : ℕ) → Contains c.below.result.now i ↔ ((i < a.indexed) × Contains xs i)) c.list_of.ensures c.below.ensures.exact))
