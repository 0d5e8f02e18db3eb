use Rattle.std.proofs.Common.{◌≡◌, sym, ◌∙◌, ap, subst, arith, ℕ, ◌<◌, List, get_or, Contains, ◌↔◌}
use Rattle.hs_replica.specs.Replica.{ReplicaData, typed_to}
use Rattle.hs_replica.specs.Places.{ArePlaces}
use Rattle.hs_replica.specs.Index.{log_of, list_at, question, reach, IsKey, RisesTo}
use Rattle.hs_replica.proofs.KeptLemmas.{places_of, reach_by_type}
use Rattle.hs_replica.proofs.replica.Replica.places.Goals as goal

pub below-requires : goal.below-requires
below-requires c =
    let a = c.self.inside in
    let key = c.args.key in
    let end = reach_by_type a.interner a.by_type.items a.asked.items a.indexed c.args.point key c.requires.by_type ∙ ap (λ (xs : List ℕ). get_or xs c.args.point 0) (sym c.as_slice.ensures.value) ∙ sym c.number_of-end.ensures in
    subst (λ (xs : List ℕ). RisesTo c.number_of-end.result xs) (sym c.list_of.ensures)
    (subst (λ (n : ℕ). RisesTo n (list_at a.lists key)) end (c.self.invariant.index.rises key))

pub returns : goal.returns
returns c =
    let a = c.self.inside in
    let key = c.args.key in
    let point = c.args.point in
    let end : c.number_of-end.result ≡ get_or a.by_type.items point 0 = c.number_of-end.ensures ∙ ap (λ (xs : List ℕ). get_or xs point 0) c.as_slice.ensures.value in
    let told = reach_by_type a.interner a.by_type.items a.asked.items a.indexed point key c.requires.by_type in
    subst (λ (r : ReplicaData). ArePlaces r.log (typed_to r point) (question r.ids key) c.below.result.now) c.self.view_is
    (places_of a.interner c.know_numbers.ensures (log_of a.interner a.rows.keys) (reach a.by_type.items a.asked.items a.indexed) (get_or a.by_type.items point 0) (list_at a.lists) c.self.invariant.index key
    (subst (λ (r : ReplicaData). IsKey r.ids key) (sym c.self.view_is) c.requires.known)
    (λ i lt. c.self.invariant.index.complete i (question a.interner key) (omega (arith, lt, told)))
    c.below.result.now c.below.ensures.ascending
    (λ i. subst (λ (n : ℕ). Contains c.below.result.now i ↔ ((i < n) × Contains (list_at a.lists key) i)) end
    (subst (λ (xs : List ℕ). Contains c.below.result.now i ↔ ((i < c.number_of-end.result) × Contains xs i)) c.list_of.ensures (c.below.ensures.exact i))))
