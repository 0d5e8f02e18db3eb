use Rattle.std.proofs.Common.{◌≡◌, sym, ◌∙◌, ap, subst, slice_get, Some, option_map, Contains}
use Rattle.std.proofs.lemmas.Option.{slice_get-map}
use Rattle.hs_types.specs.Interned.{IsRow, entry_of}
use Rattle.hs_replica.specs.Replica.{ReplicaData}
use Rattle.hs_replica.proofs.KeptLemmas.{found_at, found_nowhere, row_there}
use Rattle.hs_replica.proofs.replica.Replica.find.Goals as goal

pub returns-in-Some-clause-found : goal.returns-in-Some-clause-found
returns-in-Some-clause-found c =
    let a = c.self.inside in
    subst (λ (r : ReplicaData). slice_get r.log c.in-Some.place ≡ Some (entry_of r.ids c.args.row)) c.self.view_is
    (slice_get-map (entry_of a.interner) a.rows.keys c.in-Some.place ∙ ap (option_map (entry_of a.interner)) (found_at c.args.row a.rows.keys c.in-Some.place (sym c.in-Some.ensures.index)))

pub returns-in-None-clause-absent : goal.returns-in-None-clause-absent
returns-in-None-clause-absent c =
    let a = c.self.inside in
    subst (λ (r : ReplicaData). Contains r.log (entry_of r.ids c.args.row) → ⊥) c.self.view_is
    (λ h. found_nowhere c.args.row a.rows.keys c.in-None.ensures.found
    (row_there a.interner c.know_numbers.ensures a.rows.keys c.self.invariant.known c.args.row (subst (λ (r : ReplicaData). IsRow r.ids c.args.row) (sym c.self.view_is) c.requires) h))
