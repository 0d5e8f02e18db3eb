-- What follows at each dependent of a point.
use Rattle.std.proofs.Common.{◌≡◌, sym, ◌∙◌, subst, ℕ, ◌<◌, List, length, get_or, slice_get, Some, Contains}
use Rattle.std.proofs.lemmas.Option.{same_Some, get_or_from_slice_get}
use Rattle.hs_scheme.specs.flow.Dependents.{IsDependent}
use Rattle.hs_scheme.specs.Problem.{ProblemData}
use Rattle.hs_scheme.proofs.Lists.{slice_get-read}
use Rattle.hs_table.specs.Entries.{EntryData}
use Rattle.hs_table.specs.Follows.{Support}
use Rattle.hs_flow.specs.Dependents.{HasDependents, list_of}
use Rattle.hs_rank.specs.Following.{HasAtBy, HasPlaceBy}

pub place_whole : (p : ProblemData) (log : List EntryData) (place : ℕ) (Is : Support → EntryData → Type 0) (at : EntryData) (lists : List (List ℕ)) (items : List ℕ) → slice_get log place ≡ Some at
    → HasDependents p.points p.flow.pairs lists → items ≡ list_of lists at.point → ((k : ℕ) → k < length items → HasAtBy p log place (get_or items k 0) Is) → HasPlaceBy p log place Is
place_whole p log place Is at lists items here dependents is all at' e s here' depends follows among =
    let same : at' ≡ at = same_Some at' at (sym here' ∙ here) in
    let depends' = subst (λ (x : EntryData). IsDependent p.points p.flow.pairs x.point e.point) same depends in
    let listed = subst (λ xs. Contains xs e.point) (sym is) ((dependents.exact at.point e.point).1 depends') in
    let found = get_or_from_slice_get items listed.0 e.point 0 (slice_get-read items listed.0 e.point listed.1 listed.2) in
    all listed.0 listed.1 s e (sym found) follows among
