-- The work that is pending first: seen, taken, and, where it is a seed, passed.
use Rattle.std.proofs.Common.{◌≡◌, refl, sym, ◌∙◌, ap, subst, ℕ, ◌-◌, true, List, [], ◌∷◌, ◌++◌, drop, slice_get, Option, Some, None, inl, inr}
use Rattle.std.proofs.lemmas.Bool.{cases_eq}
use Rattle.hs_scheme.proofs.Lists.{Contains-at}
use Rattle.hs_table.specs.Entries.{EntryData}
use Rattle.hs_history.specs.declared.step.Work.{Work}
use Rattle.hs_history.specs.declared.step.Work.TheVariants.{Seed}
use Rattle.hs_history.specs.declared.step.Flight.{Flight}
use Rattle.hs_history.specs.declared.step.Event.TheVariants.{Take, Finish}
use Rattle.hs_history.specs.Story.{Base, takes, finishes}
use Rattle.hs_history.specs.CoreStep.{put, GoesOn, CanTake, CanFinish, IsClosedSeed}
use Rattle.hs_history.proofs.Works.{put_here, put_other}
use Rattle.hs_core.specs.Core.{CoreData, state_of, log_of, stepped}
use Rattle.hs_core.specs.Answers.{IsFound}
use Rattle.hs_core.specs.Draining.{NothingFlies, IsNextSeed, passed_by}
use Rattle.hs_core.specs.Inside.{Fields, IsInside}
use Rattle.hs_core.proofs.Stepping.{state_in, can_take, Goes, taken, takes_goes, finished, finishes_goes, goes_as, value_of, steps_to, seen, seen_base, seen_kept, none_past, no_start, goes_on}

-- a list with a first item, and one without
pub first_of : (xs : List Work) (w : Work) → slice_get xs 0 ≡ Some w → xs ≡ w ∷ drop 1 xs
first_of [] w e = absurd (cc)
first_of (x ∷ xs) w e = let same : x ≡ w = (cc) in ap (λ (y : Work). y ∷ xs) same

pub none_of : (xs : List Work) → slice_get xs 0 ≡ None → xs ≡ []
none_of [] e = refl
none_of (x ∷ xs) e = absurd (cc)

-- a ticket that is used and free again
pub put_back : (flown : Option Flight) (flight : ℕ → Option Flight) → flight 0 ≡ None → (t : ℕ) → flight t ≡ put 0 None (put 0 flown flight) t
put_back flown flight free t = elim (cases_eq t 0) [
  | inl same ↦ ap flight same ∙ free ∙ sym (put_here 0 None (put 0 flown flight)) ∙ ap (λ n. put 0 None (put 0 flown flight) n) (sym same)
  | inr ne ↦ sym (put_other 0 t None (put 0 flown flight) ne ∙ put_other 0 t flown flight ne)
]

module _ (base : Base) (f : Fields) (inside : IsInside base f) (spare : ℕ) (v : CoreData) (is : value_of base f spare ≡ v) where
  pub next_seen : (point : ℕ) (rest : List Work) → ((place : ℕ) → IsFound v place → ⊥) → f.past ≡ None → f.pending ≡ Seed point ∷ rest → IsNextSeed v point
  next_seen point rest never none front = record {
    none_kept = seen_kept base f inside spare v is none;
    goes_on = goes_on base f inside spare v is never;
    rest = rest;
    pending = (seen base f inside spare v is).pending ∙ front;
  }

  -- works are given out, and this one is the first
  module _ (work : Work) (rest : List Work) (none_kept : (state_of v).kept ≡ None) (on : GoesOn v.base (log_of v)) (pending : (state_of v).pending ≡ work ∷ rest) where
    pub never : (place : ℕ) → IsFound v place → ⊥
    never place found = on found.first (found.start.entry, (found.start.is_start, Contains-at (log_of v) place found.start.entry found.start.at))

    pub none : f.past ≡ None
    none = none_past base f inside spare v is none_kept

    pub not_first : base.first ≡ true → f.start ≡ None
    not_first = no_start base f inside spare v is never

    pub front : f.pending ≡ work ∷ rest
    front = sym (seen base f inside spare v is).pending ∙ pending

    module _ (worker ticket : ℕ) (free : f.flight ticket ≡ None) where
      abbrev pub first_taken : Fields
      first_taken = taken base f inside worker ticket work rest none not_first front free

      pub first_goes : Goes base f (record { worker = worker; action = takes work ticket }) first_taken
      first_goes = takes_goes base f inside worker ticket work rest none not_first front free

      pub first_can : CanTake v.base (state_of v) work ticket
      first_can = subst (λ (w : CoreData). CanTake w.base (state_of w) work ticket) is (can_take base f inside worker ticket work rest none not_first front free)

  module _ (point : ℕ) (next : IsNextSeed v point) where
    pub seed_front : f.pending ≡ Seed point ∷ next.rest
    seed_front = front (Seed point) next.rest next.none_kept next.goes_on next.pending

    module _ (worker : ℕ) (flies : NothingFlies v) (closed : IsClosedSeed v.base.problem (log_of v) point) where
      pub free : f.flight 0 ≡ None
      free = sym ((seen base f inside spare v is).flight 0) ∙ flies 0

      abbrev holding : Fields
      holding = first_taken (Seed point) next.rest next.none_kept next.goes_on next.pending worker 0 free

      goes : Goes base f (record { worker = worker; action = takes (Seed point) 0 }) holding
      goes = first_goes (Seed point) next.rest next.none_kept next.goes_on next.pending worker 0 free

      can : CanFinish base (state_in base holding) worker 0
      can = record {
        work = Seed point;
        holds = goes.inside.shows.flight 0 ∙ put_here 0 (Some (record { worker = worker; work = Seed point })) f.flight;
        closed =
            subst (λ (b : Base). IsClosedSeed b.problem (state_in base holding).log point) (sym (seen_base base f inside spare v is))
            (subst (λ (xs : List EntryData). IsClosedSeed v.base.problem xs point) ((seen base f inside spare v is).log ∙ sym goes.inside.shows.log) closed);
      }

      abbrev pub passed_seed : Fields
      passed_seed = record {
        ids = f.ids;
        log = f.log;
        supports = f.supports;
        pending = next.rest;
        flight = f.flight;
        past = f.past;
        journal = (f.journal ++ (record { worker = worker; event = Take (Seed point) 0 }) ∷ []) ++ (record { worker = worker; event = Finish 0 }) ∷ [];
        start = f.start;
      }

      pub passed_goes : Goes base holding (record { worker = worker; action = finishes 0 }) passed_seed
      passed_goes =
          goes_as base holding (record { worker = worker; action = finishes 0 }) (finished base holding goes.inside worker 0 can) passed_seed (finishes_goes base holding goes.inside worker 0 can)
          (λ i. record {
            ids = f.ids;
            log = f.log;
            supports = f.supports;
            pending = next.rest;
            flight = λ t. put_back (Some (record { worker = worker; work = Seed point })) f.flight free t i;
            past = f.past;
            journal = (f.journal ++ (record { worker = worker; event = Take (Seed point) 0 }) ∷ []) ++ (record { worker = worker; event = Finish 0 }) ∷ [];
            start = f.start;
          })

      pub passed_value : value_of base passed_seed (spare - 1) ≡ passed_by v worker point (v.spare - 1)
      passed_value =
          let k = v.spare - 1 in
          steps_to base holding passed_seed worker (finishes 0) (spare - 1) (spare - 1) k (stepped v worker (takes (Seed point) 0) k)
          (steps_to base f holding worker (takes (Seed point) 0) spare (spare - 1) k v is goes refl (ap (λ (w : CoreData). w.spare - 1) is)) passed_goes refl (ap (λ (w : CoreData). w.spare - 1) is)
