-- A core in which nothing has happened, and its first step.
use Rattle.std.proofs.Common.{◌≡◌, refl, sym, ◌∙◌, ap, subst, ℕ, zero, suc, ◌-◌, List, [], ◌∷◌, length, Some, None, IsSome, arith}
use Rattle.std.proofs.lemmas.Bool.{false≢true}
use Rattle.std.proofs.lemmas.List.{length-append}
use Rattle.hs_scheme.specs.flow.Points.{PointData}
use Rattle.hs_scheme.specs.Problem.{ProblemData}
use Rattle.hs_table_laws.proofs.Places.{within_from}
use Rattle.hs_history.specs.declared.step.Flight.{Flight}
use Rattle.hs_history.specs.declared.step.Work.{Work}
use Rattle.hs_history.specs.declared.step.Work.TheVariants.{Seed}
use Rattle.hs_history.specs.Story.{Story, takes}
use Rattle.hs_history.specs.CoreStep.{State, seeds, opening, Holds, after}
use Rattle.hs_history.specs.History.{state_after}
use Rattle.hs_history.proofs.Histories.{state_push}
use Rattle.hs_history.proofs.Works.{put_here}
use Rattle.hs_core.specs.Core.{CoreData, state_of, stepped}
use Rattle.hs_rank.specs.Canonical.{IsCanonicalLog}
use Rattle.hs_rank.proofs.Filling.{nothing_ranked}
use Rattle.hs_rank.proofs.Backing.{supported_none, canonical_log}
use Rattle.hs_canonical.specs.Publishing.{HasNoStory, HasNothing}

seeds_none : (n : ℕ) → seeds n ≡ [] → n ≡ 0
seeds_none zero e = refl
seeds_none (suc n) e = absurd (omega (arith, ap (λ (ws : List Work). length ws) e, length-append (seeds n) (Seed n ∷ [])))

empty : {X : Type 0} (xs : List X) → length xs ≡ 0 → xs ≡ []
empty [] e = refl
empty (x ∷ xs) e = absurd (omega (arith, e))

module _ (old new : CoreData) (worker : ℕ) (opened : HasNoStory old) where
  begun : state_of old ≡ opening old.base
  begun = ap (λ (s : Story). state_after old.base s) opened

  module _ (work : Work) (ticket : ℕ) (step : new ≡ stepped old worker (takes work ticket) (old.spare - 1)) where
    then : state_of new ≡ after (opening old.base) (record { worker = worker; action = takes work ticket })
    then =
        ap state_of step
        ∙ (state_push old.base old.story (record { worker = worker; action = takes work ticket }) ∙ ap (λ (s : State). after s (record { worker = worker; action = takes work ticket })) begun)

    pub taken : Holds (state_of new) worker ticket
    taken = subst (λ (u : State). Holds u worker ticket) (sym then) (work, put_here ticket (Some (record { worker = worker; work = work })) (λ other. None))

    pub taken_nothing : HasNothing new
    taken_nothing = record { log = ap (λ (u : State). u.log) then; supports = ap (λ (u : State). u.supports) then }

  pub same_nothing : new ≡ old → HasNothing new
  same_nothing same =
      let t : state_of new ≡ opening old.base = ap state_of same ∙ begun in
      record { log = ap (λ (u : State). u.log) t; supports = ap (λ (u : State). u.supports) t }

  pub no_points : (state_of old).pending ≡ [] → old.base.problem.points.points ≡ []
  no_points rest = empty old.base.problem.points.points (seeds_none (length old.base.problem.points.points) (sym (ap (λ (s : State). s.pending) begun) ∙ rest))

  pub none_kept : IsSome (state_of old).kept → ⊥
  none_kept some = false≢true (subst (λ (s : State). IsSome s.kept) begun some)

  pub none_flies : (ticket : ℕ) (flown : Flight) → (state_of old).flight ticket ≡ Some flown → ⊥
  none_flies ticket flown is = let f : None ≡ Some flown = sym (ap (λ (s : State). s.flight ticket) begun) ∙ is in cc

-- without points nothing follows
pub nothing_canonical : (p : ProblemData) → p.points.points ≡ [] → IsCanonicalLog p [] []
nothing_canonical p none =
    canonical_log p [] []
    (record {
      supported = (nothing_ranked p).supported;
      closed = λ e follows. absurd (omega (arith, within_from p.points.points e.point follows.1.of follows.1.at, ap (λ (ps : List PointData). length ps) none));
    }) (nothing_ranked p).order (supported_none p)
