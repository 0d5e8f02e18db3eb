-- A core in which nothing has happened.
use Rattle.std.proofs.Common.{◌≡◌, refl, ◌≤◌, ℕ, [], Some, None, length}
use Rattle.std.proofs.lemmas.List.Elements.{All-nil}
use Rattle.hs_scheme.proofs.Lists.{none_in}
use Rattle.hs_types.specs.Interned.{InternerData}
use Rattle.hs_rules.specs.Conclusions.{DeducedData}
use Rattle.hs_history.specs.declared.step.Step.{Step}
use Rattle.hs_history.specs.Story.{Base}
use Rattle.hs_history.specs.CoreStep.{seeds}
use Rattle.hs_core.specs.Inside.{Fields, EventIsReadable, IsInside}

abbrev pub fresh : ℕ → InternerData → Fields
fresh n ids = record { ids = ids; log = []; supports = []; pending = seeds n; flight = λ ticket. None; past = None; journal = []; start = None }

pub inside_fresh : (base : Base) (ids : InternerData) → 1 ≤ base.budget → base.budget ≤ 1000000 → IsInside base (fresh (length base.problem.points.points) ids)
inside_fresh base ids least greatest = record {
  least_budget = least;
  greatest_budget = greatest;
  legal = tt;
  shows = record { log = refl; supports = refl; pending = refl; flight = λ t. refl; kept = refl };
  rows = λ d e. absurd (no_deduction d e);
  readable = All-nil (λ (s : Step). EventIsReadable 0 None s.event);
  start = record { place = λ i e. absurd (no_place i e); none = λ e has. none_in has.0 has.1.1 };
}
  where
    no_deduction : (d : DeducedData) → None ≡ Some d → ⊥
    no_deduction d e = cc

    no_place : (i : ℕ) → None ≡ Some i → ⊥
    no_place i e = cc
