-- How the fields of a core hang together.
--     Fields              what the fields of a core are
--     story_of            the story that the journal tells beside the log
--     Shows               the fields are what the state has
--     IsReadable          what an event names is there
--     KnowsStart          the place of the start entry
--     HasRoom             for `spare` events there is room in every field
--     IsInside            all of these
use Rattle.std.specs.Prelude.{◌≡◌, ℕ, ◌+◌, ◌*◌, ◌<◌, ◌≤◌, List, All, length, Option, Some, None, IsSome, option_map}
use Rattle.hs_scheme.specs.Problem.{ProblemData}
use Rattle.hs_table.specs.Entries.{EntryData}
use Rattle.hs_table.specs.Follows.{Support}
use Rattle.hs_table.specs.Tables.{HasStart}
use Rattle.hs_types.specs.Interned.{InternerData, IsRow}
use Rattle.hs_rules.specs.Conclusions.{DeducedData}
use Rattle.hs_history.specs.declared.step.Work.{Work}
use Rattle.hs_history.specs.declared.step.Flight.{Flight}
use Rattle.hs_history.specs.declared.step.Step.{Step}
use Rattle.hs_history.specs.declared.step.Event.{Event}
use Rattle.hs_history.specs.declared.step.Event.TheVariants.{Take, Added, PastBudget, Finish, GiveBack}
use Rattle.hs_history.specs.Story.{Base, Deduction, Story}
use Rattle.hs_history.specs.CoreStep.{State}
use Rattle.hs_history.specs.History.{state_after, IsLegal, told}
use Rattle.hs_core.specs.Core.{deduction_of, StartsAt}

-- the fields as plain data
pub record Fields : Type 0 where
  pub ids : InternerData
  pub log : List EntryData
  pub supports : List Support
  pub pending : List Work
  pub flight : ℕ → Option Flight
  pub past : Option DeducedData
  pub journal : List Step
  pub start : Option ℕ

abbrev pub kept_in : InternerData → Option DeducedData → Option Deduction
kept_in ids past = option_map (deduction_of ids) past

abbrev pub story_in : InternerData → List EntryData → List Support → Option DeducedData → List Step → Story
story_in ids log supports past journal = told log supports (kept_in ids past) journal

abbrev pub story_of : Fields → Story
story_of f = story_in f.ids f.log f.supports f.past f.journal

pub record Shows (s : State) (f : Fields) : Type 0 where
  pub log : s.log ≡ f.log
  pub supports : s.supports ≡ f.supports
  pub pending : s.pending ≡ f.pending
  pub flight : (ticket : ℕ) → s.flight ticket ≡ f.flight ticket
  pub kept : s.kept ≡ kept_in f.ids f.past

abbrev pub EventIsReadable : ℕ → Option DeducedData → Event → Type 0
EventIsReadable n past (Take work ticket) = Unit {0}
EventIsReadable n past (Added ticket place) = place < n
EventIsReadable n past (PastBudget ticket) = IsSome past
EventIsReadable n past (Finish ticket) = Unit {0}
EventIsReadable n past (GiveBack ticket) = Unit {0}

abbrev pub IsReadable : ℕ → Option DeducedData → List Step → Type 0
IsReadable n past journal = All (λ (s : Step). EventIsReadable n past s.event) journal

pub record KnowsStart (p : ProblemData) (log : List EntryData) (start : Option ℕ) : Type 0 where
  pub place : (i : ℕ) → start ≡ Some i → StartsAt p log i
  pub none : start ≡ None → HasStart p log → ⊥

-- the numbers of a core: events for which there is room, works in flight, and of each list how many items it has and how many it can have; of
-- the pending works and of the journal for how many more there is room
pub record Counts : Type 0 where
  pub spare : ℕ
  pub replica : ℕ
  pub held : ℕ
  pub tickets : ℕ
  pub supports : ℕ
  pub supports_room : ℕ
  pub pending_room : ℕ
  pub journal_room : ℕ

pub record HasRoom (n : Counts) : Type 0 where
  pub replica : n.spare ≤ n.replica
  pub tickets : n.held + n.spare ≤ n.tickets
  pub supports : n.supports + n.spare ≤ n.supports_room
  pub pending : n.held + n.spare ≤ n.pending_room
  pub journal : n.held + 2 * n.spare ≤ n.journal_room

pub record IsInside (base : Base) (f : Fields) : Type 0 where
  pub least_budget : 1 ≤ base.budget
  pub greatest_budget : base.budget ≤ 1000000
  pub legal : IsLegal base (story_of f)
  pub shows : Shows (state_after base (story_of f)) f
  pub rows : (d : DeducedData) → f.past ≡ Some d → IsRow f.ids d.row
  pub readable : IsReadable (length f.log) f.past f.journal
  pub start : KnowsStart base.problem f.log f.start
