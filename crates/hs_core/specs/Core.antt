-- What contracts see of a core: what stays the same, the types that have numbers, what has happened, and for how many events there is room.
--     CoreData            these four
--     state_of, log_of    the state that the story leads to; its log
--     deduction_of        a row with its support, read in an interner
--     stepped             a core after one more step
--     StartsAt            the start entry stands at a place of a log
--     IsCore              what holds of each core
use Rattle.std.specs.Prelude.{◌≡◌, refl, ℕ, ◌≤◌, List, [], ◌∷◌, ◌++◌, slice_get, Some}
use Rattle.std.specs.Coded.{Coded, code_by, coded×, coded_ℕ}
use Rattle.hs_scheme.specs.Problem.{ProblemData}
use Rattle.hs_table.specs.Entries.{EntryData}
use Rattle.hs_table.specs.Tables.{IsStart}
use Rattle.hs_types.specs.Interned.{InternerData, coded_interner, IsInterner, entry_of}
use Rattle.hs_rules.specs.Conclusions.{DeducedData}
use Rattle.hs_history.specs.Story.{Base, coded_base, Deduction, Action, Story, coded_story}
use Rattle.hs_history.specs.CoreStep.{State}
use Rattle.hs_history.specs.History.{state_after, IsLegal}

pub record CoreData : Type 0 where
  pub base : Base
  pub ids : InternerData
  pub story : Story
  pub spare : ℕ

abbrev pub coded_core : Coded CoreData
coded_core =
    code_by (Base × (InternerData × (Story × ℕ))) (coded× coded_base (coded× coded_interner (coded× coded_story coded_ℕ)))
    (λ c. (c.base, (c.ids, (c.story, c.spare)))) (λ p. record { base = p.0; ids = p.1.0; story = p.1.1.0; spare = p.1.1.1 }) (λ _. refl)

abbrev pub state_of : CoreData → State
state_of c = state_after c.base c.story

abbrev pub log_of : CoreData → List EntryData
log_of c = (state_of c).log

abbrev pub deduction_of : InternerData → DeducedData → Deduction
deduction_of ids d = record { entry = entry_of ids d.row; support = d.support }

-- the worker did this, and so much room is left
abbrev pub stepped : CoreData → ℕ → Action → ℕ → CoreData
stepped c worker action spare = record { base = c.base; ids = c.ids; story = c.story ++ (record { worker = worker; action = action }) ∷ []; spare = spare }

pub record StartsAt (p : ProblemData) (log : List EntryData) (place : ℕ) : Type 0 where
  pub entry : EntryData
  pub at : slice_get log place ≡ Some entry
  pub is_start : IsStart p entry

pub record IsCore (c : CoreData) : Type 0 where
  pub legal : IsLegal c.base c.story
  pub least_budget : 1 ≤ c.base.budget
  pub greatest_budget : c.base.budget ≤ 1000000
  pub ids : IsInterner c.ids
