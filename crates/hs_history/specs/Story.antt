-- Stories: what the workers on a log of entries did, as plain data.
--     Deduction     an entry with a support, from which it follows
--     Action        what a worker does
--     CoreStep      an action of a worker
--     Story         a list of these, the first one first
--     Base          what stays the same
use Rattle.std.specs.Prelude.{◌≡◌, refl, ℕ, Bool, List, Option, ◌⊎◌}
use Rattle.std.proofs.Common.{inl, inr}
use Rattle.std.specs.Coded.{Coded, code_by, coded×, coded⊎, coded_ℕ, coded_bool, coded_list, coded_option}
use Rattle.hs_scheme.specs.Problem.{ProblemData, coded_problem}
use Rattle.hs_table.specs.declared.support.HeadBy.{HeadBy}
use Rattle.hs_table.specs.declared.support.HeadBy.TheVariants.{Terminal, Rule, Param}
use Rattle.hs_table.specs.Entries.{EntryData, coded_entry}
use Rattle.hs_table.specs.Follows.{Support}
use Rattle.hs_history.specs.declared.step.Work.{Work}
use Rattle.hs_history.specs.declared.step.Work.TheVariants.{Seed, Place}

-- the log is to hold at most so many entries; where `first` is set, nothing is taken once it holds the start entry
pub record Base : Type 0 where
  pub problem : ProblemData
  pub budget : ℕ
  pub first : Bool

pub record Deduction : Type 0 where
  pub entry : EntryData
  pub support : Support

-- a work is taken under a ticket; under a ticket an entry is added to the log, or kept where the budget has no room for it; the work under
-- a ticket is closed, or left to others
pub data Action : Type 0 where
  takes : Work → ℕ → Action
  adds : ℕ → Deduction → Action
  passes : ℕ → Deduction → Action
  finishes : ℕ → Action
  gives_back : ℕ → Action

pub record CoreStep : Type 0 where
  pub worker : ℕ
  pub action : Action

abbrev pub Story : Type 0
Story = List CoreStep

-- the codes of these
abbrev pub coded_base : Coded Base
coded_base =
    code_by (ProblemData × (ℕ × Bool)) (coded× coded_problem (coded× coded_ℕ coded_bool)) (λ b. (b.problem, (b.budget, b.first)))
    (λ p. record { problem = p.0; budget = p.1.0; first = p.1.1 }) (λ _. refl)

abbrev head_by_cases : HeadBy → (ℕ × Option ℕ) ⊎ (ℕ ⊎ (ℕ × ℕ))
head_by_cases (Terminal q child) = inl (q, child)
head_by_cases (Rule place) = inr (inl place)
head_by_cases (Param x place) = inr (inr (x, place))

abbrev head_by_of : (ℕ × Option ℕ) ⊎ (ℕ ⊎ (ℕ × ℕ)) → HeadBy
head_by_of (inl c) = Terminal c.0 c.1
head_by_of (inr (inl place)) = Rule place
head_by_of (inr (inr c)) = Param c.0 c.1

pub head_by_of-cases : (h : HeadBy) → head_by_of (head_by_cases h) ≡ h
head_by_of-cases (Terminal q child) = refl
head_by_of-cases (Rule place) = refl
head_by_of-cases (Param x place) = refl

abbrev pub coded_head_by : Coded HeadBy
coded_head_by =
    code_by ((ℕ × Option ℕ) ⊎ (ℕ ⊎ (ℕ × ℕ))) (coded⊎ (coded× coded_ℕ (coded_option coded_ℕ)) (coded⊎ coded_ℕ (coded× coded_ℕ coded_ℕ)))
    head_by_cases head_by_of head_by_of-cases

abbrev pub coded_support : Coded Support
coded_support =
    code_by (HeadBy × List (ℕ × ℕ)) (coded× coded_head_by (coded_list (coded× coded_ℕ coded_ℕ))) (λ s. (s.head, s.args))
    (λ p. record { head = p.0; args = p.1 }) (λ _. refl)

abbrev pub coded_deduction : Coded Deduction
coded_deduction =
    code_by (EntryData × Support) (coded× coded_entry coded_support) (λ d. (d.entry, d.support)) (λ p. record { entry = p.0; support = p.1 }) (λ _. refl)

abbrev work_cases : Work → ℕ ⊎ ℕ
work_cases (Seed p) = inl p
work_cases (Place i) = inr i

abbrev work_of : ℕ ⊎ ℕ → Work
work_of (inl p) = Seed p
work_of (inr i) = Place i

pub work_of-cases : (w : Work) → work_of (work_cases w) ≡ w
work_of-cases (Seed p) = refl
work_of-cases (Place i) = refl

abbrev pub coded_work : Coded Work
coded_work = code_by (ℕ ⊎ ℕ) (coded⊎ coded_ℕ coded_ℕ) work_cases work_of work_of-cases

abbrev ActionCases : Type 0
ActionCases = (Work × ℕ) ⊎ ((ℕ × Deduction) ⊎ ((ℕ × Deduction) ⊎ (ℕ ⊎ ℕ)))

abbrev action_cases : Action → ActionCases
action_cases (takes work ticket) = inl (work, ticket)
action_cases (adds ticket d) = inr (inl (ticket, d))
action_cases (passes ticket d) = inr (inr (inl (ticket, d)))
action_cases (finishes ticket) = inr (inr (inr (inl ticket)))
action_cases (gives_back ticket) = inr (inr (inr (inr ticket)))

abbrev action_of_cases : ActionCases → Action
action_of_cases (inl c) = takes c.0 c.1
action_of_cases (inr (inl c)) = adds c.0 c.1
action_of_cases (inr (inr (inl c))) = passes c.0 c.1
action_of_cases (inr (inr (inr (inl ticket)))) = finishes ticket
action_of_cases (inr (inr (inr (inr ticket)))) = gives_back ticket

pub action_of_cases-cases : (a : Action) → action_of_cases (action_cases a) ≡ a
action_of_cases-cases (takes work ticket) = refl
action_of_cases-cases (adds ticket d) = refl
action_of_cases-cases (passes ticket d) = refl
action_of_cases-cases (finishes ticket) = refl
action_of_cases-cases (gives_back ticket) = refl

abbrev pub coded_action : Coded Action
coded_action =
    code_by ActionCases
    (coded⊎ (coded× coded_work coded_ℕ) (coded⊎ (coded× coded_ℕ coded_deduction) (coded⊎ (coded× coded_ℕ coded_deduction) (coded⊎ coded_ℕ coded_ℕ))))
    action_cases action_of_cases action_of_cases-cases

abbrev pub coded_core_step : Coded CoreStep
coded_core_step = code_by (ℕ × Action) (coded× coded_ℕ coded_action) (λ s. (s.worker, s.action)) (λ p. record { worker = p.0; action = p.1 }) (λ _. refl)

abbrev pub coded_story : Coded (List CoreStep)
coded_story = coded_list coded_core_step
