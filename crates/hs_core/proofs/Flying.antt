-- What is in flight, and what closing a work leaves.
use Rattle.std.proofs.Common.{◌≡◌, sym, ◌∙◌, ap, subst, ℕ, List, Bool, true, false, Option, Some, None, IsSome, inl, inr, Result, Ok, Err}
use Rattle.std.specs.Bool.{MatchBool}
use Rattle.std.specs.Result.{IfOk}
use Rattle.std.proofs.lemmas.Bool.{cases_eq}
use Rattle.hs_table.specs.Entries.{EntryData}
use Rattle.hs_history.specs.declared.step.Work.{Work}
use Rattle.hs_history.specs.declared.step.Flight.{Flight}
use Rattle.hs_history.specs.Story.{Base, finishes, gives_back}
use Rattle.hs_history.specs.CoreStep.{State, put, IsClosedWork}
use Rattle.hs_history.specs.History.{IsWork}
use Rattle.hs_history.proofs.Histories.{holds_after}
use Rattle.hs_history.proofs.Works.{put_here, put_other}
use Rattle.hs_core.specs.Core.{CoreData, IsCore, state_of, log_of, stepped}
use Rattle.hs_core.specs.Draining.{GoesAlone, Closes}
use Rattle.hs_core.proofs.Moving.{alone_step, state_stepped}

-- a work in flight is one
pub flying_work : (c : CoreData) → IsCore c → (t worker : ℕ) (w : Work) → (state_of c).flight t ≡ Some (record { worker = worker; work = w }) → IsWork c.base.problem (log_of c) w
flying_work c is t worker w h = (holds_after c.base c.story is.legal).sound.real w (inr (inl (t, worker, h)))

pub put_same : (ticket : ℕ) (x : Option Flight) (f g : ℕ → Option Flight) → ((t : ℕ) → g t ≡ f t) → (t : ℕ) → put ticket x g t ≡ put ticket x f t
put_same ticket x f g same t = elim (cases_eq t ticket) [
  | inl is ↦ ap (λ n. put ticket x g n) is ∙ put_here ticket x g ∙ sym (ap (λ n. put ticket x f n) is ∙ put_here ticket x f)
  | inr ne ↦ put_other ticket t x g ne ∙ same t ∙ sym (put_other ticket t x f ne)
]

-- closing and giving back
pub finished_flight : (a b : CoreData) (worker ticket spare : ℕ) → b ≡ stepped a worker (finishes ticket) spare → (t : ℕ) → (state_of b).flight t ≡ put ticket None (state_of a).flight t
finished_flight a b worker ticket spare is t = ap (λ (s : State). s.flight t) (state_stepped a b worker (finishes ticket) spare is)

pub given_flight : (a b : CoreData) (worker ticket spare : ℕ) → b ≡ stepped a worker (gives_back ticket) spare → (t : ℕ) → (state_of b).flight t ≡ put ticket None (state_of a).flight t
given_flight a b worker ticket spare is t = ap (λ (s : State). s.flight t) (state_stepped a b worker (gives_back ticket) spare is)

-- the work is closed, or an entry is kept past the budget
abbrev pub Said : {E : Type 0} → CoreData → Work → Result Bool E → Type 0
Said c work all = IfOk all (λ x. MatchBool x (IsClosedWork c.base.problem (log_of c) work) (IsSome (state_of c).kept))

-- the end of a work, whichever it is
module _ {E : Type 0} (a b : CoreData) (worker ticket : ℕ) where
  pub closes_goes : (all : Result Bool E) → Closes a worker ticket all b → GoesAlone worker a b
  closes_goes (Ok true) is = alone_step a b (finishes ticket) a.spare is
  closes_goes (Ok false) is = alone_step a b (gives_back ticket) a.spare is
  closes_goes (Err e) is = alone_step a b (gives_back ticket) a.spare is

  pub closes_flight : (all : Result Bool E) → Closes a worker ticket all b → (t : ℕ) → (state_of b).flight t ≡ put ticket None (state_of a).flight t
  closes_flight (Ok true) is = finished_flight a b worker ticket a.spare is
  closes_flight (Ok false) is = given_flight a b worker ticket a.spare is
  closes_flight (Err e) is = given_flight a b worker ticket a.spare is

  pub closes_said : (work : Work) (all : Result Bool E) → Closes a worker ticket all b → Said a work all → Said b work all
  closes_said work (Ok true) is closed =
      let base : b.base ≡ a.base = ap (λ (c : CoreData). c.base) is in
      let log : log_of b ≡ log_of a = ap (λ (s : State). s.log) (state_stepped a b worker (finishes ticket) a.spare is) in
      subst (λ (x : Base × List EntryData). IsClosedWork x.0.problem x.1 work) (λ i. (sym base i, sym log i)) closed
  closes_said work (Ok false) is kept = subst IsSome (sym (ap (λ (s : State). s.kept) (state_stepped a b worker (gives_back ticket) a.spare is))) kept
  closes_said work (Err e) is h = tt
