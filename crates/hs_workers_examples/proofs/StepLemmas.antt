-- What a worker knows after each answer of the core.
use Rattle.std.proofs.Common.{◌≡◌, refl, sym, ◌∙◌, ap, subst, ℕ, ◌-◌, List, [], ◌∷◌, Option, Some, None, Result, Ok, IfOk}
use Rattle.std.proofs.lemmas.List.{append-nil}
use Rattle.hs_shared.proofs.Seen.{prefix_trans}
use mathlib.Core.List.{IsPrefix}
use Rattle.hs_scheme.specs.Problem.{ProblemData}
use Rattle.hs_table.specs.Entries.{EntryData}
use Rattle.hs_history.specs.declared.step.Work.{Work}
use Rattle.hs_history.specs.Story.{Base, Deduction, Action, takes, adds, passes, finishes, gives_back, Story}
use Rattle.hs_history.specs.CoreStep.{State, acted}
use Rattle.hs_history.specs.History.{state_after}
use Rattle.hs_history.proofs.Works.{put_here}
use Rattle.hs_core.specs.declared.answers.Taken.{Taken}
use Rattle.hs_core.specs.declared.answers.Taken.TheVariants.{Item, Quiet, Idle, Over, Found}
use Rattle.hs_core.specs.declared.answers.Published.{Published}
use Rattle.hs_core.specs.declared.answers.Published.TheVariants.{Known, Added, Over as NoRoom}
use Rattle.hs_core.specs.Core.{CoreData, state_of, stepped}
use Rattle.hs_core.specs.Answers.{Takes, Publishes, AddsOrPasses}
use Rattle.hs_core.proofs.Moving.{state_stepped}
use Rattle.hs_workers_examples.specs.Working.{WorkHeld, IsAtWork, held_after}

-- what was expected
module _ {A E : Type 0} where
  pub expected : (P : A → Type 0) (r : Result A E) (x : A) → r ≡ Ok x → IfOk r P → P x
  expected P r x is h = subst (λ o. IfOk o P) is h

acted_grows : (s : State) (worker : ℕ) (action : Action) → IsPrefix s.log (acted s worker action).log
acted_grows s worker (takes work ticket) = ([], append-nil s.log)
acted_grows s worker (adds ticket d) = (d.entry ∷ [], refl)
acted_grows s worker (passes ticket d) = ([], append-nil s.log)
acted_grows s worker (finishes ticket) = ([], append-nil s.log)
acted_grows s worker (gives_back ticket) = ([], append-nil s.log)

some_same : (x y : Work × ℕ) → Some x ≡ Some y → x ≡ y
some_same x y e = (cc)

-- under these tickets the worker has these works
abbrev pub Flies : ℕ → WorkHeld → State → Type 0
Flies n held s = (work : Work) (ticket : ℕ) → held ≡ Some (work, ticket) → s.flight ticket ≡ Some (record { worker = n; work = work })

pub none_flies : (n : ℕ) (s : State) → Flies n None s
none_flies n s work ticket e = absurd (cc e)

module _ (p : ProblemData) (n : ℕ) (log : List EntryData) where
  -- what the worker knows of a core
  abbrev pub Knows : CoreData → WorkHeld → Type 0
  Knows core held = IsAtWork p n log held core.base (state_of core)

  -- and the core's base is what it was
  abbrev pub Goes : CoreData → CoreData → WorkHeld → Type 0
  Goes old new held = (new.base ≡ old.base) × Knows new held

  pub moved : (held after : WorkHeld) (b c : Base) (s t : State) → IsAtWork p n log held b s → c ≡ b → IsPrefix s.log t.log → Flies n after t → IsAtWork p n log after c t
  moved held after b c s t w same grows flies = record {
    upon = ap (λ (x : Base). x.problem) same ∙ w.upon;
    begins = prefix_trans log s.log t.log w.begins grows;
    shape = w.shape;
    holds = flies;
  }

  -- the same base and story
  pub same_story : (core found : CoreData) (held : WorkHeld) → found.base ≡ core.base → found.story ≡ core.story → Knows core held → Knows found held
  same_story core found held base story w =
      subst (λ (xs : Story). IsAtWork p n log held found.base (state_after found.base xs)) (sym story)
      (subst (λ (b : Base). IsAtWork p n log held b (state_after b core.story)) (sym base) w)

  stays : (old new : CoreData) (held : WorkHeld) → new ≡ old → Knows old held → Goes old new held
  stays old new held is w = subst (λ (c : CoreData). Goes old c held) (sym is) (refl, w)

  lets_go : (core : CoreData) (held : WorkHeld) → Knows core held → Knows core None
  lets_go core held w = record { upon = w.upon; begins = w.begins; shape = w.shape; holds = none_flies n (state_of core) }

  -- a step
  goes : (old new : CoreData) (action : Action) (spare : ℕ) (held after : WorkHeld) → Knows old held → new ≡ stepped old n action spare → Flies n after (acted (state_of old) n action) → Goes old new after
  goes old new action spare held after w is flies =
      let base : new.base ≡ old.base = ap (λ (c : CoreData). c.base) is in (
        base,
        subst (λ (t : State). IsAtWork p n log after new.base t) (sym (state_stepped old new n action spare is))
            (moved held after old.base new.base (state_of old) (acted (state_of old) n action) w base (acted_grows (state_of old) n action) flies),
      )

  pub takes_on : (old new : CoreData) (held : WorkHeld) (answer : Taken) → Knows old held → Takes old n answer new → Goes old new (held_after answer)
  takes_on old new held (Item work ticket) w h =
      goes old new (takes work ticket) (old.spare - 1) held (Some (work, ticket)) w h.1
      (λ v t e. subst (λ (x : Work × ℕ). (acted (state_of old) n (takes work ticket)).flight x.1 ≡ Some (record { worker = n; work = x.0 })) (some_same (work, ticket) (v, t) e)
      (put_here ticket (Some (record { worker = n; work = work })) (state_of old).flight))
  takes_on old new held Quiet w h = stays old new None h.2 (lets_go old held w)
  takes_on old new held Idle w h = stays old new None h.2 (lets_go old held w)
  takes_on old new held Over w h = stays old new None h.2 (lets_go old held w)
  takes_on old new held (Found place) w h = stays old new None h.1 (lets_go old held w)

  passes_on : (old new : CoreData) (held : WorkHeld) (ticket : ℕ) (d : Deduction) (kept : Option Deduction) → Knows old held → AddsOrPasses old n ticket d new kept → Goes old new held
  passes_on old new held ticket d None w is = goes old new (passes ticket d) (old.spare - 1) held held w is w.holds
  passes_on old new held ticket d (Some k) w is = stays old new held is w

  pub publishes_on : (old new : CoreData) (held : WorkHeld) (ticket : ℕ) (d : Deduction) (answer : Published) → Knows old held → Publishes old n ticket d answer new → Goes old new held
  publishes_on old new held ticket d (Known place) w h = stays old new held h.1 w
  publishes_on old new held ticket d (Added place) w h = goes old new (adds ticket d) (old.spare - 1) held held w h.3 w.holds
  publishes_on old new held ticket d NoRoom w h = passes_on old new held ticket d (state_of old).kept w h.2

  -- nothing is held after
  pub steps_on : (old new : CoreData) (held : WorkHeld) (action : Action) (spare : ℕ) → Knows old held → new ≡ stepped old n action spare → Goes old new None
  steps_on old new held action spare w is = goes old new action spare held None w is (none_flies n (acted (state_of old) n action))
