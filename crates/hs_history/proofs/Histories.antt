-- Legal stories: what holds after each of them, and how they go on.
use Rattle.std.proofs.Common.{◌≡◌, refl, ap, sym, ◌∙◌, subst, ℕ, ◌<◌, ◌≢◌, List, [], ◌∷◌, ◌++◌, length, None, Some, All, arith, append_assoc, inl, inr}
use Rattle.hs_table.specs.Entries.{EntryData}
use Rattle.hs_table.specs.Follows.{Support}
use Rattle.hs_table.specs.Tables.{IsLeastTable, Exceeds, HasStart}
use Rattle.hs_table_laws.proofs.Least.{least_decides, supported_within, supports_support}
use Rattle.hs_history.specs.Story.{Base, Action, takes, adds, passes, finishes, gives_back, CoreStep, Story}
use Rattle.hs_history.specs.CoreStep.{State, opening, IsClosedWork, CanAct, CanStep, acted, after}
use Rattle.hs_history.specs.History.{state_from, IsLegalFrom, state_after, IsLegal, IsWork, IsJustOnce, IsAtRest}
use Rattle.hs_history.proofs.Sound.{IsSound, opening_sound, step_sound, least_at_rest}
use Rattle.hs_history.proofs.Once.{opening_once, step_once}
use Rattle.std.proofs.lemmas.Bool.{cases_eq}
use Rattle.std.proofs.lemmas.List.Elements.{All-head, All-tail}
use Rattle.std.proofs.lemmas.Option.{same_Some}
use Rattle.hs_history.specs.declared.step.Flight.{Flight}
use Rattle.hs_history.specs.declared.step.Work.{Work}
use Rattle.hs_history.proofs.Logs.{closed_more}
use Rattle.hs_history.proofs.Works.{put_other}

same_flight : (x y : Flight) → Some x ≡ Some y → x ≡ y
same_flight = same_Some

-- what holds after a story
pub record Holds (base : Base) (s : State) : Type 0 where
  pub sound : IsSound base s
  pub once : IsJustOnce s

holds_from : (base : Base) (s : State) (story : List CoreStep) → Holds base s → IsLegalFrom base s story → Holds base (state_from s story)
holds_from base s [] h legal = h
holds_from base s (step ∷ story) h legal =
    holds_from base (after s step) story
    (record { sound = step_sound base s h.sound step.worker step.action legal.0; once = step_once base s h.sound h.once step.worker step.action legal.0 }) legal.1

pub holds_after : (base : Base) (story : Story) → IsLegal base story → Holds base (state_after base story)
holds_after base story = holds_from base (opening base) story (record { sound = opening_sound base; once = opening_once base })

-- one story after another
pub state_append : (s : State) (a b : List CoreStep) → state_from s (a ++ b) ≡ state_from (state_from s a) b
state_append s [] b = refl
state_append s (step ∷ a) b = state_append (after s step) a b

legal_append : (base : Base) (s : State) (a b : List CoreStep) → IsLegalFrom base s a → IsLegalFrom base (state_from s a) b → IsLegalFrom base s (a ++ b)
legal_append base s [] b front back = back
legal_append base s (step ∷ a) b front back = (front.0, legal_append base (after s step) a b front.1 back)

pub legal_front : (base : Base) (s : State) (a b : List CoreStep) → IsLegalFrom base s (a ++ b) → IsLegalFrom base s a
legal_front base s [] b legal = tt
legal_front base s (step ∷ a) b legal = (legal.0, legal_front base (after s step) a b legal.1)

pub legal_push : (base : Base) (story : Story) (step : CoreStep) → IsLegal base story → CanStep base (state_after base story) step → IsLegal base (story ++ step ∷ [])
legal_push base story step legal can = legal_append base (opening base) story (step ∷ []) legal (can, tt)

pub state_push : (base : Base) (story : Story) (step : CoreStep) → state_after base (story ++ step ∷ []) ≡ after (state_after base story) step
state_push base story step = state_append (opening base) story (step ∷ [])

-- the log only grows, at its end, and the supports with it
pub record Grown (old new : State) : Type 0 where
  pub entries : List EntryData
  pub log : new.log ≡ old.log ++ entries
  pub more : List Support
  pub supports : new.supports ≡ old.supports ++ more

append_none : {X : Type 0} (xs : List X) → xs ≡ xs ++ []
append_none [] = refl
append_none (x ∷ xs) = ap (λ ys. x ∷ ys) (append_none xs)

stays : (s : State) → Grown s s
stays s = record { entries = []; log = append_none s.log; more = []; supports = append_none s.supports }

step_grown : (s : State) (worker : ℕ) (action : Action) → Grown s (acted s worker action)
step_grown s worker (takes work ticket) = record { entries = []; log = append_none s.log; more = []; supports = append_none s.supports }
step_grown s worker (adds ticket d) = record { entries = d.entry ∷ []; log = refl; more = d.support ∷ []; supports = refl }
step_grown s worker (passes ticket d) = record { entries = []; log = append_none s.log; more = []; supports = append_none s.supports }
step_grown s worker (finishes ticket) = record { entries = []; log = append_none s.log; more = []; supports = append_none s.supports }
step_grown s worker (gives_back ticket) = record { entries = []; log = append_none s.log; more = []; supports = append_none s.supports }

both : (a b c : State) → Grown a b → Grown b c → Grown a c
both a b c f g = record {
  entries = f.entries ++ g.entries;
  log = g.log ∙ ap (λ xs. xs ++ g.entries) f.log ∙ append_assoc a.log f.entries g.entries;
  more = f.more ++ g.more;
  supports = g.supports ∙ ap (λ xs. xs ++ g.more) f.supports ∙ append_assoc a.supports f.more g.more;
}

grown_from : (s : State) (story : List CoreStep) → Grown s (state_from s story)
grown_from s [] = stays s
grown_from s (step ∷ story) = both s (after s step) (state_from (after s step) story) (step_grown s step.worker step.action) (grown_from (after s step) story)

pub grown : (base : Base) (a b : Story) → Grown (state_after base a) (state_after base (a ++ b))
grown base a b = subst (λ (s : State). Grown (state_after base a) s) (sym (state_append (opening base) a b)) (grown_from (state_after base a) b)

-- answers
pub fits_at_rest : (base : Base) (story : Story) → IsLegal base story → IsAtRest (state_after base story) → Exceeds base.problem base.budget → ⊥
fits_at_rest base story legal rest exceeds =
    let h = holds_after base story legal in
    let least = least_at_rest base (state_after base story) h.sound rest in
    let more_than : base.budget < length (state_after base story).log = (least_decides base.problem (state_after base story).log base.budget least).0 exceeds in
    omega (arith, more_than, h.sound.within)

pub start_in_least : (base : Base) (story : Story) (T : List EntryData) → IsLegal base story → IsLeastTable base.problem T
    → HasStart base.problem (state_after base story).log → HasStart base.problem T
start_in_least base story T legal least (e, (is_start, there)) =
    let h = holds_after base story legal in
    let s = state_after base story in
    (e, (is_start, supported_within base.problem s.log T (supports_support base.problem s.log s.supports h.sound.supports) least.closed e there))

-- a ticket stays with its worker while others act
ticket_stays : (base : Base) (s : State) (worker other ticket : ℕ) (work : Work) (action : Action) → (other ≡ worker → ⊥) → CanAct base s other action
    → s.flight ticket ≡ Some (record { worker = worker; work = work }) → (acted s other action).flight ticket ≡ Some (record { worker = worker; work = work })
ticket_stays base s worker other ticket work (takes taken free) ne can is = elim (cases_eq ticket free) [
  | inl same ↦ absurd (let none : s.flight ticket ≡ None = ap s.flight same ∙ can.free in cc)
  | inr apart ↦ put_other free ticket (Some (record { worker = other; work = taken })) s.flight apart ∙ is
]
ticket_stays base s worker other ticket work (adds t d) ne can is = is
ticket_stays base s worker other ticket work (passes t d) ne can is = is
ticket_stays base s worker other ticket work (finishes t) ne can is = elim (cases_eq ticket t) [
  | inl same ↦ absurd (ne (ap (λ f. f.worker) (same_flight (record { worker = other; work = can.work }) (record { worker = worker; work = work }) (sym can.holds ∙ ap s.flight (sym same) ∙ is))))
  | inr apart ↦ put_other t ticket None s.flight apart ∙ is
]
ticket_stays base s worker other ticket work (gives_back t) ne can is = elim (cases_eq ticket t) [
  | inl same ↦ absurd (ne (ap (λ f. f.worker) (same_flight (record { worker = other; work = can.0 }) (record { worker = worker; work = work }) (sym can.1 ∙ ap s.flight (sym same) ∙ is))))
  | inr apart ↦ put_other t ticket None s.flight apart ∙ is
]

tickets_from : (base : Base) (s : State) (story : List CoreStep) (worker ticket : ℕ) (work : Work) → IsLegalFrom base s story → All (λ (x : CoreStep). x.worker ≢ worker) story
    → s.flight ticket ≡ Some (record { worker = worker; work = work }) → (state_from s story).flight ticket ≡ Some (record { worker = worker; work = work })
tickets_from base s [] worker ticket work legal others is = is
tickets_from base s (step ∷ story) worker ticket work legal others is =
    tickets_from base (after s step) story worker ticket work legal.1 (All-tail (λ (x : CoreStep). x.worker ≢ worker) step story others)
    (ticket_stays base s worker step.worker ticket work step.action (All-head (λ (x : CoreStep). x.worker ≢ worker) step story others) legal.0 is)

legal_back : (base : Base) (s : State) (a b : List CoreStep) → IsLegalFrom base s (a ++ b) → IsLegalFrom base (state_from s a) b
legal_back base s [] b legal = legal
legal_back base s (step ∷ a) b legal = legal_back base (after s step) a b legal.1

pub tickets_after : (base : Base) (story more : Story) (worker ticket : ℕ) (work : Work) → IsLegal base (story ++ more) → All (λ (x : CoreStep). x.worker ≢ worker) more
    → (state_after base story).flight ticket ≡ Some (record { worker = worker; work = work }) → (state_after base (story ++ more)).flight ticket ≡ Some (record { worker = worker; work = work })
tickets_after base story more worker ticket work legal others is =
    ap (λ (s : State). s.flight ticket) (state_append (opening base) story more)
    ∙ tickets_from base (state_after base story) more worker ticket work (legal_back base (opening base) story more legal) others is

-- a closed work stays closed
pub closed_after : (base : Base) (story more : Story) (work : Work) → IsWork base.problem (state_after base story).log work → IsClosedWork base.problem (state_after base story).log work
    → IsClosedWork base.problem (state_after base (story ++ more)).log work
closed_after base story more work is_work closed =
    let g = grown base story more in
    subst (λ xs. IsClosedWork base.problem xs work) (sym g.log) (closed_more base.problem (state_after base story).log g.entries work is_work closed)
