-- A journal to which a step is added.
use Rattle.std.proofs.Common.{◌≡◌, refl, sym, ◌∙◌, ap, subst, Bool, true, false, suc, List, [], ◌∷◌, ◌++◌, length}
use Rattle.hs_history.specs.declared.step.Event.{Event}
use Rattle.hs_history.specs.declared.step.Event.TheVariants.{Take, Added, PastBudget, Finish, GiveBack}
use Rattle.hs_core.specs.declared.journal.Actor.{Actor}
use Rattle.hs_core.specs.declared.journal.Due.{Due}
use Rattle.hs_core.specs.declared.journal.Mark.{Mark}
use Rattle.hs_core.specs.Journal.{due_after, kind_of, ticket_of, due_for, event_of, pick, left, HasNext, only, Reader, step_of, step_at, beyond, steps_read, opened, ReadsToEnd, IsJournalOf}

module _ {X : Type 0} where
  pick_more : (b : Bool) (x : X) (xs ys : List X) → HasNext b xs → pick b x (xs ++ ys) ≡ pick b x xs
  pick_more true x [] ys has = absurd has
  pick_more true x (y ∷ xs) ys has = refl
  pick_more false x xs ys has = refl

  left_more : (b : Bool) (xs ys : List X) → HasNext b xs → left b (xs ++ ys) ≡ left b xs ++ ys
  left_more true [] ys has = absurd has
  left_more true (y ∷ xs) ys has = refl
  left_more false xs ys has = refl

  has_more : (b : Bool) (xs ys : List X) → HasNext b xs → HasNext b (xs ++ ys)
  has_more true [] ys has = absurd has
  has_more true (y ∷ xs) ys has = tt
  has_more false xs ys has = tt

  pick_only : (b : Bool) (x y : X) → (b ≡ false → y ≡ x) → pick b x (only b y) ≡ y
  pick_only true x y same = refl
  pick_only false x y same = sym (same refl)

  left_only : (b : Bool) (y : X) → left b (only b y) ≡ []
  left_only true y = refl
  left_only false y = refl

  has_only : (b : Bool) (y : X) → HasNext b (only b y)
  has_only true y = tt
  has_only false y = tt

-- a reader with further changes behind its own
abbrev pub more : Reader → List Actor → List Due → Reader
more r actors dues = record { actor = r.actor; due = r.due; actors = r.actors ++ actors; dues = r.dues ++ dues }

module _ (m : Mark) (actor : Actor) (due : Due) where
  abbrev with_more : Reader → Reader
  with_more r = more r (only m.changed actor) (only m.jumped due)

  step_more : (r : Reader) (n : Mark) → HasNext n.changed r.actors → HasNext n.jumped r.dues → step_at (with_more r) n ≡ step_at r n
  step_more r n h k = λ i. step_of n.kind (pick_more n.changed r.actor r.actors (only m.changed actor) h i) (pick_more n.jumped r.due r.dues (only m.jumped due) k i)

  beyond_more : (r : Reader) (n : Mark) → HasNext n.changed r.actors → HasNext n.jumped r.dues → beyond (with_more r) n ≡ with_more (beyond r n)
  beyond_more r n h k = λ i. record {
    actor = pick_more n.changed r.actor r.actors (only m.changed actor) h i;
    due = due_after n.kind (pick_more n.jumped r.due r.dues (only m.jumped due) k i);
    actors = left_more n.changed r.actors (only m.changed actor) h i;
    dues = left_more n.jumped r.dues (only m.jumped due) k i;
  }

  module _ (last : Actor) (was : Due) (actors_same : m.changed ≡ false → actor ≡ last) (dues_same : m.jumped ≡ false → due ≡ was) where
    abbrev at_end : Reader
    at_end = record { actor = last; due = was; actors = []; dues = [] }

    step_last : step_at (with_more at_end) m ≡ step_of m.kind actor due
    step_last = λ i. step_of m.kind (pick_only m.changed last actor actors_same i) (pick_only m.jumped was due dues_same i)

    ends_last : ReadsToEnd (with_more at_end) (m ∷ []) actor (due_after m.kind due)
    ends_last = (
      has_only m.changed actor,
      has_only m.jumped due,
      (λ i. record {
        actor = pick_only m.changed last actor actors_same i;
        due = due_after m.kind (pick_only m.jumped was due dues_same i);
        actors = left_only m.changed actor i;
        dues = left_only m.jumped due i;
      }),
    )

    pub steps_pushed : (r : Reader) (marks : List Mark) → ReadsToEnd r marks last was → steps_read (with_more r) (marks ++ m ∷ []) ≡ steps_read r marks ++ step_of m.kind actor due ∷ []
    steps_pushed r [] ends = ap (λ (x : Reader). step_at (with_more x) m ∷ []) ends ∙ ap (λ s. s ∷ []) step_last
    steps_pushed r (n ∷ marks) (h, k, ends) =
        (λ i. step_more r n h k i ∷ steps_read (beyond_more r n h k i) (marks ++ m ∷ [])) ∙ ap (λ rest. step_at r n ∷ rest) (steps_pushed (beyond r n) marks ends)

    pub ends_pushed : (r : Reader) (marks : List Mark) → ReadsToEnd r marks last was → ReadsToEnd (with_more r) (marks ++ m ∷ []) actor (due_after m.kind due)
    ends_pushed r [] ends = subst (λ (x : Reader). ReadsToEnd (with_more x) (m ∷ []) actor (due_after m.kind due)) (sym ends) ends_last
    ends_pushed r (n ∷ marks) (h, k, ends) = (
      has_more n.changed r.actors (only m.changed actor) h,
      has_more n.jumped r.dues (only m.jumped due) k,
      subst (λ (x : Reader). ReadsToEnd x (marks ++ m ∷ []) actor (due_after m.kind due)) (sym (beyond_more r n h k)) (ends_pushed (beyond r n) marks ends),
    )

-- the lists of a journal once a step is added
module _ (actors others : List Actor) (dues later : List Due) (marks all : List Mark) (m : Mark) (actor last : Actor) (due was : Due) (kept : IsJournalOf actors dues marks last was) (actors_same : m.changed ≡ false → actor ≡ last)
    (dues_same : m.jumped ≡ false → due ≡ was) (more_actors : others ≡ actors ++ only m.changed actor) (more_dues : later ≡ dues ++ only m.jumped due) (more_marks : all ≡ marks ++ m ∷ []) where
  pub kept_pushed : (next : Due) → next ≡ due_after m.kind due → IsJournalOf others later all actor next
  kept_pushed next is = rw (more_actors, more_dues, more_marks, is) (ends_pushed m actor due last was actors_same dues_same (opened actors dues) marks kept)

  pub read_pushed : steps_read (opened others later) all ≡ steps_read (opened actors dues) marks ++ step_of m.kind actor due ∷ []
  read_pushed = rw (more_actors, more_dues, more_marks) (steps_pushed m actor due last was actors_same dues_same (opened actors dues) marks kept)

-- an event is what its kind, its ticket and what has to be due say
pub event_kept : (e : Event) (due : Due) → event_of (kind_of e) (ticket_of e) (due_for e due) ≡ e
event_kept (Take work ticket) due = refl
event_kept (Added ticket place) due = refl
event_kept (PastBudget ticket) due = refl
event_kept (Finish ticket) due = refl
event_kept (GiveBack ticket) due = refl

pub steps_length : (r : Reader) (marks : List Mark) → length (steps_read r marks) ≡ length marks
steps_length r [] = refl
steps_length r (m ∷ marks) = ap (λ n. suc n) (steps_length (beyond r m) marks)
