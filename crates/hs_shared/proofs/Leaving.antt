-- What a call has done, once it has left.
use Rattle.std.proofs.Common.{◌≡◌, refl, sym, ◌∙◌, ap, subst, ℕ, eqb, eq-eqb, cond, List, [], ◌∷◌, ◌++◌, inl, inr, Some, Result, Ok, Err, IfOk, OnOk, OnErr}
use Rattle.std.proofs.lemmas.List.{append-nil, append_cancel_left}
use Rattle.std.proofs.lemmas.List.Elements.{filter-append}
use mathlib.Core.List.{IsPrefix}
use Rattle.hs_history.specs.Story.{CoreStep, Story}
use Rattle.hs_core.specs.Core.{CoreData, IsCore}
use Rattle.hs_core.specs.Answers.{AreOfWorker}
use Rattle.hs_turn.specs.Story.{told_by}
use Rattle.hs_turn.proofs.EventLemmas.{told_all}
use Rattle.hs_shared.specs.Seats.{SeatData, worker_of, HasSeenOwn}
use Rattle.hs_shared.specs.Calls.{Finds, Does, Looks, GrowsOnce, seat_after}
use Rattle.hs_shared.specs.Holding.{holding, having_left, HasTold}

module _ {A E : Type 0} where
  pub ok_mapped : {P Q : A → Type 0} (r : Result A E) → ((x : A) → P x → Q x) → IfOk r P → IfOk r Q
  ok_mapped (Ok x) f p = f x p
  ok_mapped (Err e) f p = tt

  pub done_mapped : {P Q : Type 0} (r : Result A E) → (P → Q) → OnOk r P → OnOk r Q
  done_mapped (Ok x) f p = f p
  done_mapped (Err e) f p = tt

  pub done_or : {P Q C : Type 0} (r : Result A E) → (P → C) → (Q → C) → OnOk r P → OnErr r Q → C
  done_or (Ok x) f g p q = f p
  done_or (Err e) f g p q = g q

  pub err_mapped : {P Q : Type 0} (r : Result A E) → (P → Q) → OnErr r P → OnErr r Q
  err_mapped (Ok x) f p = tt
  err_mapped (Err e) f p = f p

pub steps_own : (n : ℕ) (seen story : Story) (steps : List CoreStep) → GrowsOnce n seen story → story ≡ seen ++ steps → told_by worker_of n steps ≡ steps
steps_own n seen story steps (inl same) grown =
    subst (λ (xs : Story). told_by worker_of n xs ≡ xs) (sym (append_cancel_left seen steps [] (sym grown ∙ same ∙ sym (append-nil seen)))) refl
steps_own n seen story steps (inr (action, is)) grown =
    let step : CoreStep = record { worker = n; action = action } in
    subst (λ (xs : Story). told_by worker_of n xs ≡ xs) (append_cancel_left seen (step ∷ []) steps (sym is ∙ grown)) (ap (λ b. cond b (step ∷ []) []) (eq-eqb n n refl))

-- a seat that has told of steps of its own
own_told : (old new : SeatData) (story : Story) → HasSeenOwn old → (t : HasTold old story new) → told_by worker_of old.known.number t.0 ≡ t.0 → HasSeenOwn new
own_told old new story own t mine =
    let n = old.known.number in
    let all : told_by worker_of n story ≡ old.known.own ++ t.0 =
    ap (told_by worker_of n) t.1 ∙ filter-append (λ (x : CoreStep). eqb x.worker n) old.known.seen t.0
    ∙ ap (λ (xs : Story). xs ++ told_by worker_of n t.0) own
    ∙ ap (λ (xs : Story). old.known.own ++ xs) mine in
    subst (λ (s : SeatData). HasSeenOwn s) (sym t.2) all

pub has_told : (old new : SeatData) (story : Story) → HasSeenOwn old → GrowsOnce old.known.number old.known.seen story → HasTold old story new → HasSeenOwn new
has_told old new story own once t = own_told old new story own t (steps_own old.known.number old.known.seen story t.0 once t.1)

pub has_told_all : (old new : SeatData) (story more : Story) → HasSeenOwn old → story ≡ old.known.seen ++ more → AreOfWorker old.known.number more → HasTold old story new → HasSeenOwn new
has_told_all old new story more own grown alone t =
    let n = old.known.number in
    let same : more ≡ t.0 = append_cancel_left old.known.seen more t.0 (sym grown ∙ t.1) in
    own_told old new story own t (subst (λ (xs : Story). told_by worker_of n xs ≡ xs) same (told_all worker_of n more alone))

-- a call: the seat before it, while it holds, once it has told, and once it has left
module _ (old held mid new : SeatData) (core left : CoreData) (is_held : held ≡ holding old core.story) (f : Finds old core) (t : HasTold held left.story mid) (has : HasSeenOwn mid) (left_core : IsCore left)
    (gone : new ≡ having_left mid) where
  grown : left.story ≡ core.story ++ t.0
  grown = t.1 ∙ ap (λ (m : SeatData). m.known.seen ++ t.0) is_held

  seat : new ≡ seat_after old left.story (old.known.own ++ t.0)
  seat = gone ∙ ap (λ (m : SeatData). having_left m) t.2 ∙ ap (λ (m : SeatData). seat_after m left.story (m.known.own ++ t.0)) is_held

  own_left : HasSeenOwn new
  own_left = subst (λ (s : SeatData). HasSeenOwn s) (sym gone) has

  pub does_by : (does : CoreData → CoreData → Type 0) (found : CoreData) → IsCore found → found.base ≡ core.base → found.story ≡ core.story
      → does found left → Does does old new
  does_by does found know_core base story done = record {
    found = found;
    finds = record {
      base = f.base ∙ ap (λ b. Some b) (sym base);
      begins = subst (λ (xs : Story). IsPrefix old.known.seen xs) (sym story) f.begins;
      own = ap (told_by worker_of old.known.number) story ∙ f.own;
      seen_own = f.seen_own;
      know_core = know_core;
    };
    left = left;
    done = done;
    know_core = left_core;
    steps = t.0;
    grown = grown ∙ ap (λ (xs : Story). xs ++ t.0) (sym story);
    seat = seat;
    own = own_left;
  }

  no_steps : left.story ≡ core.story → t.0 ≡ []
  no_steps same = append_cancel_left core.story t.0 [] (sym grown ∙ same ∙ sym (append-nil core.story))

  looked : left.story ≡ core.story → new ≡ seat_after old core.story old.known.own
  looked same = seat ∙ ap (λ (xs : Story). seat_after old xs (old.known.own ++ t.0)) same
      ∙ ap (λ (xs : Story). seat_after old core.story xs) (ap (λ (xs : Story). old.known.own ++ xs) (no_steps same) ∙ append-nil old.known.own)

  pub looks_by : left.story ≡ core.story → Looks old new
  looks_by same = record { found = core; finds = f; seat = looked same; own = own_left }

-- a call that only looks
pub only_looks : (old held new : SeatData) (core : CoreData) → held ≡ holding old core.story → Finds old core → new ≡ having_left held → Looks old new
only_looks old held new core is_held f gone =
    let seat : new ≡ seat_after old core.story old.known.own = gone ∙ ap (λ (m : SeatData). having_left m) is_held in
    record { found = core; finds = f; seat = seat; own = subst (λ (s : SeatData). HasSeenOwn s) (sym seat) f.own }
