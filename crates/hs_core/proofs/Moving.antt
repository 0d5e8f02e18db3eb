-- What one worker does, step by step.
use Rattle.std.proofs.Common.{◌≡◌, refl, sym, ◌∙◌, ap, subst, ℕ, zero, suc, ◌+◌, ◌-◌, ◌*◌, ◌<◌, ◌≤◌, Bool, true, false, List, [], ◌∷◌, ◌++◌, map, length, take, slice_get, get_or, Option, Some, None, IsSome, All, arith, Contains, inl, inr, length-append, append_assoc, Result, Ok, Err}
use Rattle.std.specs.Bool.{MatchBool}
use Rattle.std.specs.Borrow.{Bor}
use Rattle.std.specs.Option.{option_map, option_copied, is_some, unwrap_or}
use Rattle.std.specs.Result.{IfOk}
use Rattle.std.proofs.lemmas.Bool.{cases_eq, false≢true}
use Rattle.std.proofs.lemmas.List.{take_all, take-append-le}
use Rattle.std.proofs.lemmas.List.Elements.{All-nil, All-cons, All-append, All-map, All-contains, All-weaker, Contains-append_left, Contains-append_right, Contains-push}
use Rattle.hs_scheme.specs.Problem.{ProblemData}
use Rattle.hs_scheme.specs.declared.flow.FlowPair.{FlowPair}
use Rattle.hs_scheme.specs.flow.Points.{PointsData}
use Rattle.hs_scheme.specs.flow.Dependents.{IsDependent}
use Rattle.hs_scheme.proofs.Lists.{here, Contains-at}
use Rattle.hs_flow.specs.Dependents.{HasDependents, list_of}
use Rattle.hs_table.specs.Entries.{EntryData}
use Rattle.hs_table.specs.Follows.{Support, FollowsBy, premises}
use Rattle.hs_table_laws.proofs.Places.{place_of, within_from}
use Rattle.hs_table_laws.proofs.Least.{supports_support}
use Rattle.hs_table_laws.proofs.Growing.{by_append, by_take}
use Rattle.hs_types.specs.Interned.{InternerData, IsRow, entry_of}
use Rattle.hs_rules.specs.Conclusions.{DeducedData, IsDeduced, AnySupport, Uses, AreSomeConclusions, AreConclusions}
use Rattle.hs_history.specs.declared.step.Work.{Work}
use Rattle.hs_history.specs.declared.step.Work.TheVariants.{Place}
use Rattle.hs_history.specs.declared.step.Flight.{Flight}
use Rattle.hs_history.specs.Story.{Base, Deduction, Action, takes, adds, passes, gives_back, CoreStep, Story}
use Rattle.hs_history.specs.CoreStep.{State, IsClosedSeed, IsClosedPlace, GoesOn, acted}
use Rattle.hs_history.specs.History.{state_after, IsLegal, IsWork, IsPast}
use Rattle.hs_history.proofs.Histories.{state_push, grown, holds_after, fits_at_rest}
use Rattle.hs_history.proofs.Sound.{least_at_rest}
use Rattle.hs_history.proofs.Logs.{at_within}
use Rattle.hs_history.proofs.Works.{put_here, put_other}
use Rattle.hs_core.specs.declared.answers.Taken.{Taken}
use Rattle.hs_core.specs.declared.answers.Taken.TheVariants.{Item, Quiet, Idle, Over, Found}
use Rattle.hs_core.specs.declared.answers.Published.{Published}
use Rattle.hs_core.specs.declared.answers.Published.TheVariants.{Known, Added, Over as NoRoom}
use Rattle.hs_core.specs.Core.{CoreData, state_of, log_of, deduction_of, stepped}
use Rattle.hs_core.specs.Answers.{IsFound, Takes, Publishes, AddsOrPasses, IsLeastAnswer, IsOverAnswer, AreOfWorker}
use Rattle.hs_core.specs.Saturation.{IsAlone, GivesBack}
use Rattle.hs_core.specs.Draining.{work_left, GoesAlone, SameFlight, NothingFlies, IsReady, IsThere, EndsAtRest}

-- a worker did some steps, after which the same works are in flight and not more are left
pub record Moves (me : ℕ) (old new : CoreData) : Type 0 where
  pub alone : GoesAlone me old new
  pub flight : SameFlight old new
  pub lighter : work_left new ≤ work_left old

-- the state is that of the base and the story
pub state_same : (a b : CoreData) → b.base ≡ a.base → b.story ≡ a.story → state_of b ≡ state_of a
state_same a b base story = λ i. state_after (base i) (story i)

module _ {me : ℕ} where
  pub alone_same : (a b : CoreData) → b.base ≡ a.base → b.story ≡ a.story → GoesAlone me a b
  alone_same a b base story = record { base = base; more = []; story = story ∙ sym (append_none a.story); alone = All-nil (λ (s : CoreStep). s.worker ≡ me) }
    where
      append_none : (xs : List CoreStep) → xs ++ [] ≡ xs
      append_none [] = refl
      append_none (x ∷ xs) = ap (λ ys. x ∷ ys) (append_none xs)

module _ {me : ℕ} where
  pub alone_step : (a b : CoreData) (action : Action) (spare : ℕ) → b ≡ stepped a me action spare → GoesAlone me a b
  alone_step a b action spare is = record {
    base = ap (λ (c : CoreData). c.base) is;
    more = (record { worker = me; action = action }) ∷ [];
    story = ap (λ (c : CoreData). c.story) is;
    alone = All-cons (λ (s : CoreStep). s.worker ≡ me) (record { worker = me; action = action }) [] refl (All-nil (λ (s : CoreStep). s.worker ≡ me));
  }

module _ {me : ℕ} where
  pub alone_trans : (a b c : CoreData) → GoesAlone me a b → GoesAlone me b c → GoesAlone me a c
  alone_trans a b c f g = record {
    base = g.base ∙ f.base;
    more = f.more ++ g.more;
    story = g.story ∙ ap (λ xs. xs ++ g.more) f.story ∙ append_assoc a.story f.more g.more;
    alone = All-append (λ (s : CoreStep). s.worker ≡ me) f.more g.more f.alone g.alone;
  }

module _ {me : ℕ} where
  pub moves_trans : (a b c : CoreData) → Moves me a b → Moves me b c → Moves me a c
  moves_trans a b c f g = record {
    alone = alone_trans a b c f.alone g.alone;
    flight = λ t. g.flight t ∙ f.flight t;
    lighter = omega (arith, f.lighter, g.lighter);
  }

-- a call that isn't a step
module _ {me : ℕ} where
  pub moves_same : (a b : CoreData) → b.base ≡ a.base → b.story ≡ a.story → Moves me a b
  moves_same a b base story = record {
    alone = alone_same a b base story;
    flight = λ t. ap (λ (s : State). s.flight t) (state_same a b base story);
    lighter = subst (λ n. n ≤ work_left a) (sym same) (omega arith);
  }
    where
      same : work_left b ≡ work_left a
      same = λ i. 2 * ((base i).budget - length (state_after (base i) (story i)).log) + length (state_after (base i) (story i)).pending

pub state_stepped : (a b : CoreData) (worker : ℕ) (action : Action) (spare : ℕ) → b ≡ stepped a worker action spare → state_of b ≡ acted (state_of a) worker action
state_stepped a b worker action spare is = ap (λ (c : CoreData). state_of c) is ∙ state_push a.base a.story (record { worker = worker; action = action })

-- the log of a later core begins with that of an earlier one
pub record Longer (a b : CoreData) : Type 0 where
  pub more : List EntryData
  pub log : log_of b ≡ log_of a ++ more

pub longer_by : (a b : CoreData) (more : Story) → b.base ≡ a.base → b.story ≡ a.story ++ more → Longer a b
longer_by a b more base story =
    let g = grown a.base a.story more in
    record { more = g.entries; log = ap (λ (s : State). s.log) (λ i. state_after (base i) (story i)) ∙ g.log }

module _ {me : ℕ} where
  pub longer : (a b : CoreData) → GoesAlone me a b → Longer a b
  longer a b g = longer_by a b g.more g.base g.story

pub longer_has : (a b : CoreData) → Longer a b → (e : EntryData) → Contains (log_of a) e → Contains (log_of b) e
longer_has a b l e c = subst (λ xs. Contains xs e) (sym l.log) (Contains-append_left (log_of a) l.more e c)

-- a publication by the worker
module _ (me : ℕ) (old new : CoreData) (ticket : ℕ) (d : Deduction) where
  passes_moves : (kept : Option Deduction) → AddsOrPasses old me ticket d new kept → Moves me old new
  passes_moves None is =
      let s = state_stepped old new me (passes ticket d) (old.spare - 1) is in
      record {
        alone = alone_step old new (passes ticket d) (old.spare - 1) is;
        flight = λ t. ap (λ (x : State). x.flight t) s;
        lighter = subst (λ (x : State). 2 * (new.base.budget - length x.log) + length x.pending ≤ work_left old) (sym s)
            (subst (λ (b : Base). 2 * (b.budget - length (log_of old)) + length (state_of old).pending ≤ work_left old) (sym (ap (λ (c : CoreData). c.base) is)) (omega arith));
      }
  passes_moves (Some k) is = moves_same old new (ap (λ (c : CoreData). c.base) is) (ap (λ (c : CoreData). c.story) is)

  pub publish_moves : (answer : Published) → Publishes old me ticket d answer new → Moves me old new
  publish_moves (Known place) h = moves_same old new (ap (λ (c : CoreData). c.base) h.1) (ap (λ (c : CoreData). c.story) h.1)
  publish_moves (Added place) h =
      let s = state_stepped old new me (adds ticket d) (old.spare - 1) h.3 in
      record {
        alone = alone_step old new (adds ticket d) (old.spare - 1) h.3;
        flight = λ t. ap (λ (x : State). x.flight t) s;
        lighter = subst (λ (x : State). 2 * (new.base.budget - length x.log) + length x.pending ≤ work_left old) (sym s)
            (subst (λ (b : Base). 2 * (b.budget - length (log_of old ++ d.entry ∷ [])) + length ((state_of old).pending ++ Place (length (log_of old)) ∷ []) ≤ work_left old) (sym (ap (λ (c : CoreData). c.base) h.3))
            (lighter_with old.base.budget (log_of old) d.entry (state_of old).pending (Place (length (log_of old))) h.1));
      }
    where
      lighter_with : (budget : ℕ) (log : List EntryData) (e : EntryData) (pending : List Work) (w : Work) → length log < budget
          → 2 * (budget - length (log ++ e ∷ [])) + length (pending ++ w ∷ []) ≤ 2 * (budget - length log) + length pending
      lighter_with budget log e pending w room = omega (arith, room, length-append log (e ∷ []), length-append pending (w ∷ []))
  publish_moves NoRoom h = passes_moves (state_of old).kept h.2

  pub publish_ids : (answer : Published) → Publishes old me ticket d answer new → new.ids ≡ old.ids
  publish_ids (Known place) h = ap (λ (c : CoreData). c.ids) h.1
  publish_ids (Added place) h = ap (λ (c : CoreData). c.ids) h.3
  publish_ids NoRoom h = go (state_of old).kept h.2
    where
      go : (kept : Option Deduction) → AddsOrPasses old me ticket d new kept → new.ids ≡ old.ids
      go None is = ap (λ (c : CoreData). c.ids) is
      go (Some k) is = ap (λ (c : CoreData). c.ids) is

  -- then the entry is there, or there was no room
  pub known_there : (place : ℕ) → Publishes old me ticket d (Known place) new → Contains (log_of new) d.entry
  known_there place h = subst (λ (c : CoreData). Contains (log_of c) d.entry) (sym h.1) (Contains-at (log_of old) place d.entry h.0)

  pub added_there : (place : ℕ) → Publishes old me ticket d (Added place) new → Contains (log_of new) d.entry
  added_there place h =
      let s = state_stepped old new me (adds ticket d) (old.spare - 1) h.3 in
      subst (λ (x : State). Contains x.log d.entry) (sym s) (Contains-push (log_of old) d.entry)

  pub no_room_kept : Publishes old me ticket d NoRoom new → IsSome (state_of new).kept
  no_room_kept h = go (state_of old).kept refl h.2
    where
      go : (kept : Option Deduction) → (state_of old).kept ≡ kept → AddsOrPasses old me ticket d new kept → IsSome (state_of new).kept
      go None e is = subst (λ (x : State). IsSome x.kept) (sym (state_stepped old new me (passes ticket d) (old.spare - 1) is)) refl
      go (Some k) e is = subst (λ (c : CoreData). IsSome (state_of c).kept) (sym is) (subst (λ o. IsSome o) (sym e) refl)

-- deductions keep their meaning
module _ {me : ℕ} where
  pub ready_still : (a b : CoreData) (d : DeducedData) → GoesAlone me a b → b.ids ≡ a.ids → IsReady a d → IsReady b d
  ready_still a b d goes ids ready =
      let l = longer a b goes in
      record {
        row = subst (λ (i : InternerData). IsRow i d.row) (sym ids) ready.row;
        follows = subst (λ (i : InternerData). FollowsBy b.base.problem (log_of b) d.support (entry_of i d.row)) (sym ids)
            (subst (λ (base : Base). FollowsBy base.problem (log_of b) d.support (entry_of a.ids d.row)) (sym goes.base)
            (subst (λ xs. FollowsBy a.base.problem xs d.support (entry_of a.ids d.row)) (sym l.log) (by_append a.base.problem (log_of a) l.more d.support (entry_of a.ids d.row) ready.follows)));
      }

module _ {me : ℕ} where
  pub there_still : (a b : CoreData) (d : DeducedData) → GoesAlone me a b → b.ids ≡ a.ids → IsThere a d → IsThere b d
  there_still a b d goes ids there = subst (λ (i : InternerData). Contains (log_of b) (entry_of i d.row)) (sym ids) (longer_has a b (longer a b goes) (entry_of a.ids d.row) there)

-- what is closed once all is there
module _ (p : ProblemData) (ids : InternerData) (L : List EntryData) (found : List DeducedData) (there : All (λ (d : DeducedData). Contains L (entry_of ids d.row)) found) where
  in_log : (e : EntryData) → Contains (map (λ (d : DeducedData). entry_of ids d.row) found) e → Contains L e
  in_log e c = All-contains (λ x. Contains L x) (map (λ (d : DeducedData). entry_of ids d.row) found) e (All-map (λ x. Contains L x) (λ (d : DeducedData). entry_of ids d.row) found there) c

  pub seed_closed : (point : ℕ) → AreConclusions p ids [] point AnySupport found → IsClosedSeed p L point
  seed_closed point are e at (s, follows) = in_log e (are.each s e at follows tt)

-- all that follows at a point by the place is in the log
abbrev pub HasAllThatFollow : ProblemData → List EntryData → ℕ → ℕ → List EntryData → Type 0
HasAllThatFollow p from place d L = (s : Support) (e : EntryData) → e.point ≡ d → FollowsBy p (take (place + 1) from) s e → Contains (premises s) place → Contains L e

pub has_all : (p : ProblemData) (ids : InternerData) (from L : List EntryData) (place d : ℕ) (found : List DeducedData) → All (λ (x : DeducedData). Contains L (entry_of ids x.row)) found
    → AreConclusions p ids (take (place + 1) from) d (Uses place) found → HasAllThatFollow p from place d L
has_all p ids from L place d found there are s e at follows among = in_log p ids L found there e (are.each s e at follows among)

module _ (p : ProblemData) (from more L : List EntryData) (place : ℕ) (within : place < length from) (grown_to : L ≡ from ++ more) where
  pub place_closed : (at : EntryData) (lists : List (List ℕ)) (items : List ℕ) → slice_get from place ≡ Some at → HasDependents p.points p.flow.pairs lists → items ≡ list_of lists at.point
      → ((k : ℕ) → k < length items → HasAllThatFollow p from place (get_or items k 0) L) → IsClosedPlace p L place
  place_closed at lists items here dependents is all at' e s here' depends follows among =
      let before : slice_get from place ≡ Some at' = at_within from more place at' within (subst (λ xs. slice_get xs place ≡ Some at') grown_to here') in
      let same : at' ≡ at = some_same at' at (sym before ∙ here) in
      let depends' = subst (λ (x : EntryData). IsDependent p.points p.flow.pairs x.point e.point) same depends in
      let listed = subst (λ xs. Contains xs e.point) (sym is) ((dependents.exact at.point e.point).1 depends') in
      let front : take (place + 1) L ≡ take (place + 1) from = ap (λ xs. take (place + 1) xs) grown_to ∙ take-append-le (place + 1) from more (omega arith) in
      all listed.0 listed.1 s e (at_number items listed.0 e.point listed.1 listed.2) (subst (λ E. FollowsBy p E s e) front follows) among
    where
      some_same : (x y : EntryData) → Some x ≡ Some y → x ≡ y
      some_same x y h = (cc)

      at_number : (xs : List ℕ) (k d : ℕ) → k < length xs → get_or xs k d ≡ d → d ≡ get_or xs k 0
      at_number [] k d lt h = absurd (omega arith)
      at_number (x ∷ xs) zero d lt h = sym h
      at_number (x ∷ xs) (suc k) d lt h = at_number xs k d (omega arith) h

module _ (me : ℕ) where
  pub published_there : (old new : CoreData) (ticket : ℕ) (d : Deduction) (answer : Published) → (answer ≡ NoRoom → ⊥) → Publishes old me ticket d answer new → Contains (log_of new) d.entry
  published_there old new ticket d (Known place) room h = known_there me old new ticket d place h
  published_there old new ticket d (Added place) room h = added_there me old new ticket d place h
  published_there old new ticket d NoRoom room h = absurd (room refl)

-- works were given back
pub record GoesBackFrom (old new : CoreData) : Type 0 where
  pub base : new.base ≡ old.base
  pub more : Story
  pub story : new.story ≡ old.story ++ more
  pub gives : All GivesBack more

pub goes_back_none : (a : CoreData) → GoesBackFrom a a
goes_back_none a = record { base = refl; more = []; story = sym (append_none a.story); gives = All-nil GivesBack }
  where
    append_none : (xs : List CoreStep) → xs ++ [] ≡ xs
    append_none [] = refl
    append_none (x ∷ xs) = ap (λ ys. x ∷ ys) (append_none xs)

pub goes_back_step : (a b c : CoreData) (worker ticket : ℕ) (spare : ℕ) → GoesBackFrom a b → c ≡ stepped b worker (gives_back ticket) spare → GoesBackFrom a c
goes_back_step a b c worker ticket spare g is =
    let step : CoreStep = record { worker = worker; action = gives_back ticket } in
    record {
      base = ap (λ (x : CoreData). x.base) is ∙ g.base;
      more = g.more ++ step ∷ [];
      story = ap (λ (x : CoreData). x.story) is ∙ ap (λ xs. xs ++ step ∷ []) g.story ∙ append_assoc a.story g.more (step ∷ []);
      gives = All-append GivesBack g.more (step ∷ []) g.gives (All-cons GivesBack step [] (ticket, refl) (All-nil GivesBack));
    }

pub goes_back_same : (a b c : CoreData) → GoesBackFrom a b → c ≡ b → GoesBackFrom a c
goes_back_same a b c g same = subst (λ (x : CoreData). GoesBackFrom a x) (sym same) g

-- a ticket is free once its work is given back
pub given_free : (a b : CoreData) (worker ticket : ℕ) (spare : ℕ) → b ≡ stepped a worker (gives_back ticket) spare → (state_of b).flight ticket ≡ None
given_free a b worker ticket spare is = ap (λ (s : State). s.flight ticket) (state_stepped a b worker (gives_back ticket) spare is) ∙ put_here ticket None (state_of a).flight

pub given_other : (a b : CoreData) (worker ticket : ℕ) (spare : ℕ) → b ≡ stepped a worker (gives_back ticket) spare → (other : ℕ) → (state_of a).flight other ≡ None → (state_of b).flight other ≡ None
given_other a b worker ticket spare is other none = elim (cases_eq other ticket) [
  | inl same ↦ ap (λ t. (state_of b).flight t) same ∙ given_free a b worker ticket spare is
  | inr ne ↦ ap (λ (s : State). s.flight other) (state_stepped a b worker (gives_back ticket) spare is) ∙ put_other ticket other None (state_of a).flight ne ∙ none
]

never_found : (c : CoreData) → ((place : ℕ) → IsFound c place → ⊥) → GoesOn c.base (log_of c)
never_found c never first (e, (start, there)) = let at = place_of (log_of c) e there in never at.0 (record { first = first; start = record { entry = e; at = at.1; is_start = start } })

-- the answers
pub least_answer : (c : CoreData) → IsLegal c.base c.story → ((place : ℕ) → IsFound c place → ⊥) → EndsAtRest c → (state_of c).kept ≡ None → IsLeastAnswer c
least_answer c legal never ends kept =
    let on = never_found c never in
    let rest = ends kept on in
    record {
      rest = rest;
      least = least_at_rest c.base (state_of c) (holds_after c.base c.story legal).sound rest;
      fits = fits_at_rest c.base c.story legal rest;
      goes_on = on;
    }

pub over_answer : (c : CoreData) → IsLegal c.base c.story → ((place : ℕ) → IsFound c place → ⊥) → IsSome (state_of c).kept → IsOverAnswer c
over_answer c legal never some =
    let past = (past_of (state_of c).kept refl some).1 in
    record { kept = some; full = past.full; exceeds = past.exceeds; goes_on = never_found c never }
  where
    past_of : (kept : Option Deduction) → (state_of c).kept ≡ kept → IsSome kept → (d : Deduction) × IsPast c.base (log_of c) d
    past_of None e h = absurd (false≢true h)
    past_of (Some d) e h = (d, (holds_after c.base c.story legal).sound.kept d e)

-- in a loop that publishes
module _ {me : ℕ} where
  pub moves_reserved : (a b c : CoreData) (spare : ℕ) → Moves me a b → c ≡ record { base = b.base; ids = b.ids; story = b.story; spare = spare } → Moves me a c
  moves_reserved a b c spare moves is = moves_trans a b c moves (moves_same b c (ap (λ (x : CoreData). x.base) is) (ap (λ (x : CoreData). x.story) is))

pub next_ready : (a : CoreData) (found ys rest : List DeducedData) (x : DeducedData) → All (IsReady a) found → ys ++ x ∷ rest ≡ found → IsReady a x
next_ready a found ys rest x ready whole = All-contains (IsReady a) found x ready (subst (λ xs. Contains xs x) whole (Contains-append_right ys (x ∷ rest) x (here x rest)))

module _ (me : ℕ) where
  pub next_there : (b c : CoreData) (ticket : ℕ) (d : DeducedData) (answer : Published) → (answer ≡ NoRoom → ⊥) → Publishes b me ticket (deduction_of b.ids d) answer c → IsThere c d
  next_there b c ticket d answer room h =
      subst (λ (ids : InternerData). Contains (log_of c) (entry_of ids d.row)) (sym (publish_ids me b c ticket (deduction_of b.ids d) answer h)) (published_there me b c ticket (deduction_of b.ids d) answer room h)

module _ {me : ℕ} where
  pub all_there : (b c : CoreData) (xs : List DeducedData) → GoesAlone me b c → c.ids ≡ b.ids → All (IsThere b) xs → All (IsThere c) xs
  all_there b c xs goes ids = All-weaker (IsThere b) (IsThere c) (λ d. there_still b c d goes ids) xs

pub all_yielded : (P : DeducedData → Type 0) (ys rest found : List DeducedData) → length rest ≡ 0 → ys ++ rest ≡ found → All P ys → All P found
all_yielded P ys [] found none whole all = subst (λ xs. All P xs) (sym (none_more ys) ∙ whole) all
  where
    none_more : (xs : List DeducedData) → xs ++ [] ≡ xs
    none_more [] = refl
    none_more (x ∷ xs) = ap (λ zs. x ∷ zs) (none_more xs)
all_yielded P ys (x ∷ rest) found none whole all = absurd (omega arith)

-- what follows may be published
pub seed_ready : (a b : CoreData) (point : ℕ) (found : List DeducedData) → b ≡ record { base = a.base; ids = b.ids; story = a.story; spare = a.spare } → AreConclusions a.base.problem b.ids [] point AnySupport found → All (IsReady b) found
seed_ready a b point found is are = All-weaker (IsDeduced a.base.problem b.ids []) (IsReady b) (λ d h. record {
  row = h.row;
  follows = subst (λ (base : Base). FollowsBy base.problem (log_of b) d.support (entry_of b.ids d.row)) (sym (ap (λ (c : CoreData). c.base) is)) (by_append a.base.problem [] (log_of b) d.support (entry_of b.ids d.row) h.follows);
}) found are.deduced

pub place_ready : (a b : CoreData) (point place : ℕ) (found : List DeducedData) → b ≡ record { base = a.base; ids = b.ids; story = a.story; spare = a.spare } → place < length (log_of a)
    → AreSomeConclusions a.base.problem b.ids (take (place + 1) (log_of a)) point (Uses place) found → All (IsReady b) found
place_ready a b point place found is within are = All-weaker (IsDeduced a.base.problem b.ids (take (place + 1) (log_of a))) (IsReady b) (λ d h. record {
  row = h.row;
  follows =
      let whole : take (length (log_of a)) (log_of a) ≡ log_of a = take_all (length (log_of a)) (log_of a) (omega arith) in
      let same : log_of b ≡ log_of a = ap (λ (c : CoreData). log_of c) is in
      subst (λ (base : Base). FollowsBy base.problem (log_of b) d.support (entry_of b.ids d.row)) (sym (ap (λ (c : CoreData). c.base) is))
      (subst (λ xs. FollowsBy a.base.problem xs d.support (entry_of b.ids d.row)) (whole ∙ sym same)
      (by_take a.base.problem (log_of a) (place + 1) (length (log_of a)) d.support (entry_of b.ids d.row) (omega (arith, within)) h.follows));
}) found are.deduced

-- points in range
pub point_within : (c : CoreData) (i : ℕ) (e : EntryData) → IsLegal c.base c.story → slice_get (log_of c) i ≡ Some e → e.point < length c.base.problem.points.points
point_within c i e legal at =
    let supports = (holds_after c.base c.story legal).sound.supports in
    let by = (supports_support c.base.problem (log_of c) (state_of c).supports supports).follows i e at in
    within_from c.base.problem.points.points e.point by.1.of by.1.at

pub dependent_within : (points : PointsData) (flows : List FlowPair) (lists : List (List ℕ)) (p d : ℕ) → HasDependents points flows lists → Contains (list_of lists p) d → d < length points.points
dependent_within points flows lists p d has c = let depends = (has.exact p d).0 c in within_from points.points d depends.of depends.at

-- an answer that says more
pub answer_more : (E P Q R : Type 0) (r : Result Bool E) → (P → Q) → IfOk r (λ all. MatchBool all P R) → IfOk r (λ all. MatchBool all Q R)
answer_more E P Q R (Ok true) f h = f h
answer_more E P Q R (Ok false) f h = h
answer_more E P Q R (Err e) f h = h

-- an option that is looked at
pub mapped_some : {D : Type 0} (f : D → Deduction) (o : Option (Bor D)) → is_some o ≡ true → IsSome (option_map f (option_copied o))
mapped_some f None h = absurd (false≢true h)
mapped_some f (Some x) h = refl

pub mapped_none : {D : Type 0} (f : D → Deduction) (o : Option (Bor D)) → is_some o ≡ false → option_map f (option_copied o) ≡ None
mapped_none f None h = refl
mapped_none f (Some x) h = absurd (false≢true (sym h))

pub none_unless : {X : Type 0} (o : Option X) → ((x : X) → o ≡ Some x → ⊥) → o ≡ None
none_unless None h = refl
none_unless (Some x) h = absurd (h x refl)

-- in a loop over dependents
module _ {me : ℕ} where
  pub moves_asked : (a b c : CoreData) → Moves me a b → c ≡ record { base = b.base; ids = c.ids; story = b.story; spare = b.spare } → Moves me a c
  moves_asked a b c moves is = moves_trans a b c moves (moves_same b c (ap (λ (x : CoreData). x.base) is) (ap (λ (x : CoreData). x.story) is))

module _ {me : ℕ} where
  pub has_more : (p : ProblemData) (from : List EntryData) (place d : ℕ) (b e : CoreData) → GoesAlone me b e → HasAllThatFollow p from place d (log_of b) → HasAllThatFollow p from place d (log_of e)
  has_more p from place d b e goes h = λ s x at follows among. longer_has b e (longer b e goes) x (h s x at follows among)

module _ {me : ℕ} where
  pub has_new : (a b m e : CoreData) (place d : ℕ) (found : List DeducedData) → place < length (log_of a) → GoesAlone me a b → e.ids ≡ m.ids
      → AreConclusions b.base.problem m.ids (take (place + 1) (log_of b)) d (Uses place) found → All (IsThere e) found → HasAllThatFollow a.base.problem (log_of a) place d (log_of e)
  has_new a b m e place d found within goes ids are there =
      let l = longer a b goes in
      let front : take (place + 1) (log_of b) ≡ take (place + 1) (log_of a) = ap (λ xs. take (place + 1) xs) l.log ∙ take-append-le (place + 1) (log_of a) l.more (omega arith) in
      has_all a.base.problem m.ids (log_of a) (log_of e) place d found
      (subst (λ (i : InternerData). All (λ (x : DeducedData). Contains (log_of e) (entry_of i x.row)) found) ids there)
      (subst (λ (base : Base). AreConclusions base.problem m.ids (take (place + 1) (log_of a)) d (Uses place) found) goes.base
      (subst (λ xs. AreConclusions b.base.problem m.ids xs d (Uses place) found) front are))

module _ {me : ℕ} where
  pub closed_at_end : (a e : CoreData) (place : ℕ) (at : EntryData) (lists : List (List ℕ)) (items : List ℕ) (index : ℕ) → place < length (log_of a) → GoesAlone me a e → slice_get (log_of a) place ≡ Some at
      → HasDependents a.base.problem.points a.base.problem.flow.pairs lists → slice_get lists at.point ≡ Some items → length items ≤ index
      → ((k : ℕ) → k < index → HasAllThatFollow a.base.problem (log_of a) place (get_or items k 0) (log_of e)) → IsClosedPlace e.base.problem (log_of e) place
  closed_at_end a e place at lists items index within goes here dependents listed done all =
      let l = longer a e goes in
      subst (λ (base : Base). IsClosedPlace base.problem (log_of e) place) (sym goes.base)
      (place_closed a.base.problem (log_of a) l.more (log_of e) place within l.log at lists items here dependents (sym (ap (λ o. unwrap_or o []) listed)) (λ k lt. all k (omega (arith, lt))))

module _ {me : ℕ} where
  pub in_log_still : (a b : CoreData) (place : ℕ) → GoesAlone me a b → place < length (log_of a) → place < length (log_of b)
  in_log_still a b place goes within = let l = longer a b goes in omega (arith, within, ap (λ xs. length xs) l.log, length-append (log_of a) l.more)

-- a work that is taken is one
pub taken_work : (c : CoreData) (work : Work) → IsLegal c.base c.story → Contains (state_of c).pending work → IsWork c.base.problem (log_of c) work
taken_work c work legal pending = (holds_after c.base c.story legal).sound.real work (inl pending)

module _ (me : ℕ) where
  pub work_taken : (a b : CoreData) (work : Work) (ticket spare : ℕ) → IsWork a.base.problem (log_of a) work → b ≡ stepped a me (takes work ticket) spare → IsWork b.base.problem (log_of b) work
  work_taken a b work ticket spare is_work is =
      subst (λ (base : Base). IsWork base.problem (log_of b) work) (sym (ap (λ (c : CoreData). c.base) is))
      (subst (λ xs. IsWork a.base.problem xs work) (sym (ap (λ (s : State). s.log) (state_stepped a b me (takes work ticket) spare is))) is_work)

-- no work was given out
module _ (me : ℕ) where
  pub not_taken : (a b : CoreData) (answer : Taken) → ((work : Work) (ticket : ℕ) → answer ≡ Item work ticket → ⊥) → NothingFlies a → Takes a me answer b → (b ≡ a) × EndsAtRest b
  not_taken a b (Found place) other none h = (h.1, subst (λ (c : CoreData). EndsAtRest c) (sym h.1) (λ kept on. absurd (on h.0.first (h.0.start.entry, (h.0.start.is_start, Contains-at (log_of a) place h.0.start.entry h.0.start.at)))))
  not_taken a b Over other none h = (h.2, subst (λ (c : CoreData). EndsAtRest c) (sym h.2) (λ kept on. absurd (some_none (state_of a).kept h.1 kept)))
    where
      some_none : (o : Option Deduction) → IsSome o → o ≡ None → ⊥
      some_none None s e = false≢true s
      some_none (Some x) s e = cc
  not_taken a b (Item work ticket) other none h = absurd (other work ticket refl)
  not_taken a b Idle other none h = absurd (some_none (h.1.flown) (sym h.1.flight ∙ none h.1.ticket))
    where
      some_none : (x : Flight) → Some x ≡ None → ⊥
      some_none x e = cc
  not_taken a b Quiet other none h = (h.2, subst (λ (c : CoreData). EndsAtRest c) (sym h.2) (λ kept on. h.1))

pub seed_closed_after : (a m e : CoreData) (point : ℕ) (found : List DeducedData) → m ≡ record { base = a.base; ids = m.ids; story = a.story; spare = a.spare } → e.base ≡ m.base → e.ids ≡ m.ids
    → AreConclusions a.base.problem m.ids [] point AnySupport found → All (IsThere e) found → IsClosedSeed e.base.problem (log_of e) point
seed_closed_after a m e point found is base ids are there =
    let same : e.base ≡ a.base = base ∙ ap (λ (c : CoreData). c.base) is in
    subst (λ (b : Base). IsClosedSeed b.problem (log_of e) point) (sym same)
    (seed_closed a.base.problem m.ids (log_of e) found (subst (λ (i : InternerData). All (λ (x : DeducedData). Contains (log_of e) (entry_of i x.row)) found) ids there) point are)

-- from nothing on
abbrev pub IsNew : Base → CoreData → Type 0
IsNew base a = a ≡ record { base = base; ids = record { types = []; sets = []; envs = [] }; story = []; spare = 0 }

module _ {me : ℕ} where
  pub by_one : (base : Base) (a b : CoreData) → IsNew base a → GoesAlone me a b → (b.base ≡ base) × AreOfWorker me b.story
  by_one base a b is goes = (
    goes.base ∙ ap (λ (c : CoreData). c.base) is,
    subst (λ (story : Story). All (λ (s : CoreStep). s.worker ≡ me) story) (sym (goes.story ∙ ap (λ (c : CoreData). c.story ++ goes.more) is)) goes.alone,
  )

pub alone_whole : (base : Base) (a b : CoreData) → IsNew base a → GoesAlone 0 a b → IsAlone base b
alone_whole base a b is goes = let h = by_one base a b is goes in record { same = h.0; alone = h.1 }

module _ {me : ℕ} where
  pub holds_new : (a b : CoreData) (work : Work) (ticket spare : ℕ) → b ≡ stepped a me (takes work ticket) spare → (state_of b).flight ticket ≡ Some (record { worker = me; work = work })
  holds_new a b work ticket spare is = ap (λ (s : State). s.flight ticket) (state_stepped a b me (takes work ticket) spare is) ∙ put_here ticket (Some (record { worker = me; work = work })) (state_of a).flight

pub nothing_flies : (a b : CoreData) → b.base ≡ a.base → b.story ≡ a.story → NothingFlies a → NothingFlies b
nothing_flies a b base story none t = ap (λ (s : State). s.flight t) (state_same a b base story) ∙ none t
