-- Works whose conclusions wait, step by step.
use Rattle.std.proofs.Common.{◌≡◌, refl, sym, ◌∙◌, ap, subst, ℕ, ◌+◌, ◌-◌, ◌*◌, ◌<◌, ◌≤◌, Bool, true, false, List, [], ◌∷◌, ◌++◌, length, take, slice_get, get_or, map, Option, Some, None, IsSome, IfNone, IsTrue, All, arith, Contains, inl, inr, ◌⊎◌, Ok, length-append, suc}
use Rattle.std.specs.Bool.{MatchBool}
use Rattle.std.proofs.lemmas.Bool.{false≢true, cases_eq, cases_lt}
use Rattle.std.proofs.lemmas.List.{take-append-le}
use Rattle.std.proofs.lemmas.List.Elements.{All-contains}
use Rattle.std.proofs.lemmas.Option.{same_Some, none-some, get_or_from_slice_get}
use Rattle.hs_scheme.specs.declared.memory.OutOfMemory.{OutOfMemory}
use Rattle.hs_scheme.specs.flow.Dependents.{IsDependent}
use Rattle.hs_scheme.specs.Problem.{ProblemData}
use Rattle.hs_scheme.proofs.Lists.{slice_get-read, Contains-at}
use Rattle.hs_flow.specs.Dependents.{HasDependents, list_of}
use Rattle.hs_table.specs.Entries.{EntryData}
use Rattle.hs_table.specs.Follows.{FollowsBy}
use Rattle.hs_table_laws.proofs.Members.{from_map}
use Rattle.hs_types.specs.Interned.{InternerData, entry_of, Grows}
use Rattle.hs_types.proofs.Numbers.{Grows-refl, row_within, row_stays}
use Rattle.hs_rules.specs.Conclusions.{DeducedData, Uses, AnySupport, AreConclusions}
use Rattle.hs_history.specs.declared.step.Work.{Work}
use Rattle.hs_history.specs.declared.step.Work.TheVariants.{Seed, Place}
use Rattle.hs_history.specs.declared.step.Flight.{Flight}
use Rattle.hs_history.specs.Story.{Base, Deduction, takes, adds, finishes, gives_back}
use Rattle.hs_history.specs.CoreStep.{State, Holds, CanTake, CanFinish, GoesOn, IsClosedWork, put, without}
use Rattle.hs_history.specs.History.{IsWork, IsLegal}
use Rattle.hs_history.specs.Following.{HasSeed, HasAt, HasPlace, HasWork}
use Rattle.hs_history.proofs.Logs.{at_within}
use Rattle.hs_history.proofs.Works.{put_here, put_other, put_cases}
use Rattle.hs_core.specs.declared.answers.Taken.TheVariants.{Quiet, Idle, Over, Found}
use Rattle.hs_core.specs.declared.answers.Published.TheVariants.{Added}
use Rattle.hs_core.specs.declared.selecting.Progress.{Progress}
use Rattle.hs_core.specs.declared.selecting.Progress.TheVariants.{More, Done, Ended}
use Rattle.hs_core.specs.Core.{CoreData, state_of, log_of, stepped}
use Rattle.hs_core.specs.Answers.{Takes, Publishes}
use Rattle.hs_core.specs.Draining.{work_left, GoesAlone, NothingFlies, IsReady, EndsAtRest, Closes}
use Rattle.hs_core.specs.Waiting.{IsThereOrWaits}
use Rattle.hs_core.specs.Selecting.{AreReady, AreOwn, IsFormedWork, AreFormedWorks, IsSelecting, AreClosed, IsEnded, IsIdleCore, IsStill, IsSpent, After, EndsAs}
use Rattle.hs_core.proofs.Moving.{Moves, longer, longer_has, alone_same, alone_step, alone_trans, moves_same, state_same, state_stepped, taken_work, ready_still}
use Rattle.hs_core.proofs.Turning.{shorter}
use Rattle.hs_core.proofs.Flying.{closes_goes, closes_flight}
use Rattle.hs_core.proofs.Waits.{known_then}

-- what follows by a place of the front of a log
module _ (p : ProblemData) (from more L : List EntryData) (grown_to : L ≡ from ++ more) (Is Then : EntryData → Type 0) (then : (e : EntryData) → Is e → Then e) where
  place_kept : (place : ℕ) → place < length from → HasPlace p from place Is → HasPlace p L place Then
  place_kept place within has at e s here depends follows among =
      let before : slice_get from place ≡ Some at = at_within from more place at within (subst (λ xs. slice_get xs place ≡ Some at) grown_to here) in
      let front : take (place + 1) L ≡ take (place + 1) from = ap (λ xs. take (place + 1) xs) grown_to ∙ take-append-le (place + 1) from more (omega arith) in
      then e (has at e s before depends (subst (λ E. FollowsBy p E s e) front follows) among)

  work_kept : (work : Work) → IsWork p from work → HasWork p from work Is → HasWork p L work Then
  work_kept (Seed point) is has = λ e at follows. then e (has e at follows)
  work_kept (Place place) is has = place_kept place is has

  work_still : (work : Work) → IsWork p from work → IsWork p L work
  work_still (Seed point) is = is
  work_still (Place place) is = omega (arith, is, ap (λ xs. length xs) grown_to, length-append from more)

-- a work of an earlier core
module _ {me : ℕ} (a b : CoreData) (goes : GoesAlone me a b) (W V : DeducedData → Type 0) (then : (e : EntryData) → IsThereOrWaits a.ids (log_of a) W e → IsThereOrWaits b.ids (log_of b) V e) where
  formed_then : (work : Work) → IsFormedWork a W work → IsFormedWork b V work
  formed_then work f =
      let l = longer a b goes in
      let problem : b.base.problem ≡ a.base.problem = ap (λ (x : Base). x.problem) goes.base in
      record {
        is_work = subst (λ p. IsWork p (log_of b) work) (sym problem) (work_still a.base.problem (log_of a) l.more (log_of b) l.log (IsThereOrWaits a.ids (log_of a) W) (IsThereOrWaits b.ids (log_of b) V) then work f.is_work);
        all = subst (λ p. HasWork p (log_of b) work (IsThereOrWaits b.ids (log_of b) V)) (sym problem)
            (work_kept a.base.problem (log_of a) l.more (log_of b) l.log (IsThereOrWaits a.ids (log_of a) W) (IsThereOrWaits b.ids (log_of b) V) then work f.is_work f.all);
      }

-- conclusions in a core whose interner has grown
pub ready_grown : (a b : CoreData) → b.base ≡ a.base → b.story ≡ a.story → Grows a.ids b.ids → (d : DeducedData) → IsReady a d → IsReady b d
ready_grown a b base story g d r = record {
  row = row_within a.ids b.ids g d.row r.row;
  follows =
      subst (λ e. FollowsBy b.base.problem (log_of b) d.support e) (sym (row_stays a.ids b.ids g d.row r.row))
      (subst (λ (s : State). FollowsBy b.base.problem s.log d.support (entry_of a.ids d.row)) (sym (state_same a b base story))
      (subst (λ (x : Base). FollowsBy x.problem (log_of a) d.support (entry_of a.ids d.row)) (sym base) r.follows));
}

-- what was found is known
found_known : (ids : InternerData) (log : List EntryData) (W : DeducedData → Type 0) (found : List DeducedData) → All (λ (d : DeducedData). IsThereOrWaits ids log W (entry_of ids d.row)) found → (e : EntryData)
    → Contains (map (λ (d : DeducedData). entry_of ids d.row) found) e → IsThereOrWaits ids log W e
found_known ids log W found all e c =
    let d = from_map (λ (x : DeducedData). entry_of ids x.row) found e c in
    subst (λ x. IsThereOrWaits ids log W x) (sym d.is) (All-contains (λ (x : DeducedData). IsThereOrWaits ids log W (entry_of ids x.row)) found d.item all d.there)

-- what follows at a point by a place is known
pub has_at : (p : ProblemData) (ids : InternerData) (log : List EntryData) (W : DeducedData → Type 0) (place point : ℕ) (found : List DeducedData) → AreConclusions p ids (take (place + 1) log) point (Uses place) found
    → All (λ (d : DeducedData). IsThereOrWaits ids log W (entry_of ids d.row)) found → HasAt p log place point (IsThereOrWaits ids log W)
has_at p ids log W place point found are all s e at follows among = found_known ids log W found all e (are.each s e at follows among)

pub has_seed : (p : ProblemData) (ids : InternerData) (log : List EntryData) (W : DeducedData → Type 0) (point : ℕ) (found : List DeducedData) → AreConclusions p ids [] point AnySupport found
    → All (λ (d : DeducedData). IsThereOrWaits ids log W (entry_of ids d.row)) found → HasSeed p point (IsThereOrWaits ids log W)
has_seed p ids log W point found are all e at (s, follows) = found_known ids log W found all e (are.each s e at follows tt)

pub place_whole : (p : ProblemData) (log : List EntryData) (place : ℕ) (Is : EntryData → Type 0) (at : EntryData) (lists : List (List ℕ)) (items : List ℕ) → slice_get log place ≡ Some at
    → HasDependents p.points p.flow.pairs lists → items ≡ list_of lists at.point → ((k : ℕ) → k < length items → HasAt p log place (get_or items k 0) Is) → HasPlace p log place Is
place_whole p log place Is at lists items here dependents is all at' e s here' depends follows among =
    let same : at' ≡ at = same_Some at' at (sym here' ∙ here) in
    let depends' = subst (λ (x : EntryData). IsDependent p.points p.flow.pairs x.point e.point) same depends in
    let listed = subst (λ xs. Contains xs e.point) (sym is) ((dependents.exact at.point e.point).1 depends') in
    let found = get_or_from_slice_get items listed.0 e.point 0 (slice_get-read items listed.0 e.point listed.1 listed.2) in
    all listed.0 listed.1 s e (sym found) follows among

-- between turns, in a core that has room for more events
pub selecting_spare : (me last k : ℕ) (a b : CoreData) (W : DeducedData → Type 0) → b ≡ record { base = a.base; ids = a.ids; story = a.story; spare = k } → IsSelecting me a W last → IsSelecting me b W last
selecting_spare me last k a b W is s = subst (λ (x : CoreData). IsSelecting me x W last) (sym is) (record {
  own = s.own;
  ready = λ d w. record { row = (s.ready d w).row; follows = (s.ready d w).follows };
  formed = λ t f h. record { is_work = (s.formed t f h).is_work; all = (s.formed t f h).all };
  holds = s.holds;
})

-- at first
pub selecting_first : (me last : ℕ) (c : CoreData) (W : DeducedData → Type 0) → NothingFlies c → ((d : DeducedData) → W d → ⊥) → IsSelecting me c W last
selecting_first me last c W flies none = record {
  own = λ t f h. absurd (none-some f (sym (flies t) ∙ h));
  ready = λ d w. absurd (none d w);
  formed = λ t f h. absurd (none-some f (sym (flies t) ∙ h));
  holds = λ d w. absurd (none d w);
}

-- once nothing waits
pub selecting_none : (me last : ℕ) (c : CoreData) (W V : DeducedData → Type 0) → ((d : DeducedData) → W d → ⊥) → ((d : DeducedData) → V d → W d) → IsSelecting me c W last → IsSelecting me c V last
selecting_none me last c W V none fewer s = record {
  own = s.own;
  ready = λ d v. absurd (none d (fewer d v));
  formed = λ t f h. formed_then {me = me} c c (alone_same c c refl refl) W V (λ e known. elim known [ inl there ↦ inl there | inr (d, (w, is)) ↦ absurd (none d w) ]) f.work (s.formed t f h);
  holds = λ d v. absurd (none d (fewer d v));
}

-- a work was taken, and what follows by it waits
module _ {me : ℕ} (a b e : CoreData) (work : Work) (ticket k last : ℕ) (W V : DeducedData → Type 0) (selecting : IsSelecting me a W last) (can : CanTake a.base (state_of a) work ticket) (took : b ≡ stepped a me (takes work ticket) k)
    (kept : e ≡ record { base = b.base; ids = e.ids; story = b.story; spare = b.spare }) (grows : Grows b.ids e.ids) (keep : (d : DeducedData) → W d → V d) where
  e-base : e.base ≡ b.base
  e-base = ap (λ (c : CoreData). c.base) kept

  e-story : e.story ≡ b.story
  e-story = ap (λ (c : CoreData). c.story) kept

  pub took_goes : GoesAlone me a e
  took_goes = alone_trans a b e (alone_step a b (takes work ticket) k took) (alone_same b e e-base e-story)

  flight_is : (t : ℕ) → (state_of e).flight t ≡ put ticket (Some (record { worker = me; work = work })) (state_of a).flight t
  flight_is t = ap (λ (s : State). s.flight t) (state_same b e e-base e-story) ∙ ap (λ (s : State). s.flight t) (state_stepped a b me (takes work ticket) k took)

  pub took_holds : Holds (state_of e) me ticket
  took_holds = (work, flight_is ticket ∙ put_here ticket (Some (record { worker = me; work = work })) (state_of a).flight)

  flying : (t : ℕ) (f : Flight) → (state_of e).flight t ≡ Some f → (f ≡ record { worker = me; work = work }) ⊎ ((state_of a).flight t ≡ Some f)
  flying t f h = elim (put_cases ticket t (Some (record { worker = me; work = work })) (state_of a).flight (Some f) (sym (flight_is t) ∙ h)) [
    | inl (same, is) ↦ inl (same_Some f (record { worker = me; work = work }) (sym is))
    | inr (ne, is) ↦ inr is
  ]

  pub took_own : AreOwn me e
  took_own t f h = elim (flying t f h) [ inl is ↦ ap (λ (x : Flight). x.worker) is | inr was ↦ selecting.own t f was ]

  b-ids : b.ids ≡ a.ids
  b-ids = ap (λ (c : CoreData). c.ids) took

  grown : Grows a.ids e.ids
  grown = subst (λ (i : InternerData). Grows i e.ids) b-ids grows

  b-log : log_of b ≡ log_of a
  b-log = ap (λ (s : State). s.log) (state_stepped a b me (takes work ticket) k took)

  e-log : log_of e ≡ log_of b
  e-log = ap (λ (s : State). s.log) (state_same b e e-base e-story)

  took_known : (x : EntryData) → IsThereOrWaits a.ids (log_of a) W x → IsThereOrWaits e.ids (log_of e) V x
  took_known = known_then a.ids e.ids (log_of a) (log_of e) W V grown (λ x c. subst (λ xs. Contains xs x) (sym (e-log ∙ b-log)) c) (λ d w. (selecting.ready d w).row) (λ d w. inl (keep d w))

  took_formed : IsLegal a.base a.story → HasWork b.base.problem (log_of b) work (IsThereOrWaits e.ids (log_of b) V) → AreFormedWorks e V
  took_formed legal all t f h = elim (flying t f h) [
    | inl is ↦ subst (λ (x : Flight). IsFormedWork e V x.work) (sym is) (record {
      is_work = subst (λ (x : Base). IsWork x.problem (log_of e) work) (sym (e-base ∙ ap (λ (c : CoreData). c.base) took))
          (subst (λ xs. IsWork a.base.problem xs work) (sym (e-log ∙ b-log)) (taken_work a work legal can.pending));
      all = subst (λ (x : Base). HasWork x.problem (log_of e) work (IsThereOrWaits e.ids (log_of e) V)) (sym e-base) (subst (λ xs. HasWork b.base.problem xs work (IsThereOrWaits e.ids xs V)) (sym e-log) all);
    })
    | inr was ↦ formed_then a e took_goes W V took_known f.work (selecting.formed t f was)
  ]

  took_lighter : work_left e < work_left a
  took_lighter =
      let s = state_stepped a b me (takes work ticket) k took in
      let base : b.base.budget ≡ a.base.budget = ap (λ (x : CoreData). x.base.budget) took in
      let log : length (log_of b) ≡ length (log_of a) = ap (λ (x : State). length x.log) s in
      let pending : length (state_of b).pending ≡ length (without work (state_of a).pending) = ap (λ (x : State). length x.pending) s in
      let less : work_left b < work_left a = lighter_with b.base.budget a.base.budget (length (log_of b)) (length (log_of a)) (length (state_of b).pending) (length (without work (state_of a).pending)) (length (state_of a).pending) base log pending (shorter work (state_of a).pending can.pending) in
      let last = (moves_same {me = me} b e e-base e-story).lighter in
      omega (arith, less, last)
    where
      lighter_with : (m n i j p q r : ℕ) → m ≡ n → i ≡ j → p ≡ q → suc q ≡ r → 2 * (m - i) + p < 2 * (n - j) + r
      lighter_with m n i j p q r e f g h = let same : m - i ≡ n - j = λ t. e t - f t in omega (arith, same, g, h)

  pub took_after : (done : Type 0) → IsLegal a.base a.story → AreReady e V → HasWork b.base.problem (log_of b) work (IsThereOrWaits e.ids (log_of b) V) → After done More me a e V ticket
  took_after done legal ready all = (took_lighter, record { own = took_own; ready = ready; formed = took_formed legal all; holds = λ d v. took_holds })

-- a conclusion that waited was published
module _ {me : ℕ} (a b : CoreData) (ticket : ℕ) (d : DeducedData) (W V : DeducedData → Type 0) (selecting : IsSelecting me a W ticket) (fewer : (x : DeducedData) → V x → W x)
    (others : (x : DeducedData) → W x → (x ≡ d) ⊎ V x) where
  published_known : Moves me a b → b.ids ≡ a.ids → Contains (log_of b) (entry_of a.ids d.row) → (e : EntryData) → IsThereOrWaits a.ids (log_of a) W e → IsThereOrWaits b.ids (log_of b) V e
  published_known moves ids there =
      known_then a.ids b.ids (log_of a) (log_of b) W V (subst (λ (i : InternerData). Grows a.ids i) (sym ids) (Grows-refl a.ids)) (longer_has a b (longer a b moves.alone)) (λ x u. (selecting.ready x u).row)
      (λ x u. elim (others x u) [
        | inl is ↦ inr (subst (λ (i : InternerData). Contains (log_of b) (entry_of i x.row)) (sym ids) (subst (λ (y : DeducedData). Contains (log_of b) (entry_of a.ids y.row)) (sym is) there))
        | inr still ↦ inl still
      ])

  pub published_own : Moves me a b → AreOwn me b
  published_own moves t f h = selecting.own t f (sym (moves.flight t) ∙ h)

  pub published_selecting : Moves me a b → b.ids ≡ a.ids → Contains (log_of b) (entry_of a.ids d.row) → IsSelecting me b V ticket
  published_selecting moves ids there = record {
    own = published_own moves;
    ready = λ x v. ready_still a b x moves.alone ids (selecting.ready x (fewer x v));
    formed = λ t f h. formed_then a b moves.alone W V (published_known moves ids there) f.work (selecting.formed t f (sym (moves.flight t) ∙ h));
    holds = λ x v. let h = selecting.holds x (fewer x v) in (h.0, moves.flight ticket ∙ h.1);
  }

-- an entry that was added
pub added_lighter : (me : ℕ) (old new : CoreData) (ticket place : ℕ) (d : Deduction) → Publishes old me ticket d (Added place) new → work_left new < work_left old
added_lighter me old new ticket place d h =
    let s = state_stepped old new me (adds ticket d) (old.spare - 1) h.3 in
    subst (λ (x : State). 2 * (new.base.budget - length x.log) + length x.pending < work_left old) (sym s)
    (subst (λ (b : Base). 2 * (b.budget - length (log_of old ++ d.entry ∷ [])) + length ((state_of old).pending ++ Place (length (log_of old)) ∷ []) < work_left old) (sym (ap (λ (c : CoreData). c.base) h.3))
    (lighter_with old.base.budget (log_of old) d.entry (state_of old).pending (Place (length (log_of old))) h.1))
  where
    lighter_with : (budget : ℕ) (log : List EntryData) (e : EntryData) (pending : List Work) (w : Work) → length log < budget
        → 2 * (budget - length (log ++ e ∷ [])) + length (pending ++ w ∷ []) < 2 * (budget - length log) + length pending
    lighter_with budget log e pending w room = omega (arith, room, length-append log (e ∷ []), length-append pending (w ∷ []))

-- past the budget, and with the start entry
kept_some : (o : Option Deduction) → IsSome o → o ≡ None → ⊥
kept_some None s e = false≢true s
kept_some (Some x) s e = cc

pub kept_ended : (c : CoreData) → IsSome (state_of c).kept → IsEnded c
kept_ended c some none on = kept_some (state_of c).kept some none

pub if_none : {P : Type 0} (o : Option DeducedData) → ((d : DeducedData) → o ≡ Some d → ⊥) → IfNone o P → P
if_none None other h = h
if_none (Some d) other h = absurd (other d refl)

-- nothing waits any more
all_closed : (c : CoreData) (W : DeducedData → Type 0) → ((d : DeducedData) → W d → ⊥) → AreFormedWorks c W → AreClosed c
all_closed c W none formed t f h = closed_by c.base.problem (log_of c) (IsThereOrWaits c.ids (log_of c) W) (λ e known. elim known [ inl there ↦ there | inr (d, (w, is)) ↦ absurd (none d w) ]) f.work (formed t f h).all
  where
    closed_by : (p : ProblemData) (L : List EntryData) (Is : EntryData → Type 0) → ((e : EntryData) → Is e → Contains L e) → (work : Work) → HasWork p L work Is → IsClosedWork p L work
    closed_by p L Is then (Seed point) has = λ e at follows. then e (has e at follows)
    closed_by p L Is then (Place place) has = λ at e s here depends follows among. then e (has at e s here depends follows among)

-- a work is ended
closes_as : (a b : CoreData) (worker ticket : ℕ) (closed : Bool) → Closes {E = OutOfMemory} a worker ticket (Ok closed) b → EndsAs closed a b
closes_as a b worker ticket true is =
    let s = state_stepped a b worker (finishes ticket) a.spare is in
    record { log = ap (λ (x : State). x.log) s; kept = ap (λ (x : State). x.kept) s; pending = λ h. ap (λ (x : State). x.pending) s }
closes_as a b worker ticket false is =
    let s = state_stepped a b worker (gives_back ticket) a.spare is in
    record { log = ap (λ (x : State). x.log) s; kept = ap (λ (x : State). x.kept) s; pending = λ h. absurd (false≢true h) }

ends_then : (closed : Bool) (a b c : CoreData) → EndsAs closed a b → EndsAs closed b c → EndsAs closed a c
ends_then closed a b c f g = record { log = g.log ∙ f.log; kept = g.kept ∙ f.kept; pending = λ h. g.pending h ∙ f.pending h }

ends_same : (closed : Bool) (a b : CoreData) → b ≡ a → EndsAs closed a b
ends_same closed a b is = record { log = ap (λ (c : CoreData). log_of c) is; kept = ap (λ (c : CoreData). (state_of c).kept) is; pending = λ h. ap (λ (c : CoreData). (state_of c).pending) is }

-- what a turn comes to
pub spent_still : (me last : ℕ) (a e : CoreData) (V : DeducedData → Type 0) (o : Progress) → After (IsSpent me a e V last) o me a e V last → After (IsStill me a e V last) o me a e V last
spent_still me last a e V More h = h
spent_still me last a e V Done h = h.still
spent_still me last a e V Ended h = h

pub surplus_after : (done still : Type 0) (me last : ℕ) (a r e : CoreData) (V : DeducedData → Type 0) (o : Progress) → (o ≡ Done → ⊥) → work_left r ≤ work_left a → After still o me r e V last → After done o me a e V last
surplus_after done still me last a r e V More other le h = (omega (arith, h.0, le), h.1)
surplus_after done still me last a r e V Done other le h = absurd (other refl)
surplus_after done still me last a r e V Ended other le h = h

pub idle_after : (me last : ℕ) (a b e : CoreData) (V : DeducedData → Type 0) (o : Progress) → work_left b ≤ work_left a → IsIdleCore b → After (IsSpent me b e V last) o me b e V last → After (AreClosed e × IsIdleCore e) o me a e V last
idle_after me last a b e V More le idle h = (omega (arith, h.0, le), h.1)
idle_after me last a b e V Done le idle h = (all_closed e V h.none h.still.selecting.formed, subst (λ (c : CoreData). IsIdleCore c) (sym h.still.same) idle)
idle_after me last a b e V Ended le idle h = h

module _ (me : ℕ) where
  pub over_ended : (a b : CoreData) → Takes a me Over b → IsEnded b
  over_ended a b h = subst (λ (c : CoreData). IsEnded c) (sym h.2) (kept_ended a h.1)

  pub found_ended : (a b : CoreData) (place : ℕ) → Takes a me (Found place) b → IsEnded b
  found_ended a b place h = subst (λ (c : CoreData). IsEnded c) (sym h.1) (λ kept on. on h.0.first (h.0.start.entry, (h.0.start.is_start, Contains-at (log_of a) place h.0.start.entry h.0.start.at)))

  pub idle_is : (a b : CoreData) → Takes a me Idle b → IsIdleCore b
  idle_is a b h = subst (λ (c : CoreData). IsIdleCore c) (sym h.2) (record { pending = h.1.pending; kept = h.1.none_kept })

  pub quiet_is : (a b : CoreData) → Takes a me Quiet b → IsIdleCore b
  quiet_is a b h = subst (λ (c : CoreData). IsIdleCore c) (sym h.2) (record { pending = h.1.pending; kept = h.1.kept })

-- the works under the tickets below a number are ended, and nothing else was done
pub record EndedTo (me : ℕ) (closed : Bool) (a l : CoreData) (n : ℕ) : Type 0 where
  pub goes : GoesAlone me a l
  pub left : EndsAs closed a l
  pub free : (t : ℕ) → t < n → (state_of l).flight t ≡ None
  pub later : (t : ℕ) → n ≤ t → (state_of l).flight t ≡ (state_of a).flight t

pub end_step : (me : ℕ) (closed : Bool) (a l d : CoreData) (n k : ℕ) → EndedTo me closed a l n → k ≡ n + 1 → Closes {E = OutOfMemory} l me n (Ok closed) d → EndedTo me closed a d k
end_step me closed a l d n k e next closes =
    let flights = closes_flight {E = OutOfMemory} l d me n (Ok closed) closes in
    record {
      goes = alone_trans a l d e.goes (closes_goes {E = OutOfMemory} l d me n (Ok closed) closes);
      left = ends_then closed a l d e.left (closes_as l d me n closed closes);
      free = λ t lt. elim (cases_eq t n) [
        | inl same ↦ flights t ∙ ap (λ m. put n None (state_of l).flight m) same ∙ put_here n None (state_of l).flight
        | inr ne ↦ flights t ∙ put_other n t None (state_of l).flight ne ∙ e.free t (below t lt ne)
      ];
      later = λ t le. flights t ∙ put_other n t None (state_of l).flight (λ same. omega (arith, le, next, same)) ∙ e.later t (omega (arith, le, next));
    }
  where
    below : (t : ℕ) → t < k → (t ≡ n → ⊥) → t < n
    below t lt ne = elim (cases_lt t n) [
      | inl less ↦ less
      | inr above ↦ absurd (ne (omega (arith, above, lt, next)))
    ]

pub end_none : (me : ℕ) (closed : Bool) (a l d : CoreData) (n k : ℕ) → EndedTo me closed a l n → k ≡ n + 1 → (state_of l).flight n ≡ None → d ≡ l → EndedTo me closed a d k
end_none me closed a l d n k e next none same = subst (λ (x : CoreData). EndedTo me closed a x k) (sym same) (record {
  goes = e.goes;
  left = e.left;
  free = λ t lt. elim (cases_lt t n) [
    | inl less ↦ e.free t less
    | inr above ↦ let is : t ≡ n = omega (arith, above, lt, next) in ap (λ m. (state_of l).flight m) is ∙ none
  ];
  later = λ t le. e.later t (omega (arith, le, next));
})

pub end_first : (me : ℕ) (closed : Bool) (a : CoreData) → EndedTo me closed a a 0
end_first me closed a = record { goes = alone_same a a refl refl; left = ends_same closed a a refl; free = λ t lt. absurd (omega arith); later = λ t le. refl }

-- a work in flight, in the name of the worker
pub flown_by : (me : ℕ) (closed : Bool) (a l : CoreData) (n : ℕ) (f : Flight) → AreOwn me a → EndedTo me closed a l n → (state_of l).flight n ≡ Some f → (state_of l).flight n ≡ Some (record { worker = me; work = f.work })
flown_by me closed a l n f own e at = at ∙ (λ i. Some (record { worker = own n f (sym (e.later n (omega arith)) ∙ at) i; work = f.work }))

pub flown_can : (me : ℕ) (closed : Bool) (a l : CoreData) (n : ℕ) (f : Flight) → AreOwn me a → (IsTrue closed → AreClosed a) → EndedTo me closed a l n → (state_of l).flight n ≡ Some f → IsTrue closed → CanFinish l.base (state_of l) me n
flown_can me closed a l n f own all e at h = record {
  work = f.work;
  holds = flown_by me closed a l n f own e at;
  closed = subst (λ (b : Base). IsClosedWork b.problem (log_of l) f.work) (sym e.goes.base)
      (subst (λ xs. IsClosedWork a.base.problem xs f.work) (sym e.left.log) (all h n f (sym (e.later n (omega arith)) ∙ at)));
}

-- at the end
ended_rest : (a b : CoreData) (closed : Bool) → b.base ≡ a.base → EndsAs closed a b → IsEnded a → EndsAtRest b
ended_rest a b closed base ends ended kept on = absurd (ended (sym ends.kept ∙ kept) (subst (λ (x : Base). GoesOn x (log_of a)) base (subst (λ xs. GoesOn b.base xs) ends.log on)))

idle_rest : (a b : CoreData) → EndsAs true a b → NothingFlies b → IsIdleCore a → EndsAtRest b
idle_rest a b ends flies idle kept on = record { pending = ends.pending refl ∙ idle.pending; flight = flies; kept = kept }

pub closed_if : (c : CoreData) (closed : Bool) → MatchBool closed (AreClosed c × IsIdleCore c) (IsEnded c) → IsTrue closed → AreClosed c
closed_if c true ends h = ends.0
closed_if c false ends h = absurd (false≢true h)

pub ends_rest : (a b : CoreData) (closed : Bool) → b.base ≡ a.base → EndsAs closed a b → NothingFlies b → MatchBool closed (AreClosed a × IsIdleCore a) (IsEnded a) → EndsAtRest b
ends_rest a b true base left flies ends = idle_rest a b left flies ends.1
ends_rest a b false base left flies ends = ended_rest a b false base left ends
