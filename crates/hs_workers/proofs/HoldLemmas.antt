-- What a worker does while it holds the table, step by step.
use Rattle.std.proofs.Common.{◌≡◌, refl, sym, ◌∙◌, ap, subst, ℕ, ◌-◌, List, [], ◌++◌, Option, Some, None, All, Contains}
use Rattle.std.proofs.lemmas.List.{append-nil}
use Rattle.std.proofs.lemmas.List.Elements.{All-nil, Contains-push}
use Rattle.std.proofs.lemmas.Option.{same_Some}
use mathlib.Core.List.{IsPrefix}
use Rattle.atomic_table.specs.Seated.{TableId}
use Rattle.hs_scheme.specs.acceptance.Automaton.{IsAutomaton}
use Rattle.hs_scheme.specs.Problem.{ProblemData}
use Rattle.hs_scheme.proofs.Lists.{Contains-at}
use Rattle.hs_table.specs.Entries.{EntryData, InShape}
use Rattle.hs_table.specs.Follows.{FollowsBy}
use Rattle.hs_table_laws.proofs.Growing.{by_append}
use Rattle.hs_types.specs.Interned.{InternerData, RowData, entry_of}
use Rattle.hs_replica.specs.Replica.{ReplicaData}
use Rattle.hs_replica.specs.Extending.{extended}
use Rattle.hs_rules.specs.Conclusions.{DeducedData, IsDeduced}
use Rattle.hs_history.specs.declared.step.Work.{Work}
use Rattle.hs_history.specs.Story.{Base, Deduction, takes, adds, passes, Story}
use Rattle.hs_history.specs.CoreStep.{State, put, Holds}
use Rattle.hs_history.specs.CoreStep.{opening}
use Rattle.hs_history.specs.History.{state_after, IsLegal}
use Rattle.hs_history.proofs.Histories.{grown, state_append, tickets_after}
use Rattle.hs_core.specs.declared.answers.Taken.{Taken}
use Rattle.hs_core.specs.declared.answers.Taken.TheVariants.{Item, Quiet, Idle, Over, Found}
use Rattle.hs_core.specs.declared.answers.Published.{Published}
use Rattle.hs_core.specs.declared.answers.Published.TheVariants.{Known, Added, Over as NoRoom}
use Rattle.hs_core.specs.Core.{CoreData, state_of, log_of}
use Rattle.hs_core.specs.Answers.{Takes, Publishes, AddsOrPasses}
use Rattle.hs_core.specs.Draining.{SameFlight}
use Rattle.hs_core.proofs.Moving.{state_same, state_stepped}
use Rattle.hs_shared.specs.Seats.{SeatData, Sees}
use Rattle.hs_shared.specs.Calls.{Finds}
use Rattle.hs_shared.specs.Holding.{HoldData, having_left, HasTold, IsHolding}
use Rattle.hs_shared.proofs.Seen.{sees, replica_begins, others, see, seen, prefix_trans}
use Rattle.hs_workers.specs.declared.job.Job.{Job}
use Rattle.hs_workers.specs.Jobs.{keys, Carries, CarriesAll, IsFormed}
use Rattle.hs_workers.specs.declared.handing.Next.{Next}
use Rattle.hs_workers.specs.declared.handing.Next.TheVariants.{Serve, Pass, Rest, Wait, End}
use Rattle.hs_workers.specs.Working.{IsSeated, StepsInHold, IfServes, IfEnds, CarriesNothing, IsFree, IsLoaded}
use Rattle.hs_workers.proofs.JobLemmas.{carries_kept, others_give_nothing}
use Rattle.hs_workers.proofs.WorkingLemmas.{shapes}

-- what one call tells
pub goes_by : (old new : SeatData) (before after : HoldData) → IsHolding old before → after.turn ≡ before.turn → HasTold old after.core.story new → IsHolding new after → StepsInHold old new before after
goes_by old new before after h turn t h' =
    let base : after.core.base ≡ before.core.base = same_Some after.core.base before.core.base (sym h'.base ∙ ap (λ (s : SeatData). s.known.base) t.2 ∙ h.base) in
    let story : after.core.story ≡ before.core.story ++ t.0 = t.1 ∙ ap (λ (xs : Story). xs ++ t.0) h.seen in
    let g = grown before.core.base before.core.story t.0 in
    let log : log_of after.core ≡ log_of before.core ++ g.entries = (λ i. (state_after (base i) (story i)).log) ∙ g.log in
    record { holds = h'; number = ap (λ (s : SeatData). s.known.number) t.2; turn = turn; base = base; log = (g.entries, sym log) }

pub goes_none : (s : SeatData) (h : HoldData) → IsHolding s h → StepsInHold s s h h
goes_none s h is = record { holds = is; number = refl; turn = refl; base = refl; log = ([], append-nil (log_of h.core)) }

pub goes_trans : (s1 s2 s3 : SeatData) (h1 h2 h3 : HoldData) → StepsInHold s1 s2 h1 h2 → StepsInHold s2 s3 h2 h3 → StepsInHold s1 s3 h1 h3
goes_trans s1 s2 s3 h1 h2 h3 f g = record {
  holds = g.holds;
  number = g.number ∙ f.number;
  turn = g.turn ∙ f.turn;
  base = g.base ∙ f.base;
  log = prefix_trans (log_of h1.core) (log_of h2.core) (log_of h3.core) f.log g.log;
}

pub still_holds : (old new : SeatData) (before after : HoldData) → StepsInHold old new before after → SameFlight before.core after.core → (ticket : ℕ) → Holds (state_of before.core) old.known.number ticket
    → Holds (state_of after.core) new.known.number ticket
still_holds old new before after g f ticket h = subst (λ n. Holds (state_of after.core) n ticket) (sym g.number) (h.0, f ticket ∙ h.1)

-- a call that leaves the core as it was
pub same_flight : (a b : CoreData) → b.base ≡ a.base → b.story ≡ a.story → SameFlight a b
same_flight a b base story t = ap (λ (s : State). s.flight t) (state_same a b base story)

-- publications, from a core with the same state
module _ (core found new : CoreData) (base : found.base ≡ core.base) (story : found.story ≡ core.story) (worker ticket : ℕ) (d : Deduction) where
  passes_flight : (kept : Option Deduction) → AddsOrPasses found worker ticket d new kept → SameFlight found new
  passes_flight None is t = ap (λ (s : State). s.flight t) (state_stepped found new worker (passes ticket d) (found.spare - 1) is)
  passes_flight (Some k) is t = ap (λ (c : CoreData). (state_of c).flight t) is

  found_flight : (answer : Published) → Publishes found worker ticket d answer new → SameFlight found new
  found_flight (Known place) h t = ap (λ (c : CoreData). (state_of c).flight t) h.1
  found_flight (Added place) h t = ap (λ (s : State). s.flight t) (state_stepped found new worker (adds ticket d) (found.spare - 1) h.3)
  found_flight NoRoom h t = passes_flight (state_of found).kept h.2 t

  pub published_flight : (answer : Published) → Publishes found worker ticket d answer new → SameFlight core new
  published_flight answer h t = found_flight answer h t ∙ same_flight core found base story t

  pub published_there : (answer : Published) → (answer ≡ NoRoom → ⊥) → Publishes found worker ticket d answer new → Contains (log_of new) d.entry
  published_there (Known place) room h = subst (λ (c : CoreData). Contains (log_of c) d.entry) (sym h.1) (Contains-at (log_of found) place d.entry h.0)
  published_there (Added place) room h = subst (λ (x : State). Contains x.log d.entry) (sym (state_stepped found new worker (adds ticket d) (found.spare - 1) h.3)) (Contains-push (log_of found) d.entry)
  published_there NoRoom room h = absurd (room refl)

-- taking
module _ (core new : CoreData) (spare worker : ℕ) where
  abbrev Takes_ : Taken → Type 0
  Takes_ answer = Takes (record core { spare = spare }) worker answer new

  pub taken_log : (answer : Taken) → Takes_ answer → log_of new ≡ log_of core
  taken_log (Found place) h = ap (λ (c : CoreData). log_of c) h.1
  taken_log Over h = ap (λ (c : CoreData). log_of c) h.2
  taken_log (Item work ticket) h = ap (λ (s : State). s.log) (state_stepped (record core { spare = spare }) new worker (takes work ticket) (spare - 1) h.1)
  taken_log Idle h = ap (λ (c : CoreData). log_of c) h.2
  taken_log Quiet h = ap (λ (c : CoreData). log_of c) h.2

  pub taken_flight : (work : Work) (ticket : ℕ) → Takes_ (Item work ticket) → (t : ℕ) → (state_of new).flight t ≡ put ticket (Some (record { worker = worker; work = work })) (state_of core).flight t
  taken_flight work ticket h t = ap (λ (s : State). s.flight t) (state_stepped (record core { spare = spare }) new worker (takes work ticket) (spare - 1) h.1)

-- deductions keep their meaning in a log that has grown
pub deduced_still : (p q : ProblemData) (ids : InternerData) (log whole : List EntryData) (d : DeducedData) → q ≡ p → IsPrefix log whole → IsDeduced q ids log d → FollowsBy p whole d.support (entry_of ids d.row)
deduced_still p q ids log whole d same begins h =
    subst (λ xs. FollowsBy p xs d.support (entry_of ids d.row)) begins.1
    (by_append p log begins.0 d.support (entry_of ids d.row) (subst (λ r. FollowsBy r log d.support (entry_of ids d.row)) same h.follows))

-- ---- entering and leaving

module _ (table : TableId) (p : ProblemData) (old : SeatData) (core : CoreData) (finds : Finds old core) where
  pub found_problem : (log : List EntryData) → IsFree table p old log → core.base.problem ≡ p
  found_problem log f =
      let same : core.base ≡ f.seated.base = same_Some core.base f.seated.base (sym finds.base ∙ f.seated.knows) in
      ap (λ (b : Base). b.problem) same ∙ seen old f.seated.base (λ base state. base.problem ≡ p) f.seated.knows f.upon

  pub found_begins : (log : List EntryData) → IsFree table p old log → IsPrefix log (log_of core)
  found_begins log f = replica_begins old core finds log f.begins

  pub found_carries : (log : List EntryData) (ks : List (ℕ × Work)) → IsFree table p old log → Sees old (λ base state. Carries old.known.number state.flight ks) → Carries old.known.number (state_of core).flight ks
  found_carries log ks f carries =
      let n = old.known.number in
      let here = sees old core finds (λ base state. Carries n state.flight ks) carries in
      let legal = subst (IsLegal core.base) (sym finds.begins.1) finds.know_core.legal in
      carries_kept n (state_after core.base old.known.seen).flight (state_of core).flight ks
      (λ t w h. ap (λ (story : Story). (state_after core.base story).flight t) (sym finds.begins.1)
      ∙ tickets_after core.base old.known.seen finds.begins.0 n t w legal (others old core finds) h)
      here

  pub found_all : (ks : List (ℕ × Work)) → Sees old (λ base state. CarriesAll old.known.number state.flight ks) → CarriesAll old.known.number (state_of core).flight ks
  found_all ks all =
      let n = old.known.number in
      let more = finds.begins.0 in
      let here = sees old core finds (λ base state. CarriesAll n state.flight ks) all in
      λ t w h. here t w (others_give_nothing (state_after core.base old.known.seen) more n t w (others old core finds)
      (sym (ap (λ (s : State). s.flight t) (state_append (opening core.base) old.known.seen more))
      ∙ ap (λ (story : Story). (state_after core.base story).flight t) finds.begins.1 ∙ h))

module _ (table : TableId) (p : ProblemData) (mid new : SeatData) (h : HoldData) (is : IsHolding mid h) (turn : h.turn ≡ table) (gone : new ≡ having_left mid) where
  sees_left : (P : Base → State → Type 0) → P h.core.base (state_of h.core) → Sees new P
  sees_left P x =
      subst (λ (s : SeatData). Sees s P) (sym gone)
      (see (having_left mid) h.core.base P is.base (subst (λ (story : Story). P h.core.base (state_after h.core.base story)) (sym is.seen) x))

  left_seated : IsSeated table new
  left_seated = subst (IsSeated table) (sym gone) (record {
    seat = record { turn = is.turn ∙ turn; free = refl };
    base = h.core.base;
    knows = is.base;
    legal = subst (IsLegal h.core.base) (sym is.seen) is.know_core.legal;
  })

  pub left_loaded : (ids : InternerData) (log : List EntryData) (jobs : List Job) → h.core.base.problem ≡ p → IsPrefix log (log_of h.core) → Carries mid.known.number (state_of h.core).flight (keys jobs)
      → CarriesAll mid.known.number (state_of h.core).flight (keys jobs) → All (IsFormed p ids log) jobs → IsLoaded table p new ids log jobs
  left_loaded ids log jobs upon begins carries all formed = record {
    free = record {
      seated = left_seated;
      upon = sees_left (λ base state. base.problem ≡ p) upon;
      begins = sees_left (λ base state. IsPrefix log state.log) begins;
    };
    carries =
        let number : new.known.number ≡ mid.known.number = ap (λ (s : SeatData). s.known.number) gone in
        subst (λ n. Sees new (λ base state. Carries n state.flight (keys jobs))) (sym number) (sees_left (λ base state. Carries mid.known.number state.flight (keys jobs)) carries);
    all =
        let number : new.known.number ≡ mid.known.number = ap (λ (s : SeatData). s.known.number) gone in
        subst (λ n. Sees new (λ base state. CarriesAll n state.flight (keys jobs))) (sym number) (sees_left (λ base state. CarriesAll mid.known.number state.flight (keys jobs)) all);
    formed = formed;
  }

-- entries are in shape
pub shape_in : (table : TableId) (p : ProblemData) (s : SeatData) (log : List EntryData) → IsAutomaton p.sorted.automaton → IsFree table p s log → All (InShape p) log
shape_in table p s log automaton f =
    let is = f.seated in
    let upon : is.base.problem ≡ p = seen s is.base (λ base state. base.problem ≡ p) is.knows f.upon in
    subst (λ q. All (InShape q) log) upon
    (shapes is.base s.known.seen log (subst (λ (q : ProblemData). IsAutomaton q.sorted.automaton) (sym upon) automaton) is.legal (seen s is.base (λ base state. IsPrefix log state.log) is.knows f.begins))

-- the same worker, whose works were formed on
pub loaded_on : (table : TableId) (p : ProblemData) (s : SeatData) (ids jds : InternerData) (log after : List EntryData) (jobs formed : List Job) → IsLoaded table p s ids log jobs → after ≡ log → keys formed ≡ keys jobs
    → All (IsFormed p jds after) formed → IsLoaded table p s jds after formed
loaded_on table p s ids jds log after jobs formed l same ks all = record {
  free = subst (λ xs. IsFree table p s xs) (sym same) l.free;
  carries = subst (λ k. Sees s (λ base state. Carries s.known.number state.flight k)) (sym ks) l.carries;
  all = subst (λ k. Sees s (λ base state. CarriesAll s.known.number state.flight k)) (sym ks) l.all;
  formed = all;
}

-- a worker that has done nothing yet
pub loaded_none : (table : TableId) (p : ProblemData) (s : SeatData) (ids : InternerData) (log : List EntryData) (jobs : List Job) → IsFree table p s [] → CarriesNothing s → log ≡ [] → jobs ≡ []
    → IsLoaded table p s ids log jobs
loaded_none table p s ids log jobs f nothing empty none = record {
  free = subst (λ xs. IsFree table p s xs) (sym empty) f;
  carries = subst (λ (js : List Job). Sees s (λ base state. Carries s.known.number state.flight (keys js))) (sym none) (see s f.seated.base (λ base state. Carries s.known.number state.flight []) f.seated.knows tt);
  all = subst (λ (js : List Job). Sees s (λ base state. CarriesAll s.known.number state.flight (keys js))) (sym none) nothing;
  formed = subst (λ (js : List Job). All (IsFormed p ids log) js) (sym none) (All-nil (IsFormed p ids log));
}

-- ---- rows that were read

-- without any the log is as it was
pub begins_none : (r : ReplicaData) (rows : List RowData) (log whole : List EntryData) → r.log ≡ log → rows ≡ [] → IsPrefix log whole → IsPrefix (extended r rows) whole
begins_none r rows log whole same none p = subst (λ (xs : List EntryData). IsPrefix xs whole) (sym (ap (λ (rs : List RowData). extended r rs) none ∙ append-nil r.log ∙ same)) p

pub served : {P Q : Type 0} (next : Next) → (P → Q) → IfServes next P → IfServes next Q
served Serve f p = f p
served Pass f p = tt
served Rest f p = tt
served Wait f p = tt
served End f p = tt

pub ended : {P : Type 0} (next : Next) → P → IfEnds next P
ended Serve p = tt
ended Pass p = tt
ended Rest p = tt
ended Wait p = tt
ended End p = p

pub ends_so : {P Q : Type 0} (next : Next) → (P → Q) → IfEnds next P → IfEnds next Q
ends_so Serve f p = tt
ends_so Pass f p = tt
ends_so Rest f p = tt
ends_so Wait f p = tt
ends_so End f p = f p
