-- A worker after each call of its seat.
use Rattle.std.proofs.Common.{◌≡◌, refl, sym, ◌∙◌, ap, subst, ℕ, List, ◌++◌, take, Some, All, Contains}
use Rattle.std.specs.Prelude.{slice_index_or}
use Rattle.std.proofs.lemmas.List.Elements.{All-contains_itself, Contains-append_left}
use Rattle.std.proofs.lemmas.Option.{same_Some}
use mathlib.Core.List.{IsPrefix}
use Rattle.atomic_table.specs.Seated.{TableId}
use Rattle.hs_scheme.specs.acceptance.Automaton.{IsAutomaton}
use Rattle.hs_scheme.specs.Problem.{ProblemData}
use Rattle.hs_table.specs.Entries.{EntryData, InShape}
use Rattle.hs_table.specs.Tables.{IsSupportedTable}
use Rattle.hs_table_laws.proofs.Least.{supports_support}
use Rattle.hs_table_laws.proofs.Places.{place_of}
use Rattle.hs_table_laws.proofs.Shapes.{follows_shape}
use Rattle.hs_history.specs.declared.step.Work.{Work}
use Rattle.hs_history.specs.Story.{Base, CoreStep, Story}
use Rattle.hs_history.specs.CoreStep.{Holds, CanFinish, IsClosedWork}
use Rattle.hs_history.specs.History.{state_after, IsLegal}
use Rattle.hs_history.proofs.Histories.{holds_after, tickets_after}
use Rattle.hs_core.specs.Core.{CoreData, IsCore, state_of, log_of}
use Rattle.hs_shared.specs.Seats.{SeatData, Sees}
use Rattle.hs_shared.specs.Calls.{Finds, Does, Looks, seat_after}
use Rattle.hs_shared.proofs.Seen.{log_begins, others, see, seen}
use Rattle.hs_workers_examples.specs.Working.{WorkHeld, IsAtWork, IsWorker}
use Rattle.hs_workers_examples.proofs.StepLemmas.{Knows, Goes, moved}

-- a log that begins that of a core is in shape
pub begins_shape : (p : ProblemData) (core : CoreData) (log : List EntryData) → IsAutomaton p.sorted.automaton → IsCore core → core.base.problem ≡ p → IsPrefix log (log_of core) → All (InShape p) log
begins_shape p core log automaton is same begins = λ k d below.
    let e : EntryData = slice_index_or log k d in
    let among = subst (λ xs. Contains xs e) begins.1 (Contains-append_left log begins.0 e (All-contains_itself log k d below)) in
    subst (λ q. InShape q e) same (one e among)
  where
    whole : IsSupportedTable core.base.problem (log_of core)
    whole = supports_support core.base.problem (log_of core) (state_of core).supports (holds_after core.base core.story is.legal).sound.supports

    one : (e : EntryData) → Contains (log_of core) e → InShape core.base.problem e
    one e among = let at = place_of (log_of core) e among in follows_shape core.base.problem (take at.0 (log_of core)) (subst (λ (q : ProblemData). IsAutomaton q.sorted.automaton) (sym same) automaton).to e (whole.follows at.0 e at.1)

module _ (table : TableId) (p : ProblemData) (old : SeatData) (log : List EntryData) (held : WorkHeld) (w : IsWorker table p old log held) where
  -- in the core that its call finds
  found_base : (core : CoreData) → Finds old core → core.base ≡ w.base
  found_base core finds = same_Some core.base w.base (sym finds.base ∙ w.knows)

  pub found_works : (core : CoreData) → Finds old core → Knows p old.known.number log core held
  found_works core finds =
      let n = old.known.number in
      let same = found_base core finds in
      let here : IsAtWork p n log held core.base (state_after core.base old.known.seen) = subst (λ (b : Base). IsAtWork p n log held b (state_after b old.known.seen)) (sym same) w.works in
      let legal = subst (IsLegal core.base) (sym finds.begins.1) finds.know_core.legal in
      moved p n log held held core.base core.base (state_after core.base old.known.seen) (state_of core) here refl (log_begins old core finds)
      (λ v t e. ap (λ (story : Story). (state_after core.base story).flight t) (sym finds.begins.1)
      ∙ tickets_after core.base old.known.seen finds.begins.0 n t v legal (others old core finds) (here.holds v t e))

  -- once it has seen a story
  worker_after : (new : SeatData) (story : Story) (own : List CoreStep) (base : Base) (after : List EntryData) (held' : WorkHeld) → new ≡ seat_after old story own → base ≡ w.base
      → IsAtWork p old.known.number after held' base (state_after base story) → IsWorker table p new after held'
  worker_after new story own base after held' is same works =
      subst (λ s. IsWorker table p s after held') (sym is) (record {
        seat = record { turn = w.seat.turn; free = refl };
        base = base;
        knows = w.knows ∙ ap (λ b. Some b) (sym same);
        works = works;
      })

  -- it looks, and its replica is another beginning of the log
  pub looked : (new : SeatData) (after : List EntryData) → IsAutomaton p.sorted.automaton → Looks old new → Sees new (λ base state. IsPrefix after state.log) → IsWorker table p new after held
  looked new after automaton l begins =
      let core = l.found in
      let works = found_works core l.finds in
      let knows : new.known.base ≡ Some core.base = ap (λ (s : SeatData). s.known.base) l.seat ∙ l.finds.base in
      let here : IsPrefix after (log_of core) = subst (λ (story : Story). IsPrefix after (state_after core.base story).log) (ap (λ (s : SeatData). s.known.seen) l.seat)
      (seen new core.base (λ base state. IsPrefix after state.log) knows begins) in
      worker_after new core.story old.known.own core.base after held l.seat (found_base core l.finds)
      (record { upon = works.upon; begins = here; shape = begins_shape p core after automaton l.finds.know_core works.upon here; holds = works.holds })

  -- it does what a step lemma says
  pub does_on : (new : SeatData) (held' : WorkHeld) (does : CoreData → CoreData → Type 0) → Does does old new
      → ((found left : CoreData) → Knows p old.known.number log found held → does found left → Goes p old.known.number log found left held') → IsWorker table p new log held'
  does_on new held' does d step =
      let g = step d.found d.left (found_works d.found d.finds) d.done in
      worker_after new d.left.story (old.known.own ++ d.steps) d.left.base log held' d.seat (g.0 ∙ found_base d.found d.finds) g.1

  -- what calls ask for
  pub its_ticket : (work : Work) (ticket : ℕ) → held ≡ Some (work, ticket) → Sees old (λ base state. Holds state old.known.number ticket)
  its_ticket work ticket at = see old w.base (λ base state. Holds state old.known.number ticket) w.knows (work, w.works.holds work ticket at)

  pub may_finish : (work : Work) (ticket : ℕ) → held ≡ Some (work, ticket) → Sees old (λ base state. log ≡ state.log) → IsClosedWork p log work → Sees old (λ base state. CanFinish base state old.known.number ticket)
  may_finish work ticket at whole closed =
      let same = seen old w.base (λ base state. log ≡ state.log) w.knows whole in
      see old w.base (λ base state. CanFinish base state old.known.number ticket) w.knows (record {
        work = work;
        holds = w.works.holds work ticket at;
        closed = subst (λ xs. IsClosedWork w.base.problem xs work) same (subst (λ q. IsClosedWork q log work) (sym w.works.upon) closed);
      })
