-- A worker whose seat holds the table, after each call.
use Rattle.std.proofs.Common.{◌≡◌, refl, sym, ◌∙◌, ap, subst, ℕ, List, Some, None}
use mathlib.Core.List.{IsPrefix}
use Rattle.atomic_table.specs.Seated.{TableId}
use Rattle.hs_scheme.specs.acceptance.Automaton.{IsAutomaton}
use Rattle.hs_scheme.specs.Problem.{ProblemData}
use Rattle.hs_table.specs.Entries.{EntryData}
use Rattle.hs_table.specs.Follows.{FollowsBy}
use Rattle.hs_table_laws.proofs.Growing.{by_append}
use Rattle.hs_types.specs.Interned.{InternerData, entry_of}
use Rattle.hs_rules.specs.Conclusions.{DeducedData, IsDeduced}
use Rattle.hs_history.specs.declared.step.Work.{Work}
use Rattle.hs_history.specs.Story.{Base, Story}
use Rattle.hs_history.specs.CoreStep.{Holds, CanFinish, IsClosedWork}
use Rattle.hs_history.specs.History.{state_after}
use Rattle.hs_core.specs.Core.{state_of, log_of}
use Rattle.hs_core.specs.Draining.{GoesAlone}
use Rattle.hs_core.proofs.Moving.{longer}
use Rattle.hs_shared.specs.Seats.{SeatData}
use Rattle.hs_shared.specs.Calls.{Finds}
use Rattle.hs_shared.specs.Holding.{HoldData, holding, having_left, HasTold, IsHolding}
use Rattle.hs_shared.proofs.Seen.{prefix_trans}
use Rattle.hs_workers_examples.specs.Working.{WorkHeld, IsAtWork, IsWorker, IsHolder}
use Rattle.hs_workers_examples.proofs.StepLemmas.{Knows, none_flies}
use Rattle.hs_workers_examples.proofs.CallLemmas.{found_works, begins_shape}

-- it enters
pub enters : (table : TableId) (p : ProblemData) (old new : SeatData) (h : HoldData) (log : List EntryData) (held : WorkHeld) → IsWorker table p old log held → h.turn ≡ table → Finds old h.core
    → new ≡ holding old h.core.story → IsHolding new h → IsHolder table p new h log held
enters table p old new h log held w turn finds is holds =
    let number : new.known.number ≡ old.known.number = ap (λ (s : SeatData). s.known.number) is in
    record { holds = holds; turn = turn; works = subst (λ n. IsAtWork p n log held h.core.base (state_of h.core)) (sym number) (found_works table p old log held w h.core finds) }

module _ (table : TableId) (p : ProblemData) (old : SeatData) (h : HoldData) (log : List EntryData) (held : WorkHeld) (w : IsHolder table p old h log held) where
  -- it does what a step lemma says
  pub holds_on : (new : SeatData) (h' : HoldData) (held' : WorkHeld) → h'.turn ≡ h.turn → HasTold old h'.core.story new → IsHolding new h' → Knows p old.known.number log h'.core held' → IsHolder table p new h' log held'
  holds_on new h' held' turn told holds works =
      let number : new.known.number ≡ old.known.number = ap (λ (s : SeatData). s.known.number) told.2 in
      record { holds = holds; turn = turn ∙ w.turn; works = subst (λ n. IsAtWork p n log held' h'.core.base (state_of h'.core)) (sym number) works }

  -- it has done steps of its own, and holds nothing
  pub holds_worked : (new : SeatData) (h' : HoldData) → h'.turn ≡ h.turn → HasTold old h'.core.story new → IsHolding new h' → GoesAlone old.known.number h.core h'.core → IsHolder table p new h' log None
  holds_worked new h' turn told holds goes =
      let more = longer h.core h'.core goes in
      holds_on new h' None turn told holds (record {
        upon = ap (λ (b : Base). b.problem) goes.base ∙ w.works.upon;
        begins = prefix_trans log (log_of h.core) (log_of h'.core) w.works.begins (more.more, sym more.log);
        shape = w.works.shape;
        holds = none_flies old.known.number (state_of h'.core);
      })

  -- its replica is another beginning of the log
  pub holds_caught_up : (after : List EntryData) → IsAutomaton p.sorted.automaton → IsPrefix after (log_of h.core) → IsHolder table p old h after held
  holds_caught_up after automaton begins = record {
    holds = w.holds;
    turn = w.turn;
    works = record { upon = w.works.upon; begins = begins; shape = begins_shape p h.core after automaton w.holds.know_core w.works.upon begins; holds = w.works.holds };
  }

  -- it leaves
  pub leaves : (new : SeatData) → new ≡ having_left old → IsWorker table p new log held
  leaves new is = subst (λ s. IsWorker table p s log held) (sym is) (record {
    seat = record { turn = w.holds.turn ∙ w.turn; free = refl };
    base = h.core.base;
    knows = w.holds.base;
    works = subst (λ (story : Story). IsAtWork p old.known.number log held h.core.base (state_after h.core.base story)) (sym w.holds.seen) w.works;
  })

  -- what calls ask for
  pub held_ticket : (work : Work) (ticket : ℕ) → held ≡ Some (work, ticket) → Holds (state_of h.core) old.known.number ticket
  held_ticket work ticket at = (work, w.works.holds work ticket at)

  pub held_follows : (ids : InternerData) (d : DeducedData) → IsDeduced p ids log d → FollowsBy h.core.base.problem (log_of h.core) d.support (entry_of ids d.row)
  held_follows ids d is =
      subst (λ q. FollowsBy q (log_of h.core) d.support (entry_of ids d.row)) (sym w.works.upon)
      (subst (λ xs. FollowsBy p xs d.support (entry_of ids d.row)) w.works.begins.1 (by_append p log w.works.begins.0 d.support (entry_of ids d.row) is.follows))

  pub held_closed : (work : Work) (ticket : ℕ) → held ≡ Some (work, ticket) → log ≡ log_of h.core → IsClosedWork p log work → CanFinish h.core.base (state_of h.core) old.known.number ticket
  held_closed work ticket at whole closed = record {
    work = work;
    holds = w.works.holds work ticket at;
    closed = subst (λ xs. IsClosedWork h.core.base.problem xs work) whole (subst (λ q. IsClosedWork q log work) (sym w.works.upon) closed);
  }
