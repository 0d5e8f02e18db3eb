use Rattle.std.proofs.Common.{◌≡◌, refl, sym, ap, subst, ◌∙◌, ℕ, List, None, slice_index_or, arith}
use Rattle.std.proofs.Math.Nat.{le-max_left, le-max_right}
use Rattle.std.specs.Option.{is_some}
use Rattle.std.specs.Prelude.{count_by, max}
use Rattle.hs_scheme.proofs.Lists.{on_err}
use Rattle.hs_table.specs.Follows.{Support}
use Rattle.hs_replica.specs.Replica.{ReplicaData}
use Rattle.hs_history.specs.declared.step.Work.{Work}
use Rattle.hs_history.specs.declared.step.Step.{Step}
use Rattle.hs_core.specs.declared.state.Core.TheInside.{Inside}
use Rattle.hs_core.specs.Tickets.{TicketsData, held}
use Rattle.hs_core.specs.Core.{CoreData}
use Rattle.hs_core.specs.Inside.{Fields, IsInside}
use Rattle.hs_core.proofs.Stepping.{base_of, fields_of, value_of}
use Rattle.hs_core.proofs.state.Core.reserve.Goals as goal

-- room changes none of the fields
module _ (a : Inside) (replica : ReplicaData) (supports : List Support) (pending : List Work) (tickets : TicketsData) (journal : List Step) where
  abbrev roomier : Fields
  roomier = record {
    ids = replica.ids;
    log = replica.log;
    supports = supports;
    pending = pending;
    flight = λ t. slice_index_or tickets.slots t None;
    past = a.past;
    journal = journal;
    start = a.start;
  }

  module _ (ids : replica.ids ≡ a.replica.ids) (log : replica.log ≡ a.replica.log) (as_supports : supports ≡ a.supports.items) (as_pending : pending ≡ a.pending.works) (slots : tickets.slots ≡ a.tickets.slots) (steps : journal ≡ a.journal.steps) where
    same : roomier ≡ fields_of a
    same = λ i. record {
      ids = ids i;
      log = log i;
      supports = as_supports i;
      pending = as_pending i;
      flight = λ t. slice_index_or (slots i) t None;
      past = a.past;
      journal = steps i;
      start = a.start;
    }

    inside_still : IsInside (base_of a) (fields_of a) → IsInside (base_of a) roomier
    inside_still inside = subst (λ (f : Fields). IsInside (base_of a) f) (sym same) inside

    value_still : (v : CoreData) → value_of (base_of a) (fields_of a) a.spare ≡ v → value_of (base_of a) roomier a.spare ≡ v
    value_still v is = ap (λ (f : Fields). value_of (base_of a) f a.spare) same ∙ is

    value_with : (v : CoreData) (k n : ℕ) → value_of (base_of a) (fields_of a) a.spare ≡ v → k ≡ n → value_of (base_of a) roomier k ≡ record { base = v.base; ids = v.ids; story = v.story; spare = n }
    value_with v k n is room = ap (λ (f : Fields). value_of (base_of a) f k) same ∙ (λ i. record { base = (is i).base; ids = (is i).ids; story = (is i).story; spare = room i })

same_held : (t u : TicketsData) → t.slots ≡ u.slots → held t ≡ held u
same_held t u slots = ap (λ xs. count_by is_some xs) slots

pub invariant_of-self : goal.invariant_of-self
invariant_of-self c =
    let a = c.self.inside in
    let same = c.in_err-reserve.ensures.err in (
      inside_still a c.reserve.new.self a.supports.items a.pending.works a.tickets a.journal.steps (ap (λ (r : ReplicaData). r.ids) same) (ap (λ (r : ReplicaData). r.log) same) refl refl refl refl c.self.invariant.0,
      record {
        replica = omega (arith, ap (λ (r : ReplicaData). r.spare) same, c.self.invariant.1.replica);
        tickets = c.self.invariant.1.tickets;
        supports = c.self.invariant.1.supports;
        pending = c.self.invariant.1.pending;
        journal = c.self.invariant.1.journal;
      },
    )

pub returns-in_err-reserve-clause-err : goal.returns-in_err-reserve-clause-err
returns-in_err-reserve-clause-err c =
    let a = c.self.inside in
    let same = c.in_err-reserve.ensures.err in
    on_err c.from_residual.result _ (value_still a c.reserve.new.self a.supports.items a.pending.works a.tickets a.journal.steps (ap (λ (r : ReplicaData). r.ids) same) (ap (λ (r : ReplicaData). r.log) same) refl refl refl refl c.args.self.now c.self.view_is)

pub invariant_of-self-in_err-reserve-2 : goal.invariant_of-self-in_err-reserve-2
invariant_of-self-in_err-reserve-2 c =
    let a = c.self.inside in
    let more = c.in_ok-reserve.ensures.ok in (
      inside_still a c.reserve.new.self c.reserve-2.new.self.items a.pending.works a.tickets a.journal.steps (ap (λ (r : ReplicaData). r.ids) more) (ap (λ (r : ReplicaData). r.log) more) c.in_err-reserve-2.ensures.items refl refl refl c.self.invariant.0,
      record {
        replica = omega (arith, ap (λ (r : ReplicaData). r.spare) more, le-max_left a.replica.spare c.args.k, c.self.invariant.1.replica);
        tickets = c.self.invariant.1.tickets;
        supports = omega (arith, c.in_err-reserve-2.ensures.len, c.in_err-reserve-2.ensures.capacity, c.self.invariant.1.supports);
        pending = c.self.invariant.1.pending;
        journal = c.self.invariant.1.journal;
      },
    )

pub returns-in_err-reserve-2-clause-err : goal.returns-in_err-reserve-2-clause-err
returns-in_err-reserve-2-clause-err c =
    let a = c.self.inside in
    let more = c.in_ok-reserve.ensures.ok in
    on_err c.from_residual-in_err-reserve-2.result _
    (value_still a c.reserve.new.self c.reserve-2.new.self.items a.pending.works a.tickets a.journal.steps (ap (λ (r : ReplicaData). r.ids) more) (ap (λ (r : ReplicaData). r.log) more) c.in_err-reserve-2.ensures.items refl refl refl c.args.self.now c.self.view_is)

pub invariant_of-self-in_err-reserve-3 : goal.invariant_of-self-in_err-reserve-3
invariant_of-self-in_err-reserve-3 c =
    let a = c.self.inside in
    let more = c.in_ok-reserve.ensures.ok in (
      inside_still a c.reserve.new.self c.reserve-2.new.self.items c.reserve-3.new.self.works a.tickets a.journal.steps (ap (λ (r : ReplicaData). r.ids) more) (ap (λ (r : ReplicaData). r.log) more) c.in_ok-reserve-2.ensures.items
          c.in_err-reserve-3.ensures.works refl refl c.self.invariant.0,
      record {
        replica = omega (arith, ap (λ (r : ReplicaData). r.spare) more, le-max_left a.replica.spare c.args.k, c.self.invariant.1.replica);
        tickets = c.self.invariant.1.tickets;
        supports = omega (arith, c.in_ok-reserve-2.ensures.len, c.in_ok-reserve-2.ensures.capacity, c.self.invariant.1.supports);
        pending = omega (arith, c.in_err-reserve-3.ensures.more, c.self.invariant.1.pending);
        journal = c.self.invariant.1.journal;
      },
    )

pub returns-in_err-reserve-3-clause-err : goal.returns-in_err-reserve-3-clause-err
returns-in_err-reserve-3-clause-err c =
    let a = c.self.inside in
    let more = c.in_ok-reserve.ensures.ok in
    on_err c.from_residual-in_err-reserve-3.result _
    (value_still a c.reserve.new.self c.reserve-2.new.self.items c.reserve-3.new.self.works a.tickets a.journal.steps (ap (λ (r : ReplicaData). r.ids) more) (ap (λ (r : ReplicaData). r.log) more) c.in_ok-reserve-2.ensures.items
    c.in_err-reserve-3.ensures.works refl refl c.args.self.now c.self.view_is)

pub invariant_of-self-in_err-reserve-4 : goal.invariant_of-self-in_err-reserve-4
invariant_of-self-in_err-reserve-4 c =
    let a = c.self.inside in
    let more = c.in_ok-reserve.ensures.ok in
    let flies = same_held c.reserve-4.new.self a.tickets c.in_err-reserve-4.ensures.slots in (
      inside_still a c.reserve.new.self c.reserve-2.new.self.items c.reserve-3.new.self.works c.reserve-4.new.self a.journal.steps (ap (λ (r : ReplicaData). r.ids) more) (ap (λ (r : ReplicaData). r.log) more) c.in_ok-reserve-2.ensures.items
          c.in_ok-reserve-3.ensures.works c.in_err-reserve-4.ensures.slots refl c.self.invariant.0,
      record {
        replica = omega (arith, ap (λ (r : ReplicaData). r.spare) more, le-max_left a.replica.spare c.args.k, c.self.invariant.1.replica);
        tickets = omega (arith, flies, c.in_err-reserve-4.ensures.more, c.self.invariant.1.tickets);
        supports = omega (arith, c.in_ok-reserve-2.ensures.len, c.in_ok-reserve-2.ensures.capacity, c.self.invariant.1.supports);
        pending = omega (arith, flies, c.in_ok-reserve-3.ensures.more, c.self.invariant.1.pending);
        journal = omega (arith, flies, c.self.invariant.1.journal);
      },
    )

pub returns-in_err-reserve-4-clause-err : goal.returns-in_err-reserve-4-clause-err
returns-in_err-reserve-4-clause-err c =
    let a = c.self.inside in
    let more = c.in_ok-reserve.ensures.ok in
    on_err c.from_residual-in_err-reserve-4.result _
    (value_still a c.reserve.new.self c.reserve-2.new.self.items c.reserve-3.new.self.works c.reserve-4.new.self a.journal.steps (ap (λ (r : ReplicaData). r.ids) more) (ap (λ (r : ReplicaData). r.log) more) c.in_ok-reserve-2.ensures.items
    c.in_ok-reserve-3.ensures.works c.in_err-reserve-4.ensures.slots refl c.args.self.now c.self.view_is)

pub invariant_of-self-in_err-reserve-5 : goal.invariant_of-self-in_err-reserve-5
invariant_of-self-in_err-reserve-5 c =
    let a = c.self.inside in
    let more = c.in_ok-reserve.ensures.ok in
    let flies = same_held c.reserve-4.new.self a.tickets c.in_ok-reserve-4.ensures.slots in (
      inside_still a c.reserve.new.self c.reserve-2.new.self.items c.reserve-3.new.self.works c.reserve-4.new.self c.reserve-5.new.self.steps (ap (λ (r : ReplicaData). r.ids) more) (ap (λ (r : ReplicaData). r.log) more)
          c.in_ok-reserve-2.ensures.items c.in_ok-reserve-3.ensures.works c.in_ok-reserve-4.ensures.slots c.in_err-reserve-5.ensures.steps c.self.invariant.0,
      record {
        replica = omega (arith, ap (λ (r : ReplicaData). r.spare) more, le-max_left a.replica.spare c.args.k, c.self.invariant.1.replica);
        tickets = omega (arith, flies, c.in_ok-reserve-4.ensures.more, c.self.invariant.1.tickets);
        supports = omega (arith, c.in_ok-reserve-2.ensures.len, c.in_ok-reserve-2.ensures.capacity, c.self.invariant.1.supports);
        pending = omega (arith, flies, c.in_ok-reserve-3.ensures.more, c.self.invariant.1.pending);
        journal = omega (arith, flies, c.in_err-reserve-5.ensures.more, c.self.invariant.1.journal);
      },
    )

pub returns-in_err-reserve-5-clause-err : goal.returns-in_err-reserve-5-clause-err
returns-in_err-reserve-5-clause-err c =
    let a = c.self.inside in
    let more = c.in_ok-reserve.ensures.ok in
    on_err c.from_residual-in_err-reserve-5.result _
    (value_still a c.reserve.new.self c.reserve-2.new.self.items c.reserve-3.new.self.works c.reserve-4.new.self c.reserve-5.new.self.steps (ap (λ (r : ReplicaData). r.ids) more) (ap (λ (r : ReplicaData). r.log) more)
    c.in_ok-reserve-2.ensures.items c.in_ok-reserve-3.ensures.works c.in_ok-reserve-4.ensures.slots c.in_err-reserve-5.ensures.steps c.args.self.now c.self.view_is)

pub invariant_of-self-2 : goal.invariant_of-self-2
invariant_of-self-2 c =
    let a = c.self.inside in
    let more = c.in_ok-reserve.ensures.ok in
    let flies = same_held c.reserve-4.new.self a.tickets c.in_ok-reserve-4.ensures.slots in (
      inside_still a c.reserve.new.self c.reserve-2.new.self.items c.reserve-3.new.self.works c.reserve-4.new.self c.reserve-5.new.self.steps (ap (λ (r : ReplicaData). r.ids) more) (ap (λ (r : ReplicaData). r.log) more)
          c.in_ok-reserve-2.ensures.items c.in_ok-reserve-3.ensures.works c.in_ok-reserve-4.ensures.slots c.in_ok-reserve-5.ensures.steps c.self.invariant.0,
      record {
        replica = omega (arith, ap (λ (r : ReplicaData). r.spare) more, le-max_right a.replica.spare c.args.k);
        tickets = omega (arith, flies, c.in_ok-reserve-4.ensures.ok);
        supports = omega (arith, c.in_ok-reserve-2.ensures.len, c.in_ok-reserve-2.ensures.ok);
        pending = omega (arith, flies, c.count-held.ensures.count, c.in_ok-reserve-3.ensures.ok);
        journal = omega (arith, flies, c.count-held.ensures.count, c.in_ok-reserve-5.ensures.ok);
      },
    )

pub returns-clause-ok : goal.returns-clause-ok
returns-clause-ok c =
    let a = c.self.inside in
    let v = c.args.self.now in
    let more = c.in_ok-reserve.ensures.ok in
    value_with a c.reserve.new.self c.reserve-2.new.self.items c.reserve-3.new.self.works c.reserve-4.new.self c.reserve-5.new.self.steps (ap (λ (r : ReplicaData). r.ids) more) (ap (λ (r : ReplicaData). r.log) more)
    c.in_ok-reserve-2.ensures.items c.in_ok-reserve-3.ensures.works c.in_ok-reserve-4.ensures.slots c.in_ok-reserve-5.ensures.steps v c.args.k (max v.spare c.args.k) c.self.view_is
    (omega (arith, ap (λ (w : CoreData). w.spare) c.self.view_is))
