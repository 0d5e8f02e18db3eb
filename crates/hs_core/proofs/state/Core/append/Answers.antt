use Rattle.std.proofs.Common.{sym, ap, subst, ◌∙◌, ◌∷◌, ◌++◌, [], ◌-◌, ◌≤◌, arith}
use Rattle.hs_table.specs.Follows.{Support}
use Rattle.hs_history.specs.declared.step.Work.TheVariants.{Place}
use Rattle.hs_history.specs.declared.step.Event.TheVariants.{Added}
use Rattle.hs_history.specs.Story.{adds}
use Rattle.hs_history.specs.CoreStep.{CanAdd}
use Rattle.hs_types.specs.Interned.{entry_of}
use Rattle.hs_replica.specs.Replica.{ReplicaData}
use Rattle.hs_rules.specs.Conclusions.{DeducedData}
use Rattle.hs_core.specs.Tickets.{under}
use Rattle.hs_core.specs.Core.{CoreData, state_of, log_of, deduction_of, stepped}
use Rattle.hs_core.specs.Inside.{KnowsStart}
use Rattle.hs_core.proofs.Stepping.{base_of, fields_of, knows_fields, Goes, added, adds_goes, goes_as, steps_to}
use Rattle.hs_core.proofs.state.Core.append.Goals as goal

pub add-requires-clause-spare : goal.add-requires-clause-spare
add-requires-clause-spare c = omega (arith, c.requires.spare, ap (λ (v : CoreData). v.spare) c.self.view_is, c.self.invariant.1.replica)

pub push_reserved-requires : goal.push_reserved-requires
push_reserved-requires c = omega (arith, c.requires.spare, ap (λ (v : CoreData). v.spare) c.self.view_is, c.self.invariant.1.supports)

pub push_back-requires : goal.push_back-requires
push_back-requires c = omega (arith, c.requires.spare, ap (λ (v : CoreData). v.spare) c.self.view_is, c.self.invariant.1.pending)

pub push-requires : goal.push-requires
push-requires c = omega (arith, c.requires.spare, ap (λ (v : CoreData). v.spare) c.self.view_is, c.self.invariant.1.journal)

pub overflow_sub-self : goal.overflow_sub-self
overflow_sub-self c = omega (arith, c.requires.spare, ap (λ (v : CoreData). v.spare) c.self.view_is)

goes : (c : goal.After-self-2-1) → Goes (base_of c.self.inside) (fields_of c.self.inside) (record { worker = c.args.worker; action = adds c.args.ticket (deduction_of c.self.inside.replica.ids c.args.deduced) }) (record {
  ids = c.add.new.self.ids;
  log = c.add.new.self.log;
  supports = c.push_reserved.new.self.items;
  pending = c.push_back.new.self.works;
  flight = under c.self.inside.tickets;
  past = c.self.inside.past;
  journal = c.push.new.self.steps;
  start = c.start_with-self-inside.result;
})
goes c =
    let a = c.self.inside in
    let base = base_of a in
    let f = fields_of a in
    let d = c.args.deduced in
    let can = subst (λ (v : CoreData). CanAdd v.base (state_of v) c.args.worker c.args.ticket (deduction_of v.ids d)) (sym c.self.view_is) c.requires.can in
    let knows = knows_fields base f c.self.invariant.0 a.spare c.args.self.now c.self.view_is d.row c.start_with-self-inside.result
    (subst (λ (x : DeducedData). KnowsStart c.args.self.now.base.problem (log_of c.args.self.now ++ entry_of c.args.self.now.ids x.row ∷ []) c.start_with-self-inside.result) c.deduced.view_is c.start_with-self-inside.ensures) in
    goes_as base f (record { worker = c.args.worker; action = adds c.args.ticket (deduction_of f.ids d) })
    (added base f c.self.invariant.0 c.args.worker c.args.ticket d c.start_with-self-inside.result can knows) _
    (adds_goes base f c.self.invariant.0 c.args.worker c.args.ticket d c.start_with-self-inside.result can knows)
    (λ i. record {
      ids = (c.add.ensures i).ids;
      log = (ap (λ (r : ReplicaData). r.log) c.add.ensures ∙ ap (λ (x : DeducedData). f.log ++ entry_of f.ids x.row ∷ []) c.deduced.view_is) i;
      supports = (c.push_reserved.ensures.items ∙ (ap (λ (s : Support). f.supports ++ s ∷ []) c.of.ensures ∙ ap (λ (x : DeducedData). f.supports ++ x.support ∷ []) c.deduced.view_is)) i;
      pending = (c.push_back.ensures.works ∙ ap (λ n. f.pending ++ Place n ∷ []) c.len-place.ensures.len) i;
      flight = f.flight;
      past = f.past;
      journal = (c.push.ensures.steps ∙ ap (λ n. f.journal ++ (record { worker = c.args.worker; event = Added c.args.ticket n }) ∷ []) c.len-place.ensures.len) i;
      start = c.start_with-self-inside.result;
    })

spare_is : (c : goal.After-self-2-1) → 1 ≤ c.self.inside.spare
spare_is c = omega (arith, c.requires.spare, ap (λ (v : CoreData). v.spare) c.self.view_is)

pub invariant_of-self : goal.invariant_of-self
invariant_of-self c = (
  (goes c).inside,
  record {
    replica = omega (arith, ap (λ (r : ReplicaData). r.spare) c.add.ensures, spare_is c);
    tickets = omega (arith, spare_is c);
    supports = omega (arith, spare_is c);
    pending = omega (arith, spare_is c);
    journal = omega (arith, spare_is c);
  },
)

pub returns-clause-stepped : goal.returns-clause-stepped
returns-clause-stepped c =
    let v = c.args.self.now in
    steps_to (base_of c.self.inside) (fields_of c.self.inside) _ c.args.worker (adds c.args.ticket (deduction_of c.self.inside.replica.ids c.args.deduced)) _ _ _ v c.self.view_is (goes c) (ap (λ (r : ReplicaData). r.ids) c.add.ensures)
    (ap (λ (w : CoreData). w.spare - 1) c.self.view_is)
    ∙ ap (λ (w : CoreData). stepped v c.args.worker (adds c.args.ticket (deduction_of w.ids c.args.deduced)) (v.spare - 1)) c.self.view_is
