use Rattle.std.proofs.Common.{refl, ap, ◌∙◌, ◌-◌, ◌≤◌, drop, arith}
use Rattle.hs_history.specs.Story.{takes}
use Rattle.hs_core.specs.Tickets.{under}
use Rattle.hs_core.specs.Core.{CoreData}
use Rattle.hs_core.proofs.Stepping.{base_of, fields_of, Goes, goes_as, steps_to}
use Rattle.hs_core.proofs.Passing.{front, first_taken, first_goes, first_can}
use Rattle.hs_core.proofs.state.Core.take_first.Goals as goal

goes : (c : goal.After-self-1) → Goes (base_of c.self.inside) (fields_of c.self.inside) (record { worker = c.args.worker; action = takes c.args.work c.insert-ticket.result }) (record {
  ids = c.self.inside.replica.ids;
  log = c.self.inside.replica.log;
  supports = c.self.inside.supports.items;
  pending = c.pop_front.new.self.works;
  flight = under c.insert-ticket.new.self;
  past = c.self.inside.past;
  journal = c.push.new.self.steps;
  start = c.self.inside.start;
})
goes c =
    let a = c.self.inside in
    let base = base_of a in
    let f = fields_of a in
    let v = c.args.self.now in
    let inside = c.self.invariant.0 in
    let r = c.requires in
    goes_as base f (record { worker = c.args.worker; action = takes c.args.work c.insert-ticket.result })
    (first_taken base f inside a.spare v c.self.view_is c.args.work r.first.0 r.none_kept r.goes_on r.first.1 c.args.worker c.insert-ticket.result c.insert-ticket.ensures.free) _
    (first_goes base f inside a.spare v c.self.view_is c.args.work r.first.0 r.none_kept r.goes_on r.first.1 c.args.worker c.insert-ticket.result c.insert-ticket.ensures.free)
    (λ i. record {
      ids = f.ids;
      log = f.log;
      supports = f.supports;
      pending = (c.pop_front.ensures.works ∙ ap (λ ws. drop 1 ws) (front base f inside a.spare v c.self.view_is c.args.work r.first.0 r.none_kept r.goes_on r.first.1)) i;
      flight = λ t. c.insert-ticket.ensures.updates t i;
      past = f.past;
      journal = c.push.ensures.steps i;
      start = f.start;
    })

spare_is : (c : goal.After-self-1) → 1 ≤ c.self.inside.spare
spare_is c = omega (arith, c.requires.spare, ap (λ (v : CoreData). v.spare) c.self.view_is)

pub invariant_of-self : goal.invariant_of-self
invariant_of-self c = (
  (goes c).inside,
  record {
    replica = omega (arith, spare_is c);
    tickets = omega (arith, spare_is c);
    supports = omega (arith, spare_is c);
    pending = omega (arith, spare_is c, c.pop_front.ensures.room);
    journal = omega (arith, spare_is c);
  },
)

pub returns-clause-can : goal.returns-clause-can
returns-clause-can c =
    let a = c.self.inside in
    let r = c.requires in
    first_can (base_of a) (fields_of a) c.self.invariant.0 a.spare c.args.self.now c.self.view_is c.args.work r.first.0 r.none_kept r.goes_on r.first.1 c.args.worker c.insert-ticket.result c.insert-ticket.ensures.free

pub returns-clause-stepped : goal.returns-clause-stepped
returns-clause-stepped c =
    steps_to (base_of c.self.inside) (fields_of c.self.inside) _ c.args.worker (takes c.args.work c.insert-ticket.result) _ _ _ c.args.self.now c.self.view_is (goes c) refl (ap (λ (w : CoreData). w.spare - 1) c.self.view_is)
