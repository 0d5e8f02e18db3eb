use Rattle.std.proofs.Common.{refl, sym, ap, subst, arith}
use Rattle.hs_history.specs.Story.{gives_back}
use Rattle.hs_history.specs.CoreStep.{Holds}
use Rattle.hs_core.specs.Tickets.{under}
use Rattle.hs_core.specs.Core.{CoreData, state_of}
use Rattle.hs_core.proofs.Stepping.{base_of, fields_of, Goes, given_back, gives_back_goes, goes_as, steps_to}
use Rattle.hs_core.proofs.state.Core.give_back.Goals as goal

goes : (c : goal.After-push) → Goes (base_of c.self.inside) (fields_of c.self.inside) (record { worker = c.args.worker; action = gives_back c.args.ticket }) (record {
  ids = c.self.inside.replica.ids;
  log = c.self.inside.replica.log;
  supports = c.self.inside.supports.items;
  pending = c.push_back.new.self.works;
  flight = under c.remove-flight.new.self;
  past = c.self.inside.past;
  journal = c.push.new.self.steps;
  start = c.self.inside.start;
})
goes c =
    let f = fields_of c.self.inside in
    let holds = subst (λ (v : CoreData). Holds (state_of v) c.args.worker c.args.ticket) (sym c.self.view_is) c.requires in
    goes_as (base_of c.self.inside) f (record { worker = c.args.worker; action = gives_back c.args.ticket })
    (given_back (base_of c.self.inside) f c.self.invariant.0 c.args.worker c.args.ticket c.remove-flight.result holds c.remove-flight.ensures.work) _
    (gives_back_goes (base_of c.self.inside) f c.self.invariant.0 c.args.worker c.args.ticket c.remove-flight.result holds c.remove-flight.ensures.work)
    (λ i. record {
      ids = f.ids;
      log = f.log;
      supports = f.supports;
      pending = c.push_back.ensures.works i;
      flight = λ t. c.remove-flight.ensures.updates t i;
      past = f.past;
      journal = c.push.ensures.steps i;
      start = f.start;
    })

pub invariant_of-self : goal.invariant_of-self
invariant_of-self c = (
  (goes c).inside,
  record {
    replica = omega arith;
    tickets = omega arith;
    supports = omega arith;
    pending = omega arith;
    journal = omega arith;
  },
)

pub returns : goal.returns
returns c = steps_to (base_of c.self.inside) (fields_of c.self.inside) _ c.args.worker (gives_back c.args.ticket) _ _ _ c.args.self.now c.self.view_is (goes c) refl (ap (λ (v : CoreData). v.spare) c.self.view_is)
