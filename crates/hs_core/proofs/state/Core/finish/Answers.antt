use Rattle.std.proofs.Common.{refl, sym, ap, subst, arith}
use Rattle.hs_history.specs.Story.{finishes}
use Rattle.hs_history.specs.CoreStep.{CanFinish}
use Rattle.hs_core.specs.Tickets.{under}
use Rattle.hs_core.specs.Core.{CoreData, state_of}
use Rattle.hs_core.proofs.Stepping.{base_of, fields_of, Goes, finished, finishes_goes, goes_as, steps_to}
use Rattle.hs_core.proofs.state.Core.finish.Goals as goal

goes : (c : goal.After-push) → Goes (base_of c.self.inside) (fields_of c.self.inside) (record { worker = c.args.worker; action = finishes c.args.ticket }) (record {
  ids = c.self.inside.replica.ids;
  log = c.self.inside.replica.log;
  supports = c.self.inside.supports.items;
  pending = c.self.inside.pending.works;
  flight = under c.remove-closed.new.self;
  past = c.self.inside.past;
  journal = c.push.new.self.steps;
  start = c.self.inside.start;
})
goes c =
    let f = fields_of c.self.inside in
    let can = subst (λ (v : CoreData). CanFinish v.base (state_of v) c.args.worker c.args.ticket) (sym c.self.view_is) c.requires in
    goes_as (base_of c.self.inside) f (record { worker = c.args.worker; action = finishes c.args.ticket }) (finished (base_of c.self.inside) f c.self.invariant.0 c.args.worker c.args.ticket can) _
    (finishes_goes (base_of c.self.inside) f c.self.invariant.0 c.args.worker c.args.ticket can)
    (λ i. record {
      ids = f.ids;
      log = f.log;
      supports = f.supports;
      pending = f.pending;
      flight = λ t. c.remove-closed.ensures.updates t i;
      past = f.past;
      journal = c.push.ensures.steps i;
      start = f.start;
    })

pub invariant_of-self : goal.invariant_of-self
invariant_of-self c = (
  (goes c).inside,
  record {
    replica = omega arith;
    tickets = omega arith;
    supports = omega arith;
    pending = omega arith;
    journal = omega arith;
  },
)

pub returns : goal.returns
returns c = steps_to (base_of c.self.inside) (fields_of c.self.inside) _ c.args.worker (finishes c.args.ticket) _ _ _ c.args.self.now c.self.view_is (goes c) refl (ap (λ (v : CoreData). v.spare) c.self.view_is)
