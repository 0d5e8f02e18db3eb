use Rattle.std.proofs.Common.{refl, sym, ap, subst, ◌∙◌, Some, ◌-◌, ◌≤◌, arith}
use Rattle.hs_types.specs.Interned.{IsRow}
use Rattle.hs_history.specs.Story.{passes}
use Rattle.hs_history.specs.CoreStep.{CanPass}
use Rattle.hs_core.specs.Tickets.{under}
use Rattle.hs_core.specs.Core.{CoreData, state_of, deduction_of, stepped}
use Rattle.hs_core.proofs.Stepping.{base_of, fields_of, Goes, none_past, passed, passes_goes, goes_as, steps_to}
use Rattle.hs_core.proofs.state.Core.keep.Goals as goal

goes : (c : goal.After-self-2-1) → Goes (base_of c.self.inside) (fields_of c.self.inside) (record { worker = c.args.worker; action = passes c.args.ticket (deduction_of c.self.inside.replica.ids c.args.deduced) }) (record {
  ids = c.self.inside.replica.ids;
  log = c.self.inside.replica.log;
  supports = c.self.inside.supports.items;
  pending = c.self.inside.pending.works;
  flight = under c.self.inside.tickets;
  past = Some c.args.deduced;
  journal = c.push.new.self.steps;
  start = c.self.inside.start;
})
goes c =
    let base = base_of c.self.inside in
    let f = fields_of c.self.inside in
    let d = c.args.deduced in
    let none = none_past base f c.self.invariant.0 c.self.inside.spare c.args.self.now c.self.view_is c.requires.can.none_kept in
    let row = subst (λ (v : CoreData). IsRow v.ids d.row) (sym c.self.view_is) c.requires.row in
    let can = subst (λ (v : CoreData). CanPass v.base (state_of v) c.args.worker c.args.ticket (deduction_of v.ids d)) (sym c.self.view_is) c.requires.can in
    goes_as base f (record { worker = c.args.worker; action = passes c.args.ticket (deduction_of f.ids d) })
    (passed base f c.self.invariant.0 c.args.worker c.args.ticket d none row can) _
    (passes_goes base f c.self.invariant.0 c.args.worker c.args.ticket d none row can)
    (λ i. record {
      ids = f.ids;
      log = f.log;
      supports = f.supports;
      pending = f.pending;
      flight = f.flight;
      past = Some d;
      journal = c.push.ensures.steps i;
      start = f.start;
    })

spare_is : (c : goal.After-self-2-1) → 1 ≤ c.self.inside.spare
spare_is c = omega (arith, c.requires.spare, ap (λ (v : CoreData). v.spare) c.self.view_is)

pub invariant_of-self : goal.invariant_of-self
invariant_of-self c = (
  (goes c).inside,
  record {
    replica = omega (arith, spare_is c);
    tickets = omega (arith, spare_is c);
    supports = omega (arith, spare_is c);
    pending = omega (arith, spare_is c);
    journal = omega (arith, spare_is c);
  },
)

pub returns : goal.returns
returns c =
    let v = c.args.self.now in
    steps_to (base_of c.self.inside) (fields_of c.self.inside) _ c.args.worker (passes c.args.ticket (deduction_of c.self.inside.replica.ids c.args.deduced)) _ _ _ v c.self.view_is (goes c) refl
    (ap (λ (w : CoreData). w.spare - 1) c.self.view_is)
    ∙ ap (λ (w : CoreData). stepped v c.args.worker (passes c.args.ticket (deduction_of w.ids c.args.deduced)) (v.spare - 1)) c.self.view_is
