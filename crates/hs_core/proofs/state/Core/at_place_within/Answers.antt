use Rattle.std.proofs.Common.{arith}
use Rattle.hs_core.proofs.Stepping.{base_of, fields_of, brought_inside, brought_value, shapes}
use Rattle.hs_core.proofs.state.Core.at_place_within.Goals as goal

pub conclusions_within-requires-clause-shape : goal.conclusions_within-requires-clause-shape
conclusions_within-requires-clause-shape c = shapes (base_of c.self.inside) (fields_of c.self.inside) c.self.invariant.0 c.know_sorted_problem.ensures.automaton

pub invariant_of-self : goal.invariant_of-self
invariant_of-self c =
    let r = c.conclusions_within in (
      brought_inside (base_of c.self.inside) (fields_of c.self.inside) c.self.invariant.0 r.new.replica.ids r.new.replica.log r.ensures.log r.ensures.grows,
      record { replica = omega (arith, r.ensures.spare); tickets = omega arith; supports = omega arith; pending = omega arith; journal = omega arith },
    )

pub returns-clause-kept : goal.returns-clause-kept
returns-clause-kept c =
    let r = c.conclusions_within in
    brought_value (base_of c.self.inside) (fields_of c.self.inside) c.self.invariant.0 c.self.inside.spare c.args.self.now c.self.view_is r.new.replica.ids r.new.replica.log r.ensures.log r.ensures.grows
