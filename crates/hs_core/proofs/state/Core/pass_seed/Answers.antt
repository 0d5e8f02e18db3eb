use Rattle.std.proofs.Common.{◌≡◌, sym, ap, subst, ◌∙◌, ◌-◌, ◌≤◌, drop, arith}
use Rattle.hs_core.specs.Tickets.{under}
use Rattle.hs_core.specs.Core.{CoreData}
use Rattle.hs_core.specs.Inside.{Fields, IsInside}
use Rattle.hs_core.proofs.Stepping.{base_of, fields_of, value_of}
use Rattle.hs_core.proofs.Passing.{seed_front, passed_seed, passed_goes, passed_value}
use Rattle.hs_core.proofs.state.Core.pass_seed.Goals as goal

-- the fields are those of a seed that is passed
abbrev fields : goal.After-self-1 → Fields
fields c = record {
  ids = c.self.inside.replica.ids;
  log = c.self.inside.replica.log;
  supports = c.self.inside.supports.items;
  pending = c.pop_front.new.self.works;
  flight = under c.self.inside.tickets;
  past = c.self.inside.past;
  journal = c.push_passed.new.self.steps;
  start = c.self.inside.start;
}

same : (c : goal.After-self-1) → fields c ≡ passed_seed (base_of c.self.inside) (fields_of c.self.inside) c.self.invariant.0 c.self.inside.spare c.args.self.now c.self.view_is c.args.point c.requires.next c.args.worker c.requires.flight c.requires.closed
same c =
    let a = c.self.inside in
    let f = fields_of a in
    λ i. record {
      ids = f.ids;
      log = f.log;
      supports = f.supports;
      pending = (c.pop_front.ensures.works ∙ ap (λ ws. drop 1 ws) (seed_front (base_of a) f c.self.invariant.0 a.spare c.args.self.now c.self.view_is c.args.point c.requires.next)) i;
      flight = f.flight;
      past = f.past;
      journal = c.push_passed.ensures.steps i;
      start = f.start;
    }

spare_is : (c : goal.After-self-1) → 1 ≤ c.self.inside.spare
spare_is c = omega (arith, c.requires.spare, ap (λ (v : CoreData). v.spare) c.self.view_is)

pub invariant_of-self : goal.invariant_of-self
invariant_of-self c =
    let a = c.self.inside in (
      subst (λ (f : Fields). IsInside (base_of a) f) (sym (same c))
          (passed_goes (base_of a) (fields_of a) c.self.invariant.0 a.spare c.args.self.now c.self.view_is c.args.point c.requires.next c.args.worker c.requires.flight c.requires.closed).inside,
      record {
        replica = omega (arith, spare_is c);
        tickets = omega (arith, spare_is c);
        supports = omega (arith, spare_is c);
        pending = omega (arith, spare_is c, c.pop_front.ensures.room);
        journal = omega (arith, spare_is c);
      },
    )

pub returns : goal.returns
returns c =
    let a = c.self.inside in
    ap (λ (f : Fields). value_of (base_of a) f (a.spare - 1)) (same c)
    ∙ passed_value (base_of a) (fields_of a) c.self.invariant.0 a.spare c.args.self.now c.self.view_is c.args.point c.requires.next c.args.worker c.requires.flight c.requires.closed
