use Rattle.std.proofs.Common.{◌≡◌, sym, ap, subst, ◌∙◌, List, None, length, arith}
use Rattle.hs_scheme.specs.Problem.{ProblemData}
use Rattle.hs_history.specs.declared.step.Work.{Work}
use Rattle.hs_history.specs.Story.{Base}
use Rattle.hs_history.specs.CoreStep.{seeds}
use Rattle.hs_core.specs.Inside.{Fields, IsInside}
use Rattle.hs_core.specs.Pending.{PendingData}
use Rattle.hs_core.specs.Tickets.{TicketsData, under, held}
use Rattle.hs_core.proofs.Beginning.{fresh, inside_fresh}
use Rattle.hs_core.proofs.Stepping.{base_of}
use Rattle.hs_core.proofs.state.Core.restart.Goals as goal

pub invariant_of-self : goal.invariant_of-self
invariant_of-self c =
    let a = c.self.inside in (
      subst (λ (ws : List Work). IsInside (base_of a) (record {
        ids = a.replica.ids;
        log = a.replica.log;
        supports = a.supports.items;
        pending = ws;
        flight = under a.tickets;
        past = a.past;
        journal = a.journal.steps;
        start = a.start;
      })) (sym (ap (λ (v : PendingData). v.works) c.in_err-put_seeds.ensures.err)) c.self.invariant.0,
      record {
        replica = c.self.invariant.1.replica;
        tickets = c.self.invariant.1.tickets;
        supports = c.self.invariant.1.supports;
        pending = omega (arith, ap (λ (v : PendingData). v.room) c.in_err-put_seeds.ensures.err, c.self.invariant.1.pending);
        journal = c.self.invariant.1.journal;
      },
    )

pub invariant_of-self-2 : goal.invariant_of-self-2
invariant_of-self-2 c =
    let a = c.self.inside in
    let base : Base = record { problem = a.problem.now; budget = c.args.budget; first = c.args.first } in
    let none = ap (λ (t : TicketsData). held t) c.clear-3.ensures in
    let same : (record {
      ids = c.clear.new.self.ids;
      log = c.clear.new.self.log;
      supports = c.clear-2.new.self.items;
      pending = c.put_seeds.new.self.works;
      flight = under c.clear-3.new.self;
      past = None;
      journal = c.new.result.steps;
      start = None;
    }) ≡ fresh (length base.problem.points.points) c.clear.new.self.ids = λ i. record {
      ids = c.clear.new.self.ids;
      log = (c.clear.ensures i).log;
      supports = c.clear-2.ensures.items i;
      pending = (c.in_ok-put_seeds.ensures.ok ∙ (ap seeds c.count.ensures.points ∙ ap (λ (p : ProblemData). seeds (length p.points.points)) c.problem.view_is)) i;
      flight = λ t. under (c.clear-3.ensures i) t;
      past = None;
      journal = (c.new.ensures i).steps;
      start = None;
    } in (
      subst (λ (f : Fields). IsInside base f) (sym same) (inside_fresh base c.clear.new.self.ids c.requires.least c.requires.greatest),
      record {
        replica = omega arith;
        tickets = omega (arith, none);
        supports = omega (arith, c.clear-2.ensures.len);
        pending = omega (arith, none);
        journal = omega (arith, none);
      },
    )
