use Rattle.std.proofs.Common.{◌≡◌, sym, ap, subst, ◌∙◌, None, length, arith}
use Rattle.hs_scheme.specs.Problem.{ProblemData}
use Rattle.hs_history.specs.Story.{Base}
use Rattle.hs_history.specs.CoreStep.{seeds}
use Rattle.hs_core.specs.Inside.{Fields, IsInside}
use Rattle.hs_core.specs.Tickets.{TicketsData, under, held}
use Rattle.hs_core.proofs.Beginning.{fresh, inside_fresh}
use Rattle.hs_core.proofs.state.Core.new.Goals as goal

pub invariant_of-result : goal.invariant_of-result
invariant_of-result c =
    let base : Base = record { problem = c.args.problem.now; budget = c.args.budget; first = c.args.first } in
    let same : (record {
      ids = c.new.result.ids;
      log = c.new.result.log;
      supports = c.new-2.result.items;
      pending = c.put_seeds.new.self.works;
      flight = under c.new-3.result;
      past = None;
      journal = c.new-4.result.steps;
      start = None;
    }) ≡ fresh (length base.problem.points.points) c.new.result.ids = λ i. record {
      ids = c.new.result.ids;
      log = (c.new.ensures i).log;
      supports = c.new-2.ensures.items i;
      pending = (c.in_ok-put_seeds.ensures.ok ∙ (ap seeds c.count.ensures.points ∙ ap (λ (p : ProblemData). seeds (length p.points.points)) c.problem.view_is)) i;
      flight = λ t. under (c.new-3.ensures i) t;
      past = None;
      journal = (c.new-4.ensures i).steps;
      start = None;
    } in (
      subst (λ (f : Fields). IsInside base f) (sym same) (inside_fresh base c.new.result.ids c.requires.least c.requires.greatest),
      record {
        replica = omega arith;
        tickets = omega (arith, ap (λ (t : TicketsData). held t) c.new-3.ensures);
        supports = omega (arith, c.new-2.ensures.len);
        pending = omega (arith, ap (λ (t : TicketsData). held t) c.new-3.ensures);
        journal = omega (arith, ap (λ (t : TicketsData). held t) c.new-3.ensures);
      },
    )
