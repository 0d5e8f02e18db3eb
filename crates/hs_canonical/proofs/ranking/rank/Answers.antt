use Rattle.std.proofs.Common.{sym, ◌∙◌, ap, subst}
use Rattle.std.proofs.lemmas.Result.{on_ok_weaker}
use Rattle.hs_table.specs.Tables.{Exceeds}
use Rattle.hs_flow.specs.Dependents.{HasDependents}
use Rattle.hs_history.specs.Story.{Base}
use Rattle.hs_core.specs.Core.{CoreData, state_of, log_of}
use Rattle.hs_rules.proofs.Lists.{along}
use Rattle.hs_rank.specs.Canonical.{IsCanonicalLog}
use Rattle.hs_rank.specs.Ranked.{HaveLeastSupports}
use Rattle.hs_rank.proofs.Backing.{supported_none}
use Rattle.hs_canonical.proofs.Opened.{nothing_canonical}
use Rattle.hs_canonical.proofs.ranking.rank.Goals as goal

pub first_ticket-requires-clause-all : goal.first_ticket-requires-clause-all
first_ticket-requires-clause-all c = ap (λ (x : CoreData). x.base.first) c.in_ok-reserve.ensures.ok ∙ c.requires.all

pub first_ticket-requires-clause-opened : goal.first_ticket-requires-clause-opened
first_ticket-requires-clause-opened c = ap (λ (x : CoreData). x.story) c.in_ok-reserve.ensures.ok ∙ c.requires.opened

pub fill-requires-clause-dependents : goal.fill-requires-clause-dependents
fill-requires-clause-dependents c =
    let base = c.first_ticket.ensures.base ∙ ap (λ (x : CoreData). x.base) c.in_ok-reserve.ensures.ok in
    subst (λ (b : Base). HasDependents b.problem.points b.problem.flow.pairs c.args.dependents.now) (sym base) c.requires.dependents

pub fill-requires-clause-none : goal.fill-requires-clause-none
fill-requires-clause-none c = c.first_ticket.ensures.nothing.log

pub fill-requires-clause-ranking : goal.fill-requires-clause-ranking
fill-requires-clause-ranking c =
    let new = c.first_ticket.new.core in
    let base = c.first_ticket.ensures.base ∙ ap (λ (x : CoreData). x.base) c.in_ok-reserve.ensures.ok in
    let nothing = c.first_ticket.ensures.nothing in
    record {
      fits = subst (λ (b : Base). Exceeds b.problem b.budget → ⊥) (sym base) c.requires.few;
      holds = c.in-Some.ensures.taken;
      supports = along (λ i. HaveLeastSupports new.base.problem (sym nothing.log i) (sym nothing.supports i)) (supported_none new.base.problem);
    }

pub returns-in-Some-clause-base : goal.returns-in-Some-clause-base
returns-in-Some-clause-base c = on_ok_weaker c.fill.result (λ same. same ∙ (c.first_ticket.ensures.base ∙ ap (λ (x : CoreData). x.base) c.in_ok-reserve.ensures.ok)) c.fill.ensures.base

pub returns-in-Some-clause-canonical : goal.returns-in-Some-clause-canonical
returns-in-Some-clause-canonical c =
    let base = c.first_ticket.ensures.base ∙ ap (λ (x : CoreData). x.base) c.in_ok-reserve.ensures.ok in
    on_ok_weaker c.fill.result (λ is. subst (λ (b : Base). IsCanonicalLog b.problem (log_of c.fill.new.core) (state_of c.fill.new.core).supports) base is) c.fill.ensures.canonical

pub returns-clause-base : goal.returns-clause-base
returns-clause-base c = c.first_ticket.ensures.base ∙ ap (λ (x : CoreData). x.base) c.in_ok-reserve.ensures.ok

pub returns-clause-canonical : goal.returns-clause-canonical
returns-clause-canonical c =
    let p = c.args.core.now.base.problem in
    let nothing = c.first_ticket.ensures.nothing in
    let none = ap (λ (x : CoreData). x.base.problem.points.points) (sym c.in_ok-reserve.ensures.ok) ∙ c.in_default.ensures.none in
    along (λ i. IsCanonicalLog p (sym nothing.log i) (sym nothing.supports i)) (nothing_canonical p none)
