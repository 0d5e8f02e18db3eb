use Rattle.std.proofs.Common.{sym, ap, subst, All}
use Rattle.hs_scheme.specs.acceptance.Automaton.{IsAutomaton}
use Rattle.hs_history.specs.History.{IsWork}
use Rattle.hs_workers.specs.declared.job.Job.{Job}
use Rattle.hs_workers.specs.Working.{CommonData, WorkerData}
use Rattle.hs_workers.proofs.JobLemmas.{all_mapped}
use Rattle.hs_workers.proofs.HoldLemmas.{shape_in, loaded_on}
use Rattle.hs_workers.proofs.worker.Worker.serve.Goals as goal

pub form_each-requires-clause-works : goal.form_each-requires-clause-works
form_each-requires-clause-works g c =
    let own = c.self.inside in
    all_mapped (IsWork own.common.now.problem own.stock.replica.log) (λ (j : Job). j.work) own.stock.jobs.items
    (subst (λ (w : WorkerData). All (IsWork w.problem w.log) w.works) (sym c.self.view_is) c.requires)

pub form_each-requires-clause-formed : goal.form_each-requires-clause-formed
form_each-requires-clause-formed g c = c.self.invariant.formed

pub form_each-requires-clause-shape : goal.form_each-requires-clause-shape
form_each-requires-clause-shape g c =
    let own = c.self.inside in
    shape_in own.common.now.table own.common.now.problem own.seat own.stock.replica.log
    (subst (λ (v : CommonData). IsAutomaton v.problem.sorted.automaton) c.common.view_is c.know_sorted_problem.ensures.automaton) c.self.invariant.free

pub invariant_of-self : goal.invariant_of-self
invariant_of-self g c =
    let own = c.self.inside in
    let new = c.form_each.new.stock in
    loaded_on own.common.now.table own.common.now.problem own.seat own.stock.replica.ids new.replica.ids own.stock.replica.log new.replica.log own.stock.jobs.items new.jobs.items
    c.self.invariant c.form_each.ensures.log c.form_each.ensures.keys c.form_each.ensures.formed

pub returns : goal.returns
returns g c = ap (λ (w : WorkerData). w.table) c.self.view_is
