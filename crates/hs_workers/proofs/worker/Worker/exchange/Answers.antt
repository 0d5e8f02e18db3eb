use Rattle.std.proofs.Common.{sym, ◌∙◌, ap, subst, List, All, map}
use Rattle.std.proofs.lemmas.List.Elements.{All-map}
use mathlib.Core.List.{IsPrefix}
use Rattle.hs_table.specs.Entries.{EntryData}
use Rattle.hs_replica.specs.Replica.{ReplicaData}
use Rattle.hs_replica.specs.Extending.{extended}
use Rattle.hs_history.specs.Story.{Base}
use Rattle.hs_history.specs.History.{IsWork}
use Rattle.hs_core.specs.Core.{state_of, log_of}
use Rattle.hs_shared.specs.Seats.{SeatData, IsSeatOf}
use Rattle.hs_workers.specs.declared.job.Job.{Job}
use Rattle.hs_workers.specs.Jobs.{keys, Carries, CarriesAll, IsFormed}
use Rattle.hs_workers.specs.Working.{CommonData, WorkerData}
use Rattle.hs_workers.proofs.JobLemmas.{all_unformed}
use Rattle.hs_workers.proofs.HoldLemmas.{found_problem, found_begins, found_carries, found_all, left_loaded, served, ends_so}
use Rattle.hs_workers.proofs.worker.Worker.exchange.Goals as goal

pub enter-hold-requires : goal.enter-hold-requires
enter-hold-requires g c =
    subst (λ (v : CommonData). IsSeatOf v.table c.self.inside.seat) (sym c.common.view_is) c.self.invariant.free.seated.seat

pub turn-next-requires-clause-carries : goal.turn-next-requires-clause-carries
turn-next-requires-clause-carries g c =
    let own = c.self.inside in
    let core = c.enter-hold.result.core in
    let ks = keys own.stock.jobs.items in
    subst (λ (s : SeatData). Carries s.known.number (state_of core).flight ks) (sym c.enter-hold.ensures.seat)
    (found_carries own.common.now.table own.common.now.problem own.seat core c.enter-hold.ensures.finds own.stock.replica.log ks c.self.invariant.free c.self.invariant.carries)

pub turn-next-requires-clause-begins : goal.turn-next-requires-clause-begins
turn-next-requires-clause-begins g c =
    let own = c.self.inside in
    found_begins own.common.now.table own.common.now.problem own.seat c.enter-hold.result.core c.enter-hold.ensures.finds own.stock.replica.log c.self.invariant.free

pub turn-next-requires-clause-formed : goal.turn-next-requires-clause-formed
turn-next-requires-clause-formed g c =
    let own = c.self.inside in
    subst (λ q. All (IsFormed q own.stock.replica.ids own.stock.replica.log) own.stock.jobs.items)
    (sym (found_problem own.common.now.table own.common.now.problem own.seat c.enter-hold.result.core c.enter-hold.ensures.finds own.stock.replica.log c.self.invariant.free))
    c.self.invariant.formed

pub turn-next-requires-clause-upon : goal.turn-next-requires-clause-upon
turn-next-requires-clause-upon g c =
    let own = c.self.inside in
    found_problem own.common.now.table own.common.now.problem own.seat c.enter-hold.result.core c.enter-hold.ensures.finds own.stock.replica.log c.self.invariant.free

pub leave-requires : goal.leave-requires
leave-requires g c = c.turn-next.ensures.goes.holds

pub invariant_of-self : goal.invariant_of-self
invariant_of-self g c =
    let own = c.self.inside in
    let now = c.turn-next.ensures in
    let hold = c.turn-next.new.hold in
    let ids = c.extend.new.self.ids in
    let log = c.extend.new.self.log in
    let jobs = c.turn-next.new.stock.jobs.items in
    let upon = ap (λ (b : Base). b.problem) now.goes.base
    ∙ found_problem own.common.now.table own.common.now.problem own.seat c.enter-hold.result.core c.enter-hold.ensures.finds own.stock.replica.log c.self.invariant.free in
    let begins = subst (λ (xs : List EntryData). IsPrefix xs (log_of hold.core))
    (sym (ap (λ (r : ReplicaData). r.log) c.extend.ensures ∙ ap (extended c.turn-next.new.stock.replica) c.as_slice.ensures.value)) now.begins in
    left_loaded own.common.now.table own.common.now.problem c.turn-next.new.seat c.leave.new.seat hold now.goes.holds
    (now.goes.turn ∙ c.enter-hold.ensures.turn ∙ ap (λ (v : CommonData). v.table) c.common.view_is) c.leave.ensures
    ids log jobs upon begins now.carries now.all (all_unformed own.common.now.problem ids log jobs now.unformed)

pub returns-clause-table : goal.returns-clause-table
returns-clause-table g c = ap (λ (w : WorkerData). w.table) c.self.view_is

pub returns-clause-works : goal.returns-clause-works
returns-clause-works g c =
    let own = c.self.inside in
    let p = own.common.now.problem in
    let now = c.turn-next.ensures in
    let jobs = c.turn-next.new.stock.jobs.items in
    let upon = ap (λ (b : Base). b.problem) now.goes.base
    ∙ found_problem own.common.now.table p own.seat c.enter-hold.result.core c.enter-hold.ensures.finds own.stock.replica.log c.self.invariant.free in
    let log = ap (λ (r : ReplicaData). r.log) c.extend.ensures ∙ ap (extended c.turn-next.new.stock.replica) c.as_slice.ensures.value in
    served c.turn-next.result
    (λ works. All-map (IsWork p c.extend.new.self.log) (λ (j : Job). j.work) jobs
    (subst (λ (xs : List EntryData). All (λ (j : Job). IsWork p xs j.work) jobs) (sym log)
    (subst (λ q. All (λ (j : Job). IsWork q (extended c.turn-next.new.stock.replica c.turn-next.new.rows.items) j.work) jobs) upon works)))
    now.works

pub turn-next-requires-clause-all : goal.turn-next-requires-clause-all
turn-next-requires-clause-all g c =
    let own = c.self.inside in
    let core = c.enter-hold.result.core in
    let ks = keys own.stock.jobs.items in
    subst (λ (s : SeatData). CarriesAll s.known.number (state_of core).flight ks) (sym c.enter-hold.ensures.seat)
    (found_all own.common.now.table own.common.now.problem own.seat core c.enter-hold.ensures.finds ks c.self.invariant.all)

pub returns-clause-ends : goal.returns-clause-ends
returns-clause-ends g c = ends_so c.turn-next.result (λ none. ap (λ (js : List Job). map (λ (j : Job). j.work) js) none) c.turn-next.ensures.ends
