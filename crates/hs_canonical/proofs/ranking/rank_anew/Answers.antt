use Rattle.std.proofs.Common.{◌≡◌, sym, ◌∙◌, ap, subst, ◌≤◌, false, max, arith}
use Rattle.std.proofs.Math.Nat.{le-max_left, max-le}
use Rattle.std.proofs.lemmas.Result.{on_ok_weaker}
use Rattle.hs_scheme.specs.Problem.{ProblemData}
use Rattle.hs_table.specs.Tables.{Exceeds}
use Rattle.hs_table_laws.proofs.Least.{least_decides}
use Rattle.hs_flow.specs.Dependents.{HasDependents}
use Rattle.hs_core.specs.Core.{CoreData, state_of, log_of}
use Rattle.hs_core.proofs.Tables.{core_within}
use Rattle.hs_rank.specs.Canonical.{IsCanonicalLog}
use Rattle.hs_canonical.proofs.ranking.rank_anew.Goals as goal

pub restart-requires-clause-greatest : goal.restart-requires-clause-greatest
restart-requires-clause-greatest c =
    let within = core_within c.args.core.now c.know_core.ensures in
    let few : c.len-entries.result ≤ 1000000 = omega (arith, within, c.len-entries.ensures, c.know_core.ensures.greatest_budget) in
    let one : 1 ≤ 1000000 = omega arith in
    omega (arith, max-le few one, c.max.ensures)

pub rank-requires-clause-dependents : goal.rank-requires-clause-dependents
rank-requires-clause-dependents c =
    let p : c.restart.new.self.base.problem ≡ c.args.problem.now = ap (λ (x : CoreData). x.base.problem) c.in_ok-restart.ensures.ok ∙ sym c.requires.problem in
    subst (λ (x : ProblemData). HasDependents x.points x.flow.pairs c.in_ok-dependents.dependents) (sym p) c.in_ok-dependents.ensures

pub rank-requires-clause-all : goal.rank-requires-clause-all
rank-requires-clause-all c = ap (λ (x : CoreData). x.base.first) c.in_ok-restart.ensures.ok

pub rank-requires-clause-opened : goal.rank-requires-clause-opened
rank-requires-clause-opened c = ap (λ (x : CoreData). x.story) c.in_ok-restart.ensures.ok

pub rank-requires-clause-few : goal.rank-requires-clause-few
rank-requires-clause-few c =
    let T = log_of c.args.core.now in
    let new = c.restart.new.self in
    let p : new.base.problem ≡ c.args.problem.now = ap (λ (x : CoreData). x.base.problem) c.in_ok-restart.ensures.ok ∙ sym c.requires.problem in
    λ more.
    let longer = (least_decides c.args.problem.now T new.base.budget c.requires.least).0 (subst (λ (q : ProblemData). Exceeds q new.base.budget) p more) in
    absurd (omega (arith, longer, le-max_left c.len-entries.result 1, c.max.ensures, c.len-entries.ensures, ap (λ (x : CoreData). x.base.budget) c.in_ok-restart.ensures.ok))

pub returns-clause-base : goal.returns-clause-base
returns-clause-base c =
    on_ok_weaker c.rank.result
    (λ same. same ∙ (ap (λ (x : CoreData). x.base) c.in_ok-restart.ensures.ok ∙ (λ i. record { problem = sym c.requires.problem i; budget = (c.max.ensures ∙ ap (λ n. max n 1) c.len-entries.ensures) i; first = false }))) c.rank.ensures.base

pub returns-clause-canonical : goal.returns-clause-canonical
returns-clause-canonical c =
    let new = c.rank.new.core in
    let p : c.restart.new.self.base.problem ≡ c.args.problem.now = ap (λ (x : CoreData). x.base.problem) c.in_ok-restart.ensures.ok ∙ sym c.requires.problem in
    on_ok_weaker c.rank.result (λ is. subst (λ (q : ProblemData). IsCanonicalLog q (log_of new) (state_of new).supports) p is) c.rank.ensures.canonical
