use Rattle.std.proofs.Common.{subst, All, Contains}
use Rattle.hs_types.specs.Interned.{entry_of}
use Rattle.hs_rules.specs.Conclusions.{DeducedData}
use Rattle.hs_workers_examples.proofs.FollowingLemmas.{closed_at}
use Rattle.hs_workers_examples.proofs.forming.is_closed_at.Goals as goal

pub returns-clause-closed : goal.returns-clause-closed
returns-clause-closed g c = λ yes.
    let ids = c.following-found.new.replica.ids in
    let log = c.args.replica.now.log in
    let found = c.following-found.result.items in
    let has : All (λ (d : DeducedData). Contains c.following-found.new.replica.log (entry_of ids d.row)) found =
    subst (λ xs. All (λ (d : DeducedData). Contains c.following-found.new.replica.log (entry_of ids d.row)) xs) c.as_slice.ensures.value (c.has_all.ensures yes) in
    closed_at c.args.problem.now log ids c.args.work c.args.point found c.following-found.ensures.found
    (subst (λ xs. All (λ (d : DeducedData). Contains xs (entry_of ids d.row)) found) c.following-found.ensures.log has)
