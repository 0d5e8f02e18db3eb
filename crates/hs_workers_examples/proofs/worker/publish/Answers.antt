use Rattle.std.proofs.Common.{sym, subst, Contains}
use Rattle.std.proofs.lemmas.List.Elements.{All-contains}
use Rattle.hs_rules.specs.Conclusions.{IsDeduced}
use Rattle.hs_workers_examples.specs.Working.{up_to}
use Rattle.hs_workers_examples.proofs.FollowingLemmas.{following_deduced}
use Rattle.hs_workers_examples.proofs.worker.publish.Goals as goal

pub publish_one-requires-clause-deduced : goal.publish_one-requires-clause-deduced
publish_one-requires-clause-deduced g c =
    let p = c.args.problem.now in
    let ids = c.following-found.new.replica.ids in
    let log = c.catch_up.new.worker.replica.log in
    let work = c.in-Some.work in
    let d = c.only-deduced.result.now in
    subst (λ xs. IsDeduced p ids xs d) (sym c.following-found.ensures.log)
    (following_deduced p log ids work d (All-contains (IsDeduced p ids (up_to work log)) c.following-found.result.items d c.following-found.ensures.found.deduced
    (subst (λ xs. Contains xs d) c.as_slice.ensures.value c.only-deduced.ensures)))
