use Rattle.std.proofs.Common.{subst, ℕ, Contains}
use Rattle.std.proofs.lemmas.Result.{on_ok_weaker}
use Rattle.hs_reads.specs.Lists.{list_of}
use Rattle.hs_reads.specs.Becomings.{AnyBecoming, IsFoundAt}
use Rattle.hs_reads.proofs.PushLemmas.{pushed_has, pushed_at}
use Rattle.hs_reads.proofs.becoming.add_to_list.Goals as goal

pub returns-clause-there : goal.returns-clause-there
returns-clause-there c = on_ok_weaker c.push.result (λ is _.
    subst (λ (n : ℕ). Contains (list_of c.push.new.self n) c.args.becoming) c.in-Some.ensures.number.1
    (pushed_has c.in-Some.number c.args.becoming c.args.lists.now c.push.new.self is)) c.push.ensures.pushed

pub returns-clause-only : goal.returns-clause-only
returns-clause-only c = on_ok_weaker c.push.result (λ is found m apart.
    pushed_at c.in-Some.number c.args.becoming c.args.lists.now c.push.new.self is (λ (k : ℕ) (b : AnyBecoming). IsFoundAt c.args.params.now found k b)
    (record { there = m; is = c.in-Some.ensures.number.0; number = c.in-Some.ensures.number.1 }) apart) c.push.ensures.pushed
