use Rattle.std.proofs.Common.{sym, subst, ℕ, List}
use Rattle.hs_weak.specs.Reads.{IsClosedReads}
use Rattle.hs_reads.specs.Own.{AreReadsOf}
use Rattle.hs_reads.proofs.ReadLemmas.{least_reads}
use Rattle.hs_reads.proofs.reads.Reads.of.Goals as goal

pub find-requires : goal.find-requires
find-requires c = c.in_ok-found.ensures.pairs

pub returns-in-Ok-clause-reads : goal.returns-in-Ok-clause-reads
returns-in-Ok-clause-reads c =
    let p = c.args.problem.now in
    subst (λ (xs : List (ℕ × ℕ)). AreReadsOf p xs) (sym c.listed.ensures) (least_reads p c.find.new.found.pairs c.in-Ok.ensures.closed c.in-Ok.ensures.needed c.in-Ok.ensures.few)

pub returns-in-Ok-clause-closed : goal.returns-in-Ok-clause-closed
returns-in-Ok-clause-closed c = subst (λ (xs : List (ℕ × ℕ)). IsClosedReads c.args.problem.now xs) (sym c.listed.ensures) c.in-Ok.ensures.closed
