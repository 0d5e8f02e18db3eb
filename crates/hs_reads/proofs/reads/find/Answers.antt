use Rattle.std.proofs.Common.{rules, sym, subst, ℕ, ◌≤◌, List, length, Contains, inl, inr, arith}
use Rattle.hs_scheme.proofs.Lists.{none_in}
use Rattle.hs_reads.specs.Growing.{AreTooMany}
use Rattle.hs_reads.specs.Own.{HasManyReads}
use Rattle.hs_reads.proofs.GrowLemmas.{both_ok}
use Rattle.hs_reads.proofs.ReadLemmas.{none_needed, start_needed, start_many, many_pairs, not_many_reads}
use Rattle.hs_reads.proofs.reads.find.Goals as goal

pub spread-requires-clause-few : goal.spread-requires-clause-few
spread-requires-clause-few c = c.in_ok-add_start.ensures.gains.few (subst (λ (xs : List (ℕ × ℕ)). length xs ≤ 4000000) (sym c.requires) (omega arith))

pub spread-requires-clause-needed : goal.spread-requires-clause-needed
spread-requires-clause-needed c = start_needed c.args.problem.now c.args.found.now.pairs c.add_start.new.found.pairs (none_needed c.args.problem.now c.args.found.now.pairs c.requires) c.add_start.ensures.only

pub spread-requires-clause-waiting : goal.spread-requires-clause-waiting
spread-requires-clause-waiting c = λ x m. elim (c.in_ok-add_start.ensures.gains.waits x m) [
  | inl was ↦ absurd (none_in x (subst (λ (xs : List (ℕ × ℕ)). Contains xs x) c.requires was))
  | inr waits ↦ waits
]

pub returns-clause-few : goal.returns-clause-few
returns-clause-few c = both_ok c.spread.result (λ closed few. not_many_reads c.args.problem.now c.spread.new.found.pairs closed few c.in_ok-terminals.ensures.few) c.spread.ensures.closed c.spread.ensures.few

pub returns-clause-limit : goal.returns-clause-limit
returns-clause-limit c = λ e. many_pairs c.args.problem.now c.spread.new.found.pairs c.spread.ensures.needed (c.spread.ensures.limit e)

pub returns-in_err-add_start-clause-limit : goal.returns-in_err-add_start-clause-limit
returns-in_err-add_start-clause-limit c =
    let many : AreTooMany c.add_start.new.found.pairs → HasManyReads c.args.problem.now =
    start_many c.args.problem.now c.args.found.now.pairs c.add_start.new.found.pairs c.requires c.add_start.ensures.only in
    search (rules, many)
