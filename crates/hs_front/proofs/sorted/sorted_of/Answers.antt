use Rattle.std.proofs.Common.{subst}
use Rattle.std.proofs.lemmas.Result.{err_from_is_err_and}
use Rattle.hs_sorts.specs.Inference.{IsSortFault}
use Rattle.hs_front.proofs.SortedLemmas.{refused_by_sorts}
use Rattle.hs_front.proofs.OneScheme.{one_scheme}
use Rattle.hs_front.proofs.sorted.sorted_of.Goals as goal

pub returns-in-Ok-clause-sorted : goal.returns-in-Ok-clause-sorted
returns-in-Ok-clause-sorted c = record {
  scheme = c.in_ok-unsorted.unsorted;
  of_bytes = c.in_ok-unsorted.ensures.scheme;
  form = record { unsorted = c.know_unsorted.ensures; is_sorted = c.know_sorted.ensures; inferred = c.in-Ok.ensures.ok };
}

pub returns-in-Err-clause-refused : goal.returns-in-Err-clause-refused
returns-in-Err-clause-refused c =
    refused_by_sorts c.args.bytes.now c.in_ok-unsorted.unsorted c.in_ok-unsorted.ensures.scheme c.sort_refusal.result
    (c.sort_refusal.ensures c.in_ok-unsorted.unsorted c.in_ok-unsorted.ensures.scheme)

pub returns-in_err-unsorted-clause-refused : goal.returns-in_err-unsorted-clause-refused
returns-in_err-unsorted-clause-refused c =
    let p = err_from_is_err_and c.from_residual.result c.from_residual.ensures.1 in rw (p.1, p.2) c.in_err-unsorted.ensures.refused

pub sort_refusal-requires-clause-fault : goal.sort_refusal-requires-clause-fault
sort_refusal-requires-clause-fault c = λ u of_bytes.
    subst (λ (v : _). IsSortFault v.rules v.ranks c.in-Err.fault) (one_scheme c.args.bytes.now c.in_ok-unsorted.unsorted u c.in_ok-unsorted.ensures.scheme of_bytes) c.in-Err.ensures.fault
