-- Where a search parts rows, and rows that are sorted.
use Rattle.std.proofs.Common.{◌≡◌, ℕ, ◌+◌, ◌≤◌, true, false, ltb, leb, List, length, get_or, arith}
use Rattle.std.specs.List.Sorted.{IsPartitionPoint}
use Rattle.std.proofs.lemmas.Bool.{ltb-true, ltb-false, leb-true, leb-false}
use Rattle.hs_numbered.specs.Certificates.{VoidRowData}
use Rattle.hs_flow_checker.specs.Starts.{IsStartBy}

pub start_below : (rows : List VoidRowData) (u n : ℕ) → n ≤ length rows → IsPartitionPoint (λ (v : VoidRowData). ltb v.rule u ≡ true) (λ (v : VoidRowData). ltb v.rule u ≡ false) rows n → IsStartBy (λ (v : VoidRowData). v.rule) rows u n
start_below rows u n within parted = record {
  within = within;
  before = λ k d lt. ltb-true (get_or rows k d).rule u (parted.0 k d (omega arith) lt);
  behind = λ k d le lt. ltb-false (get_or rows k d).rule u (parted.1 k d le lt);
}

pub start_behind : (rows : List VoidRowData) (u n : ℕ) → n ≤ length rows → IsPartitionPoint (λ (v : VoidRowData). leb v.rule u ≡ true) (λ (v : VoidRowData). leb v.rule u ≡ false) rows n → IsStartBy (λ (v : VoidRowData). v.rule) rows (u + 1) n
start_behind rows u n within parted = record {
  within = within;
  before = λ k d lt. let le = leb-true (get_or rows k d).rule u (parted.0 k d (omega arith) lt) in omega (arith, le);
  behind = λ k d le lt. let above = leb-false (get_or rows k d).rule u (parted.1 k d le lt) in omega (arith, above);
}
