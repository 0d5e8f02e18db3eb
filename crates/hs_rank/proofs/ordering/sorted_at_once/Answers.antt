use Rattle.std.proofs.Common.{subst, ℕ, List, rules}
use Rattle.std.specs.List.Sorted.{IsPermutation}
use Rattle.std.proofs.lemmas.Fn.{always_returns_same}
use Rattle.hs_rank.specs.Ordering.{is_less_at}
use Rattle.hs_rank.proofs.Joined.{is_order}
use Rattle.hs_rank.proofs.ordering.sorted_at_once.Goals as goal

pub returns : goal.returns
returns c =
    let I = c.args.interner.now in
    let F = c.args.found.now in
    record {
      permutation = subst (λ (xs : List ℕ). IsPermutation xs c.sort_by.new.self.items) c.in_ok-places.ensures c.sort_by.ensures.permutation;
      sorted = c.in_ok-sort_by.ensures.sorted (is_less_at I F) (is_order I F) (always_returns_same _ _ _ (λ a r g k. search rules));
    }
