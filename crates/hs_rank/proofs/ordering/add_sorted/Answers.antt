use Rattle.std.proofs.Common.{◌∙◌, ap, ℕ, List, ◌++◌, rules}
use Rattle.std.proofs.lemmas.Fn.{always_returns_same}
use Rattle.hs_rank.specs.Ordering.{is_less_at}
use Rattle.hs_rank.proofs.Joined.{is_order}
use Rattle.hs_rank.proofs.ordering.add_sorted.Goals as goal

pub returns : goal.returns
returns c =
    let I = c.args.interner.now in
    let F = c.args.found.now in
    record {
      added = c.sort_by.new.self.items;
      is = c.in_ok-extend_from_slice.ensures.items ∙ ap (λ (ps : List ℕ). c.args.places.now.items ++ ps) c.as_slice.ensures.value;
      permutation = c.sort_by.ensures.permutation;
      sorted = c.in_ok-sort_by.ensures.sorted (is_less_at I F) (is_order I F) (always_returns_same _ _ _ (λ a r g k. search rules));
    }
