use Rattle.std.proofs.lemmas.List.Sorted.{IsPermutation-sym, Contains-permutation}
use Rattle.hs_checker.proofs.unions.thin.Goals as goal

pub returns : goal.returns
returns c = λ k.
    let once = c.drop_repeats.new.found.items in
    let sorted = c.sort_by.new.self.items in
    let moved = c.sort_by.ensures.permutation in
    let first = c.drop_repeats.ensures k in
    let last = c.drop_repeats-2.ensures k in
    (λ there. first.0 (Contains-permutation sorted once k (IsPermutation-sym once sorted moved) (last.0 there)), λ there. last.1 (Contains-permutation once sorted k moved (first.1 there)))
