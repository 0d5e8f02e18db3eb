use Rattle.std.proofs.Common.{rules, ◌≡◌, map, subst, Bor}
use Rattle.std.specs.Ordering.{is_lt}
use Rattle.std.specs.List.Sorted.{IsPermutation}
use Rattle.std.proofs.lemmas.List.Sorted.{IsPermutation-map, IsPermutation-sym, Contains-permutation, ranks_by, answers_always}
use Rattle.hs_scheme.proofs.Orderings.{ascends}
use Rattle.hs_weak.specs.Void.{VoidData, void_cmp}
use Rattle.hs_text.proofs.Ascending.{sorted_values}
use Rattle.hs_text.proofs.VoidOrder.{void_cmp_total, void_same}
use Rattle.hs_text.proofs.evidence.in_order.Goals as goal

pub returns-clause-ascending : goal.returns-clause-ascending
returns-clause-ascending c =
    let are : map (λ (v : Bor VoidData). v.now) c.in_ok-pairs.pairs.items ≡ c.args.void.now = search rules in
    let moved : IsPermutation c.args.void.now (map (λ (v : Bor VoidData). v.now) c.sort_by.new.self.items) =
    subst (λ xs. IsPermutation xs (map (λ (v : Bor VoidData). v.now) c.sort_by.new.self.items)) are
    (IsPermutation-map (λ (v : Bor VoidData). v.now) c.in_ok-pairs.pairs.items c.sort_by.new.self.items c.sort_by.ensures.permutation) in
    ascends void_cmp void_cmp_total void_same c.args.void.now _ c.requires moved
    (sorted_values void_cmp c.sort_by.new.self.items (c.in_ok-sort_by.ensures.sorted (λ a b. is_lt (void_cmp a.now b.now)) (ranks_by void_cmp_total (λ (v : Bor VoidData). v.now)) (answers_always _ _ (tt) (λ f a r g k. search rules))))

pub returns-clause-same : goal.returns-clause-same
returns-clause-same c =
    let are : map (λ (v : Bor VoidData). v.now) c.in_ok-pairs.pairs.items ≡ c.args.void.now = search rules in
    let moved : IsPermutation c.args.void.now (map (λ (v : Bor VoidData). v.now) c.sort_by.new.self.items) =
    subst (λ xs. IsPermutation xs (map (λ (v : Bor VoidData). v.now) c.sort_by.new.self.items)) are
    (IsPermutation-map (λ (v : Bor VoidData). v.now) c.in_ok-pairs.pairs.items c.sort_by.new.self.items c.sort_by.ensures.permutation) in
    λ v. (
      λ there. Contains-permutation _ _ v (IsPermutation-sym _ _ moved) there,
      λ there. Contains-permutation _ _ v moved there,
    )
