use Rattle.std.proofs.Common.{rules, ◌≡◌, ℕ}
use Rattle.std.specs.List.{dedup}
use Rattle.std.specs.Ordering.{nat_cmp, is_lt, is_eq}
use Rattle.std.proofs.lemmas.Fn.{dedup_same}
use Rattle.std.proofs.lemmas.Cmp.{nat_cmp_total}
use Rattle.std.proofs.lemmas.List.Sorted.{answers_always, ranks_by}
use Rattle.hs_scheme.proofs.Orderings.{nat_equal}
use Rattle.hs_checker.proofs.Once.{once_ascends, once_has}
use Rattle.hs_checker.proofs.heads.in_order.Goals as goal

pub returns-clause-once : goal.returns-clause-once
returns-clause-once c =
    let made : c.dedup_by.new.self.items ≡ dedup (λ a b. is_eq (nat_cmp a b)) c.sort_by.new.self.items = dedup_same _ (λ a b. is_eq (nat_cmp a b)) _ (λ x y b f x2 y2 k. search rules) c.sort_by.new.self.items c.dedup_by.new.self.items c.dedup_by.ensures.filtered in
    once_ascends nat_cmp nat_cmp_total nat_equal c.sort_by.new.self.items c.dedup_by.new.self.items
    (c.in_ok-sort_by.ensures.sorted (λ a b. is_lt (nat_cmp a b)) (ranks_by nat_cmp_total (λ (t : ℕ). t)) (answers_always _ _ _ (λ f a r g h. search rules))) made

pub returns-clause-each : goal.returns-clause-each
returns-clause-each c =
    let made : c.dedup_by.new.self.items ≡ dedup (λ a b. is_eq (nat_cmp a b)) c.sort_by.new.self.items = dedup_same _ (λ a b. is_eq (nat_cmp a b)) _ (λ x y b f x2 y2 k. search rules) c.sort_by.new.self.items c.dedup_by.new.self.items c.dedup_by.ensures.filtered in
    once_has nat_cmp nat_cmp_total nat_equal c.args.types.items c.sort_by.new.self.items c.dedup_by.new.self.items c.sort_by.ensures.permutation made
