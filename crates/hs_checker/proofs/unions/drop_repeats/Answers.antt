use Rattle.std.proofs.Common.{rules, ◌≡◌}
use Rattle.std.specs.List.{dedup}
use Rattle.std.specs.Ordering.{nat_cmp, is_eq}
use Rattle.std.proofs.lemmas.Fn.{dedup_same}
use Rattle.std.proofs.lemmas.Cmp.{nat_cmp_total}
use Rattle.std.proofs.lemmas.List.Sorted.{IsPermutation-refl}
use Rattle.hs_scheme.proofs.Orderings.{nat_equal}
use Rattle.hs_checker.proofs.Once.{once_has}
use Rattle.hs_checker.proofs.unions.drop_repeats.Goals as goal

pub returns : goal.returns
returns c =
    let old = c.args.found.now.items in
    let made : c.dedup_by.new.self.items ≡ dedup (λ a b. is_eq (nat_cmp a b)) old = dedup_same _ (λ a b. is_eq (nat_cmp a b)) _ (λ x y b f x2 y2 k. search rules) old c.dedup_by.new.self.items c.dedup_by.ensures.filtered in
    once_has nat_cmp nat_cmp_total nat_equal old old c.dedup_by.new.self.items (IsPermutation-refl old) made
