-- Pairs of a nonterminal and an environment are ordered by their nonterminals, then by their environments.
use Rattle.std.proofs.Common.{◌≡◌, refl, sym, ◌∙◌, ap, true, false, not}
use Rattle.std.specs.Bool.{◌==◌}
use Rattle.std.specs.Ordering.{nat_cmp, ordering_then, ordering_index}
use Rattle.std.specs.declared.cmp.Ordering.{Ordering}
use Rattle.std.specs.declared.cmp.Ordering.TheVariants.{Less, Equal, Greater}
use Rattle.hs_table.specs.Entries.{env_cmp}
use Rattle.hs_table.proofs.OrderLemmas.{index_of_equal}
use Rattle.hs_weak.specs.Void.{VoidData, void_cmp}

then_first : (o r : Ordering) → true ≡ not (ordering_index o == 1) → o ≡ ordering_then o r
then_first Less r e = refl
then_first Equal r e = (cc)
then_first Greater r e = refl

module _ (p : Ordering) (a b : VoidData) (by_rule : p ≡ nat_cmp a.rule b.rule) where
  pub cmp_by_rule : true ≡ not (ordering_index p == 1) → p ≡ void_cmp a b
  cmp_by_rule differ = then_first p (env_cmp a.env b.env) differ ∙ ap (λ o. ordering_then o (env_cmp a.env b.env)) by_rule

  pub cmp_by_env : (r : Ordering) → false ≡ not (ordering_index p == 1) → r ≡ env_cmp a.env b.env → r ≡ void_cmp a b
  cmp_by_env r same by_env = by_env ∙ ap (λ o. ordering_then o (env_cmp a.env b.env)) (sym (index_of_equal p same) ∙ by_rule)
