use Rattle.std.proofs.Common.{◌≡◌, sym, ◌∙◌, ◌-◌, get_or, arith, true, false, refl, not}
use Rattle.std.specs.Bool.{◌==◌}
use Rattle.std.specs.Ordering.{ordering_index}
use Rattle.std.specs.declared.cmp.Ordering.{Ordering}
use Rattle.std.specs.declared.cmp.Ordering.TheVariants.{Less, Equal, Greater}
use Rattle.std.proofs.lemmas.List.{get_or_default}
use Rattle.hs_table.specs.Types.{type_cmp}
use Rattle.hs_table_laws.proofs.Orders.{type_cmp_total, type_same}
use Rattle.hs_checker.proofs.Ordered.{ascending_from}
use Rattle.hs_checker.proofs.shape.is_set.Goals as goal

not_less : (o : Ordering) → true ≡ not (ordering_index o == 0) → o ≡ Less → ⊥
not_less Less e f = (cc)
not_less Equal e f = (cc)
not_less Greater e f = (cc)

pub loop-place-init : goal.loop-place-init
loop-place-init c = (omega arith, λ k d lt. absurd (omega (arith, lt)))

pub returns-then-ne : goal.returns-then-ne
returns-then-ne c = (
  λ e. let f : false ≡ true = e in absurd (cc),
  λ set.
      let xs = c.args.types.now in
      let k = c.loop-place.place in
      let a = c.index-types-place.result in
      let b = c.index-types-place-in-loop-place.result in
      let left : get_or xs (k - 1) b ≡ a = get_or_default xs (k - 1) b a (omega arith) ∙ sym c.index-types-place.is in
      let less : type_cmp a b ≡ Less = (λ i. type_cmp (sym left i) (c.index-types-place-in-loop-place.is i)) ∙ set (k - 1) k b (omega arith) c.loop-place-test.true in
      absurd (not_less c.compare_arrows.result c.if-ne.ensures (c.compare_arrows.ensures ∙ less)),
)

pub returns : goal.returns
returns c = (λ _. ascending_from type_cmp type_cmp_total type_same c.args.types.now (λ k d lt. c.loop-place.invariant.1 k d (omega arith)), λ _. refl)
