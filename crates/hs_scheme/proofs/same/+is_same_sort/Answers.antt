use Rattle.std.proofs.Common.{◌≡◌, ◌∙◌, ap, true, false, List, length, arith}
use Rattle.hs_scheme.specs.sorting.Sorting.{SortTree}
use Rattle.hs_scheme.proofs.SameLemmas.{same_item, below_same}
use Rattle.hs_scheme.proofs.same.+is_same_sort.Goals as goal

never : false ≡ true → ⊥
never e = (cc)

pub returns-then-len : goal.returns-then-len
returns-then-len t c = (
  λ e. absurd (never e),
  λ e.
      let same = below_same c.args.a.now c.args.b.now tt tt c.a.inside.args.items c.b.inside.args.items c.a.view_is c.b.view_is e in
      absurd (c.if-len.true (omega (arith, ap (λ (ks : List SortTree). length ks) same, c.len.ensures, c.len-2.ensures, c.a.inside.args.ok.0, c.b.inside.args.ok.0))),
)

pub returns-then-not-is_same_sort : goal.returns-then-not-is_same_sort
returns-then-not-is_same_sort t c = (
  λ e. absurd (never e),
  λ e.
      let same = below_same c.args.a.now c.args.b.now tt tt c.a.inside.args.items c.b.inside.args.items c.a.view_is c.b.view_is e in
      c.if-not-is_same_sort.ensures.1 (same_item c.deref-arg-items.result.now c.b.inside.args.items c.loop-place.place c.arg-item.result c.index.result.now c.arg-item.is c.index.ensures c.loop-place-test.true
      (c.deref-arg-items.ensures.value ∙ same)),
)
