use Rattle.std.proofs.Common.{refl, sym, subst, ℕ, List, Contains, inl, inr}
use Rattle.std.proofs.lemmas.List.{take_all}
use Rattle.hs_table_plain.proofs.Members.{next_member}
use Rattle.hs_types.specs.Interned.{RowData}
use Rattle.hs_checker.proofs.missing.first_missing.Goals as goal

pub loop-env-preserved : goal.loop-env-preserved
loop-env-preserved c = λ k m.
    let items = c.as_slice-env-items.result.now in
    let own = c.env-item.result in
    let row : ℕ → RowData = λ k. record { point = c.args.point; env = k; ty = c.args.found.now.ty } in
    elim ((next_member items c.loop-env.env-index own k c.loop-env-test.true c.env-item.is).0 m) [
      | inl before ↦ c.loop-env.invariant k before
      | inr same ↦ subst (λ (j : ℕ). Contains c.args.index.now (row j)) (sym same) c.in-Some.ensures
    ]

pub returns : goal.returns
returns c = λ k m.
    let items = c.as_slice-env-items.result.now in
    c.loop-env.invariant k (subst (λ (ks : List ℕ). Contains ks k) (sym (take_all c.loop-env.env-index items c.loop-env-test.false)) (subst (λ (ks : List ℕ). Contains ks k) (sym c.as_slice-env-items.ensures.value) m))

pub returns-in-None : goal.returns-in-None
returns-in-None c =
    let there : Contains c.as_slice-env-items.result.now c.env-item.result = (c.loop-env.env-index, c.loop-env-test.true, sym c.env-item.is) in
    (refl, (refl, (subst (λ (ks : List ℕ). Contains ks c.env-item.result) c.as_slice-env-items.ensures.value there, c.in-None.ensures)))
