use Rattle.std.proofs.Common.{◌≡◌, ℕ, subst, List, Contains, ◌⊎◌, ◌↔◌, Bor}
use Rattle.std.proofs.lemmas.List.{take_all}
use Rattle.hs_types.specs.Interned.{RowData}
use Rattle.hs_checker.specs.Any.{AnyOf}
use Rattle.hs_checker.proofs.AnyLemmas.{any_step_beside}
use Rattle.hs_checker.proofs.TypeLemmas.{or_same}
use Rattle.hs_checker.proofs.RowLemmas.{types_at}
use Rattle.hs_checker.proofs.heads.add_types_at.Goals as goal

pub loop-row-preserved : goal.loop-row-preserved
loop-row-preserved c =
    any_step_beside (λ (r : Bor RowData) (t : ℕ). t ≡ r.now.ty) c.at_point-row-items.result.now c.loop-row.row-index c.row-item.result c.loop-row-test.true c.row-item.is
    (λ t. Contains c.args.found.now.items t) (λ t. Contains c.loop-row.found.items t) (λ t. Contains c.add_type.new.found.items t) c.in_ok-add_type.ensures c.loop-row.invariant

pub returns : goal.returns
returns c = λ t.
    let rows = c.at_point-row-items.result.now in
    let all = subst (λ (rs : List (Bor RowData)). Contains c.loop-row.found.items t ↔ (Contains c.args.found.now.items t ⊎ AnyOf (λ (r : Bor RowData) (t : ℕ). t ≡ r.now.ty) rs t)) (take_all c.loop-row.row-index rows c.loop-row-test.false) (c.loop-row.invariant t) in
    or_same _ _ _ _ all (types_at c.args.index.now rows c.args.point c.at_point-row-items.ensures.has t)
