use Rattle.std.proofs.Common.{◌≡◌, refl, sym, ◌∙◌, ap, ℕ, true, false, Result, is_ok, Bor, rules}
use Rattle.std.proofs.lemmas.Fn.{always_returns_same}
use Rattle.hs_types.specs.Interned.{RowData}
use Rattle.hs_checker.specs.Order.{row_cmp}
use Rattle.hs_checker.proofs.IndexLemmas.{search_found, found_search}
use Rattle.hs_checker.proofs.index.RowIndex.find.Goals as goal

pub returns-then-is_at : goal.returns-then-is_at
returns-then-is_at c = ((c.at_point-rows.ensures.has c.args.row.now).0 (c.is_at.ensures c.if-is_at.true)).0

pub returns-in-Ok : goal.returns-in-Ok
returns-in-Ok c =
    let rows = c.at_point-rows.result.now in
    let x = c.args.row.now in
    let found = c.binary_search_by.ensures.position (λ (r : Bor RowData). row_cmp r.now x) (always_returns_same _ _ _ (λ a r g h. search rules)) in
    ((c.at_point-rows.ensures.has x).0 (search_found rows c.at_point-rows.ensures.sorted x c.binary_search_by.result c.binary_search_by.ensures.bound found (ap (λ (r : Result ℕ ℕ). is_ok r) c.in-Ok.is))).0

pub returns-in-Err : goal.returns-in-Err
returns-in-Err c = λ h.
    let rows = c.at_point-rows.result.now in
    let x = c.args.row.now in
    let found = c.binary_search_by.ensures.position (λ (r : Bor RowData). row_cmp r.now x) (always_returns_same _ _ _ (λ a r g h. search rules)) in
    let f = found_search rows c.at_point-rows.ensures.sorted x c.binary_search_by.result found ((c.at_point-rows.ensures.has x).1 (h, refl)) in
    let g : true ≡ false = sym f ∙ ap (λ (r : Result ℕ ℕ). is_ok r) c.in-Err.is in
    absurd (cc)
