use Rattle.std.proofs.Common.{sym, ◌∙◌, Bor, rules}
use Rattle.std.proofs.lemmas.Fn.{always_returns_same}
use Rattle.hs_checker.specs.Order.{key_cmp}
use Rattle.hs_types.specs.Interned.{RowData}
use Rattle.hs_checker.proofs.IndexLemmas.{key_found, found_key}
use Rattle.hs_checker.proofs.index.RowIndex.has.Goals as goal

pub returns : goal.returns
returns c =
    let rows = c.at_point.result.now in
    let t = c.args.point in
    let ty = c.args.ty in
    let found = c.binary_search_by.ensures.position (λ (r : Bor RowData). key_cmp t ty r.now) (always_returns_same _ _ _ (λ a r g h. search rules)) in (
      λ h.
          let x = key_found rows c.at_point.ensures.sorted t ty c.binary_search_by.result c.binary_search_by.ensures.bound found (sym c.is_ok.ensures.value ∙ h) in
          record { row = x.0; there = ((c.at_point.ensures.has x.0).0 x.1.0).0; at = x.1.1.0; typed = x.1.1.1 },
      λ h. c.is_ok.ensures.value ∙ found_key rows c.at_point.ensures.sorted t ty c.binary_search_by.result found h.row ((c.at_point.ensures.has h.row).1 (h.there, h.at)) (h.at, h.typed),
    )
