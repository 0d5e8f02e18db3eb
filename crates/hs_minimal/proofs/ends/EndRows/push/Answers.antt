use Rattle.std.proofs.Common.{refl, sym, ◌∙◌, ap, List, ◌∷◌, [], ◌++◌, cond}
use Rattle.std.specs.Map.{lookup}
use Rattle.std.proofs.lemmas.Result.{on_ok_weaker}
use Rattle.hs_scheme.specs.Key.{key_eq}
use Rattle.hs_types.specs.Interned.{RowData}
use Rattle.hs_minimal.specs.Ends.{rows_ending}
use Rattle.hs_minimal.proofs.EndLemmas.{key_parts, seen, ending_is, list_pushed}
use Rattle.hs_minimal.proofs.ends.EndRows.push.Goals as goal

pub returns : goal.returns
returns c = on_ok_weaker c.replace.result (λ each u q.
    let t = key_eq (c.args.point, c.args.state) (u, q) in
    let was = c.self.inside.rows.entries in
    let mid = c.swap_remove.new.self.entries in
    let pushed = c.push.new.self.items in
    list_pushed t (lookup (key_eq (u, q)) was) (lookup (key_eq (u, q)) mid) (lookup (key_eq (c.args.point, c.args.state)) was) c.swap_remove.result c.unwrap_or-rows.result c.new.result pushed (rows_ending c.replace.new.self u q) c.args.row
    (λ e. let p = key_parts c.args.point c.args.state u q e in λ i. lookup (key_eq (p.0 i, p.1 i)) was) c.swap_remove.ensures.value c.new.ensures.items c.unwrap_or-rows.ensures c.in_ok-push.ensures.items (c.swap_remove.ensures.updates.0 (u, q))
    (each u q ∙ ap (λ (z : List RowData). cond t pushed z) (ending_is mid (seen mid) refl u q))
    ∙ ap (λ (z : List RowData). cond t (z ++ c.args.row ∷ []) z) (sym (ending_is was c.args.self.now c.self.view_is u q))) c.replace.ensures
