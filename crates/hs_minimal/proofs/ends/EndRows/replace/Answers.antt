use Rattle.std.proofs.Common.{refl, sym, ◌∙◌, ap, List, cond}
use Rattle.std.specs.Map.{lookup}
use Rattle.hs_scheme.specs.Key.{key_eq}
use Rattle.hs_types.specs.Interned.{RowData}
use Rattle.hs_minimal.proofs.EndLemmas.{seen, ending_is, items_written}
use Rattle.hs_minimal.proofs.ends.EndRows.replace.Goals as goal

pub returns : goal.returns
returns c = λ u q.
    let t = key_eq (c.args.point, c.args.state) (u, q) in
    let was = c.self.inside.rows.entries in
    let now = c.insert.new.self.entries in
    ending_is now (seen now) refl u q ∙ (items_written t c.args.rows (lookup (key_eq (u, q)) was) (lookup (key_eq (u, q)) now) (c.in_ok-insert.ensures.updates.0 (u, q))
    ∙ ap (λ (z : List RowData). cond t c.args.rows.items z) (sym (ending_is was c.args.self.now c.self.view_is u q)))
