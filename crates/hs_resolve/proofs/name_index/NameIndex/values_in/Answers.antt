use Rattle.std.proofs.Common.{◌≡◌, ◌∙◌, ap, subst, map, List, Option, ℕ, Bor, IfOk}
use Rattle.hs_resolve.specs.Lengths.{length_of}
use Rattle.hs_resolve.proofs.Lists.{map-map}
use Rattle.hs_resolve.proofs.name_index.NameIndex.values_in.Goals as goal

pub returns : goal.returns
returns c =
    let text = λ (t : Bor (List ℕ)). t.now in
    let value = length_of c.args.table.now in
    let keys = c.self.inside.names.keys in
    let same : map (λ (t : Bor (List ℕ)). value t.now) keys ≡ map value c.args.self.now = map-map value text keys ∙ ap (map value) c.self.view_is in
    subst (λ (vs : List (Option ℕ)). IfOk c.values_of.result (λ values. values.items ≡ vs)) same c.values_of.ensures
