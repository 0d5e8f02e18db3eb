use Rattle.std.proofs.Common.{◌≡◌, ◌∙◌, sym, ap, List, ℕ, Bor, Some, None, position}
use Rattle.std.specs.Str.{bytes_eq}
use Rattle.hs_scheme.proofs.Lists.{position-map}
use Rattle.hs_cert.proofs.NameLemmas.{found_at, not_found}
use Rattle.hs_cert.proofs.names.NameTable.number.Goals as goal

pub returns-in-Some-clause-at : goal.returns-in-Some-clause-at
returns-in-Some-clause-at c =
    let x = c.args.name.now in
    let text = λ (n : Bor (List ℕ)). n.now in
    let at : position (bytes_eq x) c.args.self.now ≡ Some c.in-Some.number =
    ap (position (bytes_eq x)) (sym c.self.view_is) ∙ (position-map (bytes_eq x) text c.self.inside.names.keys ∙ (sym c.get_index_of.ensures.index ∙ c.in-Some.is)) in
    found_at c.args.self.now x c.in-Some.number at

pub returns-in-None-clause-none : goal.returns-in-None-clause-none
returns-in-None-clause-none c =
    let x = c.args.name.now in
    let text = λ (n : Bor (List ℕ)). n.now in
    let at : position (bytes_eq x) c.args.self.now ≡ None =
    ap (position (bytes_eq x)) (sym c.self.view_is) ∙ (position-map (bytes_eq x) text c.self.inside.names.keys ∙ (sym c.get_index_of.ensures.index ∙ c.in-None.is)) in
    not_found c.args.self.now x at
