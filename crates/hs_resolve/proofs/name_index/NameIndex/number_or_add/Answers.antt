use Rattle.std.proofs.Common.{◌≡◌, not, map, sym, ap, ◌∙◌, List, ℕ, ◌++◌, Bor}
use Rattle.std.specs.List.{position_or_len}
use Rattle.std.specs.Str.{bytes_eq}
use Rattle.hs_scheme.proofs.Lists.{any-map, prefix-map}
use Rattle.hs_resolve.specs.Names.{number, with_name}
use Rattle.hs_resolve.proofs.Growing.{number-here}
use Rattle.hs_resolve.proofs.Lists.{pushed-map}
use Rattle.hs_resolve.proofs.name_index.NameIndex.number_or_add.Goals as goal

pub returns-clause-number : goal.returns-clause-number
returns-clause-number c = λ later.
    let text = λ (n : Bor (List ℕ)). n.now in
    let x = c.args.name.now in
    let keys = c.self.inside.names.keys in
    let added : map text c.insert_full.new.self.keys ≡ with_name c.args.self.now x =
    ap (λ (ks : List (Bor (List ℕ))). (let ns : List (List ℕ) = map text ks in ns)) c.in_ok-number.ensures.keys
    ∙ (pushed-map text _ _ keys c.args.name (sym (any-map (bytes_eq x) text keys))
    ∙ ap (λ (ns : List (List ℕ)). with_name ns x) c.self.view_is) in
    c.in_ok-number.ensures.index
    ∙ (sym (prefix-map (λ y. not (bytes_eq x y)) text keys)
    ∙ (ap (λ (ns : List (List ℕ)). position_or_len (bytes_eq x) ns) c.self.view_is
    ∙ (sym (number-here c.args.self.now x later) ∙ ap (λ ns. number (ns ++ later) x) (sym added))))

pub returns-clause-added : goal.returns-clause-added
returns-clause-added c =
    let text = λ (n : Bor (List ℕ)). n.now in
    ap (λ (ks : List (Bor (List ℕ))). (let ns : List (List ℕ) = map text ks in ns)) c.in_ok-number.ensures.keys
    ∙ (pushed-map text _ _ c.self.inside.names.keys c.args.name (sym (any-map (bytes_eq c.args.name.now) text c.self.inside.names.keys))
    ∙ ap (λ (ns : List (List ℕ)). with_name ns c.args.name.now) c.self.view_is)
