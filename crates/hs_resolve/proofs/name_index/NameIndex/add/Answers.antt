use Rattle.std.proofs.Common.{not, map, sym, ap, ◌∙◌, List, ℕ, Bor}
use Rattle.std.specs.Str.{bytes_eq}
use Rattle.hs_scheme.proofs.Lists.{any-map}
use Rattle.hs_resolve.specs.Names.{is_among, with_name}
use Rattle.hs_resolve.proofs.Lists.{pushed-map}
use Rattle.hs_resolve.proofs.name_index.NameIndex.add.Goals as goal

pub returns-clause-new : goal.returns-clause-new
returns-clause-new c =
    c.in_ok-fresh.ensures.added
    ∙ ap not (sym (any-map (bytes_eq c.args.name.now) (λ (n : Bor (List ℕ)). n.now) c.self.inside.names.keys)
    ∙ ap (λ (ns : List (List ℕ)). is_among ns c.args.name.now) c.self.view_is)

pub returns-clause-added : goal.returns-clause-added
returns-clause-added c =
    let text = λ (n : Bor (List ℕ)). n.now in
    ap (λ (ks : List (Bor (List ℕ))). (let ns : List (List ℕ) = map text ks in ns)) c.in_ok-fresh.ensures.keys
    ∙ (pushed-map text _ _ c.self.inside.names.keys c.args.name (sym (any-map (bytes_eq c.args.name.now) text c.self.inside.names.keys))
    ∙ ap (λ (ns : List (List ℕ)). with_name ns c.args.name.now) c.self.view_is)
