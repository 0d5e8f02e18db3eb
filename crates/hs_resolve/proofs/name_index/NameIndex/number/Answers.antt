use Rattle.std.proofs.Common.{sym, ◌∙◌, ap, List, ℕ, Bor}
use Rattle.std.specs.Str.{bytes_eq}
use Rattle.hs_scheme.proofs.Lists.{position-map}
use Rattle.hs_resolve.specs.Names.{number_of}
use Rattle.hs_resolve.proofs.name_index.NameIndex.number.Goals as goal

pub returns-clause-number : goal.returns-clause-number
returns-clause-number c =
    c.get_index_of.ensures.index
    ∙ (sym (position-map (bytes_eq c.args.name.now) (λ (n : Bor (List ℕ)). n.now) c.self.inside.names.keys)
    ∙ ap (λ (ns : List (List ℕ)). number_of ns c.args.name.now) c.self.view_is)
