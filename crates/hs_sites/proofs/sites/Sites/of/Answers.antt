use Rattle.std.proofs.lemmas.List.Sorted.{Contains-permutation, IsPermutation-sym}
use Rattle.hs_sites.proofs.sites.Sites.of.Goals as goal

pub returns : goal.returns
returns c = λ s.
    let old = c.in_ok-sites.sites.items in
    let new = c.sort_unstable.new.self.items in
    let moved = c.sort_unstable.ensures.permutation in
    let are = c.in_ok-sites.ensures s in
    (λ m. are.0 (Contains-permutation new old s (IsPermutation-sym old new moved) m), λ own. Contains-permutation old new s moved (are.1 own))
