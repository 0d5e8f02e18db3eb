-- Calls after which a core has gained nothing but numbers of types.
use Rattle.std.proofs.Common.{◌≡◌, ◌∙◌, ap}
use Rattle.hs_core.specs.Core.{CoreData}

abbrev pub Kept : CoreData → CoreData → Type 0
Kept a b = b ≡ record { base = a.base; ids = b.ids; story = a.story; spare = a.spare }

pub kept_then : (a b c : CoreData) → Kept a b → Kept b c → Kept a c
kept_then a b c f g = g ∙ ap (λ (x : CoreData). record { base = x.base; ids = c.ids; story = x.story; spare = x.spare }) f
