-- Evidences: why an entry of a log stands for a rejected term.
--     Evidence            a place of the log with, for each parameter of the point's rule there, a pack
--     Pack                for each type of a set, in its order, an evidence of that type
--     Packs               packs, one behind the other; as a stack the first of them is on top
--     own_evidence        the evidence of a type at a parameter, in the packs of an environment
--     packs_for           packs for an environment, of evidences that are given by parameter and type
-- A look-up that finds nothing leads to `no_evidence`; in a log with its supports none does.
use Rattle.std.specs.Prelude.{ℕ, zero, suc, List, [], ◌∷◌, if◌then◌else◌}
use Rattle.std.specs.Ordering.{is_eq}
use Rattle.hs_table.specs.Types.{TypeTree, type_cmp}
use Rattle.hs_table.specs.Entries.{Env, set_at}

mutual
  pub data Evidence : Type 0 where
    evidence : ℕ → Packs → Evidence

  pub data Packs : Type 0 where
    no_packs : Packs
    put : Pack → Packs → Packs

  pub data Pack : Type 0 where
    empty : Pack
    also : Evidence → Pack → Pack

abbrev pub no_evidence : Evidence
no_evidence = evidence 0 no_packs

abbrev pub stacked : Packs → Packs → Packs
stacked no_packs qs = qs
stacked (put p ps) qs = put p (stacked ps qs)

abbrev pub first : Pack → Evidence
first empty = no_evidence
first (also e p) = e

abbrev pub pack_at : Packs → ℕ → Pack
pack_at no_packs n = empty
pack_at (put p ps) zero = p
pack_at (put p ps) (suc n) = pack_at ps n

-- the pack of a child, counted from 1
abbrev pub child_pack : Packs → ℕ → Pack
child_pack ps zero = empty
child_pack ps (suc n) = pack_at ps n

-- the evidence of a type, in the pack of a set
abbrev pub pick : List TypeTree → Pack → TypeTree → Evidence
pick [] p a = no_evidence
pick (b ∷ s) empty a = no_evidence
pick (b ∷ s) (also e p) a = if is_eq (type_cmp a b) then e else pick s p a

abbrev pub own_evidence : Env → Packs → ℕ → TypeTree → Evidence
own_evidence env own j a = pick (set_at env j) (pack_at own j) a

abbrev pub pack_for : (TypeTree → Evidence) → List TypeTree → Pack
pack_for give [] = empty
pack_for give (a ∷ s) = also (give a) (pack_for give s)

-- the first set is that of parameter j
abbrev pub packs_for : (ℕ → TypeTree → Evidence) → ℕ → Env → Packs
packs_for give j [] = no_packs
packs_for give j (s ∷ ss) = put (pack_for (give j) s) (packs_for give (suc j) ss)
