-- What stands for each nonterminal where the aliases are folded in the order of the rules.
--     stood rep f target     where f, which has this target, is folded, too
--     scanned rules k        after the rules behind the start up to the k-th
use Rattle.std.specs.Prelude.{ℕ, zero, suc, nat_eq, List, slice_get, Option, Some, None, if◌then◌else◌}
use Rattle.hs_scheme.specs.declared.term.Rule.{Rule}
use Rattle.hs_passes.specs.Aliases.{alias_target}

abbrev pub stood : (ℕ → ℕ) → ℕ → Option ℕ → ℕ → ℕ
stood rep f None h = rep h
stood rep f (Some g) h = if nat_eq (rep g) f then rep h else (if nat_eq (rep h) f then rep g else rep h)

abbrev pub target_of : ℕ → Option Rule → Option ℕ
target_of f None = None
target_of f (Some r) = alias_target f r

abbrev pub scanned : List Rule → ℕ → ℕ → ℕ
scanned rules zero h = h
scanned rules (suc f) h = stood (scanned rules f) (suc f) (target_of (suc f) (slice_get rules (suc f))) h
