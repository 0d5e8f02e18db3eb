-- the term's own nonterminal and those of the arguments so far were added
use Rattle.std.proofs.Common.{◌≡◌, ◌++◌, take}
use Rattle.std.specs.Prelude.{flat_map}
use Rattle.hs_passes.specs.Occurrences.{nonterminals}
use Rattle.hs_passes.proofs.reachable.+collect.Given as goal

abbrev pub invariant-loop-arg : goal.invariant-loop-arg
invariant-loop-arg l = l.names.items ≡ l.initial.names.items ++ flat_map nonterminals (take l.arg-index l.arg-items)
