-- the rest so far stands behind the term's own arguments
use Rattle.std.proofs.Common.{◌≡◌, ◌++◌, take}
use Rattle.hs_scheme.proofs.plain.applied.Given as goal

abbrev pub invariant-loop-arg : goal.invariant-loop-arg
invariant-loop-arg l = l.args.items ≡ l.initial.args.items ++ take l.arg-index l.rest
