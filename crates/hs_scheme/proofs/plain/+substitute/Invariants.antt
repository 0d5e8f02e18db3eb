-- the arguments so far are replaced, behind those of what stands for the head
use Rattle.std.proofs.Common.{◌≡◌, ◌++◌, map, take}
use Rattle.hs_scheme.specs.acceptance.Replacement.{subst}
use Rattle.hs_scheme.proofs.plain.+substitute.Given as goal

abbrev pub invariant-loop-arg : goal.invariant-loop-arg
invariant-loop-arg l = record {
  head : l.made-inside.head ≡ l.initial.made-inside.head;
  args : l.made-inside.args.items ≡ l.initial.made-inside.args.items ++ map (λ t. subst t l.with) (take l.arg-index l.arg-items);
}
