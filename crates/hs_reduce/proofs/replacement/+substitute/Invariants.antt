-- the arguments so far are replaced, behind those of what stands for the head
use Rattle.std.proofs.Common.{◌≡◌, ◌++◌, ◌<◌, length, map, take}
use Rattle.std.specs.Prelude.{All}
use Rattle.hs_scheme.specs.acceptance.Replacement.{subst}
use Rattle.hs_reduce.specs.Graph.{terms_at, GrowsTrees}
use Rattle.hs_reduce.proofs.replacement.+substitute.Given as goal

abbrev pub invariant-loop-arg : goal.invariant-loop-arg
invariant-loop-arg l = record {
  grows : GrowsTrees l.initial.graph l.graph;
  within : All (λ i. i < length l.graph) l.args.items;
  terms : terms_at l.graph l.args.items ≡ terms_at l.initial.graph l.initial.args.items ++ map (λ t. subst t (terms_at l.initial.graph l.with)) (take l.arg-index l.arg-items);
}
