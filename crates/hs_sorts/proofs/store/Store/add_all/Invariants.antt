-- the nodes so far are added
use Rattle.std.proofs.Common.{◌≡◌, ◌++◌, ◌≤◌, ◌^◌, length, replicate}
use Rattle.hs_sorts.specs.declared.store.Node.TheVariants.{Root}
use Rattle.hs_sorts.proofs.store.Store.add_all.Given as goal

abbrev pub invariant-loop-added : goal.invariant-loop-added
invariant-loop-added l = record {
  nodes : l.self ≡ l.initial.self ++ replicate l._added (Root l.shape);
  few : length l.self ≤ 2 ^ 32;
}
