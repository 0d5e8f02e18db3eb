-- the types by the children so far
use Rattle.std.proofs.Common.{length}
use Rattle.hs_types.specs.Interned.{env_of_id}
use Rattle.hs_replica.specs.Replica.{KeepsLog}
use Rattle.hs_rules.specs.Heads.{GainsHeads, AtRange, ChildAt}
use Rattle.hs_rules.proofs.terminals.push_children.Given as goal

abbrev pub invariant-loop-place : goal.invariant-loop-place
invariant-loop-place l = record {
  kept : KeepsLog l.fn.replica l.replica;
  gains : GainsHeads l.replica.ids (length l.terminal.at.now.search.args.now) (AtRange (ChildAt (env_of_id l.fn.replica.ids l.terminal.own) l.q l.to) l.from l.place) l.fn.out.items l.out.items;
}
