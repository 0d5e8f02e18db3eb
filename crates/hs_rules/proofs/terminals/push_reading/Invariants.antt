-- the types in the states so far
use Rattle.std.proofs.Common.{take, length}
use Rattle.hs_types.specs.Interned.{env_of_id}
use Rattle.hs_replica.specs.Replica.{KeepsLog}
use Rattle.hs_rules.specs.Heads.{GainsHeads, AtSome, ReadIn}
use Rattle.hs_rules.proofs.terminals.push_reading.Given as goal

abbrev pub invariant-loop-q : goal.invariant-loop-q
invariant-loop-q l = record {
  kept : KeepsLog l.fn.replica l.replica;
  gains : GainsHeads l.replica.ids (length l.terminal.at.now.search.args.now) (AtSome (ReadIn l.terminal.automaton.now.states l.terminal.automaton.now.transitions l.terminal.number (env_of_id l.fn.replica.ids l.terminal.own) l.place) (take l.q-index l.states)) l.fn.out.items l.out.items;
}
