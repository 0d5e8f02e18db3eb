-- the states so far stand behind those that were met before, and have their numbers
use Rattle.std.proofs.Common.{◌≡◌, take}
use Rattle.hs_resolve.specs.Names.{texts, with_names}
use Rattle.hs_resolve.specs.Moves.{AreNumbers}
use Rattle.hs_resolve.proofs.numbering.numbers_of.Given as goal

abbrev pub invariant-loop-name : goal.invariant-loop-name
invariant-loop-name l = record {
  states : l.states ≡ with_names l.initial.states (texts (take l.name-index l.to));
  numbers : AreNumbers l.states (take l.name-index l.to) l.numbers.items;
}
