-- what is left to read decides
use Rattle.std.proofs.Common.{◌≡◌, drop}
use Rattle.hs_scheme.specs.Tree.{forest}
use Rattle.hs_scheme.specs.acceptance.Run.{runs}
use Rattle.hs_scheme.proofs.plain.+run.Given as goal

abbrev pub invariant-loop-place : goal.invariant-loop-place
invariant-loop-place l =
    runs l.automaton.transitions (forest (drop l.place l.child-items)) (drop l.place l.to) ≡ runs l.automaton.transitions (forest l.child-items) l.to
