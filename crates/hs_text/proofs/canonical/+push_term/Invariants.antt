-- the arguments so far stand behind the head
use Rattle.std.proofs.Common.{take}
use Rattle.hs_scheme.specs.Tree.{forest}
use Rattle.hs_text.specs.Canonical.{args_text}
use Rattle.hs_text.specs.Pieces.{Puts}
use Rattle.hs_text.proofs.canonical.+push_term.Given as goal

abbrev pub invariant-loop-arg : goal.invariant-loop-arg
invariant-loop-arg l = Puts l.initial.text l.text (args_text l.names l.params (forest (take l.arg-index l.arg-items)))
