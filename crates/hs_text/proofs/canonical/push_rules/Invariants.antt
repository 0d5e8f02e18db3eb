-- the rules so far stand behind what was there
use Rattle.std.proofs.Common.{take}
use Rattle.hs_text.specs.Canonical.{rules_text}
use Rattle.hs_text.specs.Pieces.{Puts}
use Rattle.hs_text.proofs.canonical.push_rules.Given as goal

abbrev pub invariant-loop-number : goal.invariant-loop-number
invariant-loop-number l = Puts l.initial.text l.text (rules_text l.names (take l.number l.rules))
