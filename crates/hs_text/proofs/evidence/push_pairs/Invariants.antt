-- the pairs so far stand behind what was there
use Rattle.std.proofs.Common.{take}
use Rattle.std.specs.List.{flat_map}
use Rattle.hs_text.specs.Report.{void_line}
use Rattle.hs_text.specs.Pieces.{Puts}
use Rattle.hs_text.proofs.evidence.push_pairs.Given as goal

abbrev pub invariant-loop-pair : goal.invariant-loop-pair
invariant-loop-pair l = Puts l.initial.text l.text (flat_map (λ v. void_line l.problem v.now) (take l.pair-index l.pairs))
