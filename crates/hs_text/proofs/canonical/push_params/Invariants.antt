-- the parameters so far stand behind what was there
use Rattle.std.proofs.Common.{take}
use Rattle.hs_text.specs.Canonical.{params_text}
use Rattle.hs_text.specs.Pieces.{Puts}
use Rattle.hs_text.proofs.canonical.push_params.Given as goal

abbrev pub invariant-loop-param : goal.invariant-loop-param
invariant-loop-param l = Puts l.initial.text l.text (params_text (take l.param-index l.params))
