use Rattle.hs_passes.specs.Needing.{GainsFlags}
use Rattle.hs_passes.proofs.Marks.{Missing}
use Rattle.hs_passes.proofs.needing.mark_missing.Given as goal

-- those so far are marked
abbrev pub invariant-loop-param : goal.invariant-loop-param
invariant-loop-param l = GainsFlags l.parameters l.initial.needed l.needed (Missing l.parameters l.rule l.given l.param)
