-- none of those so far has the row
use Rattle.std.proofs.Common.{map, take, Contains}
use Rattle.hs_rules.specs.Conclusions.{DeducedData}
use Rattle.hs_rules.proofs.found.position.Given as goal

abbrev pub invariant-loop-place : goal.invariant-loop-place
invariant-loop-place l = Contains (map (λ (d : DeducedData). d.row) (take l.place l.list)) l.row → ⊥
