-- those so far ask for the same
use Rattle.std.proofs.Common.{take, Contains}
use Rattle.hs_rules.specs.Found.{HeadData, IsAlike}
use Rattle.hs_rules.proofs.grouping.count_alike.Given as goal

abbrev pub invariant-loop-place : goal.invariant-loop-place
invariant-loop-place l = (h : HeadData) → Contains (take l.place l.others) h → IsAlike l.head h
