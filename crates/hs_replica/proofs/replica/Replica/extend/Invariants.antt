-- so many of the rows are added
use Rattle.std.proofs.Common.{◌≡◌, ◌-◌, take}
use Rattle.hs_replica.specs.Extending.{extended}
use Rattle.hs_replica.proofs.replica.Replica.extend.Given as goal

abbrev pub invariant-loop-row : goal.invariant-loop-row
invariant-loop-row l = l.self ≡ record l.fn.self { log = extended l.fn.self (take l.row-index l.rows); spare = l.fn.self.spare - l.row-index }
