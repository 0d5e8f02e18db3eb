-- the sets so far stand behind the bracket
use Rattle.std.proofs.Common.{take, codes}
use Rattle.std.specs.List.{join_by, enumerate_from}
use Rattle.hs_text.specs.Report.{binding_text}
use Rattle.hs_text.specs.Pieces.{Puts}
use Rattle.hs_text.proofs.table.push_env.Given as goal

abbrev pub invariant-loop-number : goal.invariant-loop-number
invariant-loop-number l = Puts l.initial.text l.text (join_by (binding_text l.states l.params) (codes "; ") (enumerate_from 0 (take l.number l.env)))
