use Rattle.std.proofs.Common.{IsTrue, ◌↔◌}
use Rattle.std.proofs.lemmas.Result.{IfOk-weaker}
use Rattle.hs_strength.specs.Remembered.{IsCovered}
use Rattle.hs_choices.proofs.Choosing.{part_within}
use Rattle.hs_certificate_checker.proofs.CoverLemmas.{covered_at}
use Rattle.hs_certificate_checker.proofs.covered.is_covered.Goals as goal

pub is_covered-requires-clause-by : goal.is_covered-requires-clause-by
is_covered-requires-clause-by c = part_within c.args.types.now c.args.table.now c.args.row.now.point c.rows_at.result.now c.requires.table c.rows_at.ensures

pub returns-clause-ok : goal.returns-clause-ok
returns-clause-ok c =
    let I = c.args.types.now in
    let row = c.args.row.now in
    let table = c.args.table.now in
    let rows = c.rows_at.result.now in
    IfOk-weaker c.is_covered.result (λ covered. IsTrue covered ↔ IsCovered I row rows) (λ covered. IsTrue covered ↔ IsCovered I row table) (λ b tells. covered_at I table rows row c.rows_at.ensures b tells) c.is_covered.ensures.ok
