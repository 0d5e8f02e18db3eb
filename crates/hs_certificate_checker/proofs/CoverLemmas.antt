-- A row is covered by those of a table where it is by those at its point.
use Rattle.std.proofs.Common.{Bool, List, IsTrue, ◌↔◌}
use Rattle.hs_types.specs.Interned.{InternerData, RowData}
use Rattle.hs_strength.specs.Remembered.{IsCovered}
use Rattle.hs_choices.specs.Numbered.{AreAtPoint}

pub covered_at : (I : InternerData) (table rows : List RowData) (row : RowData) → AreAtPoint table row.point rows → (b : Bool) → IsTrue b ↔ IsCovered I row rows → IsTrue b ↔ IsCovered I row table
covered_at I table rows row at b tells = (
  λ yes. let f = tells.0 yes in (f.0, (((at f.0).0 f.1.0).0, f.1.1)),
  λ f. tells.1 (f.0, ((at f.0).1 (f.1.0, f.1.1.point), f.1.1)),
)
