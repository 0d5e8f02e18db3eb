-- Types in shape side by side; only private contracts cite it.
use Rattle.std.specs.Prelude.{ℕ, List, Contains}
use Rattle.hs_table.specs.Types.{TypeTree, IsType}

abbrev pub AreAllTypes : ℕ → List TypeTree → Type 0
AreAllTypes n ts = (a : TypeTree) → Contains ts a → IsType n a
