-- Some item of a list is so related; only private contracts cite it.
use Rattle.std.specs.Prelude.{List, Contains}

pub record AnyOf {X Y : Type 0} (P : X → Y → Type 0) (xs : List X) (y : Y) : Type 0 where
  pub item : X
  pub there : Contains xs item
  pub holds : P item y
