-- What is under tickets.
use Rattle.std.specs.Prelude.{ℕ, List, Option, None, is_some, count_by, slice_index_or}
use Rattle.hs_history.specs.declared.step.Flight.{Flight}

-- what is under each ticket from 0 on, and for how many works there is room
pub record TicketsData : Type 0 where
  pub slots : List (Option Flight)
  pub capacity : ℕ

abbrev pub under : TicketsData → ℕ → Option Flight
under t ticket = slice_index_or t.slots ticket None

-- how many works there are
abbrev pub held : TicketsData → ℕ
held t = count_by is_some t.slots
