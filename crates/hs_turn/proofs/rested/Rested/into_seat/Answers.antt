use Rattle.std.proofs.Common.{◌∙◌}
use Rattle.hs_turn.proofs.SeatLemmas.{one_rests}
use Rattle.hs_turn.proofs.rested.Rested.into_seat.Goals as goal

pub into_seat-requires : goal.into_seat-requires
into_seat-requires g c = one_rests c.self.inside.badge.table_id c.self.inside.badge.views c.requires.0 (c.self.view_is ∙ c.requires.1)
