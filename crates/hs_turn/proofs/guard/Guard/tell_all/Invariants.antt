use Rattle.std.proofs.Common.{length, drop}
use Rattle.hs_turn.proofs.guard.Guard.tell_all.Given as goal

abbrev pub ghosts-count : goal.ghosts-count
ghosts-count g a = record { events = drop (length a.seat.now.known.seen) (g.T.Storied.story a.state.now) }
