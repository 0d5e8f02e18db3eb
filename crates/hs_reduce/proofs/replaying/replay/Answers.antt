use Rattle.hs_reduce.proofs.replaying.replay.Goals as goal

pub follow-requires-clause-empty : goal.follow-requires-clause-empty
follow-requires-clause-empty c = c.new-trail.ensures 0
