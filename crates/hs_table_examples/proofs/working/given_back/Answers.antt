use Rattle.hs_table_examples.proofs.working.given_back.Goals as goal

pub give_back-requires : goal.give_back-requires
give_back-requires c = (c.in-Some.flight.work, c.in-Some.ensures)
