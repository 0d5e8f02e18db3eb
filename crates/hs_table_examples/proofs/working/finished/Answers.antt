use Rattle.hs_table_examples.proofs.working.finished.Goals as goal

pub finish-requires : goal.finish-requires
finish-requires c = record {
  work = c.in-Some.flight.work;
  holds = c.in-Some.ensures;
  closed = c.in_ok-is_done.ensures c.if-not-branch.false;
}
