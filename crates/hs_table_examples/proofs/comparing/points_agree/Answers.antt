use Rattle.std.proofs.Common.{sym, subst, ◌∙◌, List, All}
use Rattle.hs_table.specs.Entries.{EntryData, InShape}
use Rattle.hs_table_examples.proofs.comparing.points_agree.Goals as goal

pub points_agree_on-agree-requires-clause-log : goal.points_agree_on-agree-requires-clause-log
points_agree_on-agree-requires-clause-log c =
    subst (λ (xs : List EntryData). All (InShape c.args.problem.now) xs) (sym (c.as_slice.ensures.value ∙ c.in_ok-log.ensures)) c.requires
