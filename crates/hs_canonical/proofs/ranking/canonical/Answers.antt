use Rattle.hs_canonical.proofs.ranking.canonical.Goals as goal

pub returns-in-Ok-clause-base : goal.returns-in-Ok-clause-base
returns-in-Ok-clause-base c = c.in-Ok.ensures.base

pub returns-in-Ok-clause-canonical : goal.returns-in-Ok-clause-canonical
returns-in-Ok-clause-canonical c = c.in-Ok.ensures.canonical
