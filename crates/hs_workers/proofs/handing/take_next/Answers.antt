use Rattle.std.proofs.Common.{refl, sym, ◌∙◌, subst}
use Rattle.std.proofs.lemmas.Bool.{eqb-true}
use Rattle.std.proofs.lemmas.List.{nil_from_length}
use mathlib.Core.List.{IsPrefix}
use Rattle.hs_core.specs.Core.{state_of, log_of}
use Rattle.hs_workers.proofs.JobLemmas.{all_none}
use Rattle.hs_workers.proofs.HoldLemmas.{goes_none, begins_none, ended}
use Rattle.hs_workers.proofs.NothingLemmas.{carries_none, unformed_none, fits_none}
use Rattle.hs_workers.proofs.handing.take_next.Goals as goal

pub returns-then-is_resting-clause-goes : goal.returns-then-is_resting-clause-goes
returns-then-is_resting-clause-goes c = goes_none c.args.seat.now c.args.hold.now c.requires.holds

pub returns-then-is_resting-clause-fits : goal.returns-then-is_resting-clause-fits
returns-then-is_resting-clause-fits c = fits_none c.args.stock.now.replica c.args.stock.now.replica c.args.rows.now.items refl c.requires.none c.len-known.ensures.replica

pub returns-then-is_resting-clause-begins : goal.returns-then-is_resting-clause-begins
returns-then-is_resting-clause-begins c =
    begins_none c.args.stock.now.replica c.args.rows.now.items c.args.stock.now.replica.log (log_of c.args.hold.now.core) refl c.requires.none c.requires.begins

pub returns-then-is_resting-clause-carries : goal.returns-then-is_resting-clause-carries
returns-then-is_resting-clause-carries c = carries_none c.args.seat.now.known.number (state_of c.args.hold.now.core).flight c.args.stock.now.jobs.items c.requires.free

pub returns-then-is_resting-clause-unformed : goal.returns-then-is_resting-clause-unformed
returns-then-is_resting-clause-unformed c = unformed_none c.args.stock.now.jobs.items c.requires.free

pub returns-then-is_resting-clause-works : goal.returns-then-is_resting-clause-works
returns-then-is_resting-clause-works c = tt

pub returns-then-not-is_lone-clause-goes : goal.returns-then-not-is_lone-clause-goes
returns-then-not-is_lone-clause-goes c = c.take_and_read.ensures.goes

pub returns-then-not-is_lone-clause-fits : goal.returns-then-not-is_lone-clause-fits
returns-then-not-is_lone-clause-fits c = c.take_and_read.ensures.fits

pub returns-then-not-is_lone-clause-begins : goal.returns-then-not-is_lone-clause-begins
returns-then-not-is_lone-clause-begins c = c.take_and_read.ensures.begins

pub returns-then-not-is_lone-clause-carries : goal.returns-then-not-is_lone-clause-carries
returns-then-not-is_lone-clause-carries c = c.take_and_read.ensures.carries

pub returns-then-not-is_lone-clause-unformed : goal.returns-then-not-is_lone-clause-unformed
returns-then-not-is_lone-clause-unformed c = c.take_and_read.ensures.unformed

pub returns-then-not-is_lone-clause-works : goal.returns-then-not-is_lone-clause-works
returns-then-not-is_lone-clause-works c = c.take_and_read.ensures.works

pub take_some-next-requires-clause-carries : goal.take_some-next-requires-clause-carries
take_some-next-requires-clause-carries c = carries_none c.args.seat.now.known.number (state_of c.args.hold.now.core).flight c.args.stock.now.jobs.items c.requires.free

pub take_some-next-requires-clause-unformed : goal.take_some-next-requires-clause-unformed
take_some-next-requires-clause-unformed c = unformed_none c.args.stock.now.jobs.items c.requires.free

pub returns-then-is_empty-clause-goes : goal.returns-then-is_empty-clause-goes
returns-then-is_empty-clause-goes c = c.take_some-next.ensures.goes

pub returns-then-is_empty-clause-fits : goal.returns-then-is_empty-clause-fits
returns-then-is_empty-clause-fits c = fits_none c.args.stock.now.replica c.args.stock.now.replica c.args.rows.now.items refl c.requires.none c.len-known.ensures.replica

pub returns-then-is_empty-clause-begins : goal.returns-then-is_empty-clause-begins
returns-then-is_empty-clause-begins c =
    let log = c.args.stock.now.replica.log in
    begins_none c.args.stock.now.replica c.args.rows.now.items log (log_of c.take_some-next.new.hold.core) refl c.requires.none (subst (λ xs. IsPrefix log xs) (sym c.take_some-next.ensures.log) c.requires.begins)

pub returns-then-is_empty-clause-carries : goal.returns-then-is_empty-clause-carries
returns-then-is_empty-clause-carries c = c.take_some-next.ensures.carries

pub returns-then-is_empty-clause-unformed : goal.returns-then-is_empty-clause-unformed
returns-then-is_empty-clause-unformed c = c.take_some-next.ensures.unformed

pub returns-else-is_empty-clause-goes : goal.returns-else-is_empty-clause-goes
returns-else-is_empty-clause-goes c = c.take_some-next.ensures.goes

pub returns-else-is_empty-clause-fits : goal.returns-else-is_empty-clause-fits
returns-else-is_empty-clause-fits c = fits_none c.args.stock.now.replica c.args.stock.now.replica c.args.rows.now.items refl c.requires.none c.len-known.ensures.replica

pub returns-else-is_empty-clause-begins : goal.returns-else-is_empty-clause-begins
returns-else-is_empty-clause-begins c =
    let log = c.args.stock.now.replica.log in
    begins_none c.args.stock.now.replica c.args.rows.now.items log (log_of c.take_some-next.new.hold.core) refl c.requires.none (subst (λ xs. IsPrefix log xs) (sym c.take_some-next.ensures.log) c.requires.begins)

pub returns-else-is_empty-clause-carries : goal.returns-else-is_empty-clause-carries
returns-else-is_empty-clause-carries c = c.take_some-next.ensures.carries

pub returns-else-is_empty-clause-unformed : goal.returns-else-is_empty-clause-unformed
returns-else-is_empty-clause-unformed c = c.take_some-next.ensures.unformed

pub returns-else-is_empty-clause-works : goal.returns-else-is_empty-clause-works
returns-else-is_empty-clause-works c = tt

pub returns-then-is_resting-clause-all : goal.returns-then-is_resting-clause-all
returns-then-is_resting-clause-all c = all_none c.args.seat.now.known.number (state_of c.args.hold.now.core).flight c.args.stock.now.jobs.items c.requires.free c.requires.all

pub returns-then-is_resting-clause-ends : goal.returns-then-is_resting-clause-ends
returns-then-is_resting-clause-ends c = tt

pub returns-then-not-is_lone-clause-all : goal.returns-then-not-is_lone-clause-all
returns-then-not-is_lone-clause-all c = c.take_and_read.ensures.all

pub returns-then-not-is_lone-clause-ends : goal.returns-then-not-is_lone-clause-ends
returns-then-not-is_lone-clause-ends c = c.take_and_read.ensures.ends

pub take_some-next-requires-clause-all : goal.take_some-next-requires-clause-all
take_some-next-requires-clause-all c = all_none c.args.seat.now.known.number (state_of c.args.hold.now.core).flight c.args.stock.now.jobs.items c.requires.free c.requires.all

pub returns-then-is_empty-clause-all : goal.returns-then-is_empty-clause-all
returns-then-is_empty-clause-all c = c.take_some-next.ensures.all

pub returns-else-is_empty-clause-all : goal.returns-else-is_empty-clause-all
returns-else-is_empty-clause-all c = c.take_some-next.ensures.all

pub returns-else-is_empty-clause-ends : goal.returns-else-is_empty-clause-ends
returns-else-is_empty-clause-ends c = tt

pub returns-then-is_empty-clause-ends : goal.returns-then-is_empty-clause-ends
returns-then-is_empty-clause-ends c = ended c.take_some-next.result (nil_from_length c.take_some-next.new.jobs.items (sym c.take_some-next.new.jobs.ok.0 ∙ eqb-true _ _ (sym c.if-is_empty.ensures)))
