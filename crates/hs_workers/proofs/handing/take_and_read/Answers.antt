use Rattle.std.proofs.Common.{◌≡◌, refl, sym, ◌∙◌, subst, []}
use Rattle.std.proofs.lemmas.Bool.{eqb-true}
use Rattle.std.proofs.lemmas.List.{append-nil, nil_from_length}
use Rattle.hs_shared.proofs.Seen.{prefix_trans}
use mathlib.Core.List.{IsPrefix}
use Rattle.hs_history.specs.declared.step.Work.{Work}
use Rattle.hs_history.specs.History.{IsWork}
use Rattle.hs_replica.specs.Extending.{extended}
use Rattle.hs_core.specs.Core.{state_of, log_of}
use Rattle.hs_core.proofs.Flying.{flying_work}
use Rattle.hs_workers.proofs.JobLemmas.{carried, all_none}
use Rattle.hs_workers.proofs.HoldLemmas.{goes_trans, begins_none, ended}
use Rattle.hs_workers.proofs.NothingLemmas.{carries_none, unformed_none, fits_none}
use Rattle.hs_workers.proofs.handing.take_and_read.Goals as goal

pub take_some-next-requires-clause-carries : goal.take_some-next-requires-clause-carries
take_some-next-requires-clause-carries c = carries_none c.args.seat.now.known.number (state_of c.args.hold.now.core).flight c.args.stock.now.jobs.items c.requires.free

pub take_some-next-requires-clause-unformed : goal.take_some-next-requires-clause-unformed
take_some-next-requires-clause-unformed c = unformed_none c.args.stock.now.jobs.items c.requires.free

pub returns-then-is_empty-clause-goes : goal.returns-then-is_empty-clause-goes
returns-then-is_empty-clause-goes c = c.take_some-next.ensures.goes

pub returns-then-is_empty-clause-fits : goal.returns-then-is_empty-clause-fits
returns-then-is_empty-clause-fits c = fits_none c.args.stock.now.replica c.args.stock.now.replica c.args.rows.now.items refl c.requires.none c.len-known.ensures.replica

pub returns-then-is_empty-clause-begins : goal.returns-then-is_empty-clause-begins
returns-then-is_empty-clause-begins c =
    let log = c.args.stock.now.replica.log in
    begins_none c.args.stock.now.replica c.args.rows.now.items log (log_of c.take_some-next.new.hold.core) refl c.requires.none (subst (λ xs. IsPrefix log xs) (sym c.take_some-next.ensures.log) c.requires.begins)

pub returns-then-is_empty-clause-carries : goal.returns-then-is_empty-clause-carries
returns-then-is_empty-clause-carries c = c.take_some-next.ensures.carries

pub returns-then-is_empty-clause-unformed : goal.returns-then-is_empty-clause-unformed
returns-then-is_empty-clause-unformed c = c.take_some-next.ensures.unformed

pub returns-in_default-clause-goes : goal.returns-in_default-clause-goes
returns-in_default-clause-goes c =
    goes_trans c.args.seat.now c.take_some-next.new.seat c.hand_in.new.seat c.args.hold.now c.take_some-next.new.hold c.hand_in.new.hold c.take_some-next.ensures.goes c.hand_in.ensures.goes

pub returns-in_default-clause-fits : goal.returns-in_default-clause-fits
returns-in_default-clause-fits c = fits_none c.args.stock.now.replica c.read_new.new.replica c.args.rows.now.items c.read_new.ensures.log c.requires.none c.len-known.ensures.replica

pub returns-in_default-clause-begins : goal.returns-in_default-clause-begins
returns-in_default-clause-begins c =
    let log = c.args.stock.now.replica.log in
    let taken = log_of c.take_some-next.new.hold.core in
    let whole = log_of c.hand_in.new.hold.core in
    begins_none c.read_new.new.replica c.args.rows.now.items log whole c.read_new.ensures.log c.requires.none
    (prefix_trans log taken whole (subst (λ xs. IsPrefix log xs) (sym c.take_some-next.ensures.log) c.requires.begins) c.hand_in.ensures.goes.log)

pub returns-in_default-clause-works : goal.returns-in_default-clause-works
returns-in_default-clause-works c = tt

pub returns-clause-goes : goal.returns-clause-goes
returns-clause-goes c = c.take_some-next.ensures.goes

pub returns-clause-fits : goal.returns-clause-fits
returns-clause-fits c = c.in-Ok.ensures.fits

pub returns-clause-begins : goal.returns-clause-begins
returns-clause-begins c = ([], append-nil _ ∙ c.in-Ok.ensures.whole)

pub returns-clause-carries : goal.returns-clause-carries
returns-clause-carries c = c.take_some-next.ensures.carries

pub returns-clause-unformed : goal.returns-clause-unformed
returns-clause-unformed c = c.take_some-next.ensures.unformed

pub returns-clause-works : goal.returns-clause-works
returns-clause-works c =
    let new = c.take_some-next.new.hold.core in
    let log = extended c.read_new.new.replica c.in-Ok.read.items in
    let is : log ≡ log_of new = c.in-Ok.ensures.whole in
    let n = c.take_some-next.new.seat.known.number in
    carried n (state_of new).flight c.take_some-next.new.jobs.items (λ (w : Work). IsWork new.base.problem log w)
    (λ t w e. subst (λ xs. IsWork new.base.problem xs w) (sym is) (flying_work new c.take_some-next.ensures.goes.holds.know_core t n w e))
    c.take_some-next.ensures.carries

pub take_some-next-requires-clause-all : goal.take_some-next-requires-clause-all
take_some-next-requires-clause-all c = all_none c.args.seat.now.known.number (state_of c.args.hold.now.core).flight c.args.stock.now.jobs.items c.requires.free c.requires.all

pub returns-then-is_empty-clause-all : goal.returns-then-is_empty-clause-all
returns-then-is_empty-clause-all c = c.take_some-next.ensures.all

pub returns-clause-all : goal.returns-clause-all
returns-clause-all c = c.take_some-next.ensures.all

pub returns-clause-ends : goal.returns-clause-ends
returns-clause-ends c = tt

pub returns-then-is_empty-clause-ends : goal.returns-then-is_empty-clause-ends
returns-then-is_empty-clause-ends c = ended c.take_some-next.result (nil_from_length c.take_some-next.new.jobs.items (sym c.take_some-next.new.jobs.ok.0 ∙ eqb-true _ _ (sym c.if-is_empty.ensures)))
