use Rattle.std.proofs.Common.{◌≡◌, refl, sym, ◌∙◌, ap, subst, [], ◌∷◌, ◌++◌, None, All}
use Rattle.std.proofs.lemmas.List.Elements.{All-push}
use Rattle.hs_core.specs.declared.answers.Taken.{Taken}
use Rattle.hs_core.specs.Core.{state_of}
use Rattle.hs_core.specs.Answers.{Takes}
use Rattle.hs_shared.specs.Seats.{SeatData}
use Rattle.hs_workers.specs.declared.job.Job.{Job}
use Rattle.hs_workers.specs.Jobs.{keys, Carries, CarriesAll, IsUnformed}
use Rattle.hs_workers.proofs.JobLemmas.{carries_push, all_push, keys_append}
use Rattle.hs_workers.proofs.HoldLemmas.{goes_by, taken_log, taken_flight}
use Rattle.hs_workers.proofs.handing.take_one.Goals as goal

pub returns-in-Item-clause-goes : goal.returns-in-Item-clause-goes
returns-in-Item-clause-goes c =
    goes_by c.args.seat.now c.take.new.seat c.args.hold.now c.take.new.self c.requires.holds c.take.ensures.turn c.take.ensures.told c.take.ensures.holds

pub returns-in-Item-clause-log : goal.returns-in-Item-clause-log
returns-in-Item-clause-log c =
    let h = c.in_ok-taken.ensures.ok in taken_log c.args.hold.now.core c.take.new.self.core h.0 c.args.seat.now.known.number c.in_ok-taken.taken h.1

pub returns-in-Item-clause-carries : goal.returns-in-Item-clause-carries
returns-in-Item-clause-carries c =
    let h = c.in_ok-taken.ensures.ok in
    let n = c.args.seat.now.known.number in
    let core = c.args.hold.now.core in
    let new = c.take.new.self.core in
    let work = c.in-Item.work in
    let ticket = c.in-Item.ticket in
    let old = c.args.jobs.now.items in
    let job : Job = record { work = work; ticket = ticket; found = None } in
    let takes = subst (λ (a : Taken). Takes (record core { spare = h.0 }) n a new) c.in-Item.is h.1 in
    let items : c.push_reserved.new.self.items ≡ old ++ job ∷ [] = c.push_reserved.ensures.items ∙ ap (λ xs. xs ++ job ∷ []) c.reserve.ensures.items in
    let pushed : Carries n (state_of new).flight (keys old ++ (ticket, work) ∷ []) =
    carries_push n (state_of core).flight (state_of new).flight (keys old) ticket work takes.0.free (taken_flight core new h.0 n work ticket takes) c.requires.carries in
    let all = subst (λ ks. Carries n (state_of new).flight ks) (sym (ap (λ xs. keys xs) items ∙ keys_append old (job ∷ []))) pushed in
    let number : c.take.new.seat.known.number ≡ n = ap (λ (s : SeatData). s.known.number) c.take.ensures.told.2 in
    subst (λ m. Carries m (state_of new).flight (keys c.push_reserved.new.self.items)) (sym number) all

pub returns-in-Item-clause-unformed : goal.returns-in-Item-clause-unformed
returns-in-Item-clause-unformed c =
    let old = c.args.jobs.now.items in
    let job : Job = record { work = c.in-Item.work; ticket = c.in-Item.ticket; found = None } in
    let items : c.push_reserved.new.self.items ≡ old ++ job ∷ [] = c.push_reserved.ensures.items ∙ ap (λ xs. xs ++ job ∷ []) c.reserve.ensures.items in
    subst (λ xs. All IsUnformed xs) (sym items) (All-push IsUnformed old job c.requires.unformed refl)

pub returns-in-Item-clause-all : goal.returns-in-Item-clause-all
returns-in-Item-clause-all c =
    let h = c.in_ok-taken.ensures.ok in
    let n = c.args.seat.now.known.number in
    let core = c.args.hold.now.core in
    let new = c.take.new.self.core in
    let work = c.in-Item.work in
    let ticket = c.in-Item.ticket in
    let old = c.args.jobs.now.items in
    let job : Job = record { work = work; ticket = ticket; found = None } in
    let takes = subst (λ (a : Taken). Takes (record core { spare = h.0 }) n a new) c.in-Item.is h.1 in
    let items : c.push_reserved.new.self.items ≡ old ++ job ∷ [] = c.push_reserved.ensures.items ∙ ap (λ xs. xs ++ job ∷ []) c.reserve.ensures.items in
    let pushed : CarriesAll n (state_of new).flight (keys old ++ (ticket, work) ∷ []) =
    all_push n (state_of core).flight (state_of new).flight (keys old) ticket work (taken_flight core new h.0 n work ticket takes) c.requires.all in
    let all = subst (λ ks. CarriesAll n (state_of new).flight ks) (sym (ap (λ xs. keys xs) items ∙ keys_append old (job ∷ []))) pushed in
    let number : c.take.new.seat.known.number ≡ n = ap (λ (s : SeatData). s.known.number) c.take.ensures.told.2 in
    subst (λ m. CarriesAll m (state_of new).flight (keys c.push_reserved.new.self.items)) (sym number) all
