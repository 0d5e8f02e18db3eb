use Rattle.std.proofs.Common.{◌≡◌, ◌≤◌, ℕ, sym, ◌∙◌, ap, subst, arith, inl, inr, ◌⊎◌}
use Rattle.std.proofs.lemmas.Option.{MatchOption-at_none, MatchOption-at_some}
use Rattle.hs_flow.specs.Dependents.{HasDependents}
use Rattle.hs_rules.specs.Conclusions.{DeducedData}
use Rattle.hs_history.specs.Story.{Base, takes}
use Rattle.hs_core.specs.declared.answers.Taken.{Taken}
use Rattle.hs_core.specs.declared.answers.Taken.TheVariants.{Quiet, Idle, Over, Found}
use Rattle.hs_core.specs.declared.selecting.Progress.{Progress}
use Rattle.hs_core.specs.declared.selecting.Progress.TheVariants.{Done}
use Rattle.hs_core.specs.Core.{CoreData}
use Rattle.hs_core.specs.Answers.{Takes}
use Rattle.hs_core.specs.Draining.{work_left, GoesAlone}
use Rattle.hs_core.specs.Waiting.{Waits}
use Rattle.hs_core.specs.Selecting.{AreOwn, AreClosed, IsSelecting, IsIdleCore, IsEnded, IsStill, After}
use Rattle.hs_core.proofs.Moving.{alone_same, alone_step, alone_trans, moves_same, ready_still, taken_work, work_taken}
use Rattle.hs_core.proofs.Selected.{selecting_spare, surplus_after, idle_after, took_goes, took_own, took_holds, took_after, over_ended, found_ended, idle_is, quiet_is}
use Rattle.hs_core.proofs.selecting.select_turn.Goals as goal

-- room was made
module _ (me last k : ℕ) (a r : CoreData) (is : r ≡ record { base = a.base; ids = a.ids; story = a.story; spare = k }) where
  goes_reserved : GoesAlone me a r
  goes_reserved = alone_same a r (ap (λ (x : CoreData). x.base) is) (ap (λ (x : CoreData). x.story) is)

  not_heavier : work_left r ≤ work_left a
  not_heavier = (moves_same {me = me} a r (ap (λ (x : CoreData). x.base) is) (ap (λ (x : CoreData). x.story) is)).lighter

-- nothing was published behind that
record Behind (me last : ℕ) (a s : CoreData) (V : DeducedData → Type 0) : Type 0 where
  goes : GoesAlone me a s
  selecting : IsSelecting me s V last
  lighter : work_left s ≤ work_left a
  spare : 1 ≤ s.spare

behind : (me last k : ℕ) (a r s : CoreData) (V : DeducedData → Type 0) (o : Progress) → r ≡ record { base = a.base; ids = a.ids; story = a.story; spare = k } → 1 ≤ r.spare → o ≡ Done → After (IsStill me r s V last) o me r s V last → Behind me last a s V
behind me last k a r s V o is room done after =
    let still : IsStill me r s V last = subst (λ p. After (IsStill me r s V last) p me r s V last) done after in
    record {
      goes = subst (λ x. GoesAlone me a x) (sym still.same) (goes_reserved me last k a r is);
      selecting = still.selecting;
      lighter = subst (λ x. work_left x ≤ work_left a) (sym still.same) (not_heavier me last k a r is);
      spare = subst (λ (x : CoreData). 1 ≤ x.spare) (sym still.same) room;
    }

-- no work was given out
ended_turn : (me : ℕ) (s t : CoreData) (o : Taken) → (o ≡ Over) ⊎ ((place : ℕ) × (o ≡ Found place)) → Takes s me o t → (t ≡ s) × IsEnded t
ended_turn me s t o is takes_so = elim is [
  | inl over ↦ let h : Takes s me Over t = subst (λ x. Takes s me x t) over takes_so in (h.2, over_ended me s t h)
  | inr (place, found) ↦ let h : Takes s me (Found place) t = subst (λ x. Takes s me x t) found takes_so in (h.1, found_ended me s t place h)
]

idle_turn : (me : ℕ) (s t : CoreData) (o : Taken) → (o ≡ Idle) ⊎ (o ≡ Quiet) → Takes s me o t → (t ≡ s) × IsIdleCore t
idle_turn me s t o is takes_so = elim is [
  | inl idle ↦ let h : Takes s me Idle t = subst (λ x. Takes s me x t) idle takes_so in (h.2, idle_is me s t h)
  | inr quiet ↦ let h : Takes s me Quiet t = subst (λ x. Takes s me x t) quiet takes_so in (h.2, quiet_is me s t h)
]

pub returns-in_err-reserve_some-clause-goes : goal.returns-in_err-reserve_some-clause-goes
returns-in_err-reserve_some-clause-goes g c =
    let same = c.in_err-reserve_some.ensures.err in
    alone_same c.args.core.now c.reserve_some.new.self (ap (λ (x : CoreData). x.base) same) (ap (λ (x : CoreData). x.story) same)

pub returns-in_err-reserve_some-clause-own : goal.returns-in_err-reserve_some-clause-own
returns-in_err-reserve_some-clause-own g c = subst (λ (x : CoreData). AreOwn c.args.worker x) (sym c.in_err-reserve_some.ensures.err) c.requires.selecting.own

pub publish_surplus-progress-requires-clause-selecting : goal.publish_surplus-progress-requires-clause-selecting
publish_surplus-progress-requires-clause-selecting g c =
    selecting_spare c.args.worker c.args.last.now _ c.args.core.now c.reserve_some.new.self (Waits c.args.waiting.now.found) c.in_ok-reserve_some.ensures.same c.requires.selecting

pub returns-in_default-clause-goes : goal.returns-in_default-clause-goes
returns-in_default-clause-goes g c =
    alone_trans c.args.core.now c.reserve_some.new.self c.publish_surplus-progress.new.core (goes_reserved c.args.worker 0 _ c.args.core.now c.reserve_some.new.self c.in_ok-reserve_some.ensures.same) c.publish_surplus-progress.ensures.goes

pub returns-in_default-clause-own : goal.returns-in_default-clause-own
returns-in_default-clause-own g c = c.publish_surplus-progress.ensures.own

pub returns-in_default-clause-after : goal.returns-in_default-clause-after
returns-in_default-clause-after g c =
    let me = c.args.worker in
    let last = c.args.last.now in
    let r = c.reserve_some.new.self in
    let e = c.publish_surplus-progress.new.core in
    let V = Waits c.publish_surplus-progress.new.waiting.found in
    surplus_after (AreClosed e × IsIdleCore e) (IsStill me r e V last) me last c.args.core.now r e V c.publish_surplus-progress.result c.in_default.not-Done
    (not_heavier me last _ c.args.core.now r c.in_ok-reserve_some.ensures.same) c.publish_surplus-progress.ensures.after

pub form-requires-clause-work : goal.form-requires-clause-work
form-requires-clause-work g c =
    let s = c.publish_surplus-progress.new.core in
    work_taken c.args.worker s c.take.new.self c.in-Item.work c.in-Item.ticket _ (taken_work s c.in-Item.work c.know_core.ensures.legal c.in-Item.ensures.0.pending) c.in-Item.ensures.1

pub form-requires-clause-dependents : goal.form-requires-clause-dependents
form-requires-clause-dependents g c =
    let h = behind c.args.worker c.args.last.now _ c.args.core.now c.reserve_some.new.self c.publish_surplus-progress.new.core (Waits c.publish_surplus-progress.new.waiting.found) c.publish_surplus-progress.result c.in_ok-reserve_some.ensures.same c.in_ok-reserve_some.ensures.some c.in-Done.is c.publish_surplus-progress.ensures.after in
    subst (λ (b : Base). HasDependents b.problem.points b.problem.flow.pairs c.args.dependents.now) (sym (ap (λ (x : CoreData). x.base) c.in-Item.ensures.1 ∙ h.goes.base)) c.requires.dependents

pub form-requires-clause-ready : goal.form-requires-clause-ready
form-requires-clause-ready g c = λ d w.
    let s = c.publish_surplus-progress.new.core in
    let h = behind c.args.worker c.args.last.now _ c.args.core.now c.reserve_some.new.self s (Waits c.publish_surplus-progress.new.waiting.found) c.publish_surplus-progress.result c.in_ok-reserve_some.ensures.same c.in_ok-reserve_some.ensures.some c.in-Done.is c.publish_surplus-progress.ensures.after in
    ready_still s c.take.new.self d (alone_step {me = c.args.worker} s c.take.new.self (takes c.in-Item.work c.in-Item.ticket) _ c.in-Item.ensures.1) (ap (λ (x : CoreData). x.ids) c.in-Item.ensures.1) (h.selecting.ready d w)

pub returns-in_err-form-in-Item-clause-goes : goal.returns-in_err-form-in-Item-clause-goes
returns-in_err-form-in-Item-clause-goes g c =
    let s = c.publish_surplus-progress.new.core in
    let W = Waits c.publish_surplus-progress.new.waiting.found in
    let h = behind c.args.worker c.args.last.now _ c.args.core.now c.reserve_some.new.self s W c.publish_surplus-progress.result c.in_ok-reserve_some.ensures.same c.in_ok-reserve_some.ensures.some c.in-Done.is c.publish_surplus-progress.ensures.after in
    alone_trans c.args.core.now s c.form.new.core h.goes
    (took_goes s c.take.new.self c.form.new.core c.in-Item.work c.in-Item.ticket _ c.args.last.now W (Waits c.form.new.waiting.found) h.selecting c.in-Item.ensures.0 c.in-Item.ensures.1 c.in_err-form-in-Item.ensures.kept c.in_err-form-in-Item.ensures.grows c.in_err-form-in-Item.ensures.keeps)

pub returns-in_err-form-in-Item-clause-own : goal.returns-in_err-form-in-Item-clause-own
returns-in_err-form-in-Item-clause-own g c =
    let s = c.publish_surplus-progress.new.core in
    let W = Waits c.publish_surplus-progress.new.waiting.found in
    let h = behind c.args.worker c.args.last.now _ c.args.core.now c.reserve_some.new.self s W c.publish_surplus-progress.result c.in_ok-reserve_some.ensures.same c.in_ok-reserve_some.ensures.some c.in-Done.is c.publish_surplus-progress.ensures.after in
    took_own s c.take.new.self c.form.new.core c.in-Item.work c.in-Item.ticket _ c.args.last.now W (Waits c.form.new.waiting.found) h.selecting c.in-Item.ensures.0 c.in-Item.ensures.1 c.in_err-form-in-Item.ensures.kept c.in_err-form-in-Item.ensures.grows c.in_err-form-in-Item.ensures.keeps

pub returns-in-None-clause-goes : goal.returns-in-None-clause-goes
returns-in-None-clause-goes g c =
    let s = c.publish_surplus-progress.new.core in
    let W = Waits c.publish_surplus-progress.new.waiting.found in
    let h = behind c.args.worker c.args.last.now _ c.args.core.now c.reserve_some.new.self s W c.publish_surplus-progress.result c.in_ok-reserve_some.ensures.same c.in_ok-reserve_some.ensures.some c.in-Done.is c.publish_surplus-progress.ensures.after in
    alone_trans c.args.core.now s c.form.new.core h.goes
    (took_goes s c.take.new.self c.form.new.core c.in-Item.work c.in-Item.ticket _ c.args.last.now W (Waits c.form.new.waiting.found) h.selecting c.in-Item.ensures.0 c.in-Item.ensures.1 c.in_ok-form-in-Item.ensures.kept c.in_ok-form-in-Item.ensures.grows c.in_ok-form-in-Item.ensures.keeps)

pub returns-in-None-clause-own : goal.returns-in-None-clause-own
returns-in-None-clause-own g c =
    let s = c.publish_surplus-progress.new.core in
    let W = Waits c.publish_surplus-progress.new.waiting.found in
    let h = behind c.args.worker c.args.last.now _ c.args.core.now c.reserve_some.new.self s W c.publish_surplus-progress.result c.in_ok-reserve_some.ensures.same c.in_ok-reserve_some.ensures.some c.in-Done.is c.publish_surplus-progress.ensures.after in
    took_own s c.take.new.self c.form.new.core c.in-Item.work c.in-Item.ticket _ c.args.last.now W (Waits c.form.new.waiting.found) h.selecting c.in-Item.ensures.0 c.in-Item.ensures.1 c.in_ok-form-in-Item.ensures.kept c.in_ok-form-in-Item.ensures.grows c.in_ok-form-in-Item.ensures.keeps

pub returns-in-None-clause-after : goal.returns-in-None-clause-after
returns-in-None-clause-after g c =
    let s = c.publish_surplus-progress.new.core in
    let e = c.form.new.core in
    let W = Waits c.publish_surplus-progress.new.waiting.found in
    let h = behind c.args.worker c.args.last.now _ c.args.core.now c.reserve_some.new.self s W c.publish_surplus-progress.result c.in_ok-reserve_some.ensures.same c.in_ok-reserve_some.ensures.some c.in-Done.is c.publish_surplus-progress.ensures.after in
    let x = took_after s c.take.new.self e c.in-Item.work c.in-Item.ticket _ c.args.last.now W (Waits c.form.new.waiting.found) h.selecting c.in-Item.ensures.0 c.in-Item.ensures.1 c.in_ok-form-in-Item.ensures.kept c.in_ok-form-in-Item.ensures.grows c.in_ok-form-in-Item.ensures.keeps
    (AreClosed e × IsIdleCore e) c.know_core.ensures.legal c.in_ok-form-in-Item.ensures.ready (MatchOption-at_none _ _ c.in-None.is c.in_ok-form-in-Item.ensures.all) in
    (omega (arith, x.0, h.lighter), x.1)

pub overflow-requires-clause-holds : goal.overflow-requires-clause-holds
overflow-requires-clause-holds g c =
    let s = c.publish_surplus-progress.new.core in
    let W = Waits c.publish_surplus-progress.new.waiting.found in
    let h = behind c.args.worker c.args.last.now _ c.args.core.now c.reserve_some.new.self s W c.publish_surplus-progress.result c.in_ok-reserve_some.ensures.same c.in_ok-reserve_some.ensures.some c.in-Done.is c.publish_surplus-progress.ensures.after in
    took_holds s c.take.new.self c.form.new.core c.in-Item.work c.in-Item.ticket _ c.args.last.now W (Waits c.form.new.waiting.found) h.selecting c.in-Item.ensures.0 c.in-Item.ensures.1 c.in_ok-form-in-Item.ensures.kept c.in_ok-form-in-Item.ensures.grows c.in_ok-form-in-Item.ensures.keeps

pub overflow-requires-clause-own : goal.overflow-requires-clause-own
overflow-requires-clause-own g c =
    let s = c.publish_surplus-progress.new.core in
    let W = Waits c.publish_surplus-progress.new.waiting.found in
    let h = behind c.args.worker c.args.last.now _ c.args.core.now c.reserve_some.new.self s W c.publish_surplus-progress.result c.in_ok-reserve_some.ensures.same c.in_ok-reserve_some.ensures.some c.in-Done.is c.publish_surplus-progress.ensures.after in
    took_own s c.take.new.self c.form.new.core c.in-Item.work c.in-Item.ticket _ c.args.last.now W (Waits c.form.new.waiting.found) h.selecting c.in-Item.ensures.0 c.in-Item.ensures.1 c.in_ok-form-in-Item.ensures.kept c.in_ok-form-in-Item.ensures.grows c.in_ok-form-in-Item.ensures.keeps

pub overflow-requires-clause-surplus : goal.overflow-requires-clause-surplus
overflow-requires-clause-surplus g c = MatchOption-at_some _ _ c.in-Some.found c.in-Some.is c.in_ok-form-in-Item.ensures.all

pub returns-in-Some-clause-goes : goal.returns-in-Some-clause-goes
returns-in-Some-clause-goes g c =
    let s = c.publish_surplus-progress.new.core in
    let W = Waits c.publish_surplus-progress.new.waiting.found in
    let h = behind c.args.worker c.args.last.now _ c.args.core.now c.reserve_some.new.self s W c.publish_surplus-progress.result c.in_ok-reserve_some.ensures.same c.in_ok-reserve_some.ensures.some c.in-Done.is c.publish_surplus-progress.ensures.after in
    alone_trans c.args.core.now c.form.new.core c.overflow.new.core (alone_trans c.args.core.now s c.form.new.core h.goes
    (took_goes s c.take.new.self c.form.new.core c.in-Item.work c.in-Item.ticket _ c.args.last.now W (Waits c.form.new.waiting.found) h.selecting c.in-Item.ensures.0 c.in-Item.ensures.1 c.in_ok-form-in-Item.ensures.kept c.in_ok-form-in-Item.ensures.grows c.in_ok-form-in-Item.ensures.keeps)) c.overflow.ensures.goes

pub returns-in-Over-clause-goes : goal.returns-in-Over-clause-goes
returns-in-Over-clause-goes g c =
    let s = c.publish_surplus-progress.new.core in
    let h = behind c.args.worker c.args.last.now _ c.args.core.now c.reserve_some.new.self s (Waits c.publish_surplus-progress.new.waiting.found) c.publish_surplus-progress.result c.in_ok-reserve_some.ensures.same c.in_ok-reserve_some.ensures.some c.in-Done.is c.publish_surplus-progress.ensures.after in
    let i = ended_turn c.args.worker s c.take.new.self c.take.result c.in-Over.is c.take.ensures in
    subst (λ (x : CoreData). GoesAlone c.args.worker c.args.core.now x) (sym i.0) h.goes

pub returns-in-Over-clause-own : goal.returns-in-Over-clause-own
returns-in-Over-clause-own g c =
    let i = ended_turn c.args.worker c.publish_surplus-progress.new.core c.take.new.self c.take.result c.in-Over.is c.take.ensures in
    subst (λ (x : CoreData). AreOwn c.args.worker x) (sym i.0) c.publish_surplus-progress.ensures.own

pub returns-in-Over-clause-after : goal.returns-in-Over-clause-after
returns-in-Over-clause-after g c = (ended_turn c.args.worker c.publish_surplus-progress.new.core c.take.new.self c.take.result c.in-Over.is c.take.ensures).1

pub publish_next-requires-clause-selecting : goal.publish_next-requires-clause-selecting
publish_next-requires-clause-selecting g c =
    let s = c.publish_surplus-progress.new.core in
    let W = Waits c.publish_surplus-progress.new.waiting.found in
    let h = behind c.args.worker c.args.last.now _ c.args.core.now c.reserve_some.new.self s W c.publish_surplus-progress.result c.in_ok-reserve_some.ensures.same c.in_ok-reserve_some.ensures.some c.in-Done.is c.publish_surplus-progress.ensures.after in
    let i = idle_turn c.args.worker s c.take.new.self c.take.result c.in-Idle.is c.take.ensures in
    subst (λ (x : CoreData). IsSelecting c.args.worker x W c.args.last.now) (sym i.0) h.selecting

pub publish_next-requires-clause-spare : goal.publish_next-requires-clause-spare
publish_next-requires-clause-spare g c =
    let s = c.publish_surplus-progress.new.core in
    let h = behind c.args.worker c.args.last.now _ c.args.core.now c.reserve_some.new.self s (Waits c.publish_surplus-progress.new.waiting.found) c.publish_surplus-progress.result c.in_ok-reserve_some.ensures.same c.in_ok-reserve_some.ensures.some c.in-Done.is c.publish_surplus-progress.ensures.after in
    let i = idle_turn c.args.worker s c.take.new.self c.take.result c.in-Idle.is c.take.ensures in
    subst (λ (x : CoreData). 1 ≤ x.spare) (sym i.0) h.spare

pub returns-in-Idle-clause-goes : goal.returns-in-Idle-clause-goes
returns-in-Idle-clause-goes g c =
    let s = c.publish_surplus-progress.new.core in
    let t = c.take.new.self in
    let h = behind c.args.worker c.args.last.now _ c.args.core.now c.reserve_some.new.self s (Waits c.publish_surplus-progress.new.waiting.found) c.publish_surplus-progress.result c.in_ok-reserve_some.ensures.same c.in_ok-reserve_some.ensures.some c.in-Done.is c.publish_surplus-progress.ensures.after in
    let i = idle_turn c.args.worker s t c.take.result c.in-Idle.is c.take.ensures in
    alone_trans c.args.core.now t c.publish_next.new.core (subst (λ (x : CoreData). GoesAlone c.args.worker c.args.core.now x) (sym i.0) h.goes) c.publish_next.ensures.goes

pub returns-in-Idle-clause-own : goal.returns-in-Idle-clause-own
returns-in-Idle-clause-own g c = c.publish_next.ensures.own

pub returns-in-Idle-clause-after : goal.returns-in-Idle-clause-after
returns-in-Idle-clause-after g c =
    let s = c.publish_surplus-progress.new.core in
    let t = c.take.new.self in
    let h = behind c.args.worker c.args.last.now _ c.args.core.now c.reserve_some.new.self s (Waits c.publish_surplus-progress.new.waiting.found) c.publish_surplus-progress.result c.in_ok-reserve_some.ensures.same c.in_ok-reserve_some.ensures.some c.in-Done.is c.publish_surplus-progress.ensures.after in
    let i = idle_turn c.args.worker s t c.take.result c.in-Idle.is c.take.ensures in
    idle_after c.args.worker c.args.last.now c.args.core.now t c.publish_next.new.core (Waits c.publish_next.new.waiting.found) c.publish_next.result (subst (λ (x : CoreData). work_left x ≤ work_left c.args.core.now) (sym i.0) h.lighter) i.1 c.publish_next.ensures.after
