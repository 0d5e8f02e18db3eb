use Rattle.std.proofs.Common.{◌≡◌, refl, sym, ◌∙◌, ap, subst, ℕ, ◌+◌, ◌<◌, List, [], length, take, get_or, unwrap_or, slice_get, All, ◌≤◌, arith, Contains, inl, inr}
use Rattle.std.proofs.lemmas.Bool.{cases_lt}
use Rattle.std.proofs.lemmas.List.Elements.{Contains-get_or}
use Rattle.hs_types.specs.Interned.{entry_of, Grows}
use Rattle.hs_types.proofs.Numbers.{Grows-refl, Grows-trans}
use Rattle.hs_rules.specs.Conclusions.{DeducedData, Uses, AreSomeConclusions, AreConclusions}
use Rattle.hs_history.specs.Following.{HasAt, HasPlace}
use Rattle.hs_core.specs.Core.{CoreData, log_of}
use Rattle.hs_core.specs.Draining.{IsReady}
use Rattle.hs_core.specs.Waiting.{Waits, IsThereOrWaits}
use Rattle.hs_core.specs.Selecting.{AreReady}
use Rattle.hs_core.proofs.Moving.{dependent_within, point_within, place_ready}
use Rattle.hs_core.proofs.Waits.{known_then}
use Rattle.hs_core.proofs.Selected.{has_at, ready_grown, place_whole}
use Rattle.hs_core.proofs.selecting.form_place.Goals as goal

-- only the interner has grown
abbrev Asked : CoreData → CoreData → Type 0
Asked a b = b ≡ record { base = a.base; ids = b.ids; story = a.story; spare = a.spare }

asked_again : (a b m : CoreData) → Asked a b → Asked b m → Asked a m
asked_again a b m f g = g ∙ ap (λ (x : CoreData). record { base = x.base; ids = m.ids; story = x.story; spare = x.spare }) f

-- at one more dependent
module _ (a b m : CoreData) (W V : DeducedData → Type 0) (place point : ℕ) (found : List DeducedData) (before : Asked a b) (asked : Asked b m) where
  grown_ready : Grows b.ids m.ids → AreReady b W → AreReady m W
  grown_ready grows ready d w = ready_grown b m (ap (λ (x : CoreData). x.base) asked) (ap (λ (x : CoreData). x.story) asked) grows d (ready d w)

  found_ready : place < length (log_of a) → AreSomeConclusions b.base.problem m.ids (take (place + 1) (log_of b)) point (Uses place) found → All (IsReady m) found
  found_ready within are = place_ready b m point place found asked (subst (λ (x : CoreData). place < length (log_of x)) (sym before) within) are

  has_before : Grows b.ids m.ids → AreReady b W → ((d : DeducedData) → W d → V d) → (p : ℕ) → HasAt a.base.problem (log_of a) place p (IsThereOrWaits b.ids (log_of a) W) → HasAt a.base.problem (log_of a) place p (IsThereOrWaits m.ids (log_of a) V)
  has_before grows ready keeps p has s e at by among =
      known_then b.ids m.ids (log_of a) (log_of a) W V grows (λ x c. c) (λ d w. (ready d w).row) (λ d w. inl (keeps d w)) e (has s e at by among)

  has_here : AreConclusions b.base.problem m.ids (take (place + 1) (log_of b)) point (Uses place) found
      → All (λ (d : DeducedData). IsThereOrWaits m.ids (log_of m) V (entry_of m.ids d.row)) found → HasAt a.base.problem (log_of a) place point (IsThereOrWaits m.ids (log_of a) V)
  has_here are known =
      has_at a.base.problem m.ids (log_of a) V place point found
      (subst (λ (x : CoreData). AreConclusions x.base.problem m.ids (take (place + 1) (log_of x)) point (Uses place) found) before are)
      (subst (λ (x : CoreData). All (λ (d : DeducedData). IsThereOrWaits m.ids (log_of x) V (entry_of m.ids d.row)) found) (asked_again a b m before asked) known)

pub list-dependent-items-requires : goal.list-dependent-items-requires
list-dependent-items-requires c =
    let at = ap (λ xs. slice_get xs c.args.place) (sym c.replica.ensures.log) ∙ c.row-point.ensures.entry in
    omega (arith, point_within c.args.core.now c.args.place (entry_of c.replica.result.now.ids c.row-point.result) c.know_core.ensures.legal at, c.requires.dependents.each)

pub loop-dependent-init : goal.loop-dependent-init
loop-dependent-init c = record { kept = refl; grows = Grows-refl c.args.core.now.ids; keeps = λ d w. w; ready = c.requires.ready; all = λ k lt. absurd (omega arith) }

pub at_place_within-requires-clause-point : goal.at_place_within-requires-clause-point
at_place_within-requires-clause-point c =
    let items = c.list-dependent-items.result.now in
    let listed = subst (λ xs. Contains xs (get_or items c.loop-dependent.dependent-index 0)) (sym (ap (λ o. unwrap_or o []) c.list-dependent-items.ensures)) (Contains-get_or items c.loop-dependent.dependent-index 0 c.loop-dependent-test.true) in
    let p = c.args.core.now.base.problem in
    let within = dependent_within p.points p.flow.pairs c.args.dependents.now c.row-point.result.point (get_or items c.loop-dependent.dependent-index 0) c.requires.dependents listed in
    subst (λ (x : CoreData). get_or items c.loop-dependent.dependent-index 0 < length x.base.problem.points.points) (sym c.loop-dependent.invariant.kept) within

pub at_place_within-requires-clause-place : goal.at_place_within-requires-clause-place
at_place_within-requires-clause-place c = subst (λ (x : CoreData). c.args.place < length (log_of x)) (sym c.loop-dependent.invariant.kept) c.requires.place

pub keep_waiting-requires-clause-found : goal.keep_waiting-requires-clause-found
keep_waiting-requires-clause-found c =
    let n = c.loop-dependent.dependent-index in
    let W = Waits c.loop-dependent.waiting.found in
    found_ready c.args.core.now c.loop-dependent.core c.at_place_within.new.self W W c.args.place (get_or c.list-dependent-items.result.now n 0) c.in_ok-found.found.items c.loop-dependent.invariant.kept c.in_ok-found.ensures.kept c.requires.place c.in_ok-found.ensures.some

pub keep_waiting-requires-clause-ready : goal.keep_waiting-requires-clause-ready
keep_waiting-requires-clause-ready c =
    let W = Waits c.loop-dependent.waiting.found in
    grown_ready c.args.core.now c.loop-dependent.core c.at_place_within.new.self W W 0 0 [] c.loop-dependent.invariant.kept c.in_ok-found.ensures.kept c.in_ok-found.ensures.grows c.loop-dependent.invariant.ready

pub returns-in_err-found-clause-kept : goal.returns-in_err-found-clause-kept
returns-in_err-found-clause-kept c = asked_again c.args.core.now c.loop-dependent.core c.at_place_within.new.self c.loop-dependent.invariant.kept c.in_err-found.ensures.kept

pub returns-in_err-found-clause-grows : goal.returns-in_err-found-clause-grows
returns-in_err-found-clause-grows c = Grows-trans c.args.core.now.ids c.loop-dependent.core.ids c.at_place_within.new.self.ids c.loop-dependent.invariant.grows c.in_err-found.ensures.grows

pub returns-in_err-found-clause-keeps : goal.returns-in_err-found-clause-keeps
returns-in_err-found-clause-keeps c = c.loop-dependent.invariant.keeps

pub returns-in_err-found-clause-ready : goal.returns-in_err-found-clause-ready
returns-in_err-found-clause-ready c =
    let W = Waits c.loop-dependent.waiting.found in
    grown_ready c.args.core.now c.loop-dependent.core c.at_place_within.new.self W W 0 0 [] c.loop-dependent.invariant.kept c.in_err-found.ensures.kept c.in_err-found.ensures.grows c.loop-dependent.invariant.ready

pub returns-in_err-keep_waiting-clause-kept : goal.returns-in_err-keep_waiting-clause-kept
returns-in_err-keep_waiting-clause-kept c = asked_again c.args.core.now c.loop-dependent.core c.at_place_within.new.self c.loop-dependent.invariant.kept c.in_ok-found.ensures.kept

pub returns-in_err-keep_waiting-clause-grows : goal.returns-in_err-keep_waiting-clause-grows
returns-in_err-keep_waiting-clause-grows c = Grows-trans c.args.core.now.ids c.loop-dependent.core.ids c.at_place_within.new.self.ids c.loop-dependent.invariant.grows c.in_ok-found.ensures.grows

pub returns-in_err-keep_waiting-clause-keeps : goal.returns-in_err-keep_waiting-clause-keeps
returns-in_err-keep_waiting-clause-keeps c = λ d w. c.in_err-keep_waiting.ensures.keeps d (c.loop-dependent.invariant.keeps d w)

pub returns-in_err-keep_waiting-clause-ready : goal.returns-in_err-keep_waiting-clause-ready
returns-in_err-keep_waiting-clause-ready c = c.in_err-keep_waiting.ensures.ready

pub loop-dependent-preserved : goal.loop-dependent-preserved
loop-dependent-preserved c =
    let a = c.args.core.now in
    let b = c.loop-dependent.core in
    let m = c.at_place_within.new.self in
    let W = Waits c.loop-dependent.waiting.found in
    let V = Waits c.keep_waiting.new.waiting.found in
    let items = c.list-dependent-items.result.now in
    let n = c.loop-dependent.dependent-index in
    let found = c.in_ok-found.found.items in
    let inv = c.loop-dependent.invariant in
    let kept = c.in_ok-found.ensures.kept in
    let few : length found ≤ c.budget-most.result = omega (arith, c.if-len-most.false, c.len-in-loop-dependent.ensures) in
    record {
      kept = asked_again a b m inv.kept kept;
      grows = Grows-trans a.ids b.ids m.ids inv.grows c.in_ok-found.ensures.grows;
      keeps = λ d w. c.in_ok-keep_waiting.ensures.keeps d (inv.keeps d w);
      ready = c.in_ok-keep_waiting.ensures.ready;
      all = λ k lt. elim (cases_lt k n) [
        | inl below ↦ has_before a b m W V c.args.place 0 [] inv.kept kept c.in_ok-found.ensures.grows inv.ready c.in_ok-keep_waiting.ensures.keeps (get_or items k 0) (inv.all k below)
        | inr above ↦
            let same : n ≡ k = omega arith in
            subst (λ j. HasAt a.base.problem (log_of a) c.args.place (get_or items j 0) (IsThereOrWaits m.ids (log_of a) V)) same
            (has_here a b m W V c.args.place (get_or items n 0) found inv.kept kept (c.in_ok-found.ensures.all few) c.in_ok-keep_waiting.ensures.known)
      ];
    }

pub returns-clause-kept : goal.returns-clause-kept
returns-clause-kept c = c.loop-dependent.invariant.kept

pub returns-clause-grows : goal.returns-clause-grows
returns-clause-grows c = c.loop-dependent.invariant.grows

pub returns-clause-keeps : goal.returns-clause-keeps
returns-clause-keeps c = λ d w. subst (λ t. Waits t d) (sym c.tell.ensures) (c.loop-dependent.invariant.keeps d w)

pub returns-clause-ready : goal.returns-clause-ready
returns-clause-ready c = subst (λ t. AreReady c.loop-dependent.core (Waits t)) (sym c.tell.ensures) c.loop-dependent.invariant.ready

pub returns-clause-all : goal.returns-clause-all
returns-clause-all c =
    let a = c.args.core.now in
    let p = a.base.problem in
    let ids = c.loop-dependent.core.ids in
    let at = ap (λ xs. slice_get xs c.args.place) (sym c.replica.ensures.log) ∙ c.row-point.ensures.entry in
    let whole = place_whole p (log_of a) c.args.place (IsThereOrWaits ids (log_of a) (Waits c.loop-dependent.waiting.found)) (entry_of c.replica.result.now.ids c.row-point.result) c.args.dependents.now c.list-dependent-items.result.now at
    c.requires.dependents (sym (ap (λ o. unwrap_or o []) c.list-dependent-items.ensures)) (λ k lt. c.loop-dependent.invariant.all k (omega (arith, lt, c.loop-dependent-test.false))) in
    subst (λ t. HasPlace p (log_of a) c.args.place (IsThereOrWaits ids (log_of a) (Waits t))) (sym c.tell.ensures) whole

pub returns-then-len-most-clause-kept : goal.returns-then-len-most-clause-kept
returns-then-len-most-clause-kept c = asked_again c.args.core.now c.loop-dependent.core c.at_place_within.new.self c.loop-dependent.invariant.kept c.in_ok-found.ensures.kept

pub returns-then-len-most-clause-grows : goal.returns-then-len-most-clause-grows
returns-then-len-most-clause-grows c = Grows-trans c.args.core.now.ids c.loop-dependent.core.ids c.at_place_within.new.self.ids c.loop-dependent.invariant.grows c.in_ok-found.ensures.grows

pub returns-then-len-most-clause-keeps : goal.returns-then-len-most-clause-keeps
returns-then-len-most-clause-keeps c = c.loop-dependent.invariant.keeps

pub returns-then-len-most-clause-ready : goal.returns-then-len-most-clause-ready
returns-then-len-most-clause-ready c =
    let W = Waits c.loop-dependent.waiting.found in
    grown_ready c.args.core.now c.loop-dependent.core c.at_place_within.new.self W W 0 0 [] c.loop-dependent.invariant.kept c.in_ok-found.ensures.kept c.in_ok-found.ensures.grows c.loop-dependent.invariant.ready

pub returns-then-len-most-clause-all : goal.returns-then-len-most-clause-all
returns-then-len-most-clause-all c =
    let W = Waits c.loop-dependent.waiting.found in
    let found = c.in_ok-found.found.items in
    record {
      ready = found_ready c.args.core.now c.loop-dependent.core c.at_place_within.new.self W W c.args.place _ found c.loop-dependent.invariant.kept c.in_ok-found.ensures.kept c.requires.place c.in_ok-found.ensures.some;
      once = c.in_ok-found.ensures.some.once;
      many = omega (arith, c.if-len-most.true, c.len.ensures, c.budget-most.ensures, ap (λ (x : CoreData). x.base.budget) (asked_again c.args.core.now c.loop-dependent.core c.at_place_within.new.self c.loop-dependent.invariant.kept c.in_ok-found.ensures.kept));
    }
