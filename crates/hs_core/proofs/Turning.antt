-- How the turn of a worker ends.
use Rattle.std.proofs.Common.{◌≡◌, refl, sym, subst, ℕ, ◌<◌, ◌≤◌, Bool, true, false, List, [], ◌∷◌, length, None, IsSome, IsTrue, arith, Contains, Result, Ok, Err, ◌∙◌, ap, suc, ◌+◌, ◌-◌, ◌*◌, Option, Some, inl, inr}
use Rattle.std.specs.Bool.{MatchBool}
use Rattle.std.specs.Result.{IfOk}
use Rattle.std.proofs.lemmas.Bool.{false≢true, cases_Bool, cases_eq, cond-true, cond-false}
use Rattle.std.proofs.lemmas.List.Elements.{All-nil}
use Rattle.hs_scheme.specs.Problem.{ProblemData}
use Rattle.hs_scheme.proofs.Lists.{here, none_in, uncons}
use Rattle.hs_table.specs.Entries.{EntryData}
use Rattle.hs_types.specs.Interned.{InternerData, entry_of}
use Rattle.hs_rules.specs.Conclusions.{DeducedData, AnySupport, AreConclusions}
use Rattle.hs_history.specs.declared.step.Work.{Work}
use Rattle.hs_history.specs.declared.step.Work.TheVariants.{Seed}
use Rattle.hs_history.specs.Story.{takes, finishes, gives_back, Base, Deduction, Action}
use Rattle.hs_history.specs.CoreStep.{IsClosedSeed, CanTake, State, without, is_work, put}
use Rattle.hs_core.specs.Core.{CoreData, state_of, stepped, log_of}
use Rattle.hs_core.specs.Draining.{work_left, GoesAlone, NothingFlies, EndsAtRest, IsNextSeed, passed_by, Closes}
use Rattle.hs_history.proofs.Works.{put_here, put_other, is_work_itself}
use Rattle.hs_core.proofs.Moving.{Moves, moves_same, alone_same, alone_trans, alone_step, state_stepped, given_free, given_other, seed_closed}

-- taking a work, and leaving it
pub shorter : (w : Work) (vs : List Work) → Contains vs w → suc (length (without w vs)) ≡ length vs
shorter w [] c = absurd (none_in w c)
shorter w (v ∷ vs) c = elim (cases_Bool (is_work w v)) [
  | inl same ↦ ap (λ xs. suc (length xs)) (cond-true (is_work w v) vs (v ∷ without w vs) same)
  | inr other ↦ ap (λ xs. suc (length xs)) (cond-false (is_work w v) vs (v ∷ without w vs) other) ∙ ap suc (shorter w vs (elim (uncons v w vs c) [
    | inl is ↦ absurd (both w v is other)
    | inr there ↦ there
  ]))
]
  where
    both : (a b : Work) → a ≡ b → is_work a b ≡ false → ⊥
    both a b is other = false≢true (sym other ∙ ap (λ x. is_work a x) (sym is) ∙ is_work_itself a)

-- a turn: a work is taken, something is published, and the work is closed or given back
module _ {me : ℕ} (a b c d : CoreData) (work : Work) (ticket k l : ℕ) (free : NothingFlies a) (can : CanTake a.base (state_of a) work ticket) (took : b ≡ stepped a me (takes work ticket) k) (moves : Moves me b c) where
  taken_flight : (t : ℕ) → (t ≡ ticket → ⊥) → (state_of c).flight t ≡ None
  taken_flight t ne = moves.flight t ∙ ap (λ (s : State). s.flight t) (state_stepped a b me (takes work ticket) k took) ∙ put_other ticket t (Some (record { worker = me; work = work })) (state_of a).flight ne ∙ free t

  pub holds_taken : (state_of b).flight ticket ≡ Some (record { worker = me; work = work })
  holds_taken = ap (λ (s : State). s.flight ticket) (state_stepped a b me (takes work ticket) k took) ∙ put_here ticket (Some (record { worker = me; work = work })) (state_of a).flight

  pub holds_then : (state_of c).flight ticket ≡ Some (record { worker = me; work = work })
  holds_then = moves.flight ticket ∙ holds_taken

  pub turn_goes : (action : Action) → d ≡ stepped c me action l → GoesAlone me a d
  turn_goes action is = alone_trans a c d (alone_trans a b c (alone_step a b (takes work ticket) k took) moves.alone) (alone_step c d action l is)

  pub turn_flight_finished : d ≡ stepped c me (finishes ticket) l → NothingFlies d
  turn_flight_finished is t = elim (cases_eq t ticket) [
    | inl same ↦ ap (λ (s : State). s.flight t) (state_stepped c d me (finishes ticket) l is) ∙ ap (λ n. put ticket None (state_of c).flight n) same ∙ put_here ticket None (state_of c).flight
    | inr ne ↦ ap (λ (s : State). s.flight t) (state_stepped c d me (finishes ticket) l is) ∙ put_other ticket t None (state_of c).flight ne ∙ taken_flight t ne
  ]

  pub turn_flight_given : d ≡ stepped c me (gives_back ticket) l → NothingFlies d
  turn_flight_given is t = elim (cases_eq t ticket) [
    | inl same ↦ ap (λ n. (state_of d).flight n) same ∙ given_free c d me ticket l is
    | inr ne ↦ given_other c d me ticket l is t (taken_flight t ne)
  ]

  pub turn_lighter : d ≡ stepped c me (finishes ticket) l → work_left d < work_left a
  turn_lighter is =
      let first : work_left b < work_left a = taken_lighter in
      let last : work_left d ≡ work_left c = (λ i. left_of (((ap (λ (x : CoreData). x.base) is) i)) ((state_stepped c d me (finishes ticket) l is) i)) in
      omega (arith, first, last, moves.lighter)
    where
      left_of : Base → State → ℕ
      left_of base s = 2 * (base.budget - length s.log) + length s.pending

      lighter_with : (m n i j p q r : ℕ) → m ≡ n → i ≡ j → p ≡ q → suc q ≡ r → 2 * (m - i) + p < 2 * (n - j) + r
      lighter_with m n i j p q r e f g h = let same : m - i ≡ n - j = λ t. e t - f t in omega (arith, same, g, h)

      taken_lighter : work_left b < work_left a
      taken_lighter =
          let s = state_stepped a b me (takes work ticket) k took in
          let base : b.base.budget ≡ a.base.budget = ap (λ (x : CoreData). x.base.budget) took in
          let log : length (log_of b) ≡ length (log_of a) = ap (λ (x : State). length x.log) s in
          let pending : length (state_of b).pending ≡ length (without work (state_of a).pending) = ap (λ (x : State). length x.pending) s in
          lighter_with b.base.budget a.base.budget (length (log_of b)) (length (log_of a)) (length (state_of b).pending) (length (without work (state_of a).pending)) (length (state_of a).pending) base log pending (shorter work (state_of a).pending can.pending)

-- past the budget no work is given out
module _ (me : ℕ) where
  pub kept_ends : (a b : CoreData) (ticket spare : ℕ) → IsSome (state_of a).kept → b ≡ stepped a me (gives_back ticket) spare → EndsAtRest b
  kept_ends a b ticket spare some is none on = absurd (some_none (state_of a).kept some (sym (ap (λ (s : State). s.kept) (state_stepped a b me (gives_back ticket) spare is)) ∙ none))
    where
      some_none : (o : Option Deduction) → IsSome o → o ≡ None → ⊥
      some_none None s e = false≢true s
      some_none (Some x) s e = cc

pub record TurnEnds {E : Type 0} (me : ℕ) (old new : CoreData) (answer : Result Bool E) : Type 0 where
  pub goes : GoesAlone me old new
  pub flight : NothingFlies new
  pub more : IfOk answer (λ more. MatchBool more (work_left new < work_left old) (EndsAtRest new))

-- a work is taken, something is published, and the work is closed or given back
module _ {E : Type 0} {me : ℕ} (a b c d : CoreData) (work : Work) (ticket k : ℕ) (free : NothingFlies a) (can : CanTake a.base (state_of a) work ticket) (took : b ≡ stepped a me (takes work ticket) k) (moves : Moves me b c) (P : Type 0) where
  pub closed_turn : (all : Result Bool E) → Closes c me ticket all d → IfOk all (λ x. MatchBool x P (IsSome (state_of c).kept)) → TurnEnds me a d all
  closed_turn (Ok true) is said = record {
    goes = turn_goes a b c d work ticket k c.spare free can took moves (finishes ticket) is;
    flight = turn_flight_finished a b c d work ticket k c.spare free can took moves is;
    more = turn_lighter a b c d work ticket k c.spare free can took moves is;
  }
  closed_turn (Ok false) is said = record {
    goes = turn_goes a b c d work ticket k c.spare free can took moves (gives_back ticket) is;
    flight = turn_flight_given a b c d work ticket k c.spare free can took moves is;
    more = kept_ends me c d ticket c.spare said is;
  }
  closed_turn (Err e) is said = record {
    goes = turn_goes a b c d work ticket k c.spare free can took moves (gives_back ticket) is;
    flight = turn_flight_given a b c d work ticket k c.spare free can took moves is;
    more = tt;
  }

-- behind a call that isn't a step
module _ {E : Type 0} {me : ℕ} (o a : CoreData) (base : a.base ≡ o.base) (story : a.story ≡ o.story) where
  pub turn_behind : (d : CoreData) (answer : Result Bool E) → TurnEnds me a d answer → TurnEnds me o d answer
  turn_behind d answer ends = record { goes = alone_trans o a d (alone_same o a base story) ends.goes; flight = ends.flight; more = go answer ends.more }
    where
      not_heavier : work_left a ≤ work_left o
      not_heavier = (moves_same {me = me} o a base story).lighter

      go : (r : Result Bool E) → IfOk r (λ more. MatchBool more (work_left d < work_left a) (EndsAtRest d)) → IfOk r (λ more. MatchBool more (work_left d < work_left o) (EndsAtRest d))
      go (Ok true) less = omega (arith, less, not_heavier)
      go (Ok false) ends = ends
      go (Err e) h = tt

-- the seed that is given out next
pub next_can : (c : CoreData) (point ticket : ℕ) → (state_of c).flight ticket ≡ None → IsNextSeed c point → CanTake c.base (state_of c) (Seed point) ticket
next_can c point ticket free next = record {
  none_kept = next.none_kept;
  goes_on = next.goes_on;
  pending = subst (λ ws. Contains ws (Seed point)) (sym next.pending) (here (Seed point) next.rest);
  free = free;
}

pub next_brought : (a b : CoreData) (point : ℕ) → b ≡ record { base = a.base; ids = b.ids; story = a.story; spare = a.spare } → IsNextSeed a point → IsNextSeed b point
next_brought a b point is next =
    subst (λ (x : CoreData). IsNextSeed x point) (sym is) (record { none_kept = next.none_kept; goes_on = next.goes_on; rest = next.rest; pending = next.pending })

module _ {E : Type 0} {me : ℕ} where
  pub passed_turn : (a d : CoreData) (point k : ℕ) → NothingFlies a → IsNextSeed a point → d ≡ passed_by a me point k → TurnEnds {E = E} me a d (Ok true)
  passed_turn a d point k free next is =
      let b = stepped a me (takes (Seed point) 0) k in
      closed_turn a b b d (Seed point) 0 k free (next_can a point 0 (free 0) next) refl (moves_same b b refl refl) (Unit {0}) (Ok true) is tt

-- nothing follows there
pub none_closed : (p : ProblemData) (ids : InternerData) (L : List EntryData) (found : List DeducedData) (point : ℕ) → length found ≡ 0 → AreConclusions p ids [] point AnySupport found → IsClosedSeed p L point
none_closed p ids L [] point none are = seed_closed p ids L [] (All-nil (λ (d : DeducedData). Contains L (entry_of ids d.row))) point are
none_closed p ids L (d ∷ found) point none are = absurd (omega arith)

-- all of it was published, so the work may be closed
pub may_close : {E : Type 0} (P K Q : Type 0) (r : Result Bool E) → (P → Q) → IfOk r (λ all. MatchBool all P K) → IfOk r (λ all. IsTrue all → Q)
may_close P K Q (Ok true) f h = λ all. f h
may_close P K Q (Ok false) f h = λ all. absurd (false≢true all)
may_close P K Q (Err e) f h = tt
