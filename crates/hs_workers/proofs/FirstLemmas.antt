-- Seat 0, from which the workers' seats are split off and into which they are joined.
use Rattle.std.proofs.Common.{◌≡◌, ◌≢◌, refl, sym, ◌∙◌, ap, subst, ℕ, ◌+◌, ◌<◌, List, [], ◌∷◌, ◌++◌, get_or, Some, All, arith, inl, inr, Contains}
use Rattle.std.proofs.lemmas.Bool.{cases_lt}
use Rattle.std.proofs.lemmas.List.Elements.{All-contains, Contains-append_right, Contains-get_or}
use mathlib.Core.List.{IsPrefix}
use Rattle.atomic_table.specs.Seated.{TableId}
use Rattle.hs_scheme.specs.Problem.{ProblemData}
use Rattle.hs_scheme.proofs.Lists.{here}
use Rattle.hs_history.specs.Story.{Base, CoreStep, Story}
use Rattle.hs_history.specs.CoreStep.{State}
use Rattle.hs_history.specs.History.{state_after, IsLegal}
use Rattle.hs_turn.specs.declared.known.Known.{Known}
use Rattle.hs_turn.specs.Story.{told_by}
use Rattle.hs_turn.specs.Seats.{RestsIn}
use Rattle.hs_turn.specs.Views.{first_seat, having_split, split_off, having_joined}
use Rattle.hs_shared.specs.Seats.{SeatData, worker_of}
use Rattle.hs_shared.proofs.Seen.{see, none_by}
use Rattle.hs_workers.specs.Jobs.{CarriesAll}
use Rattle.hs_workers.specs.Working.{IsFree, CarriesNothing, IsFirstSeat, IsBased, HasSeenNothing, RestsSeated}
use Rattle.hs_workers.specs.Answers.{IsOfWorkers}

abbrev with_known : SeatData → Known Base CoreStep → SeatData
with_known s known = record { turn = s.turn; known = known }

pub first_split : (table : TableId) (old new : SeatData) (n : ℕ) → IsFirstSeat table n 0 old → new ≡ with_known old (having_split old.known) → IsFirstSeat table (n + 1) 0 new
first_split table old new n first is =
    subst (IsFirstSeat table (n + 1) 0) (sym is) (record { seat = record { turn = first.seat.turn; free = first.seat.free }; number = first.number; own = first.own; splits_are = ap (λ k. k + 1) first.splits_are; joins_are = first.joins_are })

pub nothing_split : (old new : SeatData) → HasSeenNothing old → new ≡ with_known old (having_split old.known) → HasSeenNothing new
nothing_split old new nothing is = ap (λ (s : SeatData). s.known.seen) is ∙ nothing

pub first_joined : (table : TableId) (old new : SeatData) (known : Known Base CoreStep) (n k : ℕ) → IsFirstSeat table n k old → new ≡ with_known old (having_joined old.known known) → IsFirstSeat table n (k + 1) new
first_joined table old new known n k first is =
    subst (IsFirstSeat table n (k + 1)) (sym is) (record { seat = record { turn = first.seat.turn; free = first.seat.free }; number = first.number; own = first.own; splits_are = first.splits_are; joins_are = ap (λ j. j + 1) first.joins_are })

-- a seat that is split off at the beginning is a worker's
module _ (table : TableId) (p : ProblemData) (start old : SeatData) (n : ℕ) (first : IsFirstSeat table n 0 old) (nothing : HasSeenNothing old) (same : old.known.base ≡ start.known.base) (based : IsBased p start) where
  abbrev new_seat : SeatData
  new_seat = with_known old (split_off old.known)

  new_knows : new_seat.known.base ≡ Some based.base
  new_knows = same ∙ based.knows

  new_legal : IsLegal based.base old.known.seen
  new_legal = subst (λ (xs : Story). IsLegal based.base xs) (sym nothing) tt

  new_free : IsFree table p new_seat []
  new_free = record {
    seated = record { seat = record { turn = first.seat.turn; free = refl }; base = based.base; knows = new_knows; legal = new_legal };
    upon = see new_seat based.base (λ (b : Base) (state : State). b.problem ≡ p) new_knows based.problem;
    begins = see new_seat based.base (λ (b : Base) (state : State). IsPrefix [] state.log) new_knows (_, refl);
  }

  -- nothing is in flight at the beginning
  new_nothing : CarriesNothing new_seat
  new_nothing = see new_seat based.base (λ (b : Base) (state : State). CarriesAll new_seat.known.number state.flight []) new_knows
      (subst (λ (xs : Story). CarriesAll new_seat.known.number (state_after based.base xs).flight []) (sym nothing) (λ t w h. absurd (let e = h in cc)))

  pub split_rests : (seat : SeatData) (rested : List SeatData) → seat ≡ with_known old (split_off old.known) → rested ≡ seat ∷ [] → RestsSeated table p rested
  split_rests seat rested is rests = record { seat = seat; is = rests; free = subst (λ s. IsFree table p s []) (sym is) new_free; nothing = subst (λ s. CarriesNothing s) (sym is) new_nothing }

-- no step is of another than the workers
pub by_workers : (workers : ℕ) (story : Story) → told_by worker_of 0 story ≡ [] → ((n : ℕ) → workers < n → told_by worker_of n story ≡ []) → All (IsOfWorkers workers) story
by_workers workers story none others = λ k d lt.
    let x = get_or story k d in
    let among = Contains-get_or story k d lt in (
      elim (cases_lt 0 x.worker) [
        | inl some ↦ omega (arith, some)
        | inr zero_ ↦ absurd (All-contains (λ (y : CoreStep). y.worker ≢ 0) story x (none_by 0 story none) among (omega (arith, zero_)))
      ],
      elim (cases_lt workers x.worker) [
        | inl past ↦ absurd (All-contains (λ (y : CoreStep). y.worker ≢ x.worker) story x (none_by x.worker story (others x.worker past)) among refl)
        | inr within ↦ within
      ],
    )

-- a list that is gone through
pub next_of : {X : Type 0} (P : X → Type 0) (ys rest whole : List X) (x : X) → All P whole → ys ++ x ∷ rest ≡ whole → P x
next_of P ys rest whole x all is = All-contains P whole x all (subst (λ xs. Contains xs x) is (Contains-append_right ys (x ∷ rest) x (here x rest)))

pub rested_turn : (table : TableId) (rested : List SeatData) (seat : SeatData) → RestsIn table rested → rested ≡ seat ∷ [] → seat.turn ≡ table
rested_turn table rested seat r is = let same : seat ≡ r.0 = one seat r.0 (sym is ∙ r.1) in ap (λ (s : SeatData). s.turn) same ∙ r.2
  where
    one : {A : Type 0} (x y : A) → x ∷ [] ≡ y ∷ [] → x ≡ y
    one x y h = (cc)

-- the first seat of a table
pub first_new : (table : TableId) (s : SeatData) (base : Base) → s.turn ≡ table → s.known ≡ first_seat base → IsFirstSeat table 0 0 s
first_new table s base turn known = record {
  seat = record { turn = turn; free = ap (λ (k : Known Base CoreStep). k.holds) known };
  number = ap (λ (k : Known Base CoreStep). k.number) known;
  own = ap (λ (k : Known Base CoreStep). k.own) known;
  splits_are = ap (λ (k : Known Base CoreStep). k.splits) known;
  joins_are = ap (λ (k : Known Base CoreStep). k.joins) known;
}
