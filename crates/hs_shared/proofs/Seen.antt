-- What a seat has seen is still so in the core that it finds.
use Rattle.std.proofs.Common.{◌≡◌, ◌≢◌, refl, sym, ◌∙◌, ap, subst, ℕ, eqb, eq-eqb, Bool, true, false, cond, List, Option, Some, [], ◌∷◌, ◌++◌, All, append_assoc, inl, inr}
use Rattle.std.proofs.lemmas.Bool.{false≢true}
use Rattle.std.specs.Option.{IfSome}
use Rattle.std.proofs.lemmas.List.{append-nil, append_cancel_left}
use Rattle.std.proofs.lemmas.List.Elements.{All-nil, All-cons, filter-append}
use mathlib.Core.List.{IsPrefix}
use Rattle.hs_table.specs.Entries.{EntryData}
use Rattle.hs_table.specs.Follows.{Support, FollowsBy}
use Rattle.hs_table_laws.proofs.Growing.{by_append}
use Rattle.hs_history.specs.Story.{Base, CoreStep, Story}
use Rattle.hs_history.specs.CoreStep.{State, Holds, CanFinish, IsClosedWork}
use Rattle.hs_history.specs.History.{state_after, IsLegal}
use Rattle.hs_history.proofs.Histories.{legal_front, grown, holds_after, tickets_after, closed_after}
use Rattle.hs_history.specs.CoreStep.{opening}
use Rattle.hs_core.specs.Core.{CoreData, state_of, log_of}
use Rattle.hs_turn.specs.Story.{told_by}
use Rattle.hs_shared.specs.Seats.{SeatData, worker_of, Sees}
use Rattle.hs_shared.specs.Calls.{Finds}

not_first : (b : Bool) (x : CoreStep) (xs : Story) → cond b (x ∷ xs) xs ≡ [] → (b ≡ false) × (xs ≡ [])
not_first true x xs none = absurd (cc none)
not_first false x xs none = (refl, none)

-- what a seat sees, upon its base
pub see : (s : SeatData) (base : Base) (P : Base → State → Type 0) → s.known.base ≡ Some base → P base (state_after base s.known.seen) → Sees s P
see s base P knows h = let Q : Option Base → Type 0 = λ o. IfSome o (λ b. P b (state_after b s.known.seen)) in subst Q (sym knows) h

pub seen : (s : SeatData) (base : Base) (P : Base → State → Type 0) → s.known.base ≡ Some base → Sees s P → P base (state_after base s.known.seen)
seen s base P knows h = let Q : Option Base → Type 0 = λ o. IfSome o (λ b. P b (state_after b s.known.seen)) in subst Q knows h

pub prefix_trans : (a b c : List EntryData) → IsPrefix a b → IsPrefix b c → IsPrefix a c
prefix_trans a b c p q = (p.0 ++ q.0, sym (append_assoc a p.0 q.0) ∙ ap (λ xs. xs ++ q.0) p.1 ∙ q.1)

-- no step under the number is among these
pub none_by : (n : ℕ) (more : Story) → told_by worker_of n more ≡ [] → All (λ (x : CoreStep). x.worker ≢ n) more
none_by n [] none = All-nil (λ (x : CoreStep). x.worker ≢ n)
none_by n (x ∷ more) none =
    let front = not_first (eqb x.worker n) x (told_by worker_of n more) none in
    All-cons (λ (x : CoreStep). x.worker ≢ n) x more (λ same. false≢true (sym front.0 ∙ eq-eqb x.worker n same)) (none_by n more front.1)

module _ (s : SeatData) (core : CoreData) (f : Finds s core) where
  -- what the seat sees, upon the base of the core
  pub sees : (P : Base → State → Type 0) → Sees s P → P core.base (state_after core.base s.known.seen)
  sees P h = let Q : _ = λ o. IfSome o (λ base. P base (state_after base s.known.seen)) in subst Q f.base h

  pub legal_seen : IsLegal core.base s.known.seen
  legal_seen = legal_front core.base (opening core.base) s.known.seen f.begins.0 (subst (IsLegal core.base) (sym f.begins.1) f.know_core.legal)

  later : state_after core.base (s.known.seen ++ f.begins.0) ≡ state_of core
  later = ap (state_after core.base) f.begins.1

  pub log_begins : IsPrefix (state_after core.base s.known.seen).log (log_of core)
  log_begins = let g = grown core.base s.known.seen f.begins.0 in (g.entries, sym g.log ∙ ap (λ (x : State). x.log) later)

  pub replica_begins : (log : List EntryData) → Sees s (λ base state. IsPrefix log state.log) → IsPrefix log (log_of core)
  replica_begins log h =
      let p = sees (λ base state. IsPrefix log state.log) h in
      let q = log_begins in
      (p.0 ++ q.0, sym (append_assoc log p.0 q.0) ∙ ap (λ xs. xs ++ q.0) p.1 ∙ q.1)

  pub follows : (log : List EntryData) (t : Support) (e : EntryData) → Sees s (λ base state. IsPrefix log state.log) → Sees s (λ base state. FollowsBy base.problem log t e)
      → FollowsBy core.base.problem (log_of core) t e
  follows log t e begins h =
      let p = replica_begins log begins in
      subst (λ xs. FollowsBy core.base.problem xs t e) p.1 (by_append core.base.problem log p.0 t e (sees (λ base state. FollowsBy base.problem log t e) h))

  -- the rest of the story is of others
  pub others : All (λ (x : CoreStep). x.worker ≢ s.known.number) f.begins.0
  others =
      let n = s.known.number in
      let split : told_by worker_of n s.known.seen ++ told_by worker_of n f.begins.0 ≡ told_by worker_of n s.known.seen ++ [] =
      sym (filter-append (λ (x : CoreStep). eqb x.worker n) s.known.seen f.begins.0) ∙ ap (told_by worker_of n) f.begins.1 ∙ f.own ∙ sym f.seen_own ∙ sym (append-nil (told_by worker_of n s.known.seen)) in
      none_by n f.begins.0 (append_cancel_left (told_by worker_of n s.known.seen) _ _ split)

  pub still_holds : (ticket : ℕ) → Sees s (λ base state. Holds state s.known.number ticket) → Holds (state_of core) s.known.number ticket
  still_holds ticket h =
      let t = sees (λ base state. Holds state s.known.number ticket) h in
      (t.0, ap (λ (x : State). x.flight ticket) (sym later) ∙ tickets_after core.base s.known.seen f.begins.0 s.known.number ticket t.0 (subst (IsLegal core.base) (sym f.begins.1) f.know_core.legal) others t.1)

  pub may_finish : (ticket : ℕ) → Sees s (λ base state. CanFinish base state s.known.number ticket) → CanFinish core.base (state_of core) s.known.number ticket
  may_finish ticket h =
      let t = sees (λ base state. CanFinish base state s.known.number ticket) h in
      let is_work = (holds_after core.base s.known.seen legal_seen).sound.real t.work (inr (inl (ticket, s.known.number, t.holds))) in
      let closed = closed_after core.base s.known.seen f.begins.0 t.work is_work t.closed in
      record {
        work = t.work;
        holds = ap (λ (x : State). x.flight ticket) (sym later) ∙ tickets_after core.base s.known.seen f.begins.0 s.known.number ticket t.work (subst (IsLegal core.base) (sym f.begins.1) f.know_core.legal) others t.holds;
        closed = subst (λ (x : State). IsClosedWork core.base.problem x.log t.work) later closed;
      }
