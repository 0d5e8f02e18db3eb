-- Entries that are published, one after another.
use Rattle.std.proofs.Common.{◌≡◌, sym, ◌∙◌, ap, subst, ℕ, ◌+◌, ◌-◌, ◌<◌, List, [], ◌∷◌, ◌++◌, length, map, get_or, take, slice_get, Some, arith, Contains, inl, inr}
use Rattle.std.proofs.lemmas.List.{append_assoc, append-nil, get_or_default, length-append, length-map, length-take-le, map-append}
use Rattle.std.proofs.lemmas.List.Elements.{Contains-append_cases}
use Rattle.hs_scheme.proofs.Lists.{Contains-at}
use Rattle.hs_table.specs.Entries.{EntryData}
use Rattle.hs_table.specs.Follows.{FollowsBy}
use Rattle.hs_table_laws.proofs.Growing.{by_append}
use Rattle.hs_table_laws.proofs.Members.{taken_next}
use Rattle.hs_types.specs.Interned.{InternerData, IsRow, entry_of}
use Rattle.hs_rules.specs.Conclusions.{DeducedData}
use Rattle.hs_rules.proofs.Lists.{along}
use Rattle.hs_history.specs.Story.{Base, Deduction, adds}
use Rattle.hs_history.specs.CoreStep.{State, Holds, after}
use Rattle.hs_history.proofs.Histories.{state_push}
use Rattle.hs_core.specs.Core.{CoreData, state_of, log_of, stepped, deduction_of}
use Rattle.hs_rank.specs.Ordering.{entries_of, picked}
use Rattle.hs_rank.proofs.Sorted.{nth, nth_there, ascending_distinct}
use Rattle.hs_canonical.specs.Publishing.{HasPublished, CanPublish}

-- room was made, and nothing else
abbrev pub Roomier : CoreData → CoreData → Type 0
Roomier a b = b ≡ record { base = a.base; ids = a.ids; story = a.story; spare = b.spare }

module _ (old mid new : CoreData) (worker ticket : ℕ) (d : DeducedData) (room : Roomier old mid) (holds : Holds (state_of old) worker ticket) where
  abbrev given : Deduction
  given = deduction_of mid.ids d

  log_is : log_of mid ≡ log_of old
  log_is = ap (λ (x : CoreData). log_of x) room

  ids_is : mid.ids ≡ old.ids
  ids_is = ap (λ (x : CoreData). x.ids) room

  base_is : mid.base ≡ old.base
  base_is = ap (λ (x : CoreData). x.base) room

  pub added : new ≡ stepped mid worker (adds ticket given) (mid.spare - 1) → HasPublished worker ticket old (d ∷ []) new
  added step =
      let t : state_of new ≡ after (state_of mid) (record { worker = worker; action = adds ticket given }) = ap state_of step ∙ state_push mid.base mid.story (record { worker = worker; action = adds ticket given }) in
      record {
        base = ap (λ (c : CoreData). c.base) step ∙ base_is;
        ids = ap (λ (c : CoreData). c.ids) step ∙ ids_is;
        holds = subst (λ (u : State). Holds u worker ticket) (sym t) (subst (λ (x : CoreData). Holds (state_of x) worker ticket) (sym room) holds);
        log = ap (λ (u : State). u.log) t ∙ (λ i. log_is i ++ entry_of (ids_is i) d.row ∷ []);
        supports = ap (λ (u : State). u.supports) t ∙ (λ i. (state_of (room i)).supports ++ d.support ∷ []);
      }

pub published_none : (worker ticket : ℕ) (c : CoreData) → Holds (state_of c) worker ticket → HasPublished worker ticket c [] c
published_none worker ticket c holds = record { base = λ i. c.base; ids = λ i. c.ids; holds = holds; log = sym (append-nil (log_of c)); supports = sym (append-nil (state_of c).supports) }

pub published_then : (worker ticket : ℕ) (a b c : CoreData) (xs ys : List DeducedData) → HasPublished worker ticket a xs b → HasPublished worker ticket b ys c → HasPublished worker ticket a (xs ++ ys) c
published_then worker ticket a b c xs ys f g = record {
  base = g.base ∙ f.base;
  ids = g.ids ∙ f.ids;
  holds = g.holds;
  log = g.log ∙ ((λ i. f.log i ++ entries_of (f.ids i) ys) ∙ (append_assoc (log_of a) (entries_of a.ids xs) (entries_of a.ids ys) ∙ ap (λ es. log_of a ++ es) (sym (map-append (λ (d : DeducedData). entry_of a.ids d.row) xs ys))));
  supports =
      g.supports
      ∙ ((λ i. f.supports i ++ map (λ (d : DeducedData). d.support) ys)
      ∙ (append_assoc (state_of a).supports (map (λ (d : DeducedData). d.support) xs) (map (λ (d : DeducedData). d.support) ys) ∙ ap (λ ss. (state_of a).supports ++ ss) (sym (map-append (λ (d : DeducedData). d.support) xs ys))));
}

-- the next one of a round
module _ (worker ticket : ℕ) (a b : CoreData) (found : List DeducedData) (places : List ℕ) (can : CanPublish a found places) (n : ℕ) (lt : n < length places) (was : HasPublished worker ticket a (picked found (take n places)) b) where
  abbrev p : ℕ
  p = get_or places n 0

  abbrev d : DeducedData
  d = nth found p

  pub next_within : p < length found
  next_within = can.order.within n 0 lt

  pub next_at : slice_get found p ≡ Some d
  next_at = nth_there found p next_within

  among : Contains found d
  among = Contains-at found p d next_at

  pub next_row : IsRow b.ids d.row
  next_row = subst (λ (I : InternerData). IsRow I d.row) (sym was.ids) (can.fresh d among).deduced.row

  pub next_follows : FollowsBy b.base.problem (log_of b) d.support (entry_of b.ids d.row)
  next_follows =
      along (λ i. FollowsBy (sym was.base i).problem (sym was.log i) d.support (entry_of (sym was.ids i) d.row))
      (by_append a.base.problem (log_of a) (entries_of a.ids (picked found (take n places))) d.support (entry_of a.ids d.row) (can.fresh d among).deduced.follows)

  not_before : Contains (entries_of a.ids (picked found (take n places))) (entry_of a.ids d.row) → ⊥
  not_before c = ascending_distinct a.ids found places can.order n lt c

  pub next_new : Contains (log_of b) (entry_of b.ids d.row) → ⊥
  next_new c =
      let there : Contains (log_of a ++ entries_of a.ids (picked found (take n places))) (entry_of a.ids d.row) = along (λ i. Contains (was.log i) (entry_of (was.ids i) d.row)) c in
      elim (Contains-append_cases (log_of a) (entries_of a.ids (picked found (take n places))) (entry_of a.ids d.row) there) [
        | inl old ↦ (can.fresh d among).new old
        | inr before ↦ not_before before
      ]

  pub next_fits : length (log_of b) < b.base.budget
  next_fits =
      omega (
        arith,
        can.room,
        lt,
        ap (λ (x : Base). x.budget) was.base,
        ap (λ (es : List EntryData). length es) was.log,
        length-append (log_of a) (entries_of a.ids (picked found (take n places))),
        length-map (picked found (take n places)) (λ (x : DeducedData). entry_of a.ids x.row),
        length-map (take n places) (nth found),
        length-take-le n places (omega (arith, lt)),
      )

  pub next_published : (c : CoreData) → HasPublished worker ticket b (d ∷ []) c → HasPublished worker ticket a (picked found (take (n + 1) places)) c
  next_published c h =
      subst (λ (ds : List DeducedData). HasPublished worker ticket a ds c) (sym (ap (picked found) (taken_next places n p lt (get_or_default places n 0 p lt)) ∙ map-append (nth found) (take n places) (p ∷ [])))
      (published_then worker ticket a b c (picked found (take n places)) (d ∷ []) was h)
