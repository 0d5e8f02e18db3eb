-- Environments joined slot by slot.
use Rattle.std.proofs.Common.{◌≡◌, refl, sym, ◌∙◌, ap, subst, ℕ, suc, ◌+◌, ◌<◌, ◌≤◌, Bool, true, false, List, [], ◌∷◌, ◌++◌, length, take, get_or, slice_get, slice_index_or, Some, arith, ◌⊎◌, inl, inr, Contains}
use Rattle.std.specs.List.Sorted.{IsStrictlyIncreasing}
use Rattle.std.specs.Bool.{IsTrue, OnTrue}
use Rattle.std.specs.List.{insert}
use Rattle.std.specs.List.{list_any}
use Rattle.std.proofs.lemmas.Map.Made.{is_member-Decides}
use Rattle.std.proofs.lemmas.List.Elements.{Contains-append_left, Contains-push, Contains-get_or}
use Rattle.std.proofs.lemmas.List.{length-map}
use Rattle.std.proofs.lemmas.List.Kept.{AllPairs-from_increasing}
use Rattle.std.proofs.lemmas.List.Quantifiers.{all_pairs_push}
use Rattle.std.proofs.lemmas.Option.{get_or_from_slice_get, slice_get-get_or, same_Some}
use Rattle.hs_scheme.proofs.Lists.{here, Contains-at, only}
use Rattle.hs_table.specs.Entries.{Env, EntryData, IsEnv}
use Rattle.hs_types.specs.Interned.{InternerData, env_of_id, RowData, entry_of, Grows, IsUnionEnv}
use Rattle.hs_types.specs.contracts.ids.EnvIdPartialEq.TheImpl.{eq-value}
use Rattle.hs_types.proofs.Numbers.{env_within, env_stays}
use Rattle.hs_table_laws.proofs.Places.{within_from, place_of, at_take}
use Rattle.hs_rules.specs.Order.{chosen_places, IsLess, IsNoGreater}
use Rattle.hs_rules.specs.Slots.{FilledData, Picked, none_left, pick, IsJoin}
use Rattle.hs_rules.specs.Joins.{PartialData, FillsBy, IsPlaced, ArePlaced, SeenAre, HasLesserPlaces, AreAscending, ComeBefore, AreAsLong, HaveSameBefore, IsRun, only_place, IsMade, IsMadeOf, IsAmongJoined, CanFill, AreJoined}
use Rattle.hs_rules.proofs.Lists.{read_other}
use Rattle.hs_rules.proofs.OrderLemmas.{less_no_greater, no_greater_same, no_greater_then, less_insert, less_inserted, less_before, less_taken, less_then, no_greater_insert, places_insert}
use Rattle.hs_rules.proofs.SetLemmas.{env_same}
use Rattle.hs_rules.proofs.SlotLemmas.{picked_insert, inserted_of, none_of, join_none, join_more}
use Rattle.std.proofs.lemmas.Bool.{cases_order}

-- one more is seen, and is in the list
pub seen_pushed : (seen more : List ℕ) (list pushed : List PartialData) (x : PartialData) → SeenAre seen list → ((n : ℕ) → Contains more n → Contains seen n ⊎ (n ≡ x.env)) → pushed ≡ list ++ x ∷ [] → SeenAre more pushed
seen_pushed seen more list pushed x h cases is env c = elim (cases env c) [
  | inl was ↦ let r = h env was in (r.0, subst (λ (ys : List PartialData). Contains ys r.0) (sym is) (Contains-append_left list (x ∷ []) r.0 r.1), r.2)
  | inr own ↦ (x, subst (λ (ys : List PartialData). Contains ys x) (sym is) (Contains-push list x), sym own)
]

-- one of the first of a list is one of the list
pub among_first : (n : ℕ) (list items : List PartialData) (env : ℕ) (r : Bool) → list ≡ items → OnTrue r ((x : PartialData) × Contains (take n list) x × (x.env ≡ env)) → OnTrue r ((x : PartialData) × Contains items x × (x.env ≡ env))
among_first n list items env true is (x, there, same) =
    let p = place_of (take n list) x there in
    (x, subst (λ (ys : List PartialData). Contains ys x) is (Contains-at list p.0 x (at_take n list p.0 x p.1).1), same)
among_first n list items env false is h = tt

-- one that was seen is in the list
pub seen_there : (seen : List ℕ) (list : List PartialData) (env : ℕ) (r : Bool) → SeenAre seen list → r ≡ list_any (eq-value.it env) seen → OnTrue r ((x : PartialData) × Contains list x × (x.env ≡ env))
seen_there seen list env true h is = h env ((is_member-Decides env_same seen env).0 (sym is))
seen_there seen list env false h is = tt

-- the environment is there, by no greater choice
abbrev pub IsThere : List PartialData → ℕ → List ℕ → Type 0
IsThere list env places = (x : PartialData) × Contains list x × (x.env ≡ env) × IsNoGreater (chosen_places x.args) places

pub pushed_there : (list pushed : List PartialData) (env : ℕ) (args : List (ℕ × ℕ)) (places : List ℕ) → chosen_places args ≡ places → (let x : PartialData = record { env = env; args = args } in pushed ≡ list ++ x ∷ [])
    → IsThere pushed env places
pushed_there list pushed env args places are is =
    let x : PartialData = record { env = env; args = args } in
    (x, subst (λ (ys : List PartialData). Contains ys x) (sym is) (Contains-push list x), refl, no_greater_same (chosen_places args) places are)

pub among_there : (list : List PartialData) (env : ℕ) (places : List ℕ) → ((x : PartialData) × Contains list x × (x.env ≡ env)) → ComeBefore list places → IsThere list env places
among_there list env places (x, there, is) before = (x, there, is, less_no_greater (chosen_places x.args) places (before x there))

pub pushed_ascends : (list pushed : List PartialData) (env : ℕ) (args : List (ℕ × ℕ)) (places : List ℕ) → chosen_places args ≡ places → (let x : PartialData = record { env = env; args = args } in pushed ≡ list ++ x ∷ [])
    → AreAscending list → ComeBefore list places → AreAscending pushed
pushed_ascends list pushed env args places are is up before =
    let x : PartialData = record { env = env; args = args } in
    subst (λ (ys : List PartialData). AreAscending ys) (sym is) (all_pairs_push HasLesserPlaces list x up
    (λ k d lt. subst (λ (ps : List ℕ). IsLess (chosen_places (get_or list k d).args) ps) (sym are) (before (get_or list k d) (Contains-get_or list k d lt))))

pub item_at : (partials : List PartialData) (index : ℕ) (item : PartialData) → index < length partials → item ≡ get_or partials index item → slice_get partials index ≡ Some item
item_at partials index item lt is = slice_get-get_or partials index item lt ∙ ap (λ (x : PartialData). Some x) (sym is)

-- of two that ascend the first has lesser places
pub lesser_first : (list : List PartialData) (i j : ℕ) (x y : PartialData) → AreAscending list → i < j → slice_get list i ≡ Some x → slice_get list j ≡ Some y → HasLesserPlaces x y
lesser_first list i j x y up lt first second =
    subst (λ (z : PartialData). HasLesserPlaces x z) (get_or_from_slice_get list j y x second)
    (subst (λ (z : PartialData). HasLesserPlaces z (get_or list j x)) (get_or_from_slice_get list i x x first) (up i j x lt (within_from list j y second)))

pub as_long : (x y : PartialData) → length x.args ≡ length y.args → length (chosen_places x.args) ≡ length (chosen_places y.args)
as_long x y same = length-map x.args (λ (a : ℕ × ℕ). a.1) ∙ (same ∙ sym (length-map y.args (λ (a : ℕ × ℕ). a.1)))

-- what is chosen from the environments so far comes before what is chosen, by the same candidate, from those that are left
abbrev pub ComeBeforeOf : List PartialData → List PartialData → ℕ → ℕ → ℕ → Type 0
ComeBeforeOf list run at place index = (x : PartialData) → Contains list x → (j : ℕ) (y : PartialData) → index ≤ j → slice_get run j ≡ Some y → IsLess (chosen_places x.args) (insert (chosen_places y.args) at place)

-- the places of what is made by one candidate
pub made_places : (I K : InternerData) (log : List EntryData) (from : PartialData) (arg at place : ℕ) (x : PartialData) → IsMade I K log from (only_place arg place) at x → chosen_places x.args ≡ insert (chosen_places from.args) at place
made_places I K log from arg at place x m = ap chosen_places m.args ∙ (places_insert from.args at arg m.place ∙ ap (λ (p : ℕ). insert (chosen_places from.args) at p) (only place m.place m.fills.among))

pub before_more : (I K : InternerData) (log : List EntryData) (old new run : List PartialData) (arg at place index : ℕ) (item : PartialData) → slice_get run index ≡ Some item → AreAscending run → AreAsLong run → ComeBeforeOf old run at place index
    → ((x : PartialData) → Contains new x → Contains old x ⊎ IsMade I K log item (only_place arg place) at x) → ComeBeforeOf new run at place (index + 1)
before_more I K log old new run arg at place index item here_is up long before only x there j y le is = elim (only x there) [
  | inl was ↦ before x was j y (omega (arith, le)) is
  | inr m ↦
      subst (λ (ps : List ℕ). IsLess ps (insert (chosen_places y.args) at place)) (sym (made_places I K log item arg at place x m))
      (less_insert (chosen_places item.args) (chosen_places y.args) at place (as_long item y (long item y (Contains-at run index item here_is) (Contains-at run j y is)))
      (lesser_first run index j item y up (omega (arith, le)) here_is is))
]

-- what is chosen by the candidates so far comes before what is chosen by those that are left
abbrev pub ComeBeforeFrom : List PartialData → List PartialData → ℕ → List ℕ → ℕ → Type 0
ComeBeforeFrom list run at items index = (x : PartialData) → Contains list x → (y : PartialData) → Contains run y → (k : ℕ) → index ≤ k → k < length items → IsLess (chosen_places x.args) (insert (chosen_places y.args) at (get_or items k 0))

pub before_next : (I K : InternerData) (log : List EntryData) (old new run : List PartialData) (arg at : ℕ) (items : List ℕ) (index : ℕ) → HaveSameBefore at run → IsStrictlyIncreasing items → index < length items → ComeBeforeFrom old run at items index
    → ((x : PartialData) → Contains new x → Contains old x ⊎ IsMadeOf I K log run (only_place arg (get_or items index 0)) at x) → ComeBeforeFrom new run at items (index + 1)
before_next I K log old new run arg at items index same rises within before only x there y among k le lt = elim (only x there) [
  | inl was ↦ before x was y among k (omega (arith, le)) lt
  | inr m ↦
      subst (λ (ps : List ℕ). IsLess ps (insert (chosen_places y.args) at (get_or items k 0))) (sym (made_places I K log m.from arg at (get_or items index 0) x m.made))
      (less_inserted (chosen_places m.from.args) (chosen_places y.args) at (get_or items index 0) (get_or items k 0) (same m.from y m.among among) (AllPairs-from_increasing items rises index k 0 (omega (arith, le)) lt))
]

-- what is chosen from the environments so far comes before what is chosen from those that are left
abbrev pub ComeBeforeRest : List PartialData → List PartialData → ℕ → ℕ → Type 0
ComeBeforeRest list partials at start = (x : PartialData) → Contains list x → (j : ℕ) (y : PartialData) → start ≤ j → slice_get partials j ≡ Some y → (place : ℕ) → IsLess (chosen_places x.args) (insert (chosen_places y.args) at place)

-- those behind a run have greater places before that of the slot
module _ (partials : List PartialData) (start at end : ℕ) (run : IsRun partials start at end) (up : AreAscending partials) (long : AreAsLong partials) where
  lesser_or_same : (i j : ℕ) (x y : PartialData) → i < j → slice_get partials i ≡ Some x → slice_get partials j ≡ Some y
      → IsLess (take at (chosen_places x.args)) (take at (chosen_places y.args)) ⊎ (take at (chosen_places x.args) ≡ take at (chosen_places y.args))
  lesser_or_same i j x y lt first second =
      less_taken at (chosen_places x.args) (chosen_places y.args) (as_long x y (long x y (Contains-at partials i x first) (Contains-at partials j y second))) (lesser_first partials i j x y up lt first second)

  pub behind_run : (x y : PartialData) (j : ℕ) → slice_get partials start ≡ Some x → end ≤ j → slice_get partials j ≡ Some y → IsLess (take at (chosen_places x.args)) (take at (chosen_places y.args))
  behind_run x y j first le second =
      let within : end < length partials = omega (arith, le, within_from partials j y second) in
      let z = get_or partials end x in
      let third : slice_get partials end ≡ Some z = slice_get-get_or partials end x within in
      elim (lesser_or_same start end x z run.more first third) [
        | inr same ↦ absurd (run.ends x z first third (sym same))
        | inl less ↦ elim (cases_order end j) [
          | inl is ↦ subst (λ (w : PartialData). IsLess (take at (chosen_places x.args)) (take at (chosen_places w.args))) (same_Some z y (sym third ∙ (ap (λ (k : ℕ). slice_get partials k) is ∙ second))) less
          | inr (inl before) ↦ elim (lesser_or_same end j z y before third second) [
            | inl more ↦ less_then (take at (chosen_places x.args)) (take at (chosen_places z.args)) (take at (chosen_places y.args)) less more
            | inr is ↦ subst (λ (ps : List ℕ). IsLess (take at (chosen_places x.args)) ps) is less
          ]
          | inr (inr behind) ↦ absurd (omega (arith, le, behind))
        ]
      ]

  pub before_rest : (I K : InternerData) (log : List EntryData) (old new items : List PartialData) (f : FilledData) (first : PartialData) → slice_get partials start ≡ Some first
      → ((x : PartialData) → Contains items x → Contains partials x × (take at (chosen_places x.args) ≡ take at (chosen_places first.args))) → ComeBeforeRest old partials at start
      → ((x : PartialData) → Contains new x → Contains old x ⊎ IsMadeOf I K log items f at x) → ComeBeforeRest new partials at end
  before_rest I K log old new items f first first_is among before only x there j y le is place = elim (only x there) [
    | inl was ↦ before x was j y (omega (arith, le, run.more)) is place
    | inr m ↦
        let places : chosen_places x.args ≡ insert (chosen_places m.from.args) at m.made.place = ap chosen_places m.made.args ∙ places_insert m.from.args at f.arg m.made.place in
        let a = among m.from m.among in
        subst (λ (ps : List ℕ). IsLess ps (insert (chosen_places y.args) at place)) (sym places)
        (less_before (chosen_places m.from.args) (chosen_places y.args) at m.made.place place (as_long m.from y (long m.from y a.0 (Contains-at partials j y is)))
        (subst (λ (ps : List ℕ). IsLess ps (take at (chosen_places y.args))) (sym a.1) (behind_run first y j first_is le is)))
  ]

-- one more candidate for a slot
module _ (I J K : InternerData) (log : List EntryData) (from : PartialData) (f : FilledData) (at : ℕ) (g : Grows I J) (h : Grows J K) (known : from.env < length I.envs) where
  pub made_stays : (x : PartialData) → IsMade I J log from f at x → IsMade I K log from f at x
  made_stays x m = record {
    place = m.place;
    entry = m.entry;
    fills = m.fills;
    args = m.args;
    within = env_within J K h x.env m.within;
    union = subst (λ (e : Env). IsUnionEnv (env_of_id I from.env) m.entry.env e) (sym (env_stays J K h x.env m.within)) m.union;
  }

  pub covered_stays : (place : ℕ) (entry : EntryData) (old new : List PartialData) → ((x : PartialData) → Contains old x → Contains new x) → IsAmongJoined I J from at place entry old → IsAmongJoined I K from at place entry new
  covered_stays place entry old new keeps c = record {
    item = c.item;
    there = keeps c.item c.there;
    within = env_within J K h c.item.env c.within;
    union = subst (λ (e : Env). IsUnionEnv (env_of_id I from.env) entry.env e) (sym (env_stays J K h c.item.env c.within)) c.union;
    least = c.least;
  }

  module _ (row : RowData) (place id : ℕ) (is_row : slice_get log place ≡ Some (entry_of J row)) (there : Contains f.places place) (within : id < length K.envs)
      (union : IsUnionEnv (env_of_id J from.env) (env_of_id J row.env) (env_of_id K id)) where
    union_here : IsUnionEnv (env_of_id I from.env) (env_of_id J row.env) (env_of_id K id)
    union_here = subst (λ (e : Env). IsUnionEnv e (env_of_id J row.env) (env_of_id K id)) (env_stays I J g from.env known) union

    pub made_next : (old mid new : List PartialData) → ((x : PartialData) → Contains mid x → Contains old x ⊎ IsMade I J log from f at x)
        → ((x : PartialData) → Contains new x → Contains mid x ⊎ (x ≡ record { env = id; args = insert from.args at (f.arg, place) }))
        → (x : PartialData) → Contains new x → Contains old x ⊎ IsMade I K log from f at x
    made_next old mid new before added x c = elim (added x c) [
      | inl was ↦ elim (before x was) [
        | inl first ↦ inl first
        | inr made ↦ inr (made_stays x made)
      ]
      | inr is ↦ inr (subst (λ (y : PartialData). IsMade I K log from f at y) (sym is) (record {
        place = place;
        entry = entry_of J row;
        fills = record { among = there; at = is_row };
        args = refl;
        within = within;
        union = union_here;
      }))
    ]

    pub covered_next : (new : List PartialData) → IsThere new id (insert (chosen_places from.args) at place) → (e : EntryData) → slice_get log place ≡ Some e → IsAmongJoined I K from at place e new
    covered_next new found e is = subst (λ (y : EntryData). IsAmongJoined I K from at place y new) (same_Some (entry_of J row) e (sym is_row ∙ is)) (record {
      item = found.0;
      there = found.1;
      within = subst (λ (n : ℕ). n < length K.envs) (sym found.2) within;
      union = subst (λ (n : ℕ). IsUnionEnv (env_of_id I from.env) (env_of_id J row.env) (env_of_id K n)) (sym found.2) union_here;
      least = found.3;
    })

-- the environments are of one length
pub same_length : (I J : InternerData) (log : List EntryData) (env place : ℕ) (row : RowData) → Grows I J → env < length I.envs → IsPlaced log (length (env_of_id I env)) place
    → slice_get log place ≡ Some (entry_of J row) → length (env_of_id J env) ≡ length (env_of_id J row.env)
same_length I J log env place row g known placed at =
    ap (λ (e : Env). length e) (env_stays I J g env known) ∙ (sym placed.env.long ∙ ap (λ (e : EntryData). length e.env) (same_Some placed.entry (entry_of J row) (sym placed.at ∙ at)))

-- a choice has a place for each slot
pub picked_long : (log : List EntryData) {fs : List FilledData} {args : List (ℕ × ℕ)} {es : List EntryData} → Picked (λ (f : FilledData). f.arg) (FillsBy log) fs args es → length (chosen_places args) ≡ length fs
picked_long log none_left = refl
picked_long log (pick c k) = ap suc (picked_long log k)

pub joined_long : (I : InternerData) (log : List EntryData) (n : ℕ) (own : Env) (fs : List FilledData) (whole : Bool) (found : List PartialData) → AreJoined I log n own fs whole found → (x : PartialData) → Contains found x → length x.args ≡ length fs
joined_long I log n own fs whole found joined x there = sym (length-map x.args (λ (z : ℕ × ℕ). z.1)) ∙ picked_long log (joined.sound x there).picked

pub joined_as_long : (I : InternerData) (log : List EntryData) (n : ℕ) (own : Env) (fs : List FilledData) (whole : Bool) (found : List PartialData) → AreJoined I log n own fs whole found → AreAsLong found
joined_as_long I log n own fs whole found joined x y cx cy =
    let a = picked_long log (joined.sound x cx).picked in
    let b = picked_long log (joined.sound y cy).picked in
    omega (arith, a, b, length-map x.args (λ (z : ℕ × ℕ). z.1), length-map y.args (λ (z : ℕ × ℕ). z.1))

-- one more slot
module _ (I K : InternerData) (log : List EntryData) (n : ℕ) (own : Env) (fs : List FilledData) (f : FilledData) (at : ℕ) (whole next : Bool) (old new : List PartialData) (joined : AreJoined I log n own fs whole old)
    (some : (x : PartialData) → Contains new x → IsMadeOf I K log old f at x) (was : IsTrue next → IsTrue whole)
    (all : IsTrue next → (from : PartialData) → Contains old from → (place : ℕ) (e : EntryData) → FillsBy log f place e → IsAmongJoined I K from at place e new) (up : AreAscending new) where
  next_join : (env : Env) (e : EntryData) (union : Env) (chosen : List EntryData) → IsUnionEnv env e.env union → IsJoin n own chosen env → IsJoin n own (insert chosen at e) union
  next_join env e union chosen u j =
      join_more n own env union chosen at e j (record { long = u.long ∙ j.is_env.long; sets = λ k. (u.sets k).ascends }) (λ k a. (u.sets k).exact a)

  pub joined_next : AreJoined K log n own (insert fs at f) next new
  joined_next = record {
    sound = λ x c.
        let m = some x c in
        let before = joined.sound m.from m.among in
        record {
          within = m.made.within;
          chosen = insert before.chosen at m.made.entry;
          picked = subst (λ (args : List (ℕ × ℕ)). Picked (λ (y : FilledData). y.arg) (FillsBy log) (insert fs at f) args (insert before.chosen at m.made.entry)) (sym m.made.args)
              (picked_insert (λ (y : FilledData). y.arg) (FillsBy log) at m.made.fills before.picked);
          join = next_join (env_of_id I m.from.env) m.made.entry (env_of_id K x.env) before.chosen m.made.union before.join;
        };
    all = λ is_whole args chosen p.
        let l = inserted_of (λ (y : FilledData). y.arg) (FillsBy log) fs f at args chosen p in
        let before = joined.all (was is_whole) l.before l.entries l.picked in
        let c = all is_whole before.item before.there l.place l.entry l.fills in
        record {
          item = c.item;
          there = c.there;
          join = subst (λ (es : List EntryData). IsJoin n own es (env_of_id K c.item.env)) (sym l.entries_are) (next_join (env_of_id I before.item.env) l.entry (env_of_id K c.item.env) l.entries c.union before.join);
          least =
              let these = chosen_places before.item.args in
              let long : length these ≡ length (chosen_places l.before) = picked_long log (joined.sound before.item before.there).picked ∙ sym (picked_long log l.picked) in
              let places : chosen_places args ≡ insert (chosen_places l.before) at l.place = ap chosen_places l.args_are ∙ places_insert l.before at f.arg l.place in
              subst (λ (ps : List ℕ). IsNoGreater (chosen_places c.item.args) ps) (sym places)
              (no_greater_then (chosen_places c.item.args) (insert these at l.place) (insert (chosen_places l.before) at l.place) c.least (no_greater_insert these (chosen_places l.before) at l.place long before.least));
        };
    ascending = up;
  }

-- a list of one ascends
pub one_ascending : (x : PartialData) → AreAscending (x ∷ [])
one_ascending x i j d lt below = absurd (omega (arith, lt, below))

-- a list of one
pub single : (xs : List ℕ) → length xs ≡ 1 → xs ≡ slice_index_or xs 0 0 ∷ []
single [] e = absurd (omega (arith, e))
single (x ∷ []) e = refl
single (x ∷ y ∷ xs) e = absurd (omega (arith, e))

-- no slots
pub joined_none : (I : InternerData) (log : List EntryData) (n own : ℕ) (found : List PartialData) (x : PartialData) → own < length I.envs → IsEnv n (env_of_id I own)
    → found ≡ x ∷ [] → x.env ≡ own → x.args ≡ [] → AreJoined I log n (env_of_id I own) [] true found
joined_none I log n own found x known is_env is env args = record {
  sound = λ y c.
      let e = only x y (subst (λ (ys : List PartialData). Contains ys y) is c) in
      let same : y.env ≡ own = ap (λ (z : PartialData). z.env) e ∙ env in
      let nothing : y.args ≡ [] = ap (λ (z : PartialData). z.args) e ∙ args in
      record {
        within = subst (λ (k : ℕ). k < length I.envs) (sym same) known;
        chosen = [];
        picked = subst (λ (bs : List (ℕ × ℕ)). Picked (λ (z : FilledData). z.arg) (FillsBy log) [] bs []) (sym nothing) none_left;
        join = subst (λ (k : ℕ). IsJoin n (env_of_id I own) [] (env_of_id I k)) (sym same) (join_none n (env_of_id I own) is_env);
      };
  all = λ is_whole bs chosen p.
      let m = none_of (λ (z : FilledData). z.arg) (FillsBy log) bs chosen p in
      record {
        item = x;
        there = subst (λ (ys : List PartialData). Contains ys x) (sym is) (here x []);
        join = subst (λ (es : List EntryData). IsJoin n (env_of_id I own) es (env_of_id I x.env)) (sym m.1)
            (subst (λ (k : ℕ). IsJoin n (env_of_id I own) [] (env_of_id I k)) (sym env) (join_none n (env_of_id I own) is_env));
        least = no_greater_same (chosen_places x.args) (chosen_places bs) (ap chosen_places args ∙ ap chosen_places (sym m.0));
      };
  ascending = subst (λ (ys : List PartialData). AreAscending ys) (sym is) (one_ascending x);
}

-- a place of a slot is in the log
pub place_within : (first log : List EntryData) (f : FilledData) (n k : ℕ) (items : List ℕ) → log ≡ first → items ≡ f.places → k < length items → ArePlaced first n f → get_or items k 0 < length log
place_within first log f n k items same is lt placed =
    let p = placed (get_or items k 0) (subst (λ (xs : List ℕ). Contains xs (get_or items k 0)) is (Contains-get_or items k 0 lt)) in
    subst (λ (l : List EntryData). get_or items k 0 < length l) (sym same) (within_from first (get_or items k 0) p.entry p.at)

pub place_placed : (first : List EntryData) (f : FilledData) (n k : ℕ) (items : List ℕ) → items ≡ f.places → k < length items → ArePlaced first n f → IsPlaced first n (get_or items k 0)
place_placed first f n k items is lt placed = placed (get_or items k 0) (subst (λ (xs : List ℕ). Contains xs (get_or items k 0)) is (Contains-get_or items k 0 lt))

pub record Reached (log : List EntryData) (items : List ℕ) (index place : ℕ) (e : EntryData) : Type 0 where
  pub k : ℕ
  pub lt : k < index
  pub at : slice_get log (get_or items k 0) ≡ Some e
  pub is : get_or items k 0 ≡ place

pub reached : (log : List EntryData) (f : FilledData) (items : List ℕ) (index place : ℕ) (e : EntryData) → items ≡ f.places → length items ≤ index → FillsBy log f place e → Reached log items index place e
reached log f items index place e is all h =
    let c = subst (λ (xs : List ℕ). Contains xs place) (sym is) h.among in
    let is = read_other items c.0 place 0 c.1 c.2 in
    record { k = c.0; lt = omega (arith, c.1, all); at = ap (λ n. slice_get log n) is ∙ h.at; is = is }

-- read in an earlier interner
module _ (I J K : InternerData) (log later : List EntryData) (from : PartialData) (f : FilledData) (at : ℕ) (g : Grows I J) (known : from.env < length I.envs) (same : later ≡ log) where
  pub made_earlier : (x : PartialData) → IsMade J K later from f at x → IsMade I K log from f at x
  made_earlier x m = record {
    place = m.place;
    entry = m.entry;
    fills = record { among = m.fills.among; at = subst (λ (l : List EntryData). slice_get l m.place ≡ Some m.entry) same m.fills.at };
    args = m.args;
    within = m.within;
    union = subst (λ (e : Env). IsUnionEnv e m.entry.env (env_of_id K x.env)) (env_stays I J g from.env known) m.union;
  }

  pub covered_earlier : (place : ℕ) (entry : EntryData) (found : List PartialData) → IsAmongJoined J K from at place entry found → IsAmongJoined I K from at place entry found
  covered_earlier place entry found c = record {
    item = c.item;
    there = c.there;
    within = c.within;
    union = subst (λ (e : Env). IsUnionEnv e entry.env (env_of_id K c.item.env)) (env_stays I J g from.env known) c.union;
    least = c.least;
  }

  -- what extending one environment requires
  pub placed_later : ArePlaced log (length (env_of_id I from.env)) f → ArePlaced later (length (env_of_id J from.env)) f
  placed_later h = subst (λ (l : List EntryData). ArePlaced l (length (env_of_id J from.env)) f) (sym same)
      (subst (λ (e : Env). ArePlaced log (length e) f) (sym (env_stays I J g from.env known)) h)

-- what extending environments that slots lead to requires
pub can_extend : (I : InternerData) (log later : List EntryData) (n : ℕ) (own : Env) (fs : List FilledData) (f : FilledData) (whole : Bool) (found : List PartialData) → later ≡ log → AreJoined I log n own fs whole found → ArePlaced log n f
    → CanFill I later found f
can_extend I log later n own fs f whole found same joined placed = λ x c.
    let s = joined.sound x c in
    (s.within, subst (λ (l : List EntryData). ArePlaced l (length (env_of_id I x.env)) f) (sym same) (subst (λ (k : ℕ). ArePlaced log k f) (sym s.join.is_env.long) placed))
