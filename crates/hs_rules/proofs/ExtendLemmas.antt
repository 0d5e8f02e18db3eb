-- What comes of one environment and the candidates for a slot, one after another.
use Rattle.std.proofs.Common.{◌≡◌, refl, sym, ◌∙◌, ap, subst, ℕ, ◌+◌, ◌<◌, Bool, true, false, not, List, [], ◌∷◌, ◌++◌, length, take, get_or, slice_get, Option, Some, None, IfSome, ◌⊎◌, inl, inr, Contains, arith}
use Rattle.std.specs.Bool.{OnFalse}
use Rattle.std.specs.List.Sorted.{IsStrictlyIncreasing}
use Rattle.std.proofs.lemmas.List.{get_or_push, get_or_append_left}
use Rattle.std.proofs.lemmas.List.Elements.{Contains-get_or}
use Rattle.std.proofs.lemmas.Option.{same_Some}
use borrow.Author.Count.{below_more}
use Rattle.hs_scheme.proofs.Lists.{Contains-at, only, push_cases}
use Rattle.hs_table_laws.proofs.Places.{within_from}
use Rattle.hs_table.specs.Entries.{Env, EntryData}
use Rattle.hs_types.specs.Interned.{InternerData, env_of_id, Grows}
use Rattle.hs_types.proofs.Numbers.{env_within, env_stays}
use Rattle.hs_replica.specs.Masks.{IsMask, IsUnionMask}
use Rattle.hs_replica.specs.Replica.{ReplicaData, KeepsLog}
use Rattle.hs_replica.proofs.MaskLemmas.{mask_grows}
use Rattle.hs_rules.specs.Slots.{FilledData}
use Rattle.hs_rules.specs.Joins.{PartialData, FillsBy, IsPlaced, ArePlaced, SeenAre, MetAre, MetForSlot, AreAscending, AreAsLong, HaveSameBefore, AreGathered, JoinsOne, only_place, IsMade, IsMadeOf, IsAmongJoined, CanFill, IsMaskAt, AreMasksOf, AreOwnMasks, IsUnited}
use Rattle.hs_rules.proofs.Lists.{taken_cases, first_there}
use Rattle.hs_rules.proofs.JoinLemmas.{ComeBeforeOf, ComeBeforeFrom, item_at, before_more, before_next, made_stays, covered_stays, made_earlier, covered_earlier}

-- what comes of the environments so far by one candidate is there
pub record SoFar (I J : InternerData) (log : List EntryData) (run : List PartialData) (f : FilledData) (at place index : ℕ) (start : List PartialData) (sk mk : List ℕ) (list : List PartialData) : Type 0 where
  pub seen : SeenAre sk list
  pub met : MetForSlot J log f mk list
  pub ascending : AreAscending list
  pub before : ComeBeforeOf list run at place index
  pub keeps : (x : PartialData) → Contains start x → Contains list x
  pub made : (x : PartialData) → Contains list x → Contains start x ⊎ IsMadeOf I J log run (only_place f.arg place) at x
  pub all : (from : PartialData) → Contains (take index run) from → (e : EntryData) → slice_get log place ≡ Some e → IsAmongJoined I J from at place e list

module _ (I J : InternerData) (log : List EntryData) (from : PartialData) (f : FilledData) (g : Grows I J) (known : from.env < length I.envs) (placed : ArePlaced log (length (env_of_id I from.env)) f) where
  long_at : (place : ℕ) (e : EntryData) → FillsBy log f place e → length e.env ≡ length (env_of_id J from.env)
  long_at place e fills =
      let p = placed place fills.among in
      ap (λ (x : EntryData). length x.env) (same_Some e p.entry (sym fills.at ∙ p.at)) ∙ (p.env.long ∙ ap (λ (E : Env). length E) (sym (env_stays I J g from.env known)))

  pub placed_now : (place : ℕ) → Contains f.places place → IsPlaced log (length (env_of_id J from.env)) place
  placed_now place among = subst (λ (n : ℕ). IsPlaced log n place) (ap (λ (E : Env). length E) (sym (env_stays I J g from.env known))) (placed place among)

  -- the masks that were met are for as many parameters as the environment has
  pub gathered_at : (sk mk : List ℕ) (list : List PartialData) (place : ℕ) → Contains f.places place → SeenAre sk list → MetForSlot J log f mk list → AreAscending list → AreGathered J (length (env_of_id J from.env)) sk mk list
  gathered_at sk mk list place among seen met up =
      let p = placed place among in
      let fills : FillsBy log f place p.entry = record { among = among; at = p.at } in
      record { known = seen; masked = subst (λ (n : ℕ). MetAre J n mk list) (long_at place p.entry fills) (met place p.entry fills); ascends = up }

  pub met_after : (K : InternerData) (sk mk : List ℕ) (list : List PartialData) → AreGathered K (length (env_of_id J from.env)) sk mk list → MetForSlot K log f mk list
  met_after K sk mk list gathered p e fills = subst (λ (n : ℕ). MetAre K n mk list) (sym (long_at p e fills)) gathered.masked

-- one environment more
pub so_far_next : (I J K : InternerData) (log : List EntryData) (run : List PartialData) (f : FilledData) (at place index : ℕ) (from : PartialData) (g : Grows I J) (h : Grows J K) → CanFill I log run f → AreAscending run → AreAsLong run
    → index < length run → from ≡ get_or run index from → (start old new : List PartialData) (sk mk sl ml : List ℕ) → SoFar I J log run f at place index start sk mk old
    → AreGathered K (length (env_of_id J from.env)) sl ml new → JoinsOne J K log from f.arg at place old new → SoFar I K log run f at place (index + 1) start sl ml new
so_far_next I J K log run f at place index from g h can up long lt is start old new sk mk sl ml so gathered joins =
    let here_is = item_at run index from lt is in
    let among = Contains-at run index from here_is in
    let known = can from among in
    let one = only_place f.arg place in
    record {
      seen = gathered.known;
      met = met_after I J log from f g known.0 known.1 K sl ml new gathered;
      ascending = gathered.ascends;
      before = before_more J K log old new run f.arg at place index from here_is up long so.before joins.made;
      keeps = λ x there. joins.keeps x (so.keeps x there);
      made = λ x there. elim (joins.made x there) [
        | inl was ↦ elim (so.made x was) [
          | inl first ↦ inl first
          | inr m ↦ inr (record { from = m.from; among = m.among; made = made_stays I J K log m.from one at g h (can m.from m.among).0 x m.made })
        ]
        | inr m ↦ inr (record { from = from; among = among; made = made_earlier I J K log log from one at g known.0 refl x m })
      ];
      all = λ y there e at_e. elim (taken_cases run index from y lt is there) [
        | inl was ↦ covered_stays I J K log y one at g h (can y (first_there index run y was)).0 place e old new joins.keeps (so.all y was e at_e)
        | inr same ↦ subst (λ (z : PartialData). IsAmongJoined I K z at place e new) (sym same) (covered_earlier I J K log log from one at g known.0 refl place e new (joins.there e at_e))
      ];
    }

pub so_far_then : (first loop mid last : ReplicaData) (run : List PartialData) (f : FilledData) (at number index : ℕ) (from : PartialData) (arg : ℕ) (items : List ℕ) → KeepsLog first loop → mid ≡ loop → KeepsLog mid last → arg ≡ f.arg → items ≡ f.places
    → CanFill first.ids first.log run f → AreAscending run → AreAsLong run → index < length run → from ≡ get_or run index from → (begin old new : List PartialData) (sk mk sl ml : List ℕ)
    → SoFar first.ids loop.ids first.log run f at (get_or f.places number 0) index begin sk mk old → AreGathered last.ids (length (env_of_id mid.ids from.env)) sl ml new → JoinsOne mid.ids last.ids mid.log from arg at (get_or items number 0) old new
    → SoFar first.ids last.ids first.log run f at (get_or f.places number 0) (index + 1) begin sl ml new
so_far_then first loop mid last run f at number index from arg items kept same kept_last arg_is items_is can up long lt is begin old new sk mk sl ml so gathered joins =
    let loop_joins = subst (λ (l : List EntryData). JoinsOne loop.ids last.ids l from arg at (get_or items number 0) old new) kept.log (subst (λ (r : ReplicaData). JoinsOne r.ids last.ids r.log from arg at (get_or items number 0) old new) same joins) in
    so_far_next first.ids loop.ids last.ids first.log run f at (get_or f.places number 0) index from kept.grows (subst (λ (r : ReplicaData). KeepsLog r last) same kept_last).grows can up long lt is begin old new sk mk sl ml so
    (subst (λ (r : ReplicaData). AreGathered last.ids (length (env_of_id r.ids from.env)) sl ml new) same gathered)
    (subst (λ (xs : List ℕ). JoinsOne loop.ids last.ids first.log from f.arg at (get_or xs number 0) old new) items_is (subst (λ (a : ℕ). JoinsOne loop.ids last.ids first.log from a at (get_or items number 0) old new) arg_is loop_joins))

-- what comes of the candidates so far is there
pub record CandidatesSoFar (I J : InternerData) (log : List EntryData) (run : List PartialData) (f : FilledData) (at index : ℕ) (start : List PartialData) (sk mk : List ℕ) (list : List PartialData) : Type 0 where
  pub seen : SeenAre sk list
  pub met : MetForSlot J log f mk list
  pub ascending : AreAscending list
  pub before : ComeBeforeFrom list run at f.places index
  pub keeps : (x : PartialData) → Contains start x → Contains list x
  pub made : (x : PartialData) → Contains list x → Contains start x ⊎ IsMadeOf I J log run f at x
  pub all : (k : ℕ) → k < index → (from : PartialData) → Contains run from → (e : EntryData) → slice_get log (get_or f.places k 0) ≡ Some e → IsAmongJoined I J from at (get_or f.places k 0) e list

-- made by one candidate of the slot
pub made_by : (I K : InternerData) (log : List EntryData) (from : PartialData) (f : FilledData) (at place : ℕ) (x : PartialData) → Contains f.places place → IsMade I K log from (only_place f.arg place) at x → IsMade I K log from f at x
made_by I K log from f at place x among m = record {
  place = m.place;
  entry = m.entry;
  fills = record { among = subst (λ (p : ℕ). Contains f.places p) (sym (only place m.place m.fills.among)) among; at = m.fills.at };
  args = m.args;
  within = m.within;
  union = m.union;
}

-- one candidate more
pub candidates_next : (I J K : InternerData) (log : List EntryData) (run : List PartialData) (f : FilledData) (at index : ℕ) (g : Grows I J) (h : Grows J K) → CanFill I log run f → HaveSameBefore at run → IsStrictlyIncreasing f.places → index < length f.places
    → (start old new : List PartialData) (sk mk sl ml : List ℕ) → CandidatesSoFar I J log run f at index start sk mk old
    → SeenAre sl new → MetForSlot K log f ml new → AreAscending new → ((x : PartialData) → Contains old x → Contains new x)
    → ((x : PartialData) → Contains new x → Contains old x ⊎ IsMadeOf J K log run (only_place f.arg (get_or f.places index 0)) at x)
    → ((from : PartialData) → Contains run from → (e : EntryData) → slice_get log (get_or f.places index 0) ≡ Some e → IsAmongJoined J K from at (get_or f.places index 0) e new)
    → CandidatesSoFar I K log run f at (index + 1) start sl ml new
candidates_next I J K log run f at index g h can same rises lt start old new sk mk sl ml so seen met up keeps only_new all_new =
    let place = get_or f.places index 0 in
    let among : Contains f.places place = Contains-get_or f.places index 0 lt in
    record {
      seen = seen;
      met = met;
      ascending = up;
      before = before_next J K log old new run f.arg at f.places index same rises lt so.before only_new;
      keeps = λ x there. keeps x (so.keeps x there);
      made = λ x there. elim (only_new x there) [
        | inl was ↦ elim (so.made x was) [
          | inl first ↦ inl first
          | inr m ↦ inr (record { from = m.from; among = m.among; made = made_stays I J K log m.from f at g h (can m.from m.among).0 x m.made })
        ]
        | inr m ↦ inr (record {
          from = m.from;
          among = m.among;
          made = made_by I K log m.from f at place x among (made_earlier I J K log log m.from (only_place f.arg place) at g (can m.from m.among).0 refl x m.made);
        })
      ];
      all = below_more (λ k. (from : PartialData) → Contains run from → (e : EntryData) → slice_get log (get_or f.places k 0) ≡ Some e → IsAmongJoined I K from at (get_or f.places k 0) e new) index
          (λ k below from there e is. covered_stays I J K log from f at g h (can from there).0 (get_or f.places k 0) e old new keeps (so.all k below from there e is))
          (λ from there e is. covered_earlier I J K log log from f at g (can from there).0 refl place e new (all_new from there e is));
    }

-- what comes of the candidate of this number, as of one of the slot
pub candidate_made : (first loop last : ReplicaData) (run : List PartialData) (f : FilledData) (at number : ℕ) → KeepsLog first loop → KeepsLog loop last → CanFill first.ids first.log run f → number < length f.places → (begin old new : List PartialData) (sk mk : List ℕ)
    → CandidatesSoFar first.ids loop.ids first.log run f at number begin sk mk old
    → ((x : PartialData) → Contains new x → Contains old x ⊎ IsMadeOf loop.ids last.ids loop.log run (only_place f.arg (get_or f.places number 0)) at x) → (x : PartialData) → Contains new x → Contains begin x ⊎ IsMadeOf first.ids last.ids first.log run f at x
candidate_made first loop last run f at number kept kept_last can lt begin old new sk mk so only_new x there = elim (only_new x there) [
  | inl was ↦ elim (so.made x was) [
    | inl early ↦ inl early
    | inr m ↦ inr (record { from = m.from; among = m.among; made = made_stays first.ids loop.ids last.ids first.log m.from f at kept.grows kept_last.grows (can m.from m.among).0 x m.made })
  ]
  | inr m ↦ inr (record {
    from = m.from;
    among = m.among;
    made = made_by first.ids last.ids first.log m.from f at (get_or f.places number 0) x (Contains-get_or f.places number 0 lt)
        (made_earlier first.ids loop.ids last.ids first.log loop.log m.from (only_place f.arg (get_or f.places number 0)) at kept.grows (can m.from m.among).0 kept.log x m.made);
  })
]

-- what comes of some of the environments, as of all
pub run_made : (first loop last : ReplicaData) (partials items : List PartialData) (f : FilledData) (at : ℕ) → KeepsLog first loop → KeepsLog loop last → CanFill first.ids first.log partials f → ((x : PartialData) → Contains items x → Contains partials x)
    → (old new : List PartialData) → ((x : PartialData) → Contains old x → IsMadeOf first.ids loop.ids first.log partials f at x) → ((x : PartialData) → Contains new x → Contains old x ⊎ IsMadeOf loop.ids last.ids loop.log items f at x)
    → (x : PartialData) → Contains new x → IsMadeOf first.ids last.ids first.log partials f at x
run_made first loop last partials items f at kept kept_last can some old new was only_new x there = elim (only_new x there) [
  | inl before ↦
      let m = was x before in
      record { from = m.from; among = m.among; made = made_stays first.ids loop.ids last.ids first.log m.from f at kept.grows kept_last.grows (can m.from m.among).0 x m.made }
  | inr m ↦
      let among = some m.from m.among in
      record { from = m.from; among = among; made = made_earlier first.ids loop.ids last.ids first.log loop.log m.from f at kept.grows (can m.from among).0 kept.log x m.made }
]

pub run_among : (first loop last : ReplicaData) (partials : List PartialData) (f : FilledData) (at : ℕ) → KeepsLog first loop → KeepsLog loop last → CanFill first.ids first.log partials f → (from : PartialData) → Contains partials from → (place : ℕ) (e : EntryData)
    → (old new : List PartialData) → ((x : PartialData) → Contains old x → Contains new x) → IsAmongJoined first.ids loop.ids from at place e old ⊎ IsAmongJoined loop.ids last.ids from at place e new → IsAmongJoined first.ids last.ids from at place e new
run_among first loop last partials f at kept kept_last can from there place e old new keeps h = elim h [
  | inl was ↦ covered_stays first.ids loop.ids last.ids first.log from f at kept.grows kept_last.grows (can from there).0 place e old new keeps was
  | inr now ↦ covered_earlier first.ids loop.ids last.ids first.log loop.log from f at kept.grows (can from there).0 kept.log place e new now
]

-- the mask of the union with a candidate
pub united_masks : (I J : InternerData) (g : Grows I J) (log : List EntryData) (env : ℕ) (f : FilledData) (masks : List ℕ) (number mask place : ℕ) (own : Option ℕ) → env < length I.envs → ArePlaced log (length (env_of_id I env)) f → AreMasksOf I log f masks
    → ((o : ℕ) → own ≡ Some o → IsMask I (length (env_of_id I env)) (env_of_id I env) o) → IsUnited own masks number mask → place ≡ get_or f.places number 0 → Contains f.places place
    → (e : EntryData) → slice_get log place ≡ Some e → IsUnionMask J (env_of_id J env) e.env mask
united_masks I J g log env f masks number mask place own known placed are has u is among e at =
    let m = are number u.within in
    let same : m.entry ≡ e = same_Some m.entry e (sym m.at ∙ (ap (λ (p : ℕ). slice_get log p) (sym is) ∙ at)) in
    let p = placed place among in
    let long : length e.env ≡ length (env_of_id I env) = ap (λ (x : EntryData). length x.env) (same_Some e p.entry (sym at ∙ p.at)) ∙ p.env.long in
    let other = subst (λ (x : EntryData). IsMask I (length x.env) x.env (get_or masks number 0)) same m.is in
    subst (λ (E : Env). IsUnionMask J E e.env mask) (sym (env_stays I J g env known)) (record {
      long = long;
      own = u.first;
      other = get_or masks number 0;
      of_own = mask_grows I J g (length (env_of_id I env)) u.first (env_of_id I env) (has u.first u.own_is);
      of_other = mask_grows I J g (length (env_of_id I env)) (get_or masks number 0) e.env (subst (λ (n : ℕ). IsMask I n e.env (get_or masks number 0)) long other);
      united = u.is;
    })

-- one more mask
pub one_mask_more : (I : InternerData) (log : List EntryData) (items masks more : List ℕ) (mask : ℕ) → ((k : ℕ) → k < length masks → IsMaskAt I log (get_or items k 0) (get_or masks k 0)) → more ≡ masks ++ mask ∷ [] → IsMaskAt I log (get_or items (length masks) 0) mask
    → (k : ℕ) → k < length masks + 1 → IsMaskAt I log (get_or items k 0) (get_or more k 0)
one_mask_more I log items masks more mask are is own =
    below_more (λ k. IsMaskAt I log (get_or items k 0) (get_or more k 0)) (length masks)
    (λ k lt. subst (λ (m : ℕ). IsMaskAt I log (get_or items k 0) m) (sym (ap (λ (xs : List ℕ). get_or xs k 0) is ∙ get_or_append_left masks (mask ∷ []) 0 k lt)) (are k lt))
    (subst (λ (m : ℕ). IsMaskAt I log (get_or items (length masks) 0) m) (sym (ap (λ (xs : List ℕ). get_or xs (length masks) 0) is ∙ get_or_push masks mask 0 (length masks) refl)) own)

-- what was met is there later
pub met_stays : (I K : InternerData) (g : Grows I K) (n : ℕ) (met : List ℕ) (old new : List PartialData) → ((x : PartialData) → Contains old x → Contains new x) → MetAre I n met old → MetAre K n met new
met_stays I K g n met old new keeps h mask c =
    let r = h mask c in
    (r.0, keeps r.0 r.1, env_within I K g r.0.env r.2, subst (λ (E : Env). IsMask K n E mask) (sym (env_stays I K g r.0.env r.2)) (mask_grows I K g n mask (env_of_id I r.0.env) r.3))

-- one more mask is met, that of an environment there
pub met_more : (K : InternerData) (n mask : ℕ) (met more : List ℕ) (list : List PartialData) (x : PartialData) → MetAre K n met list → ((m : ℕ) → Contains more m → Contains met m ⊎ (m ≡ mask)) → Contains list x → x.env < length K.envs → IsMask K n (env_of_id K x.env) mask → MetAre K n more list
met_more K n mask met more list x h cases there known is m c = elim (cases m c) [
  | inl was ↦ h m was
  | inr same ↦ (x, there, known, subst (λ (k : ℕ). IsMask K n (env_of_id K x.env) k) (sym same) is)
]

-- an insert that isn't new
pub old_where : (is_new there : Bool) (P : Type 0) → is_new ≡ not there → (there ≡ true → P) → OnFalse is_new P
old_where true there P e f = tt
old_where false true P e f = f refl
old_where false false P e f = absurd (cc)

pub if_united : (own : Option ℕ) (masks : List ℕ) (number : ℕ) (mask : Option ℕ) (P : ℕ → Type 0) → IfSome mask (IsUnited own masks number) → ((m : ℕ) → IsUnited own masks number m → P m) → IfSome mask P
if_united own masks number (Some m) P h f = f m h
if_united own masks number None P h f = tt

pub masks_stay : (I J : InternerData) (g : Grows I J) (log : List EntryData) (f : FilledData) (masks : List ℕ) → AreMasksOf I log f masks → AreMasksOf J log f masks
masks_stay I J g log f masks h k lt =
    let m = h k lt in
    record { entry = m.entry; at = m.at; is = mask_grows I J g (length m.entry.env) (get_or masks k 0) m.entry.env m.is }

-- the masks of environments
pub own_stay : (I J : InternerData) (g : Grows I J) (list : List PartialData) (owns : List (Option ℕ)) → ((x : PartialData) → Contains list x → x.env < length I.envs) → AreOwnMasks I list owns → AreOwnMasks J list owns
own_stay I J g list owns known h k x mask at is =
    let E = env_of_id I x.env in
    subst (λ (F : Env). IsMask J (length F) F mask) (sym (env_stays I J g x.env (known x (Contains-at list k x at)))) (mask_grows I J g (length E) mask E (h k x mask at is))

pub own_none : (I : InternerData) (list : List PartialData) (owns : List (Option ℕ)) → owns ≡ [] → AreOwnMasks I list owns
own_none I list owns none k x mask at is = absurd (let lt = within_from [] k (Some mask) (subst (λ (os : List (Option ℕ)). slice_get os k ≡ Some (Some mask)) none is) in omega (arith, lt))

-- one more, where the last may have none
pub own_more : (I : InternerData) (list : List PartialData) (owns more : List (Option ℕ)) (last : PartialData) (own : Option ℕ) → AreOwnMasks I list owns → more ≡ owns ++ own ∷ [] → slice_get list (length owns) ≡ Some last
    → IfSome own (IsMask I (length (env_of_id I last.env)) (env_of_id I last.env)) → AreOwnMasks I list more
own_more I list owns more last own h grown there told k x mask at is = elim (push_cases owns own (Some mask) k (subst (λ (os : List (Option ℕ)). slice_get os k ≡ Some (Some mask)) grown is)) [
  | inl was ↦ h k x mask at was
  | inr (here, same) ↦
      let x_is = same_Some last x (sym there ∙ (ap (λ (i : ℕ). slice_get list i) (sym here) ∙ at)) in
      subst (λ (y : PartialData). IsMask I (length (env_of_id I y.env)) (env_of_id I y.env) mask) x_is
      (subst (λ (o : Option ℕ). IfSome o (IsMask I (length (env_of_id I last.env)) (env_of_id I last.env))) same told)
]

-- that of one environment
pub own_at : (I : InternerData) (list : List PartialData) (owns : List (Option ℕ)) (k : ℕ) (x : PartialData) (own : Option ℕ) → AreOwnMasks I list owns → slice_get list k ≡ Some x → IfSome own (λ mask. slice_get owns k ≡ Some (Some mask))
    → (mask : ℕ) → own ≡ Some mask → IsMask I (length (env_of_id I x.env)) (env_of_id I x.env) mask
own_at I list owns k x own h at told mask is = h k x mask at (subst (λ (o : Option ℕ). IfSome o (λ m. slice_get owns k ≡ Some (Some m))) is told)
