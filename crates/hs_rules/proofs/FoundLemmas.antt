-- What the types of a head lead to.
use Rattle.std.proofs.Common.{◌≡◌, ◌≢◌, refl, sym, ◌∙◌, ap, subst, ℕ, zero, suc, ◌+◌, ◌-◌, ◌<◌, Bool, List, [], ◌∷◌, ◌++◌, length, map, set, take, drop, get_or, slice_get, Option, None, Some, MatchOption, arith, All, AllPairs, Contains, ◌≤◌, ◌⊎◌, inl, inr}
use Rattle.std.specs.Bool.{IsTrue}
use Rattle.std.specs.List.Sorted.{IsStrictlyIncreasing}
use Rattle.std.proofs.lemmas.Bool.{cases_eq, cases_order}
use Rattle.std.proofs.lemmas.List.{map-append, take-map, take-append-drop, take_rest, drop_all, drop-append-le, length-map, length-append, length-set, get_or-set_same, get_or-set_other}
use Rattle.std.proofs.Math.Seq.{map-set_same, take-add}
use Rattle.std.proofs.lemmas.List.Elements.{Contains-push, Contains-append_left, Contains-append_right, Contains-append_cases, All-contains}
use Rattle.std.proofs.lemmas.List.Quantifiers.{all_pairs_push}
use Rattle.std.proofs.lemmas.Option.{get_or_from_slice_get, slice_get-get_or, slice_get_within, same_Some}
use Rattle.hs_scheme.proofs.Lists.{none_in, here, later, uncons, Contains-at}
use Rattle.hs_table.specs.declared.support.HeadBy.{HeadBy}
use Rattle.hs_table.specs.Entries.{Env, EntryData, IsEnv}
use Rattle.hs_table.specs.Follows.{Support, head_premise, premises}
use Rattle.hs_table_laws.proofs.Places.{at_take}
use Rattle.hs_table_laws.proofs.Sets.{envs_same}
use Rattle.hs_table_laws.proofs.Members.{from_map, into_map, pushed_cases}
use Rattle.hs_types.specs.Interned.{InternerData, set_of_id, env_of_id, RowData, Grows}
use Rattle.hs_types.proofs.Numbers.{env_within, env_stays, set_within, set_stays, type_within}
use Rattle.hs_rules.specs.Order.{chosen_places, IsNoGreater}
use Rattle.hs_rules.specs.Conclusions.{DeducedData}
use Rattle.hs_rules.specs.Slots.{SlotData, slots, FixedData, FilledData, IsCandidate, Picked, none_left, pick, Concludes}
use Rattle.hs_rules.specs.Filling.{fixed_of, IsFilled, AreFilled}
use Rattle.hs_rules.specs.Joins.{PartialData, FillsBy, ArePlaced, AreJoined}
use Rattle.hs_rules.specs.Found.{SearchData, HeadData, HasKnownNumbers, IsAlike, HaveEnvs, RowsAre, HasRowAt, HasNoGreater, Lowers, IsRowOf, HasRow, HeadLeadsTo, IsDeducedBy, HasEnvFound}
use Rattle.hs_rules.specs.declared.joining.TheConstants.{FEW}
use Rattle.hs_rules.proofs.Lists.{taken_cases}
use Rattle.hs_rules.proofs.OrderLemmas.{no_greater_itself, no_greater_same, no_greater_then, no_greater_behind}
use Rattle.hs_rules.proofs.SlotLemmas.{slot_of}

abbrev pub rows_of : List DeducedData → List RowData
rows_of found = map (λ (d : DeducedData). d.row) found

-- the row is that of something found
pub row_there : (found : List DeducedData) (row : RowData) → Contains (rows_of found) row → (d : DeducedData) × Contains found d × (d.row ≡ row)
row_there found row c = let i = from_map (λ (d : DeducedData). d.row) found row c in (i.item, i.there, sym i.is)

-- a row behind the first few is that of something found
pub row_among : (rows : List RowData) (found : List DeducedData) (row : RowData) → RowsAre rows found → Contains rows row → Contains (rows_of found) row
row_among rows found row h c =
    subst (λ (rs : List RowData). Contains rs row) (take-append-drop FEW (rows_of found))
    (Contains-append_right (take FEW (rows_of found)) (drop FEW (rows_of found)) row (subst (λ (rs : List RowData). Contains rs row) h.same c))

-- a row that isn't among those so far and isn't the next one
pub row_nowhere : (found : List DeducedData) (k : ℕ) (d : DeducedData) (row : RowData) → k < length found → d ≡ get_or found k d → (Contains (rows_of (take k found)) row → ⊥) → (d.row ≡ row → ⊥)
    → Contains (rows_of (take (k + 1) found)) row → ⊥
row_nowhere found k d row lt is none differs c =
    let r = row_there (take (k + 1) found) row c in
    elim (taken_cases found k d r.0 lt is r.1) [
      | inl was ↦ none (subst (λ (z : RowData). Contains (rows_of (take k found)) z) r.2 (into_map (λ (x : DeducedData). x.row) (take k found) r.0 was))
      | inr e ↦ differs (sym (ap (λ (x : DeducedData). x.row) e) ∙ r.2)
    ]

-- what is read at a place
pub found_at : (found : List DeducedData) (k : ℕ) (d : DeducedData) (row : RowData) → k < length found → d ≡ get_or found k d → d.row ≡ row → HasRowAt found k row
found_at found k d row lt is e = record { item = d; at = slice_get-get_or found k d lt ∙ ap (λ (x : DeducedData). Some x) (sym is); is = e }

-- what stands at a place of the first few stands there
pub first_at : (n : ℕ) (list found : List DeducedData) (place : ℕ) (row : RowData) → list ≡ found → HasRowAt (take n list) place row → HasRowAt found place row
first_at n list found place row is h = record { item = h.item; at = ap (λ (ds : List DeducedData). slice_get ds place) (sym is) ∙ (at_take n list place h.item h.at).1; is = h.is }

-- what stands behind the first few
pub behind_at : (rows : List RowData) (found : List DeducedData) (k : ℕ) (row : RowData) → RowsAre rows found → slice_get rows k ≡ Some row → HasRowAt found (FEW + k) row
behind_at rows found k row h at =
    let there : slice_get (drop FEW (rows_of found)) k ≡ Some row = ap (λ (rs : List RowData). slice_get rs k) (sym h.same) ∙ at in
    let m = mapped found (FEW + k) row (read_behind FEW (rows_of found) k ∙ there) in
    record { item = m.0; at = m.1; is = m.2 }
  where
    read_behind : (n : ℕ) (rs : List RowData) (i : ℕ) → slice_get rs (n + i) ≡ slice_get (drop n rs) i
    read_behind zero rs i = let e : 0 + i ≡ i = omega arith in ap (λ (k : ℕ). slice_get rs k) e
    read_behind (suc n) [] i = refl
    read_behind (suc n) (r ∷ rs) i = let e : suc n + i ≡ suc (n + i) = omega arith in ap (λ (k : ℕ). slice_get (r ∷ rs) k) e ∙ read_behind n rs i

    mapped : (ds : List DeducedData) (n : ℕ) (r : RowData) → slice_get (rows_of ds) n ≡ Some r → (d : DeducedData) × (slice_get ds n ≡ Some d) × (d.row ≡ r)
    mapped [] n r e = absurd (let f : None ≡ Some r = e in cc)
    mapped (d ∷ ds) zero r e = (d, refl, same_Some d.row r e)
    mapped (d ∷ ds) (suc n) r e = mapped ds n r e

pub match_none : {X : Type 0} (o : Option X) (P Q : Type 0) (S : X → Type 0) → (P → Q) → MatchOption o P S → MatchOption o Q S
match_none None P Q S f h = f h
match_none (Some x) P Q S f h = h

-- a row that is neither among the first few nor behind them
pub row_absent : (rows : List RowData) (found few : List DeducedData) (row : RowData) → RowsAre rows found → few ≡ take FEW found → (Contains (rows_of few) row → ⊥) → (Contains rows row → ⊥) → Contains (rows_of found) row → ⊥
row_absent rows found few row h is first rest c = elim (Contains-append_cases (rows_of few) rows row (subst (λ (rs : List RowData). Contains rs row) (sym whole) c)) [ inl f ↦ first f | inr m ↦ rest m ]
  where
    whole : rows_of few ++ rows ≡ rows_of found
    whole = ap (λ (ds : List DeducedData). rows_of ds ++ rows) is ∙ (ap (λ (rs : List RowData). rs ++ rows) (sym (take-map (λ (d : DeducedData). d.row) FEW found))
        ∙ (ap (λ (rs : List RowData). take FEW (rows_of found) ++ rs) h.same ∙ take-append-drop FEW (rows_of found)))

-- what was found is there, by no greater supports
pub lowers_none : (found : List DeducedData) → Lowers found found
lowers_none found d c = record { item = d; there = c; is = refl; least = no_greater_itself (premises d.support) }

pub lowers_keeps : (old new : List DeducedData) → ((d : DeducedData) → Contains old d → Contains new d) → Lowers old new
lowers_keeps old new keeps d c = record { item = d; there = keeps d c; is = refl; least = no_greater_itself (premises d.support) }

pub lower_then : (mid new : List DeducedData) (row : RowData) (s : Support) → HasNoGreater mid row s → Lowers mid new → HasNoGreater new row s
lower_then mid new row s h lowers =
    let low = lowers h.item h.there in
    record { item = low.item; there = low.there; is = low.is ∙ h.is; least = no_greater_then (premises low.item.support) (premises h.item.support) (premises s) low.least h.least }

pub lowers_then : (old mid new : List DeducedData) → Lowers old mid → Lowers mid new → Lowers old new
lowers_then old mid new g h d c = lower_then mid new d.row d.support (g d c) h

-- a lesser support was put in the place of another
module _ (rows : List RowData) (old new : List DeducedData) (k : ℕ) (d : DeducedData) (row : RowData) (at : HasRowAt old k row) (is : new ≡ set old k d) (same : d.row ≡ at.item.row) where
  within : k < length old
  within = slice_get_within old k at.item at.at

  read : get_or old k d ≡ at.item
  read = get_or_from_slice_get old k at.item d at.at

  rows_same : rows_of new ≡ rows_of old
  rows_same = ap rows_of is ∙ map-set_same (λ (x : DeducedData). x.row) old k d d (same ∙ sym (ap (λ (x : DeducedData). x.row) read))

  d_there : Contains new d
  d_there = subst (λ (ds : List DeducedData). Contains ds d) (sym is) (k, omega (arith, within, length-set old k d), get_or-set_same old k d d within)

  pub lowered_rows : RowsAre rows old → RowsAre rows new
  lowered_rows h = record {
    same = h.same ∙ sym (ap (drop FEW) rows_same);
    once = subst (λ (rs : List RowData). AllPairs (λ a b. a ≢ b) rs) (sym rows_same) h.once;
  }

  pub lowered_lowers : IsNoGreater (premises d.support) (premises at.item.support) → Lowers old new
  lowered_lowers least x (j, lt, e) = elim (cases_eq j k) [
    | inl here_is ↦
        let x_is : at.item ≡ x = sym (get_or_from_slice_get old k at.item x at.at) ∙ (ap (λ (n : ℕ). get_or old n x) (sym here_is) ∙ e) in
        record { item = d; there = d_there; is = same ∙ ap (λ (y : DeducedData). y.row) x_is; least = subst (λ (y : DeducedData). IsNoGreater (premises d.support) (premises y.support)) x_is least }
    | inr other ↦ record {
      item = x;
      there = subst (λ (ds : List DeducedData). Contains ds x) (sym is) (j, omega (arith, lt, length-set old k d), get_or-set_other old k j d x other ∙ e);
      is = refl;
      least = no_greater_itself (premises x.support);
    }
  ]

  pub lowered_only : (s : Support) → (d ≡ at.item) ⊎ (d.support ≡ s) → (x : DeducedData) → Contains new x → Contains old x ⊎ (x ≡ record { row = row; support = s })
  lowered_only s which x c =
      let c_ = subst (λ (ds : List DeducedData). Contains ds x) is c in
      elim (cases_eq c_.0 k) [
        | inl here_is ↦
            let x_is : d ≡ x = sym (get_or-set_same old k d x within) ∙ (ap (λ (n : ℕ). get_or (set old k d) n x) (sym here_is) ∙ c_.2) in
            elim which [
              | inl was ↦ inl (subst (λ (y : DeducedData). Contains old y) (sym was ∙ x_is) (Contains-at old k at.item at.at))
              | inr new_is ↦ inr (sym x_is ∙ (λ i. record { row = (same ∙ at.is) i; support = new_is i }))
            ]
        | inr other ↦ inl (c_.0, omega (arith, c_.1, length-set old k d), sym (get_or-set_other old k c_.0 d x other) ∙ c_.2)
      ]

  pub lowered_there : (s : Support) → IsNoGreater (premises d.support) (premises s) → HasNoGreater new row s
  lowered_there s least = record { item = d; there = d_there; is = same ∙ at.is; least = least }

pub row_pushed : (found pushed : List DeducedData) (row : RowData) (head : HeadBy) (args given : List (ℕ × ℕ)) → given ≡ args → (let d : DeducedData = record { row = row; support = record { head = head; args = given } } in pushed ≡ found ++ d ∷ [])
    → HasNoGreater pushed row (record { head = head; args = args })
row_pushed found pushed row head args given same is =
    let d : DeducedData = record { row = row; support = record { head = head; args = given } } in
    record {
      item = d;
      there = subst (λ (ds : List DeducedData). Contains ds d) (sym is) (Contains-push found d);
      is = refl;
      least = no_greater_same (premises d.support) (premises (record { head = head; args = args })) (ap (λ (a : List (ℕ × ℕ)). premises (record { head = head; args = a })) same);
    }

-- with one more found, what was there stays, and nothing else comes
pub pushed_there : (found pushed : List DeducedData) (d : DeducedData) → pushed ≡ found ++ d ∷ [] → HasNoGreater pushed d.row d.support
pushed_there found pushed d is = record { item = d; there = subst (λ (ds : List DeducedData). Contains ds d) (sym is) (Contains-push found d); is = refl; least = no_greater_itself (premises d.support) }

pub found_keeps : (found pushed : List DeducedData) (d : DeducedData) → pushed ≡ found ++ d ∷ [] → (x : DeducedData) → Contains found x → Contains pushed x
found_keeps found pushed d is x there = subst (λ (ds : List DeducedData). Contains ds x) (sym is) (Contains-append_left found (d ∷ []) x there)

pub found_only : (found pushed : List DeducedData) (d : DeducedData) → pushed ≡ found ++ d ∷ [] → (x : DeducedData) → Contains pushed x → Contains found x ⊎ (x ≡ d)
found_only found pushed d is x there = pushed_cases found d x (subst (λ (ds : List DeducedData). Contains ds x) is there)

-- one more row
pub rows_pushed : (rows more : List RowData) (found pushed : List DeducedData) (d : DeducedData) → RowsAre rows found → (length found < FEW → more ≡ rows) → (FEW ≤ length found → more ≡ rows ++ d.row ∷ []) → (Contains (rows_of found) d.row → ⊥)
    → pushed ≡ found ++ d ∷ [] → RowsAre more pushed
rows_pushed rows more found pushed d h few many fresh is = record {
  same = same;
  once = subst (λ (rs : List RowData). AllPairs (λ a b. a ≢ b) rs) (sym pushed_rows) (all_pairs_push (λ a b. a ≢ b) (rows_of found) d.row h.once
      (λ k z lt e. fresh (k, lt, same_read (rows_of found) k d.row z lt ∙ e)));
}
  where
    same_read : (xs : List RowData) (k : ℕ) (c z : RowData) → k < length xs → get_or xs k c ≡ get_or xs k z
    same_read [] k c z h = absurd (omega arith)
    same_read (x ∷ xs) zero c z h = refl
    same_read (x ∷ xs) (suc k) c z h = same_read xs k c z (omega arith)

    pushed_rows : rows_of pushed ≡ rows_of found ++ d.row ∷ []
    pushed_rows = ap rows_of is ∙ map-append (λ (x : DeducedData). x.row) found (d ∷ [])

    long : length (rows_of found) ≡ length found
    long = length-map found (λ (x : DeducedData). x.row)

    none_behind : length found < FEW → drop FEW (rows_of pushed) ≡ []
    none_behind lt = drop_all FEW (rows_of pushed) (let l = ap (λ (rs : List RowData). length rs) pushed_rows ∙ length-append (rows_of found) (d.row ∷ []) in omega (arith, lt, l, long))

    same : more ≡ drop FEW (rows_of pushed)
    same = elim (cases_order (length found) FEW) [
      | inl e ↦ behind (omega (arith, e))
      | inr (inl lt) ↦ few lt ∙ (h.same ∙ (drop_all FEW (rows_of found) (omega (arith, lt, long)) ∙ sym (none_behind lt)))
      | inr (inr gt) ↦ behind (omega (arith, gt))
    ]
      where
        behind : FEW ≤ length found → more ≡ drop FEW (rows_of pushed)
        behind le = many le ∙ (ap (λ (rs : List RowData). rs ++ d.row ∷ []) h.same ∙ (sym (drop-append-le FEW (rows_of found) (d.row ∷ []) (omega (arith, le, long))) ∙ ap (drop FEW) (sym pushed_rows)))

-- candidates for slots are those of what is filled
module _ (log : List EntryData) (limit : ℕ) (fixed : Option FixedData) where
  abbrev E : List EntryData
  E = take limit log

  pub to_filled : (ss : List SlotData) (fs : List FilledData) → AreFilled E fixed ss fs → {args : List (ℕ × ℕ)} {es : List EntryData} → Picked (λ s. s.arg) (IsCandidate E fixed) ss args es → Picked (λ f. f.arg) (FillsBy log) fs args es
  to_filled [] [] h none_left = none_left
  to_filled [] (f ∷ fs) h k = absurd h
  to_filled (s ∷ ss) [] h k = absurd h
  to_filled (s ∷ ss) (f ∷ fs) h (pick {place = place} {args = args} {e = e} {es = es} c k) =
      subst (λ (a : ℕ). Picked (λ f. f.arg) (FillsBy log) (f ∷ fs) ((a, place) ∷ args) (e ∷ es)) h.0.arg
      (pick (record { among = (h.0.places place).1 (e, c); at = (at_take limit log place e c.at).1 }) (to_filled ss fs h.1 k))

  pub from_filled : (ss : List SlotData) (fs : List FilledData) → AreFilled E fixed ss fs → {args : List (ℕ × ℕ)} {es : List EntryData} → Picked (λ f. f.arg) (FillsBy log) fs args es → Picked (λ s. s.arg) (IsCandidate E fixed) ss args es
  from_filled [] [] h none_left = none_left
  from_filled [] (f ∷ fs) h k = absurd h
  from_filled (s ∷ ss) [] h k = absurd h
  from_filled (s ∷ ss) (f ∷ fs) h (pick {place = place} {args = args} {e = e} {es = es} c k) =
      let r = (h.0.places place).0 c.among in
      let same : r.0 ≡ e = same_Some r.0 e (sym (at_take limit log place r.0 r.1.at).1 ∙ c.at) in
      subst (λ (a : ℕ). Picked (λ s. s.arg) (IsCandidate E fixed) (s ∷ ss) ((a, place) ∷ args) (e ∷ es)) (sym h.0.arg)
      (pick (subst (λ (x : EntryData). IsCandidate E fixed s place x) same r.1) (from_filled ss fs h.1 k))

  pub record Source (ss : List SlotData) (f : FilledData) : Type 0 where
    pub slot : SlotData
    pub there : Contains ss slot
    pub filled : IsFilled E fixed slot f

  source_of : (ss : List SlotData) (fs : List FilledData) (f : FilledData) → AreFilled E fixed ss fs → Contains fs f → Source ss f
  source_of [] [] f h c = absurd (none_in f c)
  source_of [] (g ∷ fs) f h c = absurd h
  source_of (s ∷ ss) [] f h c = absurd h
  source_of (s ∷ ss) (g ∷ fs) f h c = elim (uncons g f fs c) [
    | inl is ↦ record { slot = s; there = here s ss; filled = subst (λ (x : FilledData). IsFilled E fixed s x) (sym is) h.0 }
    | inr there ↦ let r = source_of ss fs f h.1 there in record { slot = r.slot; there = later s r.slot ss r.there; filled = r.filled }
  ]

  -- candidates' places ascend
  pub filled_rise : (ss : List SlotData) (fs : List FilledData) → AreFilled E fixed ss fs → (f : FilledData) → Contains fs f → IsStrictlyIncreasing f.places
  filled_rise ss fs h f c = (source_of ss fs f h c).filled.ascending

  -- candidates' environments are as long as asked
  pub filled_placed : (us : List ℕ) (sets : Env) (fs : List FilledData) (n : ℕ) → AreFilled E fixed (slots 0 us sets) fs → HaveEnvs E us n → (f : FilledData) → Contains fs f → ArePlaced log n f
  filled_placed us sets fs n h have f c = λ place among.
      let r = source_of (slots 0 us sets) fs f h c in
      let k = (r.filled.places place).0 among in
      let s = slot_of 0 us sets r.slot r.there in
      let at = at_take limit log place k.0 k.1.at in
      record {
        entry = k.0;
        at = at.1;
        env = have k.0 (Contains-at E place k.0 k.1.at) (subst (λ (u : ℕ). Contains us u) (sym k.1.point) (Contains-at us s.place r.slot.point s.point));
      }

-- what the slots of a head's type lead to
module _ (I K : InternerData) (log : List EntryData) (s : SearchData) (h : HeadData) (fs : List FilledData) (whole : Bool) (partials : List PartialData)
    (filled : AreFilled (take s.limit log) (fixed_of log s.fixed) (slots 0 s.args (map (set_of_id I) h.sets)) fs)
    (joined : AreJoined K log (length (env_of_id I h.own)) (env_of_id I h.own) fs whole partials) where
  pub rows_conclude : (d : DeducedData) → IsRowOf s.point h partials d → IsDeducedBy I K log s h d
  rows_conclude d r =
      let x = r.from in
      let j = joined.sound x r.among in
      subst (λ (z : DeducedData). IsDeducedBy I K log s h z) (sym r.is) (record {
        point = refl;
        ty = refl;
        within = j.within;
        by = refl;
        leads = record {
          chosen = j.chosen;
          picked = from_filled log s.limit (fixed_of log s.fixed) (slots 0 s.args (map (set_of_id I) h.sets)) fs filled j.picked;
          join = j.join;
        };
      })

  pub conclude_rows : (found : List DeducedData) → IsTrue whole → ((x : PartialData) → Contains partials x → HasRow s.point h x found) → (args : List (ℕ × ℕ)) (env : Env) → HeadLeadsTo I log s h args env → HasEnvFound K s h args env found
  conclude_rows found is_whole all args env c =
      let n = length (env_of_id I h.own) in
      let r = joined.all is_whole args c.chosen (to_filled log s.limit (fixed_of log s.fixed) (slots 0 s.args (map (set_of_id I) h.sets)) fs filled c.picked) in
      let row = all r.item r.there in
      let known = (joined.sound r.item r.there).within in
      let env_is : row.item.row.env ≡ r.item.env = ap (λ (q : RowData). q.env) row.is in
      let same : env_of_id K r.item.env ≡ env = envs_same n (env_of_id K r.item.env) env r.join.is_env c.join.is_env (λ j a lt. (λ k. (c.join.has j a lt).1 ((r.join.has j a lt).0 k), λ k. (r.join.has j a lt).1 ((c.join.has j a lt).0 k))) in
      record {
        item = row.item;
        there = row.there;
        point = ap (λ (q : RowData). q.point) row.is;
        ty = ap (λ (q : RowData). q.ty) row.is;
        within = subst (λ (k : ℕ). k < length K.envs) (sym env_is) known;
        is = ap (env_of_id K) env_is ∙ same;
        least = no_greater_then (premises row.item.support) (head_premise h.by ++ chosen_places r.item.args) (head_premise h.by ++ chosen_places args) row.least (no_greater_behind (head_premise h.by) (chosen_places r.item.args) (chosen_places args) r.least);
      }

-- while the interner grows
pub sets_stay : (I J : InternerData) (ids : List ℕ) → Grows I J → All (λ s. s < length I.sets) ids → map (set_of_id J) ids ≡ map (set_of_id I) ids
sets_stay I J ids g all = go ids (λ s c. All-contains (λ t. t < length I.sets) ids s all c)
  where
    go : (xs : List ℕ) → ((s : ℕ) → Contains xs s → s < length I.sets) → map (set_of_id J) xs ≡ map (set_of_id I) xs
    go [] h = refl
    go (x ∷ xs) h = λ i. set_stays I J g x (h x (here x xs)) i ∷ go xs (λ s c. h s (later x s xs c)) i

pub sets_within : (I J : InternerData) (ids : List ℕ) → Grows I J → All (λ s. s < length I.sets) ids → All (λ s. s < length J.sets) ids
sets_within I J ids g all = λ k d lt. set_within I J g (get_or ids k d) (all k d lt)

pub known_later : (I J : InternerData) (args : List ℕ) (h : HeadData) → Grows I J → HasKnownNumbers I args h → HasKnownNumbers J args h
known_later I J args h g k = record {
  own = env_within I J g h.own k.own;
  sets = sets_within I J h.sets g k.sets;
  rest = type_within I J g h.rest k.rest;
  long = k.long;
  is_env = subst (λ (e : Env). IsEnv (length e) e) (sym (env_stays I J g h.own k.own)) k.is_env;
}

pub envs_later : (I J : InternerData) (log later : List EntryData) (limit : ℕ) (args : List ℕ) (h : HeadData) → Grows I J → later ≡ log → h.own < length I.envs → HaveEnvs (take limit log) args (length (env_of_id I h.own))
    → HaveEnvs (take limit later) args (length (env_of_id J h.own))
envs_later I J log later limit args h g same known have =
    subst (λ (l : List EntryData). HaveEnvs (take limit l) args (length (env_of_id J h.own))) (sym same)
    (subst (λ (e : Env). HaveEnvs (take limit log) args (length e)) (sym (env_stays I J g h.own known)) have)

-- a head's type leads to the same, whenever its numbers are read
module _ (I J : InternerData) (log later : List EntryData) (s : SearchData) (h : HeadData) (g : Grows I J) (same : later ≡ log) (k : HasKnownNumbers I s.args h) (args : List (ℕ × ℕ)) (env : Env) where
  abbrev Leads : List EntryData → Env → Env → Type 0
  Leads l own sets = Concludes (take s.limit l) (fixed_of l s.fixed) (length own) s.args own sets args env

  pub leads_earlier : HeadLeadsTo J later s h args env → HeadLeadsTo I log s h args env
  leads_earlier c =
      subst (λ (l : List EntryData). Leads l (env_of_id I h.own) (map (set_of_id I) h.sets)) same
      (subst (λ (own : Env). Leads later own (map (set_of_id I) h.sets)) (env_stays I J g h.own k.own)
      (subst (λ (sets : Env). Leads later (env_of_id J h.own) sets) (sets_stay I J h.sets g k.sets) c))

  pub leads_later : HeadLeadsTo I log s h args env → HeadLeadsTo J later s h args env
  leads_later c =
      subst (λ (sets : Env). Leads later (env_of_id J h.own) sets) (sym (sets_stay I J h.sets g k.sets))
      (subst (λ (own : Env). Leads later own (map (set_of_id I) h.sets)) (sym (env_stays I J g h.own k.own))
      (subst (λ (l : List EntryData). Leads l (env_of_id I h.own) (map (set_of_id I) h.sets)) (sym same) c))

pub conclusion_earlier : (I J K : InternerData) (log later : List EntryData) (s : SearchData) (h : HeadData) → Grows I J → later ≡ log → HasKnownNumbers I s.args h → (d : DeducedData) → IsDeducedBy J K later s h d → IsDeducedBy I K log s h d
conclusion_earlier I J K log later s h g same k d c = record {
  point = c.point;
  ty = c.ty;
  within = c.within;
  by = c.by;
  leads = leads_earlier I J log later s h g same k d.support.args (env_of_id K d.row.env) c.leads;
}

pub conclusion_later : (I J K : InternerData) (log : List EntryData) (s : SearchData) (h : HeadData) → Grows J K → (d : DeducedData) → IsDeducedBy I J log s h d → IsDeducedBy I K log s h d
conclusion_later I J K log s h g d c = record {
  point = c.point;
  ty = c.ty;
  within = env_within J K g d.row.env c.within;
  by = c.by;
  leads = subst (λ (e : Env). HeadLeadsTo I log s h d.support.args e) (sym (env_stays J K g d.row.env c.within)) c.leads;
}

pub found_later : (J K : InternerData) (s : SearchData) (h : HeadData) (args : List (ℕ × ℕ)) (env : Env) (old new : List DeducedData) → Grows J K → Lowers old new → HasEnvFound J s h args env old → HasEnvFound K s h args env new
found_later J K s h args env old new g lowers f =
    let low = lowers f.item f.there in
    let env_is : low.item.row.env ≡ f.item.row.env = ap (λ (q : RowData). q.env) low.is in
    record {
      item = low.item;
      there = low.there;
      point = ap (λ (q : RowData). q.point) low.is ∙ f.point;
      ty = ap (λ (q : RowData). q.ty) low.is ∙ f.ty;
      within = subst (λ (k : ℕ). k < length K.envs) (sym env_is) (env_within J K g f.item.row.env f.within);
      is = ap (env_of_id K) env_is ∙ (env_stays J K g f.item.row.env f.within ∙ f.is);
      least = no_greater_then (premises low.item.support) (premises f.item.support) (premises (record { head = h.by; args = args })) low.least f.least;
    }

-- what asks for the same has the same slots and the same environments
pub alike_one : (h : HeadData) (gs : List HeadData) → ((g : HeadData) → Contains gs g → IsAlike h g) → (g : HeadData) → Contains (h ∷ gs) g → IsAlike h g
alike_one h gs each g there = elim (uncons h g gs there) [
  | inl is ↦ record { own = ap (λ (x : HeadData). x.own) (sym is); sets = ap (λ (x : HeadData). x.sets) (sym is) }
  | inr behind ↦ each g behind
]

pub known_one : (I : InternerData) (args : List ℕ) (h : HeadData) (gs : List HeadData) → HasKnownNumbers I args h → ((g : HeadData) → Contains gs g → HasKnownNumbers I args g) → (g : HeadData) → Contains (h ∷ gs) g → HasKnownNumbers I args g
known_one I args h gs first each g there = elim (uncons h g gs there) [
  | inl is ↦ subst (λ (x : HeadData). HasKnownNumbers I args x) (sym is) first
  | inr behind ↦ each g behind
]

pub filled_alike : (I : InternerData) (log : List EntryData) (s : SearchData) (h g : HeadData) (fs : List FilledData) → IsAlike h g → AreFilled (take s.limit log) (fixed_of log s.fixed) (slots 0 s.args (map (set_of_id I) h.sets)) fs
    → AreFilled (take s.limit log) (fixed_of log s.fixed) (slots 0 s.args (map (set_of_id I) g.sets)) fs
filled_alike I log s h g fs alike filled = subst (λ (xs : List ℕ). AreFilled (take s.limit log) (fixed_of log s.fixed) (slots 0 s.args (map (set_of_id I) xs)) fs) alike.sets filled

pub joined_alike : (I K : InternerData) (log : List EntryData) (h g : HeadData) (fs : List FilledData) (whole : Bool) (partials : List PartialData) → IsAlike h g → AreJoined K log (length (env_of_id I h.own)) (env_of_id I h.own) fs whole partials
    → AreJoined K log (length (env_of_id I g.own)) (env_of_id I g.own) fs whole partials
joined_alike I K log h g fs whole partials alike joined = subst (λ (n : ℕ). AreJoined K log (length (env_of_id I n)) (env_of_id I n) fs whole partials) alike.own joined

-- a list up to some items behind one
pub run_cases : (hs : List HeadData) (k n : ℕ) (x h : HeadData) → k < length hs → x ≡ get_or hs k x → Contains (take (k + (1 + n)) hs) h → Contains (take k hs) h ⊎ Contains (x ∷ take n (take (length hs - (k + 1)) (drop (k + 1) hs))) h
run_cases hs k n x h lt is there =
    let m : k + (1 + n) ≡ (k + 1) + n = omega arith in
    let both = subst (λ (xs : List HeadData). Contains xs h) (ap (λ j. take j hs) m ∙ take-add (k + 1) n hs) there in
    subst (λ (ys : List HeadData). Contains (take k hs) h ⊎ Contains (x ∷ take n ys) h) (sym (take_rest hs (k + 1)))
    (elim (Contains-append_cases (take (k + 1) hs) (take n (drop (k + 1) hs)) h both) [
      | inl first ↦ elim (taken_cases hs k x h lt is first) [
        | inl was ↦ inl was
        | inr same ↦ inr (subst (λ (y : HeadData). Contains (x ∷ take n (drop (k + 1) hs)) y) (sym same) (here x (take n (drop (k + 1) hs))))
      ]
      | inr behind ↦ inr (later x h (take n (drop (k + 1) hs)) behind)
    ])

pub run_among : (hs : List HeadData) (k n : ℕ) (x h : HeadData) → Contains hs x → Contains (x ∷ take n (take (length hs - k) (drop k hs))) h → Contains hs h
run_among hs k n x h at there = elim (uncons x h (take n (take (length hs - k) (drop k hs))) there) [
  | inl is ↦ subst (λ (y : HeadData). Contains hs y) (sym is) at
  | inr behind ↦
      let few = subst (λ (ys : List HeadData). Contains (take n ys) h) (take_rest hs k) behind in
      subst (λ (xs : List HeadData). Contains xs h) (take-append-drop k hs) (Contains-append_right (take k hs) (drop k hs) h
      (subst (λ (xs : List HeadData). Contains xs h) (take-append-drop n (drop k hs)) (Contains-append_left (take n (drop k hs)) (drop n (drop k hs)) h few)))
]
