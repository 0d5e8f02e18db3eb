-- What a replica keeps, while its interner grows and rows are added.
use Rattle.std.proofs.Common.{◌≡◌, ◌≢◌, refl, sym, ◌∙◌, ap, subst, ℕ, suc, ◌+◌, ◌<◌, ◌≤◌, ◌^◌, Bool, true, false, true≢false, ◌&&◌, nat_eq, List, [], ◌∷◌, ◌++◌, length, get_or, slice_get, Some, cond, map, arith, Contains, All, AllPairs, length-append, position, ◌↔◌, Result, Ok, IfOk}
use Rattle.std.specs.Bool.{Decides}
use Rattle.std.specs.List.{list_any}
use Rattle.std.specs.List.Sorted.{IsStrictlyIncreasing}
use Rattle.std.proofs.lemmas.Bool.{eqb-true, eq-eqb, and_parts}
use Rattle.std.proofs.lemmas.List.{map-append, length-map, get_or-map}
use Rattle.std.proofs.lemmas.List.Elements.{All-push, Contains-get_or}
use Rattle.std.proofs.lemmas.List.Quantifiers.{all_pairs_push, position-Some}
use Rattle.std.proofs.lemmas.Map.Made.{is_member-Decides}
use Rattle.std.proofs.lemmas.Option.{slice_get_within}
use Rattle.hs_scheme.proofs.Lists.{slice_get-read, slice_get-append}
use Rattle.indexmap.specs.IndexSet.{insert_key}
use Rattle.hs_table.specs.Types.{state}
use Rattle.hs_table.specs.Entries.{EntryData}
use Rattle.hs_types.specs.Interned.{InternerData, RowData, entry_of, IsRow, IsInterner, Grows}
use Rattle.hs_types.specs.contracts.ids.RowPartialEq.TheImpl.{eq-value}
use Rattle.hs_types.proofs.Numbers.{type_within, type_stays, row_within, row_stays, same_row}
use Rattle.hs_replica.specs.declared.key.Key.{Key}
use Rattle.hs_replica.specs.declared.key.Key.TheVariants.{At, Typed, Asking, Taking}
use Rattle.hs_replica.specs.Places.{Question, here, typed, asks, takes, Meets, Answers, ArePlaces}
use Rattle.hs_replica.specs.Replica.{ReplicaData, IsReplica, KeepsLog}
use Rattle.hs_replica.specs.Index.{log_of, question, IsByType, reach, IsKey, RisesTo, IsListed, IsIndex, IsKept}
use Rattle.hs_replica.proofs.RowLemmas.{same_key}

row_true : (a b : RowData) → eq-value.it a b ≡ true → a ≡ b
row_true a b h =
    let e = and_parts (nat_eq a.point b.point) (nat_eq a.env b.env && nat_eq a.ty b.ty) h in
    let f = and_parts (nat_eq a.env b.env) (nat_eq a.ty b.ty) e.1 in
    λ i. record { point = eqb-true a.point b.point e.0 i; env = eqb-true a.env b.env f.0 i; ty = eqb-true a.ty b.ty f.1 i }

row_own : (a : RowData) → eq-value.it a a ≡ true
row_own a = rw (eq-eqb a.point a.point refl, eq-eqb a.env a.env refl, eq-eqb a.ty a.ty refl)

pub row_same : (a b : RowData) → Decides (eq-value.it a b) (a ≡ b)
row_same a b = (row_true a b, λ e. subst (λ (c : RowData). eq-value.it a c ≡ true) e (row_own a))

-- where a row is found
pub found_at : (row : RowData) (rows : List RowData) (i : ℕ) → position (eq-value.it row) rows ≡ Some i → slice_get rows i ≡ Some row
found_at row rows i e =
    let h = position-Some (eq-value.it row) rows i row e in
    slice_get-read rows i row h.0 (sym (row_true row (get_or rows i row) h.1))

pub found_nowhere : (row : RowData) (rows : List RowData) → false ≡ list_any (eq-value.it row) rows → Contains rows row → ⊥
found_nowhere row rows e h = true≢false (sym ((is_member-Decides row_same rows row).1 h) ∙ sym e)

map_same : {X Y : Type 0} (f g : X → Y) (xs : List X) → ((k : ℕ) (d : X) → k < length xs → f (get_or xs k d) ≡ g (get_or xs k d)) → map f xs ≡ map g xs
map_same f g [] same = refl
map_same f g (x ∷ xs) same = λ i. same 0 x (omega arith) i ∷ map_same f g xs (λ k d lt. same (suc k) d (omega arith)) i

-- while the interner grows
module _ (ids new : InternerData) (g : Grows ids new) where
  pub log_stays : (rows : List RowData) → All (IsRow ids) rows → log_of new rows ≡ log_of ids rows
  log_stays rows all = map_same (entry_of new) (entry_of ids) rows (λ k d lt. row_stays ids new g (get_or rows k d) (all k d lt))

  key_within : (k : Key) → IsKey ids k → IsKey new k
  key_within (At p) h = tt
  key_within (Typed p t) h = type_within ids new g t h
  key_within (Asking p j t) h = type_within ids new g t h
  key_within (Taking p j t) h = type_within ids new g t h

  question_stays : (k : Key) → IsKey ids k → question new k ≡ question ids k
  question_stays (At p) h = refl
  question_stays (Typed p t) h = ap (typed p) (type_stays ids new g t h)
  question_stays (Asking p j t) h = ap (asks p j) (type_stays ids new g t h)
  question_stays (Taking p j t) h = ap (takes p j) (type_stays ids new g t h)

  reach_stays : (by_type asked : List ℕ) (n : ℕ) (k : Key) → reach by_type asked n (question ids k) ≡ reach by_type asked n (question new k)
  reach_stays by_type asked n (At p) = refl
  reach_stays by_type asked n (Typed p t) = refl
  reach_stays by_type asked n (Asking p j t) = refl
  reach_stays by_type asked n (Taking p j t) = refl

  index_grows : (log : List EntryData) (by_type asked : List ℕ) (n : ℕ) (list : Key → List ℕ) → IsIndex ids log (reach by_type asked n) list → IsIndex new log (reach by_type asked n) list
  index_grows log by_type asked n list was = record {
    known = λ k i h. key_within k (was.known k i h);
    sound = λ k i h. subst (λ (q : Question). Answers log i q) (sym (question_stays k (was.known k i h))) (was.sound k i h);
    complete = λ i q lt a. let l = was.complete i q lt a in record { key = l.key; known = key_within l.key l.known; for = question_stays l.key l.known ∙ l.for; among = l.among };
    within = was.within;
    rises = λ k. subst (λ (m : ℕ). RisesTo m (list k)) (reach_stays by_type asked n k) (was.rises k);
  }

  pub kept_grows : (rows : List RowData) (room reserved indexed : ℕ) (by_type asked : List ℕ) (list : Key → List ℕ) → IsKept ids rows room reserved indexed by_type asked list → IsKept new rows room reserved indexed by_type asked list
  kept_grows rows room reserved indexed by_type asked list was =
      let same = log_stays rows was.known in
      record {
        known = λ k d lt. row_within ids new g (get_or rows k d) (was.known k d lt);
        distinct = subst (λ (log : List EntryData). AllPairs (λ a b. a ≢ b) log) (sym same) was.distinct;
        short = was.short;
        fits = was.fits;
        within = was.within;
        index = subst (λ (log : List EntryData). IsIndex new log (reach by_type asked indexed) list) (sym same) (index_grows (log_of ids rows) by_type asked indexed list was.index);
      }

-- while the log grows
module _ (log more : List EntryData) where
  meets_front : (i : ℕ) (e : EntryData) (q : Question) → i < length log → Meets log i e q → Meets (log ++ more) i e q
  meets_front i e (here p) lt m = m
  meets_front i e (typed p a) lt m = m
  meets_front i e (asks p j a) lt m = m
  meets_front i e (takes p j a) lt m = (m.0, (m.1.0, λ k d less at. m.1.1 k d less (sym (slice_get-append log more k (omega arith)) ∙ at)))

  meets_back : (i : ℕ) (e : EntryData) (q : Question) → i < length log → Meets (log ++ more) i e q → Meets log i e q
  meets_back i e (here p) lt m = m
  meets_back i e (typed p a) lt m = m
  meets_back i e (asks p j a) lt m = m
  meets_back i e (takes p j a) lt m = (m.0, (m.1.0, λ k d less at. m.1.1 k d less (slice_get-append log more k (omega arith) ∙ at)))

  index_front : (ids : InternerData) (reached : Question → ℕ) (list : Key → List ℕ) → reached (here 0) ≤ length log → IsIndex ids log reached list → IsIndex ids (log ++ more) reached list
  index_front ids reached list le was = record {
    known = was.known;
    sound = λ k i h.
        let a = was.sound k i h in
        let lt = slice_get_within log i a.entry a.at in
        record { entry = a.entry; at = slice_get-append log more i lt ∙ a.at; meets = meets_front i a.entry (question ids k) lt a.meets };
    complete = λ i q lt a.
        let before : i < length log = omega (arith, was.within q 0, lt, le) in
        was.complete i q lt (record { entry = a.entry; at = sym (slice_get-append log more i before) ∙ a.at; meets = meets_back i a.entry q before a.meets });
    within = was.within;
    rises = was.rises;
  }

pub log_push : (ids : InternerData) (rows : List RowData) (row : RowData) → log_of ids (rows ++ row ∷ []) ≡ log_of ids rows ++ entry_of ids row ∷ []
log_push ids rows row = map-append (entry_of ids) rows (row ∷ [])

pub kept_push : (ids : InternerData) (rows : List RowData) (row : RowData) (room later reserved kept indexed : ℕ) (by_type asked : List ℕ) (list : Key → List ℕ) → IsKept ids rows room reserved indexed by_type asked list
    → IsRow ids row → (Contains (log_of ids rows) (entry_of ids row) → ⊥) → length rows + 1 < 2 ^ 32 → kept ≤ later → IsKept ids (rows ++ row ∷ []) later kept indexed by_type asked list
kept_push ids rows row room later reserved kept indexed by_type asked list was known absent short fits =
    let log = log_of ids rows in
    let same = log_push ids rows row in
    record {
      known = All-push (IsRow ids) rows row was.known known;
      distinct = subst (λ (es : List EntryData). AllPairs (λ a b. a ≢ b) es) (sym same)
          (all_pairs_push (λ a b. a ≢ b) log (entry_of ids row) was.distinct (λ k d lt e. absent (subst (λ (x : EntryData). Contains log x) e (Contains-get_or log k d lt))));
      short = omega (arith, length-append rows (row ∷ []));
      fits = fits;
      within = omega (arith, length-append rows (row ∷ []), was.within);
      index = subst (λ (es : List EntryData). IsIndex ids es (reach by_type asked indexed) list) (sym same)
          (index_front log (entry_of ids row ∷ []) ids (reach by_type asked indexed) list (omega (arith, length-map rows (entry_of ids), was.within)) was.index);
    }

-- a row whose entry the log lacks goes last
row_absent : (ids : InternerData) (rows : List RowData) (row : RowData) → (Contains (log_of ids rows) (entry_of ids row) → ⊥) → Contains rows row → ⊥
row_absent ids rows row absent h =
    absent (h.0, omega (arith, length-map rows (entry_of ids), h.1), get_or-map (entry_of ids) rows h.0 row (entry_of ids row) h.1 ∙ ap (entry_of ids) h.2)

pub insert_last : (ids : InternerData) (rows : List RowData) (row : RowData) → (Contains (log_of ids rows) (entry_of ids row) → ⊥) → insert_key eq-value.it rows row ≡ rows ++ row ∷ []
insert_last ids rows row absent = by (list_any (eq-value.it row) rows) refl
  where
    by : (b : Bool) → list_any (eq-value.it row) rows ≡ b → cond b rows (rows ++ row ∷ []) ≡ rows ++ row ∷ []
    by true e = absurd (row_absent ids rows row absent ((is_member-Decides row_same rows row).0 e))
    by false e = refl

-- a row whose entry is in the log is one of its rows
pub row_there : (ids : InternerData) → IsInterner ids → (rows : List RowData) → All (IsRow ids) rows → (row : RowData) → IsRow ids row → Contains (log_of ids rows) (entry_of ids row) → Contains rows row
row_there ids is rows all row known h =
    let lt : h.0 < length rows = omega (arith, length-map rows (entry_of ids), h.1) in
    (h.0, lt, same_row ids is (get_or rows h.0 row) row (all h.0 row lt) known (sym (get_or-map (entry_of ids) rows h.0 row (entry_of ids row) lt) ∙ h.2))

pub rises_to : (n m : ℕ) (xs : List ℕ) → n ≤ m → RisesTo n xs → RisesTo m xs
rises_to n m xs le r = record { ascending = r.ascending; below = λ k d lt. omega (arith, r.below k d lt, le) }

-- the places of a key, without that which may be listed too early
pub places_of : (ids : InternerData) → IsInterner ids → (log : List EntryData) (reached : Question → ℕ) (n : ℕ) (list : Key → List ℕ) → IsIndex ids log reached list → (k : Key) → IsKey ids k
    → ((i : ℕ) → i < n → Answers log i (question ids k) → IsListed ids list i (question ids k)) → (xs : List ℕ) → IsStrictlyIncreasing xs → ((i : ℕ) → Contains xs i ↔ ((i < n) × Contains (list k) i)) → ArePlaces log n (question ids k) xs
places_of ids is log reached n list index k known complete xs up exact = record {
  ascending = up;
  exact = λ i. (
    λ h. let w = (exact i).0 h in (w.0, index.sound k i w.1),
    λ h. let l = complete i h.0 h.1 in
        (exact i).1 (h.0, subst (λ (m : Key). Contains (list m) i) (same_key ids is l.key k l.known known l.for) l.among),
  );
}

-- what is about types reaches so far
pub reach_by_type : (ids : InternerData) (by_type asked : List ℕ) (n point : ℕ) (k : Key) → IsByType point k → reach by_type asked n (question ids k) ≡ get_or by_type point 0
reach_by_type ids by_type asked n point (Typed p t) h = ap (λ i. get_or by_type i 0) h
reach_by_type ids by_type asked n point (Taking p j t) h = ap (λ i. get_or by_type i 0) h
reach_by_type ids by_type asked n point (At p) h = absurd h
reach_by_type ids by_type asked n point (Asking p j t) h = absurd h

-- what contracts see of these fields
abbrev pub view_of : InternerData → List RowData → ℕ → ℕ → List ℕ → ReplicaData
view_of ids rows reserved indexed by_type = record { ids = ids; log = log_of ids rows; spare = reserved; indexed = indexed; by_type = by_type }

pub keeps_log : (ids new : InternerData) → Grows ids new → (rows : List RowData) (room reserved indexed : ℕ) (by_type asked : List ℕ) (list : Key → List ℕ) → IsKept ids rows room reserved indexed by_type asked list
    → (was : ReplicaData) → view_of ids rows reserved indexed by_type ≡ was → KeepsLog was (view_of new rows reserved indexed by_type)
keeps_log ids new g rows room reserved indexed by_type asked list kept was is =
    subst (λ (r : ReplicaData). KeepsLog r (view_of new rows reserved indexed by_type)) is
    (record { log = log_stays ids new g rows kept.known; spare = refl; indexed = refl; typed = λ point. omega arith; grows = g })

pub is_replica : (ids : InternerData) (rows : List RowData) (room reserved indexed : ℕ) (by_type asked : List ℕ) (list : Key → List ℕ) → IsKept ids rows room reserved indexed by_type asked list
    → (was : ReplicaData) → view_of ids rows reserved indexed by_type ≡ was → IsReplica was
is_replica ids rows room reserved indexed by_type asked list kept was is = subst IsReplica is (record {
  distinct = kept.distinct;
  short = omega (arith, length-map rows (entry_of ids), kept.short);
  indexed = omega (arith, length-map rows (entry_of ids), kept.within);
  typed = λ point. kept.index.within (typed point (state 0)) 0;
})

-- other room
pub kept_room : (ids : InternerData) (rows : List RowData) (room later reserved indexed : ℕ) (by_type asked : List ℕ) (list : Key → List ℕ) → IsKept ids rows room reserved indexed by_type asked list → reserved ≤ later → IsKept ids rows later reserved indexed by_type asked list
kept_room ids rows room later reserved indexed by_type asked list was fits =
    record { known = was.known; distinct = was.distinct; short = was.short; fits = fits; within = was.within; index = was.index }

pub at_ok : {T E : Type 0} (r : Result T E) (x : T) (P : T → Type 0) → r ≡ Ok x → IfOk r P → P x
at_ok {T} {E} r x P is h = subst (λ (s : Result T E). IfOk s P) is h

-- nothing is kept yet
pub kept_none : (ids : InternerData) (room : ℕ) (list : Key → List ℕ) → ((k : Key) → list k ≡ []) → IsKept ids [] room 0 0 [] [] list
kept_none ids room list none = record {
  known = λ k d lt. absurd (omega arith);
  distinct = λ i j d lt less. absurd (omega arith);
  short = omega arith;
  fits = omega arith;
  within = omega arith;
  index = record {
    known = λ k i h. absurd (not_in k i h);
    sound = λ k i h. absurd (not_in k i h);
    complete = λ i q lt a. absurd (omega (arith, lt, nothing q));
    within = λ q p. omega (arith, nothing q);
    rises = λ k. subst (λ (xs : List ℕ). RisesTo (reach [] [] 0 (question ids k)) xs) (sym (none k)) (record { ascending = λ k lt. absurd (omega arith); below = λ k d lt. absurd (omega arith) });
  };
}
  where
    nothing : (q : Question) → reach [] [] 0 q ≡ 0
    nothing (here p) = refl
    nothing (typed p a) = refl
    nothing (asks p j a) = refl
    nothing (takes p j a) = refl

    not_in : (k : Key) (i : ℕ) → Contains (list k) i → ⊥
    not_in k i h = let g = subst (λ (xs : List ℕ). Contains xs i) (none k) h in absurd (omega (arith, g.1))

-- more places are listed
pub kept_index : (ids : InternerData) (rows : List RowData) (room reserved indexed more : ℕ) (by_type asked types later : List ℕ) (list new : Key → List ℕ) → IsKept ids rows room reserved indexed by_type asked list
    → more ≤ length rows → IsIndex ids (log_of ids rows) (reach types later more) new → IsKept ids rows room reserved more types later new
kept_index ids rows room reserved indexed more by_type asked types later list new was within index =
    record { known = was.known; distinct = was.distinct; short = was.short; fits = was.fits; within = within; index = index }

-- more rows have room
pub kept_reserved : (ids : InternerData) (rows : List RowData) (room later reserved more indexed : ℕ) (by_type asked : List ℕ) (list : Key → List ℕ) → IsKept ids rows room reserved indexed by_type asked list → more ≤ later
    → IsKept ids rows later more indexed by_type asked list
kept_reserved ids rows room later reserved more indexed by_type asked list was fits =
    record { known = was.known; distinct = was.distinct; short = was.short; fits = fits; within = was.within; index = was.index }
