-- What follows by types of a point's head, by numbers.
use Rattle.std.proofs.Common.{◌≡◌, refl, sym, ◌∙◌, ap, subst, ℕ, ◌+◌, ◌<◌, ◌≤◌, List, [], ◌∷◌, ◌++◌, length, map, take, get_or, slice_get, Some, All, append_assoc, arith, Contains, ◌⊎◌, inl, inr, ◌↔◌}
use Rattle.std.proofs.lemmas.List.{take_all, map_push, append-nil}
use Rattle.std.proofs.lemmas.Option.{same_Some}
use Rattle.std.proofs.lemmas.List.Elements.{All-contains, Contains-append_left, Contains-append_right, Contains-append_cases}
use Rattle.hs_scheme.specs.flow.Points.{PointData, point_at}
use Rattle.hs_scheme.specs.Problem.{ProblemData}
use Rattle.hs_scheme.proofs.Lists.{none_in, Contains-at}
use Rattle.hs_table.specs.Types.{TypeTree, arrows, IsType}
use Rattle.hs_table.specs.Entries.{Env, EntryData, Has, IsEnv, InShape, params_of}
use Rattle.hs_table.specs.Follows.{HeadHas, AnyHas}
use Rattle.hs_table_laws.proofs.Arrows.{has_within}
use Rattle.hs_table_laws.proofs.Members.{from_map, into_map, taken_next, pushed_cases}
use Rattle.hs_table_laws.proofs.Places.{place_of}
use Rattle.hs_table_laws.proofs.Shapes.{result_shape}
use Rattle.hs_verdict.specs.Premises.{IsSortedProblem}
use Rattle.hs_weak.specs.Strength.{AsStrongAs, AsksAtLeast, Covers}
use Rattle.hs_weak.specs.Weak.{WeaklyChosen, WeaklyFollows}
use Rattle.hs_weak.specs.Void.{IsVoid}
use Rattle.hs_weak.proofs.Strength.{strong_refl}
use Rattle.hs_types.specs.Interned.{InternerData, type_of_id, set_of_id, env_of_id, RowData, IsRow, entry_of, Grows}
use Rattle.hs_types.proofs.Numbers.{type_stays, type_within, row_within, row_stays}
use Rattle.hs_choices.specs.Unions.{AreLeastUnions}
use Rattle.hs_choices.specs.Slots.{AreSlots, IsHeadEnv, AscendAll}
use Rattle.hs_choices.specs.Numbered.{envs_of, slot_envs, AreInUse, AreTableRows, AreOfArguments}
use Rattle.hs_choices.proofs.Choosing.{rows_stand}
use Rattle.hs_choices.proofs.Pruning.{follow, union_asks, asks_of_each}
use Rattle.hs_choices.proofs.Staying.{rows_stay}
use Rattle.hs_heads.specs.HeadTypes.{HeadTypeData, sets_of, IsHeadRow, IsHeadTypeAt, AreHeadTypes}
use Rattle.hs_heads.proofs.Staying.{sets_are, rest_is, row_stays as head_row_stays, head_types_stay}
use Rattle.hs_minimal.specs.Following.{row_with, IsSplitAtArgs, AreCoveredByType, IsFollowing, AddsFollowing, AddsFollowingAll}
use Rattle.hs_minimal.proofs.Shapes.{head_shape, asked_shape}

-- rows in shape are those of their entries
pub own_rows : (p : ProblemData) (I : InternerData) (rows : List RowData) → ((r : RowData) → Contains rows r → InShape p (entry_of I r)) → AreTableRows p (map (entry_of I) rows) I rows
own_rows p I rows shape = record {
  taken = λ r there. let place = place_of (map (entry_of I) rows) (entry_of I r) (into_map (entry_of I) rows r there) in (place.0, record { at = place.1; shape = shape r there });
  each = λ place e at. let from = from_map (entry_of I) rows e (Contains-at (map (entry_of I) rows) place e at.at) in (from.item, (from.there, sym from.is));
}

-- nothing is left out, so void ones aren't
none_left_out : (n : ℕ) (F : Env → Type 0) (first : Env) (slots : List (List Env)) (kept : List Env) → AreLeastUnions n (λ E. ⊥) first slots kept → AreLeastUnions n F first slots kept
none_left_out n F first slots kept least = record {
  unions = least.unions;
  least = λ U asks each. elim (least.least U asks each) [
    | inl k ↦ inl k
    | inr none ↦ absurd none
  ];
}

module _ (p : ProblemData) (given : IsSortedProblem p) (C : List EntryData) (R : List (ℕ × ℕ)) (point : ℕ) (of : PointData) (at : slice_get p.points.points point ≡ Some of) (sets : Env) (ty : TypeTree) (head : IsHeadTypeAt p C R point of sets ty)
    (first : Env) (first_is : IsHeadEnv (params_of p of.rule) of.head (arrows sets ty) first) (slots : List (List Env)) (are : AreSlots p C of.args sets slots) where
  abbrev n : ℕ
  n = params_of p of.rule

  type_fits : IsType p.sorted.automaton.states (arrows sets ty)
  type_fits = head_shape p C given.automaton.to of.rule of.head head.by (arrows sets ty) head.head

  pub rest_strong : AsStrongAs ty ty
  rest_strong = strong_refl p.sorted.automaton.states ty (result_shape p.sorted.automaton.states sets ty type_fits)

  module _ (kept : List Env) (ascend : AscendAll kept) (least : AreLeastUnions n (λ E. ⊥) first slots kept) where
    pub kept_follows : (K : Env) → Contains kept K → WeaklyFollows AsStrongAs p C (record { point = point; env = K; ty = ty })
    kept_follows = follow p given C [] point of at sets ty head.by head.head first first_is slots are kept ascend (none_left_out n (IsVoid p C [] of.rule) first slots kept least)

    pub kept_asked : (places : List (ℕ × ℕ)) (es : List EntryData) → WeaklyChosen AsStrongAs p C 0 of.args sets places es → (U : Env) → IsEnv n U
        → ((j : ℕ) (a : TypeTree) → j < length U → Has U j a ↔ (HeadHas of.head (arrows sets ty) j a ⊎ AnyHas es j a)) → (K : Env) × (Contains kept K × AsksAtLeast AsStrongAs U K)
    kept_asked places es chosen U env union =
        let each = union_asks p given C point of at chosen U (λ j a lt k. (union j a (omega (arith, lt, env.long))).1 (inr k)) in
        let own_asked : AsksAtLeast AsStrongAs U first =
        λ j a k.
        let within : j < length first = has_within first j a k in
        let asked : HeadHas of.head (arrows sets ty) j a = (first_is.exact j a).0 k in
        (a, ((union j a (omega (arith, within, env.long, first_is.long))).1 (inl asked), strong_refl p.sorted.automaton.states a (asked_shape p C given.automaton.to of.head (arrows sets ty) j a type_fits asked))) in
        elim (least.least U own_asked (asks_of_each p C are chosen U each)) [
          | inl k ↦ k
          | inr none ↦ absurd none
        ]

-- the rows of one type of the head
module _ (p : ProblemData) (given : IsSortedProblem p) (point : ℕ) (I J : InternerData) (grows : Grows I J) (h : HeadTypeData) (row : IsHeadRow p (point_at p.points point) I h) (rows : List RowData) (slots : List (List ℕ))
    (are : AreOfArguments I rows (point_at p.points point).args (sets_of I h) slots) (kept : List ℕ) (in_use : AreInUse J kept) (ascend : AscendAll (envs_of J kept))
    (least : AreLeastUnions (length (env_of_id I h.first)) (λ E. ⊥) (env_of_id I h.first) (slot_envs I slots) (envs_of J kept)) (old new : List RowData) (new_is : new ≡ old ++ map (row_with point h.ty) kept) where
  abbrev own : PointData
  own = point_at p.points point

  module _ (C : List EntryData) (R : List (ℕ × ℕ)) (stand : AreTableRows p C I rows) (at : slice_get p.points.points point ≡ Some own) (head : IsHeadTypeAt p C R point own (sets_of I h) (type_of_id I h.ty)) where
    abbrev sets : Env
    sets = sets_of I h

    abbrev ty : TypeTree
    ty = type_of_id I h.ty

    ty_is : type_of_id J h.ty ≡ ty
    ty_is = type_stays I J grows h.ty row.ty

    own_slots : AreSlots p C own.args sets (slot_envs I slots)
    own_slots = rows_stand p C I rows stand own.args sets slots are

    own_least : AreLeastUnions (params_of p own.rule) (λ E. ⊥) (env_of_id I h.first) (slot_envs I slots) (envs_of J kept)
    own_least = subst (λ k. AreLeastUnions k (λ E. ⊥) (env_of_id I h.first) (slot_envs I slots) (envs_of J kept)) row.first.long least

    is_following : (k : ℕ) → Contains kept k → IsFollowing p C point J (row_with point h.ty k)
    is_following k m = record {
      in_use = (All-contains (λ e. e < length J.envs) kept k in_use m, type_within I J grows h.ty row.ty);
      at = refl;
      follows = subst (λ (t : TypeTree). WeaklyFollows AsStrongAs p C (record { point = point; env = env_of_id J k; ty = t })) (sym ty_is)
          (kept_follows p given C R point own at sets ty head (env_of_id I h.first) row.first (slot_envs I slots) own_slots (envs_of J kept) ascend own_least (env_of_id J k) (into_map (env_of_id J) kept k m));
    }

    come : (r : RowData) → Contains new r → Contains old r ⊎ IsFollowing p C point J r
    come r m = elim (Contains-append_cases old (map (row_with point h.ty) kept) r (subst (λ (z : List RowData). Contains z r) new_is m)) [
      | inl was ↦ inl was
      | inr added ↦ let k = from_map (row_with point h.ty) kept r added in inr (subst (λ (z : RowData). IsFollowing p C point J z) (sym k.is) (is_following k.item k.there))
    ]

    covered : AreCoveredByType p C point own J sets ty new
    covered places es chosen U env union =
        let K = kept_asked p given C R point own at sets ty head (env_of_id I h.first) row.first (slot_envs I slots) own_slots (envs_of J kept) ascend own_least places es chosen U env union in
        let k = from_map (env_of_id J) kept K.0 K.1.0 in (
          row_with point h.ty k.item,
          (
            subst (λ (z : List RowData). Contains z (row_with point h.ty k.item)) (sym new_is) (Contains-append_right old (map (row_with point h.ty) kept) (row_with point h.ty k.item) (into_map (row_with point h.ty) kept k.item k.there)),
            record {
              point = refl;
              ty = subst (λ (t : TypeTree). AsStrongAs t ty) (sym ty_is) (rest_strong p given C R point own at sets ty head (env_of_id I h.first) row.first (slot_envs I slots) own_slots);
              env = subst (λ (E : Env). AsksAtLeast AsStrongAs U E) k.is K.1.1;
            },
          ),
        )

    added_here : AddsFollowing p C point own J sets ty old new
    added_here = record { keeps = λ r m. subst (λ (z : List RowData). Contains z r) (sym new_is) (Contains-append_left old (map (row_with point h.ty) kept) r m); come = come; covered = covered }

  pub adds : (C : List EntryData) (R : List (ℕ × ℕ)) (of : PointData) → AreTableRows p C I rows → slice_get p.points.points point ≡ Some of → slice_get p.points.points point ≡ Some own
      → IsHeadTypeAt p C R point of (sets_of I h) (type_of_id I h.ty) → AddsFollowing p C point of J (sets_of I h) (type_of_id I h.ty) old new
  adds C R of stand at own_at head =
      let of_is : own ≡ of = same_Some own of (sym own_at ∙ at) in
      subst (λ (d : PointData). AddsFollowing p C point d J (sets_of I h) (type_of_id I h.ty) old new) of_is
      (added_here C R stand own_at (subst (λ (d : PointData). IsHeadTypeAt p C R point d (sets_of I h) (type_of_id I h.ty)) (sym of_is) head))

-- more numbers, and more rows
module _ (p : ProblemData) (C : List EntryData) (point : ℕ) (of : PointData) (J K : InternerData) (grows : Grows J K) where
  pub following_stays : (r : RowData) → IsFollowing p C point J r → IsFollowing p C point K r
  following_stays r h = record {
    in_use = row_within J K grows r h.in_use;
    at = h.at;
    follows = subst (λ (e : EntryData). WeaklyFollows AsStrongAs p C e) (sym (row_stays J K grows r h.in_use)) h.follows;
  }

  pub covered_more : (old new : List RowData) → ((r : RowData) → Contains old r → IsFollowing p C point J r) → ((r : RowData) → Contains old r → Contains new r) → (ss : Env) (ty : TypeTree) → AreCoveredByType p C point of J ss ty old → AreCoveredByType p C point of K ss ty new
  covered_more old new all keeps ss ty covered places es chosen U env union =
      let c = covered places es chosen U env union in
      (c.0, (keeps c.0 c.1.0, subst (λ (e : EntryData). Covers AsStrongAs e (record { point = point; env = U; ty = ty })) (sym (row_stays J K grows c.0 (all c.0 c.1.0).in_use)) c.1.1))

-- one type of the head more
module _ (p : ProblemData) (point : ℕ) (I : InternerData) (rows : List RowData) (heads : List HeadTypeData) where
  abbrev pub SoFar : InternerData → List HeadTypeData → List RowData → Type 0
  SoFar J hs found =
      (C : List EntryData) (R : List (ℕ × ℕ)) (of : PointData) → AreTableRows p C I rows → slice_get p.points.points point ≡ Some of → AreHeadTypes p C R point of I heads → AddsFollowingAll p C point of I J hs found

  pub none_so_far : (found : List RowData) → found ≡ [] → SoFar I (take 0 heads) found
  none_so_far found is C R of stand at are = record {
    all = λ r m. absurd (none_in r (subst (λ (z : List RowData). Contains z r) is m));
    covered = λ h m. absurd (none_in h m);
  }

  module _ (in_use : All (IsRow I) rows) (J K : InternerData) (before : Grows I J) (then : Grows J K) (k : ℕ) (h : HeadTypeData) (lt : k < length heads) (is : h ≡ get_or heads k h) (old new : List RowData)
      (added : (C : List EntryData) (R : List (ℕ × ℕ)) (of : PointData) → AreTableRows p C J rows → slice_get p.points.points point ≡ Some of
      → IsHeadTypeAt p C R point of (sets_of J h) (type_of_id J h.ty) → AddsFollowing p C point of K (sets_of J h) (type_of_id J h.ty) old new) where
    pub one_so_far : SoFar J (take k heads) old → SoFar K (take (k + 1) heads) new
    one_so_far so_far C R of stand at are =
        let were = so_far C R of stand at are in
        let here : Contains heads h = (k, lt, sym is) in
        let own = added C R of (rows_stay I J before p C rows in_use stand) at ((head_types_stay p C R point of I J before heads are).taken h here) in
        let row = are.rows h here in
        let sets = sets_are p C R point of I J before h row in
        let rest = rest_is p C R point of I J before h row in
        record {
          all = λ r m. elim (own.come r m) [
            | inl was ↦ following_stays p C point of J K then r (were.all r was)
            | inr follows ↦ follows
          ];
          covered = λ x m. elim (pushed_cases (take k heads) h x (subst (λ (z : List HeadTypeData). Contains z x) (taken_next heads k h lt is) m)) [
            | inl was ↦ covered_more p C point of J K then old new were.all own.keeps (sets_of I x) (type_of_id I x.ty) (were.covered x was)
            | inr same ↦ subst (λ (y : HeadTypeData). AreCoveredByType p C point of K (sets_of I y) (type_of_id I y.ty) new) (sym same)
                (subst (λ (ss : Env). AreCoveredByType p C point of K ss (type_of_id I h.ty) new) sets (subst (λ (t : TypeTree). AreCoveredByType p C point of K (sets_of J h) t new) rest own.covered))
          ];
        }

  pub all_so_far : (J : InternerData) (k : ℕ) → length heads ≤ k → (found : List RowData) → SoFar J (take k heads) found → SoFar J heads found
  all_so_far J k past found so_far = subst (λ (hs : List HeadTypeData). SoFar J hs found) (take_all k heads past) so_far

-- rows for the environments so far
module _ (point ty : ℕ) (ks : List ℕ) (old : List RowData) where
  pub rows_none : old ≡ old ++ map (row_with point ty) (take 0 ks)
  rows_none = sym (append-nil old)

  pub rows_next : (i k : ℕ) → i < length ks → k ≡ get_or ks i k → (mid new : List RowData) → mid ≡ old ++ map (row_with point ty) (take i ks) → new ≡ mid ++ row_with point ty k ∷ [] → new ≡ old ++ map (row_with point ty) (take (i + 1) ks)
  rows_next i k lt is mid new mid_is new_is =
      new_is ∙ (ap (λ (z : List RowData). z ++ row_with point ty k ∷ []) mid_is ∙ (append_assoc old (map (row_with point ty) (take i ks)) (row_with point ty k ∷ [])
      ∙ ap (λ (z : List RowData). old ++ z) (sym (map_push (row_with point ty) (take i ks) k) ∙ ap (λ (z : List ℕ). map (row_with point ty) z) (sym (taken_next ks i k lt is)))))

  pub rows_all : (i : ℕ) → length ks ≤ i → (new : List RowData) → new ≡ old ++ map (row_with point ty) (take i ks) → new ≡ old ++ map (row_with point ty) ks
  rows_all i past new is = is ∙ ap (λ (z : List ℕ). old ++ map (row_with point ty) z) (take_all i ks past)

-- slots for the arguments, by other names
pub of_arguments : (I : InternerData) (rows : List RowData) (us args : List ℕ) (h : HeadTypeData) (ss : List ℕ) (slots : List (List ℕ)) → us ≡ args → ss ≡ h.sets → AreOfArguments I rows us (map (set_of_id I) ss) slots → AreOfArguments I rows args (sets_of I h) slots
of_arguments I rows us args h ss slots us_are ss_are are =
    subst (λ (z : List ℕ). AreOfArguments I rows z (sets_of I h) slots) us_are (subst (λ (z : List ℕ). AreOfArguments I rows us (map (set_of_id I) z) slots) ss_are are)

module _ (p : ProblemData) (I J : InternerData) (grows : Grows I J) where
  pub shapes_stay : (rows : List RowData) → All (IsRow I) rows → ((r : RowData) → Contains rows r → InShape p (entry_of I r)) → (r : RowData) → Contains rows r → InShape p (entry_of J r)
  shapes_stay rows in_use shape r m = subst (λ (e : EntryData). InShape p e) (sym (row_stays I J grows r (All-contains (IsRow I) rows r in_use m))) (shape r m)

pub split_stays : (p : ProblemData) (point : ℕ) (I J : InternerData) → Grows I J → (h : HeadTypeData) → IsSplitAtArgs p point I h → IsSplitAtArgs p point J h
split_stays p point I J grows h s = record { row = head_row_stays p [] [] point (point_at p.points point) I J grows h s.row; long = s.long }
