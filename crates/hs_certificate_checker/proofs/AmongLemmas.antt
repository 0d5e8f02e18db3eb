-- What is opened by the types of a head, at a point, and at all points.
use Rattle.std.proofs.Common.{◌≡◌, refl, sym, ◌∙◌, subst, ℕ, ◌+◌, ◌<◌, ◌≤◌, List, [], length, map, get_or, take, slice_get, Option, Some, None, MatchOption, Contains, inl, inr, arith}
use Rattle.std.proofs.lemmas.List.{take_all, length-map}
use Rattle.hs_scheme.specs.flow.Points.{PointData, point_at}
use Rattle.hs_scheme.specs.Problem.{ProblemData}
use Rattle.hs_scheme.proofs.Lists.{none_in, match_some}
use Rattle.hs_table.specs.Types.{TypeTree}
use Rattle.hs_table.specs.Entries.{Env, EntryData}
use Rattle.hs_table_laws.proofs.Members.{taken_next, pushed_cases}
use Rattle.hs_weak.specs.Void.{VoidData}
use Rattle.hs_weak.proofs.ComparingLemmas.{one_more}
use Rattle.hs_types.specs.Interned.{InternerData, type_of_id, set_of_id, RowData, entry_of, Grows}
use Rattle.hs_choices.specs.Numbered.{AreTableRows}
use Rattle.hs_choices.proofs.Staying.{numbered_stays}
use Rattle.hs_heads.specs.HeadTypes.{HeadTypeData, sets_of, IsHeadTypeAt, AreHeadTypes}
use Rattle.hs_heads.proofs.Staying.{sets_are, rest_is, row_stays, head_types_stay}
use Rattle.hs_void.specs.Voids.{BasisData, AreRows}
use Rattle.hs_certificate_checker.specs.Settled.{StandFor, IsSplitHead, AreSettledBy, AreSettledAt, AreSettled, IsOpen}
use Rattle.hs_certificate_checker.proofs.SettledLemmas.{settled_at, settled_all, own_rows}
use Rattle.hs_certificate_checker.proofs.OpenLemmas.{own_point}

pub match_left : {X : Type 0} (o : Option X) (P : Type 0) (Q : X → Type 0) → ((x : X) → o ≡ Some x → ⊥) → MatchOption o P Q → P
match_left None P Q never h = h
match_left (Some x) P Q never h = absurd (never x refl)

module _ (b : BasisData) (p : ProblemData) (point : ℕ) where
  -- what is told of one type of the head
  abbrev pub ToldOfHead : InternerData → InternerData → HeadTypeData → Option RowData → Type 0
  ToldOfHead J K h opened = (C : List EntryData) (V : List VoidData) (R : List (ℕ × ℕ)) (of : PointData) → StandFor b J C V → slice_get p.points.points point ≡ Some of → IsHeadTypeAt p C R point of (sets_of J h) (type_of_id J h.ty)
      → MatchOption opened (AreSettledBy p C V point of (sets_of J h) (type_of_id J h.ty)) (IsOpen p C V R K)

  module _ (I : InternerData) (heads : List HeadTypeData) where
    abbrev pub SettledHeads : List HeadTypeData → Type 0
    SettledHeads hs = (C : List EntryData) (V : List VoidData) (R : List (ℕ × ℕ)) (of : PointData) → StandFor b I C V → slice_get p.points.points point ≡ Some of → AreHeadTypes p C R point of I heads
        → (h : HeadTypeData) → Contains hs h → AreSettledBy p C V point of (sets_of I h) (type_of_id I h.ty)

    pub no_head : SettledHeads (take 0 heads)
    no_head C V R of stand at are h there = absurd (none_in h there)

    module _ (J K : InternerData) (g : Grows I J) (k : ℕ) (h : HeadTypeData) (lt : k < length heads) (is : h ≡ get_or heads k h) (opened : Option RowData) (told : ToldOfHead J K h opened) where
      told_here : (C : List EntryData) (V : List VoidData) (R : List (ℕ × ℕ)) (of : PointData) → StandFor b I C V → slice_get p.points.points point ≡ Some of → AreHeadTypes p C R point of I heads
          → MatchOption opened (AreSettledBy p C V point of (sets_of J h) (type_of_id J h.ty)) (IsOpen p C V R K)
      told_here C V R of stand at are = told C V R of (numbered_stays b.problem C V I J b.table b.void g stand) at ((head_types_stay p C R point of I J g heads are).taken h (k, lt, sym is))

      pub head_more : ((r : RowData) → opened ≡ Some r → ⊥) → SettledHeads (take k heads) → SettledHeads (take (k + 1) heads)
      head_more never before C V R of stand at are x there = elim (pushed_cases (take k heads) h x (subst (λ (z : List HeadTypeData). Contains z x) (taken_next heads k h lt is) there)) [
        | inl was ↦ before C V R of stand at are x was
        | inr same ↦
            let row = are.rows h (k, lt, sym is) in
            let settled = match_left opened (AreSettledBy p C V point of (sets_of J h) (type_of_id J h.ty)) (IsOpen p C V R K) never (told_here C V R of stand at are) in
            let by_sets = subst (λ (ss : Env). AreSettledBy p C V point of ss (type_of_id J h.ty)) (sets_are p C R point of I J g h row) settled in
            let by_type = subst (λ (t : TypeTree). AreSettledBy p C V point of (sets_of I h) t) (rest_is p C R point of I J g h row) by_sets in
            subst (λ (y : HeadTypeData). AreSettledBy p C V point of (sets_of I y) (type_of_id I y.ty)) (sym same) by_type
      ]

      pub head_open : (r : RowData) → opened ≡ Some r → (C : List EntryData) (V : List VoidData) (R : List (ℕ × ℕ)) (of : PointData) → StandFor b I C V → slice_get p.points.points point ≡ Some of → AreHeadTypes p C R point of I heads → IsOpen p C V R K r
      head_open r found C V R of stand at are = match_some opened r (AreSettledBy p C V point of (sets_of J h) (type_of_id J h.ty)) (IsOpen p C V R K) found (told_here C V R of stand at are)

    pub heads_all : (k : ℕ) → length heads ≤ k → SettledHeads (take k heads) → (C : List EntryData) (V : List VoidData) (R : List (ℕ × ℕ)) (of : PointData) → StandFor b I C V → slice_get p.points.points point ≡ Some of → AreHeadTypes p C R point of I heads
        → AreSettledAt p C V R point
    heads_all k past before C V R of stand at are =
        settled_at p C V R point of at I heads are (λ h there. before C V R of stand at are h (subst (λ (z : List HeadTypeData). Contains z h) (sym (take_all k heads past)) there))

-- a split head stays one
pub split_stays : (p : ProblemData) (point : ℕ) (I J : InternerData) → Grows I J → (h : HeadTypeData) → IsSplitHead p point I h → IsSplitHead p point J h
split_stays p point I J g h split = record { row = λ of at. row_stays p [] [] point of I J g h (split.row of at); long = split.long }

-- the types of the head are found, by other names of the rows and of the list
abbrev pub FoundHeads : ProblemData → List (ℕ × ℕ) → ℕ → InternerData → InternerData → List RowData → List HeadTypeData → Type 0
FoundHeads p R point I J table heads = (C : List EntryData) → AreTableRows p C I table → (of : PointData) → slice_get p.points.points point ≡ Some of → AreHeadTypes p C R point of J heads

pub found_so : (p : ProblemData) (R : List (ℕ × ℕ)) (point : ℕ) (I J : InternerData) (table rows : List RowData) (heads hs : List HeadTypeData) → rows ≡ table → hs ≡ heads → FoundHeads p R point I J rows heads → FoundHeads p R point I J table hs
found_so p R point I J table rows heads hs rows_are heads_are found =
    subst (λ (z : List RowData). FoundHeads p R point I J z hs) rows_are (subst (λ (z : List HeadTypeData). FoundHeads p R point I J rows z) (sym heads_are) found)

-- at the point
module _ (b : BasisData) (p : ProblemData) (p_is : p ≡ b.problem) (point : ℕ) (within : point < length p.points.points) (R : List (ℕ × ℕ)) (I J : InternerData) (g : Grows I J) (heads : List HeadTypeData)
    (found : (C : List EntryData) → AreTableRows p C I b.table → (of : PointData) → slice_get p.points.points point ≡ Some of → AreHeadTypes p C R point of J heads) where
  abbrev of : PointData
  of = point_at p.points point

  at : slice_get p.points.points point ≡ Some of
  at = own_point p point within

  pub split_heads : AreRows I b → (h : HeadTypeData) → Contains heads h → IsSplitHead p point J h
  split_heads rows h there =
      let own : AreTableRows p (map (entry_of I) b.table) I b.table = subst (λ (q : ProblemData). AreTableRows q (map (entry_of I) b.table) I b.table) (sym p_is) (own_rows b.problem I b.table rows.shape) in
      record {
        row = λ d d_at. (found (map (entry_of I) b.table) own d d_at).rows h there;
        long = λ d d_at. sym (length-map h.sets (set_of_id J)) ∙ ((found (map (entry_of I) b.table) own d d_at).taken h there).long;
      }

  pub open_here : (K : InternerData) (opened : Option RowData)
      → ((C : List EntryData) (V : List VoidData) (S : List (ℕ × ℕ)) (d : PointData) → StandFor b J C V → slice_get p.points.points point ≡ Some d → AreHeadTypes p C S point d J heads → MatchOption opened (AreSettledAt p C V S point) (IsOpen p C V S K))
      → (C : List EntryData) (V : List VoidData) → StandFor b I C V → MatchOption opened (AreSettledAt p C V R point) (IsOpen p C V R K)
  open_here K opened told C V stand =
      told C V R of (numbered_stays b.problem C V I J b.table b.void g stand) at (found C (subst (λ (q : ProblemData). AreTableRows q C I b.table) (sym p_is) stand.rows) of at)

-- at all points
module _ (b : BasisData) (p : ProblemData) (R : List (ℕ × ℕ)) (I : InternerData) where
  abbrev pub ToldOfPoint : InternerData → InternerData → ℕ → Option RowData → Type 0
  ToldOfPoint J K point opened = (C : List EntryData) (V : List VoidData) → StandFor b J C V → MatchOption opened (AreSettledAt p C V R point) (IsOpen p C V R K)

  abbrev pub SettledBelow : ℕ → Type 0
  SettledBelow n = (C : List EntryData) (V : List VoidData) → StandFor b I C V → (point : ℕ) → point < n → AreSettledAt p C V R point

  pub no_point : SettledBelow 0
  no_point C V stand point lt = absurd (omega (arith, lt))

  pub point_more : (J K : InternerData) → Grows I J → (n : ℕ) (opened : Option RowData) → ToldOfPoint J K n opened → ((r : RowData) → opened ≡ Some r → ⊥) → SettledBelow n → SettledBelow (n + 1)
  point_more J K g n opened told never before C V stand = one_more (AreSettledAt p C V R) n (before C V stand)
      (match_left opened (AreSettledAt p C V R n) (IsOpen p C V R K) never (told C V (numbered_stays b.problem C V I J b.table b.void g stand)))

  pub point_open : (J K : InternerData) → Grows I J → (n : ℕ) (opened : Option RowData) → ToldOfPoint J K n opened → (r : RowData) → opened ≡ Some r → (C : List EntryData) (V : List VoidData) → StandFor b I C V → IsOpen p C V R K r
  point_open J K g n opened told r found C V stand = match_some opened r (AreSettledAt p C V R n) (IsOpen p C V R K) found (told C V (numbered_stays b.problem C V I J b.table b.void g stand))

  pub points_all : (n : ℕ) → length p.points.points ≤ n → SettledBelow n → (C : List EntryData) (V : List VoidData) → StandFor b I C V → AreSettled p C V R
  points_all n past before C V stand = settled_all p C V R (λ point lt. before C V stand point (omega (arith, lt, past)))
