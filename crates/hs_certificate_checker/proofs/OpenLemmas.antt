-- An entry that is opened by a type of a point's head, by numbers.
use Rattle.std.proofs.Common.{◌≡◌, sym, ◌∙◌, ap, subst, ℕ, ◌<◌, List, [], length, map, slice_get, Option, Some, MatchOption, Contains}
use Rattle.std.proofs.lemmas.Option.{slice_get-get_or, same_Some}
use Rattle.std.proofs.lemmas.List.Elements.{All-contains}
use Rattle.hs_scheme.specs.declared.term.Head.TheVariants.{Tm}
use Rattle.hs_scheme.specs.flow.Points.{PointData, point_at}
use Rattle.hs_scheme.specs.Problem.{ProblemData}
use Rattle.hs_table.specs.Types.{TypeTree}
use Rattle.hs_table.specs.Entries.{Env, EntryData, params_of}
use Rattle.hs_table_laws.proofs.Members.{into_map}
use Rattle.hs_verdict.specs.Premises.{IsSortedProblem}
use Rattle.hs_weak.specs.Void.{VoidData, IsVoid}
use Rattle.hs_types.specs.Interned.{InternerData, type_of_id, set_of_id, env_of_id, RowData, entry_of, Grows}
use Rattle.hs_types.proofs.Numbers.{type_stays, type_within}
use Rattle.hs_checker.proofs.InstanceLemmas.{match_map}
use Rattle.hs_choices.specs.Unions.{AreLeastUnions}
use Rattle.hs_choices.specs.Slots.{AscendAll, IsSettled}
use Rattle.hs_choices.specs.Numbered.{envs_of, slot_envs, AreInUse, AreOfArguments, AreNumbered}
use Rattle.hs_choices.proofs.Choosing.{rows_stand}
use Rattle.hs_choices.proofs.Staying.{numbered_stays}
use Rattle.hs_heads.specs.HeadTypes.{HeadTypeData, sets_of, IsHeadRow, IsHeadTypeAt}
use Rattle.hs_void.specs.Voids.{BasisData}
use Rattle.hs_certificate_checker.specs.Faults.{IsUncovered}
use Rattle.hs_certificate_checker.specs.Settled.{StandFor, IsOther, AreSettledBy, IsOpen}
use Rattle.hs_certificate_checker.proofs.HeadLemmas.{by_kept, by_other}

module _ (b : BasisData) (I J : InternerData) (g : Grows I J) (point : ℕ) (of : PointData) (h : HeadTypeData) (slots : List (List ℕ)) (are : AreOfArguments I b.table of.args (sets_of I h) slots) (kept : List ℕ) (in_use : AreInUse J kept)
    (ascend : AscendAll (envs_of J kept)) (opened : Option RowData) where
  -- the problem is that of the basis, by another name
  abbrev pub Least : ProblemData → Type 0
  Least q = (C : List EntryData) (V : List VoidData) → AreNumbered q C V I b.table b.void → AreLeastUnions (length (env_of_id I h.first)) (IsVoid q C V of.rule) (env_of_id I h.first) (slot_envs I slots) (envs_of J kept)

  abbrev pub Told : ProblemData → Type 0
  Told q = (C : List EntryData) (V : List VoidData) → AreNumbered q C V J b.table b.void
      → MatchOption opened ((E : Env) → Contains (envs_of J kept) E → IsSettled q C V point of.rule (type_of_id J h.ty) E) (IsOther q C V point of.rule J h.ty kept)

  module _ (p : ProblemData) (given : IsSortedProblem p) (at : slice_get p.points.points point ≡ Some of) (row : IsHeadRow p of I h) (least : Least p) (told : Told p) (C : List EntryData) (V : List VoidData) (R : List (ℕ × ℕ)) (stand : AreNumbered p C V I b.table b.void)
      (head : IsHeadTypeAt p C R point of (sets_of I h) (type_of_id I h.ty)) where
    abbrev kept_envs : List Env
    kept_envs = envs_of J kept

    same_type : type_of_id J h.ty ≡ type_of_id I h.ty
    same_type = type_stays I J g h.ty row.ty

    own_least : AreLeastUnions (params_of p of.rule) (IsVoid p C V of.rule) (env_of_id I h.first) (slot_envs I slots) kept_envs
    own_least = subst (λ n. AreLeastUnions n (IsVoid p C V of.rule) (env_of_id I h.first) (slot_envs I slots) kept_envs) row.first.long (least C V stand)

    settled_by : ((E : Env) → Contains kept_envs E → IsSettled p C V point of.rule (type_of_id J h.ty) E) → AreSettledBy p C V point of (sets_of I h) (type_of_id I h.ty)
    settled_by all = by_kept p given C V R point of at (sets_of I h) (type_of_id I h.ty) head (env_of_id I h.first) row.first (slot_envs I slots) (rows_stand p C I b.table stand.rows of.args (sets_of I h) slots are) kept_envs ascend own_least
        (λ E there. subst (λ (t : TypeTree). IsSettled p C V point of.rule t E) same_type (all E there))

    open_row : (r : RowData) → IsOther p C V point of.rule J h.ty kept r → IsOpen p C V R J r
    open_row r other =
        let uncovered = by_other p given C V R point of at (sets_of I h) (type_of_id I h.ty) head (env_of_id I h.first) row.first (slot_envs I slots) (rows_stand p C I b.table stand.rows of.args (sets_of I h) slots are) kept_envs ascend own_least
        (env_of_id J r.env) (into_map (env_of_id J) kept r.env other.among) (λ settled. other.not (subst (λ (t : TypeTree). IsSettled p C V point of.rule t (env_of_id J r.env)) (sym same_type) settled)) in
        let ty : type_of_id I h.ty ≡ type_of_id J r.ty = sym same_type ∙ ap (type_of_id J) (sym other.typed) in
        let is : record { point = point; env = env_of_id J r.env; ty = type_of_id I h.ty } ≡ entry_of J r = λ i. record { point = sym other.at i; env = env_of_id J r.env; ty = ty i } in (
          (All-contains (λ k. k < length J.envs) kept r.env in_use other.among, subst (λ t. t < length J.types) (sym other.typed) (type_within I J g h.ty row.ty)),
          subst (λ (e : EntryData). IsUncovered p C V R e) is uncovered,
        )

    pub open_here : MatchOption opened (AreSettledBy p C V point of (sets_of I h) (type_of_id I h.ty)) (IsOpen p C V R J)
    open_here = match_map opened ((E : Env) → Contains kept_envs E → IsSettled p C V point of.rule (type_of_id J h.ty) E) (AreSettledBy p C V point of (sets_of I h) (type_of_id I h.ty)) (IsOther p C V point of.rule J h.ty kept) (IsOpen p C V R J) settled_by open_row
        (told C V (numbered_stays p C V I J b.table b.void g stand))

  -- by other names
  pub open_of : (p : ProblemData) → p ≡ b.problem → IsSortedProblem p → slice_get p.points.points point ≡ Some of → IsHeadRow p of I h → Least b.problem → Told b.problem → (K : InternerData) → K ≡ J
      → (C : List EntryData) (V : List VoidData) (R : List (ℕ × ℕ)) (d : PointData) → AreNumbered b.problem C V I b.table b.void → slice_get p.points.points point ≡ Some d → IsHeadTypeAt p C R point d (sets_of I h) (type_of_id I h.ty)
      → MatchOption opened (AreSettledBy p C V point d (sets_of I h) (type_of_id I h.ty)) (IsOpen p C V R K)
  open_of p p_is given at row least told K same C V R d stand d_at head =
      let of_is : of ≡ d = same_Some of d (sym at ∙ d_at) in
      let own_head = subst (λ (x : PointData). IsHeadTypeAt p C R point x (sets_of I h) (type_of_id I h.ty)) (sym of_is) head in
      let own_least = subst Least (sym p_is) least in
      let own_told = subst Told (sym p_is) told in
      let own_stand = subst (λ (q : ProblemData). AreNumbered q C V I b.table b.void) (sym p_is) stand in
      subst (λ (x : PointData). MatchOption opened (AreSettledBy p C V point x (sets_of I h) (type_of_id I h.ty)) (IsOpen p C V R K)) of_is
      (subst (λ (z : InternerData). MatchOption opened (AreSettledBy p C V point of (sets_of I h) (type_of_id I h.ty)) (IsOpen p C V R z)) (sym same) (open_here p given at row own_least own_told C V R own_stand own_head))

-- what is told of the environments that are kept, by other names
abbrev pub ToldBy : BasisData → InternerData → ℕ → ℕ → ℕ → List ℕ → Option RowData → Type 0
ToldBy d J point rule ty ks opened = (C : List EntryData) (V : List VoidData) → StandFor d J C V
    → MatchOption opened ((E : Env) → Contains (envs_of J ks) E → IsSettled d.problem C V point rule (type_of_id J ty) E) (IsOther d.problem C V point rule J ty ks)

module _ (b d : BasisData) (J : InternerData) (point f rule u ty : ℕ) (ls ks : List ℕ) (opened : Option RowData) where
  pub told_so : d ≡ b → f ≡ rule → u ≡ ty → ls ≡ ks → ToldBy d J point f u ls opened → ToldBy b J point rule ty ks opened
  told_so basis rule_is ty_is ks_are told =
      subst (λ (z : BasisData). ToldBy z J point rule ty ks opened) basis (subst (λ k. ToldBy d J point k ty ks opened) rule_is
      (subst (λ k. ToldBy d J point f k ks opened) ty_is (subst (λ (z : List ℕ). ToldBy d J point f u z opened) ks_are told)))

pub own_point : (p : ProblemData) (point : ℕ) → point < length p.points.points → slice_get p.points.points point ≡ Some (point_at p.points point)
own_point p point within = slice_get-get_or p.points.points point (record { rule = 0; head = Tm 0; args = [] }) within

-- slots for the arguments, by other names
pub of_arguments : (I : InternerData) (table rows : List RowData) (us args : List ℕ) (h : HeadTypeData) (ss : List ℕ) (slots : List (List ℕ)) → rows ≡ table → us ≡ args → ss ≡ h.sets → AreOfArguments I rows us (map (set_of_id I) ss) slots
    → AreOfArguments I table args (sets_of I h) slots
of_arguments I table rows us args h ss slots rows_are us_are ss_are are =
    subst (λ (z : List RowData). AreOfArguments I z args (sets_of I h) slots) rows_are (subst (λ (z : List ℕ). AreOfArguments I rows z (sets_of I h) slots) us_are (subst (λ (z : List ℕ). AreOfArguments I rows us (map (set_of_id I) z) slots) ss_are are))

-- least unions, by other names
abbrev pub LeastBy : BasisData → InternerData → ℕ → ℕ → List (List ℕ) → InternerData → List ℕ → Type 0
LeastBy b I rule first slots J ks = (C : List EntryData) (V : List VoidData) → StandFor b I C V → AreLeastUnions (length (env_of_id I first)) (IsVoid b.problem C V rule) (env_of_id I first) (slot_envs I slots) (envs_of J ks)

pub least_so : (b : BasisData) (I K : InternerData) (rule f first u : ℕ) (slots others : List (List ℕ)) (J : InternerData) (ks : List ℕ) → K ≡ I → f ≡ rule → u ≡ first → others ≡ slots → LeastBy b K f u others J ks → LeastBy b I rule first slots J ks
least_so b I K rule f first u slots others J ks same rule_is first_is slots_are least =
    subst (λ (z : InternerData). LeastBy b z rule first slots J ks) same (subst (λ k. LeastBy b K k first slots J ks) rule_is
    (subst (λ k. LeastBy b K f k slots J ks) first_is (subst (λ (z : List (List ℕ)). LeastBy b K f u z J ks) slots_are least)))
