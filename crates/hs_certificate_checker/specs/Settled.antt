-- What weakly follows and matters is covered or void; only private contracts cite it.
--     StandFor         a table and void pairs for which rows stand
--     IsNumbered       there are such
--     IsOther          the row has this point and type, and one of these environments, and isn't settled
--     IsSplitHead      a type of the point's head, split at its arguments
--     AreSettledBy     so is what follows by a type of the head of a point
--     AreSettledAt     so is what follows at a point
--     AreSettled       so is all
--     IsOpen           the row's entry isn't, though it follows and matters
use Rattle.std.specs.Prelude.{◌≡◌, ℕ, ◌<◌, List, length, slice_get, Some, Contains, ◌⊎◌, ◌↔◌}
use Rattle.hs_scheme.specs.flow.Points.{PointData}
use Rattle.hs_scheme.specs.Problem.{ProblemData}
use Rattle.hs_table.specs.Types.{TypeTree, arrows}
use Rattle.hs_table.specs.Entries.{Env, EntryData, Has, IsEnv, params_of}
use Rattle.hs_table.specs.Follows.{HeadHas, AnyHas}
use Rattle.hs_weak.specs.Strength.{AsStrongAs}
use Rattle.hs_weak.specs.Weak.{WeaklyChosen, WeaklyFollows, IsCoveredIn}
use Rattle.hs_weak.specs.Void.{VoidData}
use Rattle.hs_weak.specs.Certificate.{Matters, IsVoidEntry}
use Rattle.hs_types.specs.Interned.{InternerData, type_of_id, env_of_id, RowData, IsRow, entry_of}
use Rattle.hs_choices.specs.Slots.{IsSettled}
use Rattle.hs_numbered.specs.Certificates.{VoidRowData}
use Rattle.hs_choices.specs.Numbered.{AreNumbered}
use Rattle.hs_heads.specs.HeadTypes.{HeadTypeData, IsHeadRow}
use Rattle.hs_void.specs.Voids.{BasisData}
use Rattle.hs_certificate_checker.specs.Faults.{IsUncovered}

abbrev pub StandFor : BasisData → InternerData → List EntryData → List VoidData → Type 0
StandFor b I C V = AreNumbered b.problem C V I b.table b.void

pub record IsNumbered (p : ProblemData) (I : InternerData) (table : List RowData) (void : List VoidRowData) : Type 0 where
  pub entries : List EntryData
  pub pairs : List VoidData
  pub are : AreNumbered p entries pairs I table void

pub record IsOther (p : ProblemData) (C : List EntryData) (V : List VoidData) (point rule : ℕ) (I : InternerData) (ty : ℕ) (ks : List ℕ) (row : RowData) : Type 0 where
  pub at : row.point ≡ point
  pub typed : row.ty ≡ ty
  pub among : Contains ks row.env
  pub not : IsSettled p C V point rule (type_of_id I ty) (env_of_id I row.env) → ⊥

pub record IsSplitHead (p : ProblemData) (point : ℕ) (I : InternerData) (h : HeadTypeData) : Type 0 where
  pub row : (of : PointData) → slice_get p.points.points point ≡ Some of → IsHeadRow p of I h
  pub long : (of : PointData) → slice_get p.points.points point ≡ Some of → length h.sets ≡ length of.args

abbrev pub AreSettledBy : ProblemData → List EntryData → List VoidData → ℕ → PointData → Env → TypeTree → Type 0
AreSettledBy p C V point of sets ty =
    (places : List (ℕ × ℕ)) (es : List EntryData) → WeaklyChosen AsStrongAs p C 0 of.args sets places es → (E : Env) → IsEnv (params_of p of.rule) E
    → ((j : ℕ) (a : TypeTree) → j < length E → Has E j a ↔ (HeadHas of.head (arrows sets ty) j a ⊎ AnyHas es j a)) → IsSettled p C V point of.rule ty E

abbrev pub AreSettledAt : ProblemData → List EntryData → List VoidData → List (ℕ × ℕ) → ℕ → Type 0
AreSettledAt p C V R point = (e : EntryData) → e.point ≡ point → WeaklyFollows AsStrongAs p C e → Matters R e → IsCoveredIn AsStrongAs p C e ⊎ IsVoidEntry p C V e

abbrev pub AreSettled : ProblemData → List EntryData → List VoidData → List (ℕ × ℕ) → Type 0
AreSettled p C V R = (e : EntryData) → WeaklyFollows AsStrongAs p C e → Matters R e → IsCoveredIn AsStrongAs p C e ⊎ IsVoidEntry p C V e

abbrev pub IsOpen : ProblemData → List EntryData → List VoidData → List (ℕ × ℕ) → InternerData → RowData → Type 0
IsOpen p C V R I row = IsRow I row × IsUncovered p C V R (entry_of I row)
