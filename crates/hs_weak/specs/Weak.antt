-- What follows weakly from a list of entries, of which only those in shape count: for each type of the sets of the head's type the chosen
-- entry has a type that is as strong, and need not have that type itself.
--     WeaklyChosen                          the entries for the types of the sets
--     WeaklyFollowsBy, WeaklyFollows        an entry weakly follows from a list by this support; by some support
--     EachWeaklyFollows                     each entry of a list weakly follows from those before it
--     HasWeakSupports                       so by these supports, one for each entry
--     IsCoveredIn                           an entry of the list, in shape, covers the entry
--     IsCompact                             no entry covers another, all can be derived, and what weakly follows is covered
-- All but the last are written over the relation R that says which type is as strong as which.
use Rattle.std.specs.Prelude.{◌≡◌, ◌≢◌, ℕ, suc, ◌<◌, List, [], ◌∷◌, length, take, slice_get, Some, Contains, ◌⊎◌, ◌↔◌}
use Rattle.hs_scheme.specs.flow.Points.{PointData}
use Rattle.hs_scheme.specs.Problem.{ProblemData}
use Rattle.hs_table.specs.Types.{TypeTree, arrows}
use Rattle.hs_table.specs.Entries.{Env, EntryData, Has, IsEnv, params_of}
use Rattle.hs_table.specs.Follows.{IsAt, IsHeadType, HeadHas, AnyHas, Support}
use Rattle.hs_weak.specs.Strength.{AsStrongAs, Covers}

-- For arguments at these points, the first of them number i, and for the types of these sets: by argument and then in the set's order
-- the argument's number with the place of an entry there whose type is as strong, and these entries.
pub data WeaklyChosen (R : TypeTree → TypeTree → Type 0) (p : ProblemData) (E : List EntryData) : ℕ → List ℕ → Env → List (ℕ × ℕ) → List EntryData → Type 0 where
  done : {i : ℕ} → WeaklyChosen R p E i [] [] [] []
  next_argument : {i u : ℕ} {us : List ℕ} {ss : Env} {args : List (ℕ × ℕ)} {es : List EntryData} → WeaklyChosen R p E (suc i) us ss args es → WeaklyChosen R p E i (u ∷ us) ([] ∷ ss) args es
  choose : {i u place : ℕ} {us : List ℕ} {a : TypeTree} {s : List TypeTree} {ss : Env} {args : List (ℕ × ℕ)} {e : EntryData} {es : List EntryData}
      → IsAt p E place e → e.point ≡ u → R e.ty a → WeaklyChosen R p E i (u ∷ us) (s ∷ ss) args es
      → WeaklyChosen R p E i (u ∷ us) ((a ∷ s) ∷ ss) ((i, place) ∷ args) (e ∷ es)

pub record WeaklyFollowsBy (R : TypeTree → TypeTree → Type 0) (p : ProblemData) (E : List EntryData) (s : Support) (e : EntryData) : Type 0 where
  pub of : PointData
  pub at : slice_get p.points.points e.point ≡ Some of
  pub sets : Env
  pub head : IsHeadType p E of.rule of.head s.head (arrows sets e.ty)
  pub chosen : List EntryData
  pub are : WeaklyChosen R p E 0 of.args sets s.args chosen
  pub env : IsEnv (params_of p of.rule) e.env
  pub union : (j : ℕ) (a : TypeTree) → j < length e.env → Has e.env j a ↔ (HeadHas of.head (arrows sets e.ty) j a ⊎ AnyHas chosen j a)

abbrev pub WeaklyFollows : (TypeTree → TypeTree → Type 0) → ProblemData → List EntryData → EntryData → Type 0
WeaklyFollows R p E e = (s : Support) × WeaklyFollowsBy R p E s e

abbrev pub EachWeaklyFollows : (TypeTree → TypeTree → Type 0) → ProblemData → List EntryData → Type 0
EachWeaklyFollows R p T = (i : ℕ) (e : EntryData) → slice_get T i ≡ Some e → WeaklyFollows R p (take i T) e

pub record HasWeakSupports (R : TypeTree → TypeTree → Type 0) (p : ProblemData) (T : List EntryData) (supports : List Support) : Type 0 where
  pub each : length supports ≡ length T
  pub follows : (i : ℕ) (s : Support) (e : EntryData) → slice_get supports i ≡ Some s → slice_get T i ≡ Some e → WeaklyFollowsBy R p (take i T) s e

abbrev pub IsCoveredIn : (TypeTree → TypeTree → Type 0) → ProblemData → List EntryData → EntryData → Type 0
IsCoveredIn R p C e = (place : ℕ) × (by : EntryData) × (IsAt p C place by × Covers R by e)

pub record IsCompact (p : ProblemData) (C : List EntryData) : Type 0 where
  pub apart : (i j : ℕ) (a b : EntryData) → slice_get C i ≡ Some a → slice_get C j ≡ Some b → i ≢ j → Covers AsStrongAs a b → ⊥
  pub from : List EntryData
  pub derived : EachWeaklyFollows AsStrongAs p from
  pub within : (e : EntryData) → Contains C e → Contains from e
  pub closed : (e : EntryData) → WeaklyFollows AsStrongAs p C e → IsCoveredIn AsStrongAs p C e
