-- What is chosen from, for the types that are asked of arguments.
--     MayStand       an entry that may be chosen for a type at a point
--     IsSlotFor      for a type at a point: environments of entries there with a type as strong, one at least for each such entry that it asks at least
--     AreSlots       a list of them for each type of each set, by argument and then in the set's order
--     IsHeadEnv      the environment that asks what the head asks
--     AscendAll      sets in these environments are in order
--     IsSettled      the entry with the environment is covered, or the environment is void
use Rattle.std.specs.Prelude.{◌≡◌, ℕ, List, [], ◌∷◌, length, Contains, ◌⊎◌, ◌↔◌}
use Rattle.hs_scheme.specs.declared.term.Head.{Head}
use Rattle.hs_scheme.specs.Problem.{ProblemData}
use Rattle.hs_table.specs.Types.{TypeTree, IsSet}
use Rattle.hs_table.specs.Entries.{Env, EntryData, Has, set_at}
use Rattle.hs_table.specs.Follows.{IsAt, HeadHas}
use Rattle.hs_weak.specs.Strength.{AsStrongAs}
use Rattle.hs_weak.specs.Weak.{IsCoveredIn}
use Rattle.hs_weak.specs.Void.{VoidData, IsVoid}
use Rattle.hs_choices.specs.Unions.{AsksOneOf}

-- an entry that may be chosen for the type at the point
pub record MayStand (p : ProblemData) (C : List EntryData) (u : ℕ) (a : TypeTree) (e : EntryData) : Type 0 where
  pub place : ℕ
  pub holds : IsAt p C place e
  pub point : e.point ≡ u
  pub strong : AsStrongAs e.ty a

pub record IsSlotFor (p : ProblemData) (C : List EntryData) (u : ℕ) (a : TypeTree) (slot : List Env) : Type 0 where
  pub taken : (E : Env) → Contains slot E → (e : EntryData) × (MayStand p C u a e × (e.env ≡ E))
  pub each : (e : EntryData) → MayStand p C u a e → AsksOneOf slot e.env

pub data AreSlots (p : ProblemData) (C : List EntryData) : List ℕ → Env → List (List Env) → Type 0 where
  no_argument : AreSlots p C [] [] []
  behind_argument : {u : ℕ} {us : List ℕ} {ss : Env} {slots : List (List Env)} → AreSlots p C us ss slots → AreSlots p C (u ∷ us) ([] ∷ ss) slots
  one_type : {u : ℕ} {us : List ℕ} {a : TypeTree} {s : List TypeTree} {ss : Env} {of : List Env} {slots : List (List Env)}
      → IsSlotFor p C u a of → AreSlots p C (u ∷ us) (s ∷ ss) slots → AreSlots p C (u ∷ us) ((a ∷ s) ∷ ss) (of ∷ slots)

pub record IsHeadEnv (n : ℕ) (head : Head) (ty : TypeTree) (E : Env) : Type 0 where
  pub long : length E ≡ n
  pub exact : (j : ℕ) (a : TypeTree) → Has E j a ↔ HeadHas head ty j a

abbrev pub AscendAll : List Env → Type 0
AscendAll Es = (E : Env) → Contains Es E → (j : ℕ) → IsSet (set_at E j)

abbrev pub IsSettled : ProblemData → List EntryData → List VoidData → ℕ → ℕ → TypeTree → Env → Type 0
IsSettled p C V point rule ty E = IsCoveredIn AsStrongAs p C (record { point = point; env = E; ty = ty }) ⊎ IsVoid p C V rule E
