-- Slots: a head's type `s1 -> .. -> sk -> t` at a point `h u1 .. uk` asks for an entry at ui for each type of si.
--     SlotData               one of these: the argument's number, its point, and the type
--     slots i us ss          those of these points and sets, the first of them number i, by argument and then in the set's order
--     FixedData              an entry at an argument that has to fill the slot of its type
--     FilledData             the number of a slot's argument with the places of its candidates
--     IsCandidate            the entry at a place fills the slot, and a fixed one leaves no other
--     Picked                 one candidate for each slot
--     IsOwn                  the environment asks for just what the head asks for
--     IsJoin n own es env    the environment, for n parameters, asks for just what `own` and the entries ask for
--     Concludes              these arguments lead to the environment
use Rattle.std.specs.Prelude.{◌≡◌, ℕ, suc, ◌<◌, List, [], ◌∷◌, ◌++◌, slice_get, Option, Some, None, ◌⊎◌, ◌↔◌}
use Rattle.hs_table.specs.Types.{TypeTree}
use Rattle.hs_table.specs.Entries.{Env, EntryData, Has, IsEnv}
use Rattle.hs_scheme.specs.declared.term.Head.{Head}
use Rattle.hs_table.specs.Follows.{AnyHas, HeadHas}

pub record SlotData : Type 0 where
  pub arg : ℕ
  pub point : ℕ
  pub ty : TypeTree

-- of argument i at point u
abbrev pub slots_of : ℕ → ℕ → List TypeTree → List SlotData
slots_of i u [] = []
slots_of i u (a ∷ s) = (record { arg = i; point = u; ty = a }) ∷ slots_of i u s

abbrev pub slots : ℕ → List ℕ → Env → List SlotData
slots i [] ss = []
slots i (u ∷ us) [] = []
slots i (u ∷ us) (s ∷ ss) = slots_of i u s ++ slots (suc i) us ss

pub record FixedData : Type 0 where
  pub arg : ℕ
  pub ty : TypeTree
  pub place : ℕ

abbrev pub Respects : Option FixedData → SlotData → ℕ → Type 0
Respects None s place = Unit {0}
Respects (Some f) s place = s.arg ≡ f.arg → s.ty ≡ f.ty → place ≡ f.place

pub record FilledData : Type 0 where
  pub arg : ℕ
  pub places : List ℕ

pub record IsCandidate (E : List EntryData) (fixed : Option FixedData) (s : SlotData) (place : ℕ) (e : EntryData) : Type 0 where
  pub at : slice_get E place ≡ Some e
  pub point : e.point ≡ s.point
  pub ty : e.ty ≡ s.ty
  pub respects : Respects fixed s place

-- for each slot the number of its argument with the place of a candidate, and these candidates
pub data Picked {X : Type 0} (arg : X → ℕ) (Fills : X → ℕ → EntryData → Type 0) : List X → List (ℕ × ℕ) → List EntryData → Type 0 where
  none_left : Picked arg Fills [] [] []
  pick : {x : X} {xs : List X} {place : ℕ} {args : List (ℕ × ℕ)} {e : EntryData} {es : List EntryData}
      → Fills x place e → Picked arg Fills xs args es → Picked arg Fills (x ∷ xs) ((arg x, place) ∷ args) (e ∷ es)

pub record IsOwn (n : ℕ) (h : Head) (ty : TypeTree) (own : Env) : Type 0 where
  pub is_env : IsEnv n own
  pub has : (j : ℕ) (a : TypeTree) → j < n → Has own j a ↔ HeadHas h ty j a

pub record IsJoin (n : ℕ) (own : Env) (es : List EntryData) (env : Env) : Type 0 where
  pub is_env : IsEnv n env
  pub has : (j : ℕ) (a : TypeTree) → j < n → Has env j a ↔ (Has own j a ⊎ AnyHas es j a)

pub record Concludes (E : List EntryData) (fixed : Option FixedData) (n : ℕ) (us : List ℕ) (own sets : Env) (args : List (ℕ × ℕ)) (env : Env) : Type 0 where
  pub chosen : List EntryData
  pub picked : Picked (λ s. s.arg) (IsCandidate E fixed) (slots 0 us sets) args chosen
  pub join : IsJoin n own chosen env
