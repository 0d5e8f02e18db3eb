-- Types of a head as they are found, by numbers; only private contracts cite it.
--     GainsTypes I J old new From   the types that come from there were added, and no others, while the interner grew
--     FromSome, FromPlace           from one of the items; from a place below a number
--     ByChild, InState              a terminal in a state, with this transition: its child at a place is rejected; so or without transition
--     BodySays, FlowSays            what a row at the body of a nonterminal, or at a point for a parameter, says of the head
--     AtRow                         a row of the table at the point says it
--     HeadSays                      where a type of the head comes from
use Rattle.std.specs.Prelude.{◌≡◌, ℕ, ◌<◌, List, [], ◌∷◌, length, slice_get, set, replicate, Option, Some, Contains, ◌⊎◌}
use Rattle.hs_scheme.specs.declared.term.Head.{Head}
use Rattle.hs_scheme.specs.declared.term.Head.TheVariants.{Var, Nt, Tm}
use Rattle.hs_scheme.specs.Problem.{ProblemData}
use Rattle.hs_table.specs.Types.{TypeTree, state, arrows}
use Rattle.hs_table.specs.Follows.{IsTerminalType}
use Rattle.hs_weak.specs.Reads.{last_state, FlowsTo}
use Rattle.hs_types.specs.Interned.{InternerData, type_of_id, env_of_id, RowData, Grows}

pub record HasNumber (J : InternerData) (found : List ℕ) (ty : TypeTree) : Type 0 where
  pub number : ℕ
  pub there : Contains found number
  pub within : number < length J.types
  pub is : type_of_id J number ≡ ty

pub record GainsTypes (I J : InternerData) (old new : List ℕ) (From : TypeTree → Type 0) : Type 0 where
  pub grows : Grows I J
  pub come : (t : ℕ) → Contains new t → Contains old t ⊎ ((t < length J.types) × From (type_of_id J t))
  pub keeps : (t : ℕ) → Contains old t → Contains new t
  pub all : (ty : TypeTree) → From ty → HasNumber J new ty

pub record FromSome {X : Type 0} (From : X → TypeTree → Type 0) (xs : List X) (ty : TypeTree) : Type 0 where
  pub item : X
  pub among : Contains xs item
  pub says : From item ty

pub record FromPlace (From : ℕ → TypeTree → Type 0) (n : ℕ) (ty : TypeTree) : Type 0 where
  pub place : ℕ
  pub below : place < n
  pub says : From place ty

pub record ByChild (q : ℕ) (to : List ℕ) (place : ℕ) (ty : TypeTree) : Type 0 where
  pub r : ℕ
  pub at : slice_get to place ≡ Some r
  pub is : ty ≡ arrows (set (replicate (length to) []) place (state r ∷ [])) (state q)

abbrev pub InState : ProblemData → ℕ → ℕ → TypeTree → Type 0
InState p a q ty = (q < p.sorted.automaton.states) × ((child : Option ℕ) × IsTerminalType p a q child ty)

pub record BodySays (I : InternerData) (R : List (ℕ × ℕ)) (point : ℕ) (row : RowData) (ty : TypeTree) : Type 0 where
  pub q : ℕ
  pub is_state : type_of_id I row.ty ≡ state q
  pub read : Contains R (point, q)
  pub is : ty ≡ arrows (env_of_id I row.env) (state q)

pub record FlowSays (I : InternerData) (R : List (ℕ × ℕ)) (point : ℕ) (row : RowData) (ty : TypeTree) : Type 0 where
  pub is : ty ≡ type_of_id I row.ty
  pub read : Contains R (point, last_state ty)

pub record AtRow (From : RowData → TypeTree → Type 0) (table : List RowData) (u : ℕ) (ty : TypeTree) : Type 0 where
  pub row : RowData
  pub there : Contains table row
  pub at : row.point ≡ u
  pub says : From row ty

abbrev pub HeadSays : ProblemData → List (ℕ × ℕ) → InternerData → List RowData → ℕ → ℕ → Head → TypeTree → Type 0
HeadSays p R I table point rule (Tm a) ty = (q : ℕ) × (Contains R (point, q) × InState p a q ty)
HeadSays p R I table point rule (Nt f) ty = (u : ℕ) × ((slice_get p.points.bodies f ≡ Some u) × AtRow (BodySays I R point) table u ty)
HeadSays p R I table point rule (Var x) ty = (u : ℕ) × (FlowsTo p rule x u × AtRow (FlowSays I R point) table u ty)
