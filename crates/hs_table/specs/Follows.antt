-- What follows from a list of entries, of which only those in shape count. An entry at the point `h u1 .. uk` follows where the head h has
-- a type `s1 -> .. -> sk -> t`, the entry's type is t, and for each i and each type in si an entry at ui has that type; the entry's
-- environment is just what these entries ask of the parameters, together with what the head asks.
--     IsHeadType           the types of a head, and where each comes from
--     Chosen               the entries for the types of the sets
--     FollowsBy, Follows   an entry follows from a list by this support; by some support
--     premises             the places of the entries that a support names
--     HasMove              a state has a transition for a terminal, with no more children than so many
use Rattle.std.specs.Prelude.{◌≡◌, ℕ, suc, ◌+◌, ◌<◌, ◌≤◌, List, [], ◌∷◌, ◌++◌, length, map, slice_get, unwrap_or, replicate, set, Option, Some, None, Contains, ◌⊎◌, ◌↔◌}
use Rattle.hs_scheme.specs.declared.term.Head.{Head}
use Rattle.hs_scheme.specs.declared.term.Head.TheVariants.{Var, Nt, Tm}
use Rattle.hs_scheme.specs.flow.Points.{PointData}
use Rattle.hs_scheme.specs.Problem.{ProblemData}
use Rattle.hs_scheme.specs.acceptance.Transition.{TransitionData}
use Rattle.hs_scheme.specs.acceptance.Automaton.{next}
use Rattle.hs_table.specs.declared.support.HeadBy.{HeadBy}
use Rattle.hs_table.specs.declared.support.HeadBy.TheVariants.{Terminal, Rule, Param}
use Rattle.hs_table.specs.Types.{TypeTree, state, arrows}
use Rattle.hs_table.specs.Entries.{Env, EntryData, Has, IsEnv, InShape, params_of}

abbrev pub rank_of : ProblemData → ℕ → ℕ
rank_of p a = unwrap_or (slice_get p.sorted.scheme.ranks a) 0

-- terminal a has no transition in state q: it is rejected whatever its children are
pub record LacksTransition (p : ProblemData) (a q : ℕ) (ty : TypeTree) : Type 0 where
  pub moves : next p.sorted.automaton.transitions q a ≡ None
  pub is : ty ≡ arrows (replicate (rank_of p a) []) (state q)

-- it has one, and a child, counted from 1, is rejected in its state r
pub record RejectsChild (p : ProblemData) (a q child : ℕ) (ty : TypeTree) : Type 0 where
  pub qs : List ℕ
  pub place : ℕ
  pub r : ℕ
  pub moves : next p.sorted.automaton.transitions q a ≡ Some qs
  pub at : slice_get qs place ≡ Some r
  pub counted : child ≡ place + 1
  pub is : ty ≡ arrows (set (replicate (length qs) []) place (state r ∷ [])) (state q)

abbrev pub IsTerminalType : ProblemData → ℕ → ℕ → Option ℕ → TypeTree → Type 0
IsTerminalType p a q None ty = LacksTransition p a q ty
IsTerminalType p a q (Some child) ty = RejectsChild p a q child ty

-- in state q the terminal a has a transition, with at most n children: with n arguments it is then rejected only by a child
abbrev pub HasMove : List TransitionData → ℕ → ℕ → ℕ → Type 0
HasMove ts a n q = (to : List ℕ) × ((next ts q a ≡ Some to) × (length to ≤ n))

-- the list has the entry at this place, and it counts
pub record IsAt (p : ProblemData) (E : List EntryData) (place : ℕ) (e : EntryData) : Type 0 where
  pub at : slice_get E place ≡ Some e
  pub shape : InShape p e

-- a nonterminal is rejected where an entry at its body says so
pub record FromBody (p : ProblemData) (E : List EntryData) (f place : ℕ) (ty : TypeTree) : Type 0 where
  pub entry : EntryData
  pub q : ℕ
  pub holds : IsAt p E place entry
  pub body : slice_get p.points.bodies f ≡ Some entry.point
  pub is_state : entry.ty ≡ state q
  pub is : ty ≡ arrows entry.env (state q)

-- a parameter may be rejected where a point that may stand for it is
pub record FromFlow (p : ProblemData) (E : List EntryData) (rule x place : ℕ) (ty : TypeTree) : Type 0 where
  pub entry : EntryData
  pub holds : IsAt p E place entry
  pub flows : Contains p.flow.pairs (record { rule = rule; param = x; point = entry.point })
  pub is : ty ≡ entry.ty

-- the head of a point in this rule has the type
abbrev pub IsHeadType : ProblemData → List EntryData → ℕ → Head → HeadBy → TypeTree → Type 0
IsHeadType p E rule (Tm a) (Terminal q child) ty = (q < p.sorted.automaton.states) × IsTerminalType p a q child ty
IsHeadType p E rule (Nt f) (Rule place) ty = FromBody p E f place ty
IsHeadType p E rule (Var x) (Param y place) ty = (y ≡ x) × FromFlow p E rule x place ty
IsHeadType p E rule h by ty = ⊥

-- what the head asks of the parameters: a parameter at the head has to be rejected by its type
abbrev pub HeadHas : Head → TypeTree → ℕ → TypeTree → Type 0
HeadHas (Var x) ty j a = (j ≡ x) × (a ≡ ty)
HeadHas (Nt f) ty j a = ⊥
HeadHas (Tm b) ty j a = ⊥

-- For arguments at these points, the first of them number i, and for the types of these sets: by argument and then in the set's order
-- the argument's number with the place of an entry there, and these entries.
pub data Chosen (p : ProblemData) (E : List EntryData) : ℕ → List ℕ → Env → List (ℕ × ℕ) → List EntryData → Type 0 where
  done : {i : ℕ} → Chosen p E i [] [] [] []
  next_argument : {i u : ℕ} {us : List ℕ} {ss : Env} {args : List (ℕ × ℕ)} {es : List EntryData} → Chosen p E (suc i) us ss args es → Chosen p E i (u ∷ us) ([] ∷ ss) args es
  choose : {i u place : ℕ} {us : List ℕ} {a : TypeTree} {s : List TypeTree} {ss : Env} {args : List (ℕ × ℕ)} {e : EntryData} {es : List EntryData}
      → IsAt p E place e → e.point ≡ u → e.ty ≡ a → Chosen p E i (u ∷ us) (s ∷ ss) args es
      → Chosen p E i (u ∷ us) ((a ∷ s) ∷ ss) ((i, place) ∷ args) (e ∷ es)

-- one of the entries asks for the type at parameter j
abbrev pub AnyHas : List EntryData → ℕ → TypeTree → Type 0
AnyHas [] j a = ⊥
AnyHas (e ∷ es) j a = Has e.env j a ⊎ AnyHas es j a

-- where the head's type comes from, and each chosen entry as the number of its argument, from 0, and its place
pub record Support : Type 0 where
  pub head : HeadBy
  pub args : List (ℕ × ℕ)

pub record FollowsBy (p : ProblemData) (E : List EntryData) (s : Support) (e : EntryData) : Type 0 where
  pub of : PointData
  pub at : slice_get p.points.points e.point ≡ Some of
  pub sets : Env
  pub head : IsHeadType p E of.rule of.head s.head (arrows sets e.ty)
  pub chosen : List EntryData
  pub are : Chosen p E 0 of.args sets s.args chosen
  pub env : IsEnv (params_of p of.rule) e.env
  pub union : (j : ℕ) (a : TypeTree) → j < length e.env → Has e.env j a ↔ (HeadHas of.head (arrows sets e.ty) j a ⊎ AnyHas chosen j a)

abbrev pub Follows : ProblemData → List EntryData → EntryData → Type 0
Follows p E e = (s : Support) × FollowsBy p E s e

abbrev pub head_premise : HeadBy → List ℕ
head_premise (Terminal q child) = []
head_premise (Rule place) = place ∷ []
head_premise (Param x place) = place ∷ []

abbrev pub premises : Support → List ℕ
premises s = head_premise s.head ++ map (λ a. a.1) s.args
