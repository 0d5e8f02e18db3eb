-- All that follows from a list of entries at a point, as lists. `proofs/` ties them to the definitions of `hs_table`; only private
-- contracts cite them.
use Rattle.std.specs.Prelude.{ℕ, zero, suc, Bool, true, false, ◌&&◌, nat_eq, cond, List, [], ◌∷◌, ◌++◌, length, map, replicate, set, slice_index, Option, Some, None}
use Rattle.std.specs.List.{flat_map, list_any}
use Rattle.std.specs.Ordering.{is_eq}
use Rattle.hs_scheme.specs.declared.term.Head.{Head}
use Rattle.hs_scheme.specs.declared.term.Head.TheVariants.{Var, Nt, Tm}
use Rattle.hs_scheme.specs.declared.flow.FlowPair.{FlowPair}
use Rattle.hs_scheme.specs.Tree.{node, none, more, children}
use Rattle.hs_scheme.specs.acceptance.Automaton.{next}
use Rattle.hs_scheme.specs.Problem.{ProblemData}
use Rattle.hs_table.specs.Types.{TypeTree, state, arrows, type_cmp}
use Rattle.hs_table.specs.Entries.{Env, EntryData, set_at}
use Rattle.hs_table.specs.Follows.{rank_of}
use Rattle.hs_table_laws.proofs.Sets.{insert}

-- both sets in one
abbrev pub union : List TypeTree → List TypeTree → List TypeTree
union s [] = s
union s (a ∷ r) = union (insert a s) r

-- so for each parameter, from number k of the second on
abbrev pub union_from : ℕ → Env → Env → Env
union_from k [] r = []
union_from k (s ∷ e) r = union s (set_at r k) ∷ union_from (suc k) e r

-- the first entry with what the second asks for
abbrev pub joined : EntryData → EntryData → EntryData
joined e x = record { point = e.point; env = union_from 0 e.env x.env; ty = e.ty }

-- terminal a in state q, where its child at this place is rejected
abbrev pub child_type : List ℕ → ℕ → ℕ → TypeTree
child_type qs q place = arrows (set (replicate (length qs) []) place (state (slice_index qs place) ∷ [])) (state q)

abbrev pub child_types : List ℕ → ℕ → ℕ → List TypeTree
child_types qs q zero = []
child_types qs q (suc n) = child_types qs q n ++ child_type qs q n ∷ []

abbrev pub types_in : ProblemData → ℕ → ℕ → Option (List ℕ) → List TypeTree
types_in p a q None = arrows (replicate (rank_of p a) []) (state q) ∷ []
types_in p a q (Some qs) = child_types qs q (length qs)

-- in the states below n
abbrev pub terminal_types : ProblemData → ℕ → ℕ → List TypeTree
terminal_types p a zero = []
terminal_types p a (suc q) = terminal_types p a q ++ types_in p a q (next p.sorted.automaton.transitions q a)

abbrev pub is_state : TypeTree → Bool
is_state (node (Some q) us) = true
is_state (node None us) = false

-- of an entry at this body
abbrev pub body_type : ℕ → EntryData → List TypeTree
body_type b x = cond (nat_eq x.point b && is_state x.ty) (arrows x.env x.ty ∷ []) []

abbrev pub is_pair : ℕ → ℕ → ℕ → FlowPair → Bool
is_pair rule x u f = nat_eq f.rule rule && (nat_eq f.param x && nat_eq f.point u)

-- of an entry at a point that may stand for the parameter
abbrev pub flow_type : List FlowPair → ℕ → ℕ → EntryData → List TypeTree
flow_type pairs rule x e = cond (list_any (is_pair rule x e.point) pairs) (e.ty ∷ []) []

abbrev pub body_at : ProblemData → ℕ → ℕ
body_at p f = slice_index p.points.bodies f

abbrev pub head_types : ProblemData → List EntryData → ℕ → Head → List TypeTree
head_types p E rule (Tm a) = terminal_types p a p.sorted.automaton.states
head_types p E rule (Nt f) = flat_map (body_type (body_at p f)) E
head_types p E rule (Var x) = flat_map (flow_type p.flow.pairs rule x) E

-- the entry joined with one that is chosen for the type at the argument
abbrev pub extended : ℕ → TypeTree → EntryData → EntryData → List EntryData
extended u a e x = cond (nat_eq x.point u && is_eq (type_cmp x.ty a)) (joined e x ∷ []) []

-- one entry chosen for each type of the set
abbrev pub picks : List EntryData → ℕ → List TypeTree → List EntryData → List EntryData
picks E u [] es = es
picks E u (a ∷ s) es = picks E u s (flat_map (λ e. flat_map (extended u a e) E) es)

abbrev pub retyped : TypeTree → EntryData → EntryData
retyped t e = record { point = e.point; env = e.env; ty = t }

-- so for each argument, by the sets of the type
abbrev pub through : List EntryData → List ℕ → TypeTree → List EntryData → List EntryData
through E [] t es = map (retyped t) es
through E (u ∷ us) (node (Some q) ts) es = []
through E (u ∷ us) (node None none) es = []
through E (u ∷ us) (node None (more t ts)) es = through E us t (picks E u (children ts) es)

-- what a head asks of n parameters
abbrev pub own_env : ℕ → Head → TypeTree → Env
own_env n (Var x) ty = set (replicate n []) x (ty ∷ [])
own_env n (Nt f) ty = replicate n []
own_env n (Tm a) ty = replicate n []

abbrev pub opening : ℕ → ℕ → Head → TypeTree → EntryData
opening point n h ty = record { point = point; env = own_env n h ty; ty = ty }

-- all that follow at the point, in a rule with n parameters
abbrev pub all_at : ProblemData → List EntryData → ℕ → ℕ → ℕ → Head → List ℕ → List EntryData
all_at p E point rule n h us = flat_map (λ ty. through E us ty (opening point n h ty ∷ [])) (head_types p E rule h)
