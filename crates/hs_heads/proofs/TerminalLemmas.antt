-- The types of a terminal in a state.
use Rattle.std.proofs.Common.{◌≡◌, refl, sym, ◌∙◌, ap, subst, ℕ, ◌+◌, ◌<◌, ◌≤◌, List, [], ◌∷◌, length, slice_get, set, replicate, Option, Some, None, true, false, nat_eq, cond, find, option_map, unwrap_or, Contains, ◌↔◌, arith}
use Rattle.std.proofs.lemmas.Option.{same_Some, slice_get_within}
use Rattle.std.proofs.lemmas.Bool.{eqb-true, and_parts}
use Rattle.std.proofs.lemmas.List.Elements.{All-contains}
use Rattle.hs_scheme.specs.acceptance.Transition.{TransitionData}
use Rattle.hs_scheme.specs.acceptance.Automaton.{next, is_of}
use Rattle.hs_scheme.specs.sorting.Sorted.{SortedData, IsSorted, known}
use Rattle.hs_scheme.specs.Problem.{ProblemData}
use Rattle.hs_scheme.proofs.Lists.{here, later}
use Rattle.hs_scheme.proofs.Sortings.{known_at}
use Rattle.hs_table.specs.Types.{TypeTree, state, arrows}
use Rattle.hs_table.specs.Follows.{rank_of}
use Rattle.hs_heads.specs.Sources.{FromPlace, ByChild, InState}

module _ (p : ProblemData) (a q : ℕ) where
  pub no_state : p.sorted.automaton.states ≤ q → (ty : TypeTree) → InState p a q ty → ⊥
  no_state past ty s = let lt = s.0 in omega (arith, past, lt)

  pub lacking : q < p.sorted.automaton.states → next p.sorted.automaton.transitions q a ≡ None → (ty : TypeTree) → (ty ≡ arrows (replicate (rank_of p a) []) (state q)) ↔ InState p a q ty
  lacking lt none ty = (λ is. (lt, (None, record { moves = none; is = is })), back)
    where
      back : InState p a q ty → ty ≡ arrows (replicate (rank_of p a) []) (state q)
      back (_, (None, l)) = l.is
      back (_, (Some child, r)) = let e : None ≡ Some r.qs = sym none ∙ r.moves in cc

  pub moving : (to : List ℕ) → q < p.sorted.automaton.states → next p.sorted.automaton.transitions q a ≡ Some to → length to ≡ rank_of p a → (ty : TypeTree)
      → FromPlace (ByChild q to) (rank_of p a) ty ↔ InState p a q ty
  moving to lt moves long ty = (
    λ f. (lt, (Some (f.place + 1), record { qs = to; place = f.place; r = f.says.r; moves = moves; at = f.says.at; counted = refl; is = f.says.is })),
    back,
  )
    where
      back : InState p a q ty → FromPlace (ByChild q to) (rank_of p a) ty
      back (_, (None, l)) = let e : Some to ≡ None = sym moves ∙ l.moves in absurd (cc)
      back (_, (Some child, c)) =
          let same : c.qs ≡ to = same_Some c.qs to (sym c.moves ∙ moves) in
          let at : slice_get to c.place ≡ Some c.r = subst (λ (qs : List ℕ). slice_get qs c.place ≡ Some c.r) same c.at in
          let within = slice_get_within to c.place c.r at in
          record {
            place = c.place;
            below = omega (arith, within, long);
            says = record {
              r = c.r;
              at = at;
              is = subst (λ (qs : List ℕ). ty ≡ arrows (set (replicate (length qs) []) c.place (state c.r ∷ [])) (state q)) same c.is;
            };
          }

-- the type by the child at a place
pub child_type : (q : ℕ) (to : List ℕ) (place r : ℕ) → slice_get to place ≡ Some r → (ty : TypeTree) → (ty ≡ arrows (set (replicate (length to) []) place (state r ∷ [])) (state q)) ↔ ByChild q to place ty
child_type q to place r at ty = (
  λ is. record { r = r; at = at; is = is },
  λ c. let same : c.r ≡ r = same_Some c.r r (sym c.at ∙ at) in subst (λ z. ty ≡ arrows (set (replicate (length to) []) place (state z ∷ [])) (state q)) same c.is,
)

-- ---- transitions agree with ranks

record Moved (ts : List TransitionData) (a : ℕ) (to : List ℕ) : Type 0 where
  transition : TransitionData
  among : Contains ts transition
  terminal : transition.terminal ≡ a
  leads : transition.to ≡ to

moved : (ts : List TransitionData) (q a : ℕ) (to : List ℕ) → next ts q a ≡ Some to → Moved ts a to
moved [] q a to e = absurd (cc)
moved (t ∷ ts) q a to e = elim (is_of q a t) as (λ b. is_of q a t ≡ b → option_map (λ (x : TransitionData). x.to) (cond b (Some t) (find (is_of q a) ts)) ≡ Some to → Moved (t ∷ ts) a to) [
  | true ↦ λ is k. record { transition = t; among = here t ts; terminal = eqb-true t.terminal a (and_parts (nat_eq t.from q) (nat_eq t.terminal a) is).1; leads = same_Some t.to to k }
  | false ↦ λ is k. let m = moved ts q a to k in record { transition = m.transition; among = later t m.transition ts m.among; terminal = m.terminal; leads = m.leads }
] refl e

pub ranks_agree : (s : SortedData) → IsSorted s → (q a : ℕ) (to : List ℕ) → next s.automaton.transitions q a ≡ Some to → length to ≡ unwrap_or (slice_get s.scheme.ranks a) 0
ranks_agree s is q a to e =
    let m = moved s.automaton.transitions q a to e in
    let r = All-contains (λ (t : TransitionData). slice_get (known s.scheme.ranks) t.terminal ≡ Some (Some (length t.to))) s.automaton.transitions m.transition is.ranks m.among in
    let k = known_at s.scheme.ranks m.transition.terminal (length m.transition.to) r in
    ap (λ (xs : List ℕ). length xs) (sym m.leads) ∙ sym (ap (λ (o : Option ℕ). unwrap_or o 0) (ap (λ x. slice_get s.scheme.ranks x) (sym m.terminal) ∙ k))
