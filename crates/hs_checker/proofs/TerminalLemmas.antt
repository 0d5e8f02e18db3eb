-- Transitions agree with ranks.
use Rattle.std.proofs.Common.{◌≡◌, refl, sym, ◌∙◌, ap, ℕ, true, false, nat_eq, cond, List, [], ◌∷◌, length, slice_get, find, option_map, unwrap_or, Option, Some, Contains}
use Rattle.std.proofs.lemmas.Option.{same_Some}
use Rattle.std.proofs.lemmas.Bool.{eqb-true, and_parts}
use Rattle.std.proofs.lemmas.List.Elements.{All-contains}
use Rattle.hs_scheme.specs.acceptance.Transition.{TransitionData}
use Rattle.hs_scheme.specs.acceptance.Automaton.{next, is_of}
use Rattle.hs_scheme.specs.sorting.Sorted.{SortedData, IsSorted, known}
use Rattle.hs_scheme.proofs.Lists.{here, later}
use Rattle.hs_scheme.proofs.Sortings.{known_at}

record Moved (ts : List TransitionData) (a : ℕ) (to : List ℕ) : Type 0 where
  transition : TransitionData
  among : Contains ts transition
  terminal : transition.terminal ≡ a
  leads : transition.to ≡ to

moved : (ts : List TransitionData) (q a : ℕ) (to : List ℕ) → next ts q a ≡ Some to → Moved ts a to
moved [] q a to e = absurd (cc)
moved (t ∷ ts) q a to e = elim (is_of q a t) as (λ b. is_of q a t ≡ b → option_map (λ (x : TransitionData). x.to) (cond b (Some t) (find (is_of q a) ts)) ≡ Some to → Moved (t ∷ ts) a to) [
  | true ↦ λ is k. record { transition = t; among = here t ts; terminal = eqb-true t.terminal a (and_parts (nat_eq t.from q) (nat_eq t.terminal a) is).1; leads = same_Some t.to to k }
  | false ↦ λ is k. let m = moved ts q a to k in record { transition = m.transition; among = later t m.transition ts m.among; terminal = m.terminal; leads = m.leads }
] refl e

pub ranks_agree : (s : SortedData) → IsSorted s → (q a : ℕ) (to : List ℕ) → next s.automaton.transitions q a ≡ Some to → length to ≡ unwrap_or (slice_get s.scheme.ranks a) 0
ranks_agree s is q a to e =
    let m = moved s.automaton.transitions q a to e in
    let r = All-contains (λ (t : TransitionData). slice_get (known s.scheme.ranks) t.terminal ≡ Some (Some (length t.to))) s.automaton.transitions m.transition is.ranks m.among in
    let k = known_at s.scheme.ranks m.transition.terminal (length m.transition.to) r in
    ap (λ (xs : List ℕ). length xs) (sym m.leads) ∙ sym (ap (λ (o : Option ℕ). unwrap_or o 0) (ap (λ x. slice_get s.scheme.ranks x) (sym m.terminal) ∙ k))
