-- A compact list over a closed flow has the start entry exactly where the automaton doesn't accept.
use Rattle.std.proofs.Common.{◌≡◌, refl, sym, ◌∙◌, ap, ℕ, true, false, List, [], ◌∷◌, slice_get, Option, Some, None, Contains, ◌⊎◌, inl, inr, ◌↔◌}
use Rattle.std.proofs.Common.{subst as along}
use Rattle.std.specs.Ordering.{is_eq}
use Rattle.std.proofs.lemmas.Cmp.{tied_itself}
use Rattle.hs_scheme.specs.Problem.{ProblemData}
use Rattle.hs_scheme.specs.acceptance.Run.{Accepts}
use Rattle.hs_scheme.proofs.Lists.{none_in, here, later, uncons}
use Rattle.hs_scheme.proofs.Orderings.{equal_of}
use Rattle.hs_table.specs.Types.{state}
use Rattle.hs_table.specs.Entries.{EntryData, entry_cmp}
use Rattle.hs_table.specs.Tables.{IsStart, HasStart}
use Rattle.hs_table_laws.proofs.Orders.{entry_cmp_total, entry_same}
use Rattle.hs_table_laws.proofs.Least.{starts_same}
use Rattle.hs_verdict.specs.Premises.{IsSortedProblem, HasClosedFlow}
use Rattle.hs_verdict.proofs.Verdict.{accepted}
use Rattle.hs_weak.specs.Weak.{IsCompact}
use Rattle.hs_weak_laws.proofs.Verdict.{covering_has_start}
use Rattle.hs_weak_paths.proofs.Rejecting.{rejects}

-- an entry is in a list, or it isn't
member_or_not : (e : EntryData) (C : List EntryData) → Contains C e ⊎ (Contains C e → ⊥)
member_or_not e [] = inr (none_in e)
member_or_not e (x ∷ xs) = elim (is_eq (entry_cmp e x)) as (λ b. is_eq (entry_cmp e x) ≡ b → Contains (x ∷ xs) e ⊎ (Contains (x ∷ xs) e → ⊥)) [
  | true ↦ λ h. inl (along (λ (y : EntryData). Contains (y ∷ xs) e) (entry_same e x (equal_of (entry_cmp e x) h)) (here e xs))
  | false ↦ λ h. elim (member_or_not e xs) [
    | inl there ↦ inl (later x e xs there)
    | inr lacks ↦ inr (λ m. elim (uncons x e xs m) [
      | inl same ↦ let g : is_eq (entry_cmp e x) ≡ true = ap (λ (y : EntryData). is_eq (entry_cmp e y)) (sym same) ∙ ap is_eq (tied_itself entry_cmp_total e) in absurd (cc)
      | inr there ↦ lacks there
    ])
  ]
] refl

pub start_or_not : (p : ProblemData) (C : List EntryData) → HasStart p C ⊎ (HasStart p C → ⊥)
start_or_not p C = at_body (slice_get p.points.bodies 0) refl
  where
    at_body : (o : Option ℕ) → slice_get p.points.bodies 0 ≡ o → HasStart p C ⊎ (HasStart p C → ⊥)
    at_body None at = inr (λ (e, (is, there)). let h = is.body in absurd (cc))
    at_body (Some body) at =
        let e : EntryData = record { point = body; env = []; ty = state 0 } in
        let is : IsStart p e = record { body = at; env = refl; initial = refl } in
        elim (member_or_not e C) [
          | inl there ↦ inl (e, (is, there))
          | inr lacks ↦ inr (λ (d, (is_d, there)). lacks (along (λ (x : EntryData). Contains C x) (starts_same p d e is_d is) there))
        ]

module _ (p : ProblemData) (known : IsSortedProblem p) (closed : HasClosedFlow p) (C : List EntryData) (compact : IsCompact p C) where
  abbrev Accepted : Type 0
  Accepted = Accepts p.sorted.scheme.rules p.sorted.automaton.transitions

  compact_rejects : HasStart p C → Accepted → ⊥
  compact_rejects (e, (is, there)) accepts = rejects p known compact.from compact.derived (e, (is, compact.within e there)) accepts

  compact_accepts : (HasStart p C → ⊥) → Accepted
  compact_accepts lacks = accepted p known (λ n path fails. lacks (covering_has_start p known closed C compact.closed n path fails))

  pub compact_decides : Accepted ↔ (HasStart p C → ⊥)
  compact_decides = (λ accepts has. compact_rejects has accepts, compact_accepts)

  pub compact_has_start : HasStart p C ↔ (Accepted → ⊥)
  compact_has_start = (compact_rejects, λ refused. elim (start_or_not p C) [ inl has ↦ has | inr lacks ↦ absurd (refused (compact_accepts lacks)) ])
