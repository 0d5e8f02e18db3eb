-- What is inserted is there.
use Rattle.std.proofs.Common.{◌≡◌, refl, sym, ◌∙◌, ap, subst, ◌+◌, ◌*◌, ◌<◌, ◌≤◌, true, ◌&&◌, nat_eq, Bool, List, [], ◌∷◌, ◌++◌, length, length-append, Contains, ◌⊎◌, inl, inr, arith}
use Rattle.std.specs.Bool.{Decides}
use Rattle.std.specs.List.{list_any, IsDistinct}
use Rattle.std.proofs.lemmas.Bool.{eqb-true, eq-eqb, and_parts, cases_Bool, cond-true, cond-false}
use Rattle.std.proofs.lemmas.Map.Made.{AllPairs-from_IsDistinct}
use Rattle.indexmap.specs.IndexSet.{insert_key}
use Rattle.indexmap.proofs.CallerLemmas.{Contains-insert_key}
use Rattle.hs_table_laws.proofs.Members.{pushed_cases}
use Rattle.hs_reads.specs.declared.becoming.Becoming.{Becoming}
use Rattle.hs_reads.specs.contracts.becoming.BecomingPartialEq.TheImpl.{eq-value}
use Rattle.hs_reads.specs.Growing.{AddsOnly, AreTooMany}
use Rattle.hs_reads.specs.Becomings.{AreShort}

-- the list is as it was, or longer by what is inserted
inserted_cases : {X : Type 0} (eq : X → X → Bool) (old new : List X) (x : X) → new ≡ insert_key eq old x → (new ≡ old) ⊎ (new ≡ old ++ x ∷ [])
inserted_cases eq old new x keys = elim (cases_Bool (list_any (eq x) old)) [
  | inl there ↦ inl (keys ∙ cond-true (list_any (eq x) old) old (old ++ x ∷ []) there)
  | inr absent ↦ inr (keys ∙ cond-false (list_any (eq x) old) old (old ++ x ∷ []) absent)
]

pub inserted_only : {X : Type 0} (eq : X → X → Bool) (old new : List X) (x : X) → new ≡ insert_key eq old x → AddsOnly (λ y. y ≡ x) old new
inserted_only eq old new x keys y m = elim (inserted_cases eq old new x keys) [
  | inl same ↦ inl (subst (λ xs. Contains xs y) same m)
  | inr more ↦ pushed_cases old x y (subst (λ xs. Contains xs y) more m)
]

becoming_true : (a b : Becoming) → eq-value.it a b ≡ true → a ≡ b
becoming_true a b h =
    let p = and_parts (nat_eq a.rule b.rule) (nat_eq a.param b.param && (nat_eq a.terminal b.terminal && nat_eq a.given b.given)) h in
    let q = and_parts (nat_eq a.param b.param) (nat_eq a.terminal b.terminal && nat_eq a.given b.given) p.1 in
    let r = and_parts (nat_eq a.terminal b.terminal) (nat_eq a.given b.given) q.1 in
    λ i. record { rule = eqb-true a.rule b.rule p.0 i; param = eqb-true a.param b.param q.0 i; terminal = eqb-true a.terminal b.terminal r.0 i; given = eqb-true a.given b.given r.1 i }

pub becoming_there : (old new : List Becoming) (b : Becoming) → new ≡ insert_key eq-value.it old b → Contains new b
becoming_there old new b keys = subst (λ (bs : List Becoming). Contains bs b) (sym keys) (Contains-insert_key eq-value.it becoming_true old b)

becoming_own : (a : Becoming) → eq-value.it a a ≡ true
becoming_own a = λ i. eq-eqb a.rule a.rule refl i && (eq-eqb a.param a.param refl i && (eq-eqb a.terminal a.terminal refl i && eq-eqb a.given a.given refl i))

becoming_same : (a b : Becoming) → Decides (eq-value.it a b) (a ≡ b)
becoming_same a b = (becoming_true a b, λ e. subst (λ (c : Becoming). eq-value.it a c ≡ true) e (becoming_own a))

pub becomings_short : (old new : List Becoming) (b : Becoming) → new ≡ insert_key eq-value.it old b → b.given ≤ 500000 * (length old + 1) → AreShort old → AreShort new
becomings_short old new b keys short so_far c m = elim (inserted_cases eq-value.it old new b keys) [
  | inl same ↦ subst (λ (bs : List Becoming). c.given ≤ 500000 * length bs) (sym same) (so_far c (subst (λ (bs : List Becoming). Contains bs c) same m))
  | inr more ↦
      let long : length new ≡ length old + 1 = ap (λ (bs : List Becoming). length bs) more ∙ length-append old (b ∷ []) in
      elim (pushed_cases old b c (subst (λ (bs : List Becoming). Contains bs c) more m)) [
        | inl was ↦ let le = so_far c was in omega (arith, le, long)
        | inr is ↦ let own : c.given ≡ b.given = ap (λ (d : Becoming). d.given) is in omega (arith, own, long, short)
      ]
]

pub too_many_becomings : (found : List Becoming) → IsDistinct eq-value.it found → 4000000 < length found → AreTooMany found
too_many_becomings found once many = record { distinct = AllPairs-from_IsDistinct becoming_same found once; many = many }
