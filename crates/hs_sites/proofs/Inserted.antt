-- What a set of bases has after one more.
use Rattle.std.proofs.Common.{◌≡◌, refl, sym, subst, Bool, true, false, nat_eq, cond, List, [], ◌∷◌, ◌++◌, Contains, ◌⊎◌, inl, inr, ◌↔◌}
use Rattle.std.specs.Bool.{Decides}
use Rattle.std.specs.List.{list_any}
use Rattle.std.proofs.lemmas.Bool.{eqb-true, eq-eqb, and_parts}
use Rattle.std.proofs.lemmas.List.Elements.{Contains-append_left, Contains-push}
use Rattle.std.proofs.lemmas.Map.Made.{is_member-Decides}
use Rattle.indexmap.specs.IndexSet.{insert_key}
use Rattle.hs_table_laws.proofs.Members.{pushed_cases}
use Rattle.hs_sites.specs.declared.bases.Base.{Base}
use Rattle.hs_sites.specs.contracts.bases.BasePartialEq.TheImpl.{eq-value}
use Rattle.hs_sites.specs.Collecting.{AddsTo}

base_true : (a b : Base) → eq-value.it a b ≡ true → a ≡ b
base_true a b h =
    let p = and_parts (nat_eq a.nonterminal b.nonterminal) (nat_eq a.given b.given) h in
    λ i. record { nonterminal = eqb-true a.nonterminal b.nonterminal p.0 i; given = eqb-true a.given b.given p.1 i }

base_own : (a : Base) → eq-value.it a a ≡ true
base_own a = rw (eq-eqb a.nonterminal a.nonterminal refl, eq-eqb a.given a.given refl)

base_same : (a b : Base) → Decides (eq-value.it a b) (a ≡ b)
base_same a b = (base_true a b, λ e. subst (λ (c : Base). eq-value.it a c ≡ true) e (base_own a))

pub base_added : (old new : List Base) (b : Base) → new ≡ insert_key eq-value.it old b → AddsTo (λ (c : Base). c ≡ b) old new
base_added old new b keys c = subst (λ (bs : List Base). Contains bs c ↔ (Contains old c ⊎ (c ≡ b))) (sym keys) (by (list_any (eq-value.it b) old) refl)
  where
    by : (t : Bool) → list_any (eq-value.it b) old ≡ t → Contains (cond t old (old ++ b ∷ [])) c ↔ (Contains old c ⊎ (c ≡ b))
    by true there = (λ m. inl m, λ h. elim h [ inl was ↦ was | inr is ↦ subst (λ (x : Base). Contains old x) (sym is) ((is_member-Decides base_same old b).0 there) ])
    by false absent = (λ m. pushed_cases old b c m, λ h. elim h [ inl was ↦ Contains-append_left old (b ∷ []) c was | inr is ↦ subst (λ (x : Base). Contains (old ++ b ∷ []) x) (sym is) (Contains-push old b) ])
