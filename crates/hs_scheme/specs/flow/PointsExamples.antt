-- Worked examples of points and of the flow: the rules `S -> Tw a c. Tw f x -> f (f x).`
--     points      0 `Tw a c`, 1 `a`, 2 `c`, 3 `f (f x)`, 4 `f x`, 5 `x`
--     flow        point 1 may stand for f, and point 2 for x, and that is all
use Rattle.std.specs.Prelude.{◌≡◌, ◌≢◌, refl, ℕ, zero, suc, ◌+◌, ◌<◌, List, [], ◌∷◌, length, slice_get, take, Some, Contains, AllPairs, ◌↔◌}
use Rattle.std.proofs.Common.{sym, ◌∙◌, ap, subst, arith, inl, inr}
use Rattle.hs_scheme.specs.declared.term.Head.{Head}
use Rattle.hs_scheme.specs.declared.term.Head.TheVariants.{Var, Nt, Tm}
use Rattle.hs_scheme.specs.declared.term.Rule.{Rule}
use Rattle.hs_scheme.specs.declared.flow.FlowPair.{FlowPair}
use Rattle.hs_scheme.specs.declared.flow.HeadPair.{HeadPair}
use Rattle.hs_scheme.specs.declared.flow.Pair.{Pair}
use Rattle.hs_scheme.specs.declared.flow.Pair.TheVariants.{OfFlow, OfHead}
use Rattle.hs_scheme.specs.flow.Points.{PointData, points_of}
use Rattle.hs_scheme.specs.flow.Flow.{pairs_of, HasParameter, IsBase, Passes, Demands, IsClosed, IsSupported, IsFlow}
use Rattle.hs_scheme.specs.acceptance.RunExamples.{rules}

pub points : points_of rules ≡ record {
  points =
      record { rule = 0; head = Nt 1; args = 1 ∷ 2 ∷ [] }
      ∷ record { rule = 0; head = Tm 0; args = [] }
      ∷ record { rule = 0; head = Tm 1; args = [] }
      ∷ record { rule = 1; head = Var 0; args = 4 ∷ [] }
      ∷ record { rule = 1; head = Var 0; args = 5 ∷ [] }
      ∷ record { rule = 1; head = Var 1; args = [] }
      ∷ [];
  bodies = 0 ∷ 3 ∷ [];
  params = 0 ∷ 2 ∷ [];
}
points = refl

abbrev for_f : FlowPair
for_f = record { rule = 1; param = 0; point = 1 }

abbrev for_x : FlowPair
for_x = record { rule = 1; param = 1; point = 2 }

abbrev flows : List FlowPair
flows = for_f ∷ for_x ∷ []

abbrev found : List Pair
found = pairs_of flows []

-- nothing becomes a nonterminal with some of its arguments
no_heads : (h : HeadPair) → Contains found (OfHead h) → ⊥
no_heads h (zero, below, is) = (cc)
no_heads h (suc zero, below, is) = (cc)
no_heads h (suc (suc k), below, is) = omega (arith, below)

-- Tw has two parameters
no_third : HasParameter rules 1 2 → ⊥
no_third (r, (at, lt)) = let e : 2 ≡ r.params = cc in omega (arith, e, lt)

same_flow : (f g : FlowPair) → g.rule ≡ f.rule → g.param ≡ f.param → g.point ≡ f.point → f ≡ g
same_flow f g a b c = λ i. record { rule = sym a i; param = sym b i; point = sym c i }

there : (f g : FlowPair) → f ≡ g → Contains found (OfFlow f) → Contains found (OfFlow g)
there f g e h = subst (λ (x : FlowPair). Contains found (OfFlow x)) e h

from_start : (pair : Pair) → Passes rules 0 (1 ∷ 2 ∷ []) 1 0 pair → Contains found pair
from_start (OfFlow f) (zero, (at, rule, param, has)) =
    let e : 1 ≡ f.point = cc in there for_f f (same_flow for_f f rule param (sym e)) (0, omega arith, refl)
from_start (OfFlow f) (suc zero, (at, rule, param, has)) =
    let e : 2 ≡ f.point = cc in there for_x f (same_flow for_x f rule param (sym e)) (1, omega arith, refl)
from_start (OfFlow f) (suc (suc i), (at, rule, param, has)) = absurd (cc)
from_start (OfHead h) (is, has) = absurd (no_third has)

from_call : (base given : ℕ) (pair : Pair) → (base ≡ 1) × (given ≡ 0) → Passes rules 0 (1 ∷ 2 ∷ []) base given pair → Contains found pair
from_call base given pair (b, g) passes =
    from_start pair (subst (λ (n : ℕ). Passes rules 0 (1 ∷ 2 ∷ []) 1 n pair) g (subst (λ (n : ℕ). Passes rules 0 (1 ∷ 2 ∷ []) n given pair) b passes))

-- what a point demands, by its number
abbrev IsFrom : ℕ → ℕ → ℕ → Pair → PointData → Type 0
IsFrom point base given pair of = IsBase found of.rule of.head base given → Passes rules point of.args base given pair → Contains found pair

at_point : (point : ℕ) (of : PointData) (base given : ℕ) (pair : Pair) → slice_get (points_of rules).points point ≡ Some of → IsFrom point base given pair of
at_point zero of base given pair at =
    let e : record { rule = 0; head = Nt 1; args = 1 ∷ 2 ∷ [] } ≡ of = cc in subst (IsFrom 0 base given pair) e (λ is passes. from_call base given pair is passes)
at_point (suc zero) of base given pair at =
    let e : record { rule = 0; head = Tm 0; args = [] } ≡ of = cc in subst (IsFrom 1 base given pair) e (λ is passes. absurd is)
at_point (suc (suc zero)) of base given pair at =
    let e : record { rule = 0; head = Tm 1; args = [] } ≡ of = cc in subst (IsFrom 2 base given pair) e (λ is passes. absurd is)
at_point (suc (suc (suc zero))) of base given pair at =
    let e : record { rule = 1; head = Var 0; args = 4 ∷ [] } ≡ of = cc in subst (IsFrom 3 base given pair) e (λ is passes. absurd (no_heads _ is.1.1))
at_point (suc (suc (suc (suc zero)))) of base given pair at =
    let e : record { rule = 1; head = Var 0; args = 5 ∷ [] } ≡ of = cc in subst (IsFrom 4 base given pair) e (λ is passes. absurd (no_heads _ is.1.1))
at_point (suc (suc (suc (suc (suc zero))))) of base given pair at =
    let e : record { rule = 1; head = Var 1; args = [] } ≡ of = cc in subst (IsFrom 5 base given pair) e (λ is passes. absurd (no_heads _ is.1.1))
at_point (suc (suc (suc (suc (suc (suc p)))))) of base given pair at = absurd (cc)

all_demanded : (i : ℕ) (pair : Pair) → slice_get found i ≡ Some pair → Demands rules (take i found) pair
all_demanded zero pair at =
    let e : OfFlow for_f ≡ pair = cc in
    subst (λ (q : Pair). Demands rules [] q) e (record {
      point = 0;
      of = record { rule = 0; head = Nt 1; args = 1 ∷ 2 ∷ [] };
      base = 1;
      given = 0;
      at = refl;
      is_base = (refl, refl);
      passes = (0, (refl, refl, refl, (record { params = 2; body = _ }, (refl, omega arith))));
    })
all_demanded (suc zero) pair at =
    let e : OfFlow for_x ≡ pair = cc in
    subst (λ (q : Pair). Demands rules (OfFlow for_f ∷ []) q) e (record {
      point = 0;
      of = record { rule = 0; head = Nt 1; args = 1 ∷ 2 ∷ [] };
      base = 1;
      given = 0;
      at = refl;
      is_base = (refl, refl);
      passes = (1, (refl, refl, refl, (record { params = 2; body = _ }, (refl, omega arith))));
    })
all_demanded (suc (suc i)) pair at = absurd (cc)

param_in : Pair → ℕ
param_in (OfFlow f) = f.param
param_in (OfHead h) = 0

differ : OfFlow for_f ≢ OfFlow for_x
unfolding param_in
differ e = let f : 0 ≡ 1 = ap param_in e in omega (arith, f)

flows_differ : for_f ≢ for_x
flows_differ e = let f : 0 ≡ 1 = ap (λ (x : FlowPair). x.param) e in omega (arith, f)

-- two are different, and there are no others
two : {X : Type 0} (a b : X) → a ≢ b → AllPairs (λ x y. x ≢ y) (a ∷ b ∷ [])
two a b other zero zero d before below = absurd (omega (arith, before))
two a b other zero (suc zero) d before below = other
two a b other zero (suc (suc j)) d before below = absurd (omega (arith, below))
two a b other (suc i) zero d before below = absurd (omega (arith, before))
two a b other (suc i) (suc zero) d before below = absurd (omega (arith, before))
two a b other (suc i) (suc (suc j)) d before below = absurd (omega (arith, below))

none : {X : Type 0} → AllPairs {X = X} (λ x y. x ≢ y) []
none i j d before below = absurd (omega (arith, below))

pub flow : IsFlow rules flows []
flow = record {
  closed = λ pair d. at_point d.point d.of d.base d.given pair d.at d.is_base d.passes;
  order = found;
  supported = record { distinct = two (OfFlow for_f) (OfFlow for_x) differ; demanded = all_demanded };
  same = λ pair. ((λ h. h), (λ h. h));
  flows_once = two for_f for_x flows_differ;
  heads_once = none;
}
