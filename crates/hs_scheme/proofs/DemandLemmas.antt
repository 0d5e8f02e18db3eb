-- What is demanded, and the pairs of both kinds.
use Rattle.std.proofs.Common.{◌≡◌, ◌≢◌, refl, sym, ◌∙◌, ap, subst, ℕ, zero, suc, ◌<◌, ◌≤◌, Bool, true, false, ◌&&◌, nat_eq, List, length, get_or, take, slice_get, Some, arith, Contains, AllPairs}
use Rattle.std.specs.Bool.{Decides}
use Rattle.std.specs.Cmp.{IsEquivalence, both_ways}
use Rattle.std.specs.List.{IsDistinct}
use Rattle.std.proofs.lemmas.Bool.{eqb-true, eq-eqb, and_parts}
use Rattle.std.proofs.lemmas.Map.Keys.{IsDistinct-from_apart}
use Rattle.std.proofs.lemmas.Map.Made.{length-le_from_is_member, is_member-Decides}
use Rattle.std.proofs.lemmas.List.{get_or-take, length-take}
use Rattle.hs_scheme.specs.declared.term.Head.{Head}
use Rattle.hs_scheme.specs.declared.term.Head.TheVariants.{Var, Nt, Tm}
use Rattle.hs_scheme.specs.declared.term.Rule.{Rule}
use Rattle.hs_scheme.specs.declared.flow.FlowPair.{FlowPair}
use Rattle.hs_scheme.specs.declared.flow.HeadPair.{HeadPair}
use Rattle.hs_scheme.specs.declared.flow.Pair.{Pair}
use Rattle.hs_scheme.specs.declared.flow.Pair.TheVariants.{OfFlow, OfHead}
use Rattle.hs_scheme.specs.contracts.flow.PairPartialEq.TheImpl.{eq-value}
use Rattle.hs_scheme.specs.flow.Flow.{IsBase, Demands, IsClosed, IsSupported, IsFlow, pairs_of}
use Rattle.hs_scheme.proofs.Lists.{slice_get-read}

-- ---- flow pairs and head pairs in one list

pub same_flow : (f g : FlowPair) → OfFlow f ≡ OfFlow g → f ≡ g
same_flow f g e = (cc)

pub same_head : (h k : HeadPair) → OfHead h ≡ OfHead k → h ≡ k
same_head h k e = (cc)

pub no_head : (f : FlowPair) (h : HeadPair) → OfFlow f ≡ OfHead h → ⊥
no_head f h e = (cc)

module _ (rules : List Rule) (found more : List Pair) (also : (q : Pair) → Contains found q → Contains more q) where
  pub IsBase-more : (rule : ℕ) (h : Head) (base given : ℕ) → IsBase found rule h base given → IsBase more rule h base given
  IsBase-more rule (Nt f) base given b = b
  IsBase-more rule (Var x) base given (u, (flows, head)) = (u, (also _ flows, also _ head))
  IsBase-more rule (Tm a) base given b = absurd b

  pub Demands-more : (pair : Pair) → Demands rules found pair → Demands rules more pair
  Demands-more pair d = record { point = d.point; of = d.of; base = d.base; given = d.given; at = d.at; is_base = IsBase-more d.of.rule d.of.head d.base d.given d.is_base; passes = d.passes }

module _ (rules : List Rule) (order found : List Pair) (s : IsSupported rules order) (closed : IsClosed rules found) where
  below : (n i : ℕ) (pair : Pair) → i < n → slice_get order i ≡ Some pair → Contains found pair
  below zero i pair h at = absurd (omega arith)
  below (suc n) i pair h at = closed pair (Demands-more rules (take i order) found (λ q (k, within, is).
      let short : k < i = omega (arith, length-take i order) in
      below n k q (omega arith) (slice_get-read order k q (omega (arith, length-take i order)) (sym (get_or-take i order k q short) ∙ is))) pair (s.demanded i pair at))

  pub supported_within : (pair : Pair) → Contains order pair → Contains found pair
  supported_within pair (k, within, is) = below (suc k) k pair (omega arith) (slice_get-read order k pair within is)

pub flow_unique : (rules : List Rule) (flows others : List FlowPair) (heads rest : List HeadPair) → IsFlow rules flows heads → IsFlow rules others rest
    → (pair : Pair) → Contains (pairs_of flows heads) pair → Contains (pairs_of others rest) pair
flow_unique rules flows others heads rest a b pair h = supported_within rules a.order (pairs_of others rest) a.supported b.closed pair ((a.same pair).1 h)

-- `==` of pairs decides whether they are equal
abbrev pub triple_eq : ℕ → ℕ → ℕ → ℕ → ℕ → ℕ → Bool
triple_eq a b c x y z = nat_eq a x && (nat_eq b y && nat_eq c z)

pub triple_true : (a b c x y z : ℕ) → triple_eq a b c x y z ≡ true → (a ≡ x) × ((b ≡ y) × (c ≡ z))
triple_true a b c x y z h =
    let p = and_parts (nat_eq a x) (nat_eq b y && nat_eq c z) h in let q = and_parts (nat_eq b y) (nat_eq c z) p.1 in
    (eqb-true a x p.0, (eqb-true b y q.0, eqb-true c z q.1))

pub triple_own : (a b c : ℕ) → triple_eq a b c a b c ≡ true
triple_own a b c = rw (eq-eqb a a refl, eq-eqb b b refl, eq-eqb c c refl)

pair_true : (a b : Pair) → eq-value.it a b ≡ true → a ≡ b
pair_true (OfFlow a) (OfFlow b) h =
    let p = triple_true a.rule a.param a.point b.rule b.param b.point h in λ i. OfFlow (record { rule = p.0 i; param = p.1.0 i; point = p.1.1 i })
pair_true (OfFlow a) (OfHead b) h = absurd (cc)
pair_true (OfHead a) (OfFlow b) h = absurd (cc)
pair_true (OfHead a) (OfHead b) h =
    let p = triple_true a.point a.rule a.given b.point b.rule b.given h in λ i. OfHead (record { point = p.0 i; rule = p.1.0 i; given = p.1.1 i })

pair_own : (a : Pair) → eq-value.it a a ≡ true
pair_own (OfFlow a) = triple_own a.rule a.param a.point
pair_own (OfHead a) = triple_own a.point a.rule a.given

pub pair_same : (a b : Pair) → Decides (eq-value.it a b) (a ≡ b)
pair_same a b = (pair_true a b, λ e. subst (λ (c : Pair). eq-value.it a c ≡ true) e (pair_own a))

-- a test that decides equality is an equivalence
module _ {X : Type 0} (eq : X → X → Bool) (same : (a b : X) → Decides (eq a b) (a ≡ b)) where
  pub deciding : IsEquivalence eq
  deciding = record {
    refl = λ x. (same x x).1 refl;
    symm = λ x y. both_ways (eq x y) (eq y x) (λ h. (same y x).1 (sym ((same x y).0 h))) (λ h. (same x y).1 (sym ((same y x).0 h)));
    congr = λ x y z h. ap (λ w. eq w z) ((same x y).0 h);
  }

  apart : (xs : List X) → AllPairs (λ a b. a ≢ b) xs → IsDistinct eq xs
  apart xs distinct = IsDistinct-from_apart eq xs (λ i j d less within. not_true (eq (get_or xs i d) (get_or xs j d)) (λ h. distinct i j d less within ((same (get_or xs i d) (get_or xs j d)).0 h)))
    where
      not_true : (b : Bool) → (b ≡ true → ⊥) → b ≡ false
      not_true true f = absurd (f refl)
      not_true false f = refl

  -- a list without repeats is no longer than one that holds it
  pub fewer_within : (xs ys : List X) → AllPairs (λ a b. a ≢ b) xs → ((x : X) → Contains xs x → Contains ys x) → length xs ≤ length ys
  fewer_within xs ys distinct within =
      length-le_from_is_member deciding xs ys (apart xs distinct) (λ q h. (is_member-Decides same ys q).1 (within q ((is_member-Decides same xs q).0 h)))

pub fewer : (rules : List Rule) (order found : List Pair) → IsSupported rules order → IsClosed rules found → length order ≤ length found
fewer rules order found s closed = fewer_within (λ a b. eq-value.it a b) pair_same order found s.distinct (supported_within rules order found s closed)
