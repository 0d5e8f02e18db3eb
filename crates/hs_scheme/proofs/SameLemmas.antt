-- Lists that are compared item by item.
use Rattle.std.proofs.Common.{◌≡◌, sym, ◌∙◌, ap, subst, ℕ, zero, suc, ◌+◌, ◌<◌, true, map, List, ◌∷◌, [], ◌++◌, length, get_or, take, arith}
use Rattle.std.proofs.lemmas.List.{take_more, get_or_default}
use Rattle.std.specs.Bool.{Decides}
use Rattle.hs_scheme.specs.declared.flow.FlowPair.{FlowPair}
use Rattle.hs_scheme.specs.declared.flow.HeadPair.{HeadPair}
use Rattle.hs_scheme.specs.contracts.flow.FlowPairPartialEq.TheImpl.{eq-value as flow_eq}
use Rattle.hs_scheme.specs.contracts.flow.HeadPairPartialEq.TheImpl.{eq-value as head_eq}
use Rattle.hs_scheme.proofs.DemandLemmas.{triple_true, triple_own}
use Rattle.hs_scheme.specs.Tree.{Tree, node, forest, children, children-forest}

module _ {X : Type 0} (xs ys : List X) (i : ℕ) where
  pub same_more : (x y : X) → i < length xs → i < length ys → x ≡ get_or xs i x → y ≡ get_or ys i y → take i xs ≡ take i ys → x ≡ y → take (i + 1) xs ≡ take (i + 1) ys
  same_more x y lt lu is_x is_y so_far same =
      take_more xs i x lt ∙ (ap (λ z. take i xs ++ z ∷ []) (sym is_x) ∙ ((λ j. so_far j ++ same j ∷ []) ∙ (ap (λ z. take i ys ++ z ∷ []) is_y ∙ sym (take_more ys i y lu))))

  pub same_item : (x y : X) → x ≡ get_or xs i x → y ≡ get_or ys i y → i < length xs → xs ≡ ys → x ≡ y
  same_item x y is_x is_y lt same =
      is_x ∙ (ap (λ (zs : List X). get_or zs i x) same ∙ (get_or_default ys i x y (subst (λ (zs : List X). i < length zs) same lt) ∙ sym is_y))

abbrev label : {A : Type 0} → Tree A → A
label (node a ts) = a

abbrev below : {A : Type 0} → Tree A → List (Tree A)
below (node a ts) = children ts

-- a tree that is read as its label and the list of its children
module _ {A : Type 0} (s t : Tree A) (a b : A) (us vs : List (Tree A)) (is_s : node a (forest us) ≡ s) (is_t : node b (forest vs) ≡ t) where
  pub label_same : s ≡ t → a ≡ b
  label_same e = ap label (is_s ∙ (e ∙ sym is_t))

  pub below_same : s ≡ t → us ≡ vs
  below_same e = sym (children-forest us) ∙ (ap below (is_s ∙ (e ∙ sym is_t)) ∙ children-forest vs)

-- an item of a list, seen through a function
pub item_map : {X Y : Type 0} (f : X → Y) (xs : List X) (i : ℕ) (x : X) → i < length xs → x ≡ get_or xs i x → f x ≡ get_or (map f xs) i (f x)
item_map f [] i x lt is = absurd (omega arith)
item_map f (y ∷ ys) zero x lt is = ap f is
item_map f (y ∷ ys) (suc i) x lt is = item_map f ys i x (omega arith) is

-- `==` of flow pairs and of head pairs decides whether they are equal
pub flow_pair_same : (a b : FlowPair) → Decides (flow_eq.it a b) (a ≡ b)
flow_pair_same a b = (
  λ h. let p = triple_true a.rule a.param a.point b.rule b.param b.point h in λ i. record { rule = p.0 i; param = p.1.0 i; point = p.1.1 i },
  λ e. subst (λ (c : FlowPair). flow_eq.it a c ≡ true) e (triple_own a.rule a.param a.point),
)

pub head_pair_same : (a b : HeadPair) → Decides (head_eq.it a b) (a ≡ b)
head_pair_same a b = (
  λ h. let p = triple_true a.point a.rule a.given b.point b.rule b.given h in λ i. record { point = p.0 i; rule = p.1.0 i; given = p.1.1 i },
  λ e. subst (λ (c : HeadPair). head_eq.it a c ≡ true) e (triple_own a.point a.rule a.given),
)
