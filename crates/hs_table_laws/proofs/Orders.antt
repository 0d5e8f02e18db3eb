-- The order of types is total, and so is that of entries.
use Rattle.std.proofs.Common.{◌≡◌, refl, sym, ◌∙◌, ap, ℕ, List, [], ◌∷◌, Option, Some, None, ◌⊎◌, inl, inr}
use Rattle.std.specs.Ordering.{nat_cmp, ordering_then, ordering_reverse}
use Rattle.std.specs.declared.cmp.Ordering.{Ordering}
use Rattle.std.specs.declared.cmp.Ordering.TheVariants.{Less, Equal, Greater}
use Rattle.std.specs.Cmp.{IsTotalOrder}
use Rattle.std.specs.Cmp.Lexicographic.{slice_cmp}
use Rattle.std.proofs.lemmas.Cmp.{nat_cmp_total, lists_total, on_total, then_total}
use Rattle.hs_scheme.specs.Tree.{Trees, node, none, more, forest}
use Rattle.hs_scheme.proofs.Orderings.{then_equal, nat_equal}
use Rattle.hs_table.specs.Types.{TypeTree, arrow, label_cmp, type_cmp, types_cmp}
use Rattle.hs_table.specs.Entries.{EntryData, env_cmp, entry_cmp}

then_less : (o p : Ordering) → ordering_then o p ≡ Less → (o ≡ Less) ⊎ ((o ≡ Equal) × (p ≡ Less))
then_less Less p e = inl refl
then_less Equal p e = inr (refl, e)
then_less Greater p e = absurd (cc)

reverse_then : (o p : Ordering) → ordering_reverse (ordering_then o p) ≡ ordering_then (ordering_reverse o) (ordering_reverse p)
reverse_then Less p = refl
reverse_then Equal p = refl
reverse_then Greater p = refl

label_same : (x y : Option ℕ) → label_cmp x y ≡ Equal → x ≡ y
label_same (Some q) (Some p) e = ap (λ n. Some n) (nat_equal q p e)
label_same (Some q) None e = absurd (cc)
label_same None (Some p) e = absurd (cc)
label_same None None e = refl

label_back : (x y : Option ℕ) → label_cmp x y ≡ ordering_reverse (label_cmp y x)
label_back (Some q) (Some p) = nat_cmp_total.antisymm q p
label_back (Some q) None = refl
label_back None (Some p) = refl
label_back None None = refl

label_less : (x y z : Option ℕ) → label_cmp x y ≡ Less → label_cmp y z ≡ Less → label_cmp x z ≡ Less
label_less (Some q) (Some p) (Some r) e f = nat_cmp_total.trans q p r e f
label_less (Some q) (Some p) None e f = refl
label_less (Some q) None (Some r) e f = absurd (cc)
label_less (Some q) None None e f = refl
label_less None (Some p) z e f = absurd (cc)
label_less None None z e f = absurd (cc)

mutual
  pub type_same : (t u : TypeTree) → type_cmp t u ≡ Equal → t ≡ u
  type_same (node x ts) (node y us) e = let p = then_equal (label_cmp x y) (types_cmp ts us) e in λ i. node (label_same x y p.0 i) (types_same ts us p.1 i)

  types_same : (ts us : Trees (Option ℕ)) → types_cmp ts us ≡ Equal → ts ≡ us
  types_same none none e = refl
  types_same none (more u us) e = absurd (cc)
  types_same (more t ts) none e = absurd (cc)
  types_same (more t ts) (more u us) e = let p = then_equal (type_cmp t u) (types_cmp ts us) e in λ i. more (type_same t u p.0 i) (types_same ts us p.1 i)

mutual
  type_back : (t u : TypeTree) → type_cmp t u ≡ ordering_reverse (type_cmp u t)
  type_back (node x ts) (node y us) = (λ i. ordering_then (label_back x y i) (types_back ts us i)) ∙ sym (reverse_then (label_cmp y x) (types_cmp us ts))

  types_back : (ts us : Trees (Option ℕ)) → types_cmp ts us ≡ ordering_reverse (types_cmp us ts)
  types_back none none = refl
  types_back none (more u us) = refl
  types_back (more t ts) none = refl
  types_back (more t ts) (more u us) = (λ i. ordering_then (type_back t u i) (types_back ts us i)) ∙ sym (reverse_then (type_cmp u t) (types_cmp us ts))

less_first : (o p : Ordering) → o ≡ Less → ordering_then o p ≡ Less
less_first o p e = ap (λ x. ordering_then x p) e

less_second : (o p : Ordering) → o ≡ Equal → p ≡ Less → ordering_then o p ≡ Less
less_second o p e f = ap (λ x. ordering_then x p) e ∙ f

-- transitivity of two comparisons, the first and then the second
module _ {A B : Type 0} (f : A → A → Ordering) (g : B → B → Ordering) (f_same : (a b : A) → f a b ≡ Equal → a ≡ b) where
  chain : (a b c : A) (x y z : B) → (f a b ≡ Less → f b c ≡ Less → f a c ≡ Less) → (g x y ≡ Less → g y z ≡ Less → g x z ≡ Less)
      → ordering_then (f a b) (g x y) ≡ Less → ordering_then (f b c) (g y z) ≡ Less → ordering_then (f a c) (g x z) ≡ Less
  chain a b c x y z ft gt p q = go (then_less (f a b) (g x y) p) (then_less (f b c) (g y z) q)
    where
      go : (f a b ≡ Less) ⊎ ((f a b ≡ Equal) × (g x y ≡ Less)) → (f b c ≡ Less) ⊎ ((f b c ≡ Equal) × (g y z ≡ Less)) → ordering_then (f a c) (g x z) ≡ Less
      go (inl h) (inl k) = less_first (f a c) (g x z) (ft h k)
      go (inl h) (inr k) = less_first (f a c) (g x z) (ap (f a) (sym (f_same b c k.0)) ∙ h)
      go (inr h) (inl k) = less_first (f a c) (g x z) (ap (λ w. f w c) (f_same a b h.0) ∙ k)
      go (inr h) (inr k) = less_second (f a c) (g x z) (ap (λ w. f w c) (f_same a b h.0) ∙ k.0) (gt h.1 k.1)

mutual
  type_less : (t u v : TypeTree) → type_cmp t u ≡ Less → type_cmp u v ≡ Less → type_cmp t v ≡ Less
  type_less (node x ts) (node y us) (node z vs) e f = chain label_cmp types_cmp label_same x y z ts us vs (label_less x y z) (types_less ts us vs) e f

  types_less : (ts us vs : Trees (Option ℕ)) → types_cmp ts us ≡ Less → types_cmp us vs ≡ Less → types_cmp ts vs ≡ Less
  types_less none none vs e f = absurd (cc)
  types_less none (more u us) none e f = absurd (cc)
  types_less none (more u us) (more v vs) e f = refl
  types_less (more t ts) none vs e f = absurd (cc)
  types_less (more t ts) (more u us) none e f = absurd (cc)
  types_less (more t ts) (more u us) (more v vs) e f = chain type_cmp types_cmp type_same t u v ts us vs (type_less t u v) (types_less ts us vs) e f

pub type_cmp_total : IsTotalOrder type_cmp
type_cmp_total = record { antisymm = type_back; trans = type_less; congr = λ t u v e. ap (λ w. type_cmp w v) (type_same t u e) }

-- sets are compared as lists
pub sets_cmp : (s r : List TypeTree) → types_cmp (forest s) (forest r) ≡ slice_cmp type_cmp s r
sets_cmp [] [] = refl
sets_cmp [] (b ∷ r) = refl
sets_cmp (a ∷ s) [] = refl
sets_cmp (a ∷ s) (b ∷ r) = ap (ordering_then (type_cmp a b)) (sets_cmp s r)

pub arrows_cmp : (s r : List TypeTree) (t u : TypeTree) → type_cmp (arrow s t) (arrow r u) ≡ ordering_then (type_cmp t u) (slice_cmp type_cmp s r)
arrows_cmp s r t u = ap (ordering_then (type_cmp t u)) (sets_cmp s r)

slices_same : {X : Type 0} (R : X → X → Ordering) → ((a b : X) → R a b ≡ Equal → a ≡ b) → (xs ys : List X) → slice_cmp R xs ys ≡ Equal → xs ≡ ys
slices_same R same [] [] e = refl
slices_same R same [] (y ∷ ys) e = absurd (cc)
slices_same R same (x ∷ xs) [] e = absurd (cc)
slices_same R same (x ∷ xs) (y ∷ ys) e = let p = then_equal (R x y) (slice_cmp R xs ys) e in λ i. same x y p.0 i ∷ slices_same R same xs ys p.1 i

pub entry_same : (a b : EntryData) → entry_cmp a b ≡ Equal → a ≡ b
entry_same a b e =
    let p = then_equal (nat_cmp a.point b.point) (ordering_then (env_cmp a.env b.env) (type_cmp a.ty b.ty)) e in
    let q = then_equal (env_cmp a.env b.env) (type_cmp a.ty b.ty) p.1 in
    λ i. record {
      point = nat_equal a.point b.point p.0 i;
      env = slices_same (slice_cmp type_cmp) (slices_same type_cmp type_same) a.env b.env q.0 i;
      ty = type_same a.ty b.ty q.1 i;
    }

pub entry_cmp_total : IsTotalOrder entry_cmp
entry_cmp_total =
    then_total (on_total (λ (e : EntryData). e.point) nat_cmp_total)
    (then_total (on_total (λ (e : EntryData). e.env) (lists_total (lists_total type_cmp_total))) (on_total (λ (e : EntryData). e.ty) type_cmp_total))
