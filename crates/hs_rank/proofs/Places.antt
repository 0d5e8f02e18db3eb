-- Lists of places, neither of which is greater, are one; so a problem has one canonical log.
use Rattle.std.proofs.Common.{◌≡◌, refl, sym, ◌∙◌, ap, subst, ℕ, suc, List, [], ◌∷◌, length, slice_get, Some, arith}
use Rattle.std.specs.Ordering.{ordering_reverse}
use Rattle.std.specs.declared.cmp.Ordering.{Ordering}
use Rattle.std.specs.declared.cmp.Ordering.TheVariants.{Less, Equal, Greater}
use Rattle.std.proofs.lemmas.Cmp.{nat_list_cmp_total}
use Rattle.std.proofs.lemmas.Map.Lookups.{exact_bytes}
use Rattle.hs_scheme.specs.flow.Points.{IsPoints}
use Rattle.hs_scheme.specs.Problem.{ProblemData}
use Rattle.hs_scheme.proofs.Lists.{some_at}
use Rattle.hs_table.specs.Entries.{EntryData}
use Rattle.hs_table.specs.Follows.{Support, premises}
use Rattle.hs_table_laws.proofs.Places.{within_from}
use Rattle.hs_table_laws.proofs.Least.{least_same}
use Rattle.hs_rules.specs.Order.{places_cmp}
use Rattle.hs_rank.specs.Canonical.{IsBefore, IsCanonicalSupport, IsCanonicalLog}
use Rattle.hs_rank.proofs.Rounds.{not_both}
use Rattle.hs_rank.proofs.Order.{in_order_same}
use Rattle.hs_rank.proofs.Supports.{one_support}

pub places_same : (xs ys : List ℕ) → (places_cmp xs ys ≡ Greater → ⊥) → (places_cmp ys xs ≡ Greater → ⊥) → xs ≡ ys
places_same xs ys under over = by (places_cmp xs ys) refl
  where
    by : (o : Ordering) → places_cmp xs ys ≡ o → xs ≡ ys
    by Less e = absurd (over (nat_list_cmp_total.antisymm ys xs ∙ ap ordering_reverse e))
    by Equal e = exact_bytes xs ys e
    by Greater e = absurd (under e)

pub canonical_same : (p : ProblemData) (T U : List EntryData) (ss rs : List Support) → IsCanonicalLog p T ss → IsCanonicalLog p U rs → T ≡ U
canonical_same p T U ss rs a b = in_order_same (IsBefore p) (not_both p) T U a.order b.order (least_same p T U a.least b.least)

pub support_same : (p : ProblemData) (T : List EntryData) (s r : Support) (e : EntryData) → IsCanonicalSupport p T s e → IsCanonicalSupport p T r e → premises s ≡ premises r
support_same p T s r e a b = places_same (premises s) (premises r) (a.least r b.lower) (b.least s a.lower)

module _ (p : ProblemData) (T U : List EntryData) (ss rs : List Support) (a : IsCanonicalLog p T ss) (b : IsCanonicalLog p U rs) where
  same : T ≡ U
  same = canonical_same p T U ss rs a b

  module _ (place : ℕ) (s r : Support) (at : slice_get ss place ≡ Some s) (other : slice_get rs place ≡ Some r) where
    entry : (e : EntryData) × (slice_get T place ≡ Some e)
    entry = some_at T place (omega (arith, a.each, within_from ss place s at))

    one : IsCanonicalSupport p T s entry.0
    one = a.support place s entry.0 at entry.1

    two : IsCanonicalSupport p T r entry.0
    two = subst (λ V. IsCanonicalSupport p V r entry.0) (sym same) (b.support place r entry.0 other (ap (λ V. slice_get V place) (sym same) ∙ entry.1))

    pub places_of_both : premises s ≡ premises r
    places_of_both = support_same p T s r entry.0 one two

    pub same_at : IsPoints p.points → s ≡ r
    same_at points = one_support p points T s r entry.0 one.lower.follows two.lower.follows places_of_both

  pub supports_same : IsPoints p.points → ss ≡ rs
  supports_same points = lists_same ss rs (omega (arith, a.each, b.each, ap (λ (V : List EntryData). length V) same)) (λ k s r at other. same_at k s r at other points)
    where
      lists_same : (xs ys : List Support) → length xs ≡ length ys → ((k : ℕ) (x y : Support) → slice_get xs k ≡ Some x → slice_get ys k ≡ Some y → x ≡ y) → xs ≡ ys
      lists_same [] [] e h = refl
      lists_same [] (y ∷ ys) e h = absurd (omega (arith, e))
      lists_same (x ∷ xs) [] e h = absurd (omega (arith, e))
      lists_same (x ∷ xs) (y ∷ ys) e h = λ i. h 0 x y refl refl i ∷ lists_same xs ys (omega (arith, e)) (λ k. h (suc k)) i
