-- Each entry has a first with its point and its type.
use Rattle.std.proofs.Common.{◌≡◌, refl, ◌∙◌, ap, subst, ℕ, zero, suc, List, [], ◌∷◌, slice_get, Some, ◌⊎◌, inl, inr, arith}
use Rattle.std.specs.declared.cmp.Ordering.{Ordering}
use Rattle.std.specs.declared.cmp.Ordering.TheVariants.{Less, Equal, Greater}
use Rattle.std.proofs.lemmas.Bool.{cases_eq}
use Rattle.std.proofs.lemmas.Cmp.{tied_itself}
use Rattle.std.proofs.lemmas.Option.{same_Some}
use Rattle.hs_table.specs.Types.{TypeTree, type_cmp}
use Rattle.hs_table.specs.Entries.{EntryData}
use Rattle.hs_table_laws.proofs.Orders.{type_cmp_total, type_same}
use Rattle.hs_replica.specs.Places.{IsFirst, IsFirstLike}

same_type_or_not : (t u : TypeTree) → (t ≡ u) ⊎ (t ≡ u → ⊥)
same_type_or_not t u = by (type_cmp t u) refl
  where
    itself : t ≡ u → type_cmp t u ≡ Equal
    itself e = subst (λ (v : TypeTree). type_cmp t v ≡ Equal) e (tied_itself type_cmp_total t)

    by : (o : Ordering) → type_cmp t u ≡ o → (t ≡ u) ⊎ (t ≡ u → ⊥)
    by Equal e = inl (type_same t u e)
    by Less e = inr (λ s. let f = itself s in absurd (cc))
    by Greater e = inr (λ s. let f = itself s in absurd (cc))

like_or_not : (d e : EntryData) → ((d.point ≡ e.point) × (d.ty ≡ e.ty)) ⊎ ((d.point ≡ e.point) × (d.ty ≡ e.ty) → ⊥)
like_or_not d e = elim (cases_eq d.point e.point) [
  | inr other ↦ inr (λ s. other s.0)
  | inl point ↦ elim (same_type_or_not d.ty e.ty) [ inl ty ↦ inl (point, ty) | inr other ↦ inr (λ s. other s.1) ]
]

-- the first of a list is like the entry, or the first behind it
module _ (x : EntryData) (xs : List EntryData) (e : EntryData) where
  abbrev Like : Type 0
  Like = (x.point ≡ e.point) × (x.ty ≡ e.ty)

  later : (Like → ⊥) → (n : ℕ) (c : EntryData) → c.point ≡ e.point → c.ty ≡ e.ty → IsFirst xs n c → IsFirst (x ∷ xs) (suc n) c
  later other n c point ty first zero d lt g p t =
      let is = same_Some x d g in other (ap (λ (y : EntryData). y.point) is ∙ (p ∙ point), ap (λ (y : EntryData). y.ty) is ∙ (t ∙ ty))
  later other n c point ty first (suc j) d lt g p t = first j d (omega arith) g p t

  behind : (Like → ⊥) → ((k : ℕ) → slice_get xs k ≡ Some e → IsFirstLike xs k e) → (i : ℕ) → slice_get (x ∷ xs) i ≡ Some e → IsFirstLike (x ∷ xs) i e
  behind other rest zero at = let is = same_Some x e at in absurd (other (ap (λ (d : EntryData). d.point) is, ap (λ (d : EntryData). d.ty) is))
  behind other rest (suc k) at =
      let f = rest k at in
      record { place = suc f.place; entry = f.entry; before = omega (arith, f.before); at = f.at; point = f.point; ty = f.ty; first = later other f.place f.entry f.point f.ty f.first }

pub first_like : (log : List EntryData) (i : ℕ) (e : EntryData) → slice_get log i ≡ Some e → IsFirstLike log i e
first_like [] i e at = absurd (cc)
first_like (x ∷ xs) i e at = elim (like_or_not x e) [
  | inl same ↦ record { place = 0; entry = x; before = omega arith; at = refl; point = same.0; ty = same.1; first = λ j d lt f p t. absurd (omega arith) }
  | inr other ↦ behind x xs e other (λ k there. first_like xs k e there) i at
]
