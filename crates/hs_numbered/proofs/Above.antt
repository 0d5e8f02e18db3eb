-- Items above the last of a list of what numbers stand for.
use Rattle.std.proofs.Common.{◌≡◌, refl, sym, ◌∙◌, ap, subst, ◌-◌, ◌≤◌, suc, Bool, IsTrue, true, false, List, [], ◌∷◌, ◌++◌, length, map, take, get_or, arith, ◌↔◌}
use Rattle.std.specs.Bool.{◌==◌}
use Rattle.std.specs.Ordering.{ordering_index}
use Rattle.std.proofs.Math.Seq.{split_at}
use Rattle.std.specs.declared.cmp.Ordering.{Ordering}
use Rattle.std.specs.declared.cmp.Ordering.TheVariants.{Less, Equal, Greater}
use Rattle.std.proofs.lemmas.List.{map-append, same_from_push, drop_all}
use Rattle.hs_numbered.specs.Certificates.{IsAboveLast}

less_by : (o : Ordering) (b : Bool) → b ≡ (ordering_index o == 0) → IsTrue b ↔ (o ≡ Less)
less_by Less b e = (λ _. refl, λ _. e)
less_by Equal b e = (λ h. let f : true ≡ false = sym h ∙ e in absurd (cc), λ h. absurd (cc))
less_by Greater b e = (λ h. let f : true ≡ false = sym h ∙ e in absurd (cc), λ h. absurd (cc))

module _ {A X : Type 0} (f : A → X) (cmp : X → X → Ordering) (x : X) where
  pub above_none : (rows : List A) → rows ≡ [] → IsAboveLast cmp (map f rows) x
  above_none rows is [] last e = let h : [] ≡ last ∷ [] = sym (ap (map f) is) ∙ e in absurd (cc)
  above_none rows is (y ∷ front) last e = let h : [] ≡ y ∷ (front ++ last ∷ []) = sym (ap (map f) is) ∙ e in absurd (cc)

  pub above_mapped : (rows front : List A) (last : A) → rows ≡ front ++ last ∷ [] → (cmp (f last) x ≡ Less) ↔ IsAboveLast cmp (map f rows) x
  above_mapped rows front last is =
      let own : map f rows ≡ map f front ++ f last ∷ [] = ap (map f) is ∙ map-append f front (last ∷ []) in (
        λ less other end e. let same = same_from_push (map f front) other (f last) end (sym own ∙ e) in subst (λ y. cmp y x ≡ Less) same.1 less,
        λ above. above (map f front) (f last) own,
      )

  pub above_at_end : (rows : List A) (last : A) → 1 ≤ length rows → last ≡ get_or rows (length rows - 1) last → (o : Ordering) (b : Bool) → b ≡ (ordering_index o == 0) → o ≡ cmp (f last) x → IsTrue b ↔ IsAboveLast cmp (map f rows) x
  above_at_end rows last some is o b told compared =
      let j = length rows - 1 in
      let ends : rows ≡ take j rows ++ last ∷ [] = split_at rows j last (omega (arith, some)) ∙ (λ i. take j rows ++ sym is i ∷ drop_all (suc j) rows (omega (arith, some)) i) in
      let less = less_by o b told in
      let above = above_mapped rows (take j rows) last ends in
      (λ h. above.0 (sym compared ∙ less.0 h), λ h. less.1 (compared ∙ above.1 h))
