-- Lines of items, each greater than the one before, that were read so far.
use Rattle.std.proofs.Common.{◌≡◌, refl, sym, ◌∙◌, ap, subst, ℕ, zero, suc, ◌+◌, ◌-◌, ◌<◌, List, [], ◌∷◌, ◌++◌, length, map, All, append_assoc, length-append, arith}
use Rattle.std.specs.declared.cmp.Ordering.{Ordering}
use Rattle.std.specs.declared.cmp.Ordering.TheVariants.{Less}
use Rattle.std.proofs.lemmas.List.{length-map, map-append}
use Rattle.hs_scheme.specs.flow.Flow.{IsAscending}
use Rattle.hs_cert.specs.Certificate.{IsLine, StandsAt, IsRightItem}
use Rattle.hs_cert.specs.Front.{Cut, IsNextItem}
use Rattle.hs_cert.proofs.Above.{above_before}
use Rattle.hs_cert.proofs.Fronts.{all_behind}
use Rattle.hs_cert.proofs.LineLemmas.{line_at, same_text, next_line}

pub item_here : {X : Type 0} (items : List X) (i : ℕ) → i < length items → (front : List X) × (x : X) × (behind : List X) × (items ≡ front ++ x ∷ behind) × (length front ≡ i)
item_here [] i lt = absurd (omega (arith, lt))
item_here (x ∷ items) zero lt = ([], x, items, refl, refl)
item_here (x ∷ items) (suc i) lt = let r = item_here items i (omega (arith, lt)) in (x ∷ r.0, r.1, r.2, ap (λ ys. x ∷ ys) r.3, ap suc r.4)

last_of : {A : Type 0} (xs : List A) (j : ℕ) → length xs ≡ suc j → (front : List A) × (x : A) × (xs ≡ front ++ x ∷ []) × (length front ≡ j)
last_of [] j e = absurd (omega (arith, e))
last_of (x ∷ []) j e = ([], x, refl, omega (arith, e))
last_of (x ∷ y ∷ xs) zero e = absurd (omega (arith, e))
last_of (x ∷ y ∷ xs) (suc j) e = let r = last_of (y ∷ xs) j (omega (arith, e)) in (x ∷ r.0, r.1, ap (λ ys. x ∷ ys) r.2, ap suc r.3)

all_at : {A : Type 0} (P : A → Type 0) (xs ys : List A) (x : A) → All P (xs ++ x ∷ ys) → P x
all_at P [] ys x h = h 0 x (omega arith)
all_at P (y ∷ xs) ys x h = all_at P xs ys x (all_behind P y (xs ++ x ∷ ys) h)

module _ {X : Type 0} (spell : X → List ℕ) (Is : List ℕ → X → Type 0) (cmp : X → X → Ordering) (unique : (text : List ℕ) (a b : X) → Is text a → Is text b → a ≡ b) where
  same_item : (bytes : List ℕ) (k : ℕ) (a b : X) → StandsAt Is bytes k a → StandsAt Is bytes k b → a ≡ b
  same_item bytes k a b f g = unique g.text a b (subst (λ (t : List ℕ). Is t a) (same_text bytes k f.text g.text f.line g.line) f.item) g.item

  module _ (bytes : List ℕ) (before : List (List ℕ)) (items : List X) (rest : List ℕ) (cut : Cut bytes (before ++ map spell items) rest) (are : All (λ x. Is (spell x) x) items) (up : IsAscending cmp items) where
    line_of : (front : List X) (x : X) (behind : List X) → items ≡ front ++ x ∷ behind → IsLine bytes (length before + length front) (spell x)
    line_of front x behind is =
        subst (λ k. IsLine bytes k (spell x)) (length-append before (map spell front) ∙ ap (λ k. length before + k) (length-map front spell))
        (line_at bytes (before ++ map spell front) (spell x) (map spell behind) rest
        (subst (λ (ls : List (List ℕ)). Cut bytes ls rest)
        (ap (λ (ls : List (List ℕ)). before ++ ls) (ap (map spell) is ∙ map-append spell front (x ∷ behind)) ∙ sym (append_assoc before (map spell front) (spell x ∷ map spell behind))) cut))

    stands : (front : List X) (x : X) (behind : List X) → items ≡ front ++ x ∷ behind → StandsAt Is bytes (length before + length front) x
    stands front x behind is =
        record { text = spell x; line = line_of front x behind is; item = all_at (λ y. Is (spell y) y) front behind x (subst (All (λ y. Is (spell y) y)) is are) }

    -- each of them is right
    pub item_right : (i k : ℕ) → k ≡ length before + i → i < length items → IsRightItem Is cmp bytes (length before) k
    item_right i k at lt =
        let r = item_here items i lt in
        record {
          item = r.1;
          at = subst (λ n. StandsAt Is bytes n r.1) (ap (λ n. length before + n) r.4 ∙ sym at) (stands r.0 r.1 r.2 r.3);
          greater = λ j d next past there. greater r.0 r.1 r.2 r.3 (j - length before) j d (omega (arith, r.4, at, next, past)) (omega (arith, past)) there;
        }
      where
        greater : (front : List X) (x : X) (behind : List X) → items ≡ front ++ x ∷ behind → (m j : ℕ) (d : X) → length front ≡ suc m → j ≡ length before + m → StandsAt Is bytes j d → cmp d x ≡ Less
        greater front x behind is m j d long on there =
            let l = last_of front m long in
            let split = is ∙ (ap (λ xs. xs ++ x ∷ behind) l.2 ∙ append_assoc l.0 (l.1 ∷ []) (x ∷ behind)) in
            let own = subst (λ n. StandsAt Is bytes n l.1) (ap (λ n. length before + n) l.3 ∙ sym on) (stands l.0 l.1 (x ∷ behind) split) in
            subst (λ c. cmp c x ≡ Less) (sym (same_item bytes j d l.1 there own)) (above_before cmp front behind x (subst (IsAscending cmp) is up) l.0 l.1 l.2)

    place_long : length (before ++ map spell items) ≡ length before + length items
    place_long = length-append before (map spell items) ∙ ap (λ n. length before + n) (length-map items spell)

    -- the next line isn't, where no item stands there
    pub no_right : (k : ℕ) → k ≡ length before + length items → ((x : X) (behind : List ℕ) → IsNextItem Is cmp items rest x behind → ⊥) → IsRightItem Is cmp bytes (length before) k → ⊥
    no_right k at nothing r =
        let left = next_line bytes (before ++ map spell items) rest k r.at.text cut (place_long ∙ sym at) r.at.line in
        nothing r.item left.0 (record { text = r.at.text; spelled = left.1; inside = r.at.line.inside; item = r.at.item; above = λ front last is. above front last is })
      where
        above : (front : List X) (last : X) → items ≡ front ++ last ∷ [] → cmp last r.item ≡ Less
        above front last is =
            r.greater (length before + length front) last (omega (arith, at, ap length is, length-append front (last ∷ []))) (omega arith) (stands front last [] is)

  -- items are determined by their texts
  pub same_items : (xs ys : List X) → All (λ x. Is (spell x) x) xs → All (λ x. Is (spell x) x) ys → map spell xs ≡ map spell ys → xs ≡ ys
  same_items [] [] ax ay e = refl
  same_items [] (y ∷ ys) ax ay e = absurd (let f : 0 ≡ suc (length (map spell ys)) = ap length e in omega (arith, f))
  same_items (x ∷ xs) [] ax ay e = absurd (let f : suc (length (map spell xs)) ≡ 0 = ap length e in omega (arith, f))
  same_items (x ∷ xs) (y ∷ ys) ax ay e =
      let text : spell x ≡ spell y = ap (first_line) e in
      let same = unique (spell y) x y (subst (λ (t : List ℕ). Is t x) text (ax 0 x (omega arith))) (ay 0 y (omega arith)) in
      λ i. same i ∷ same_items xs ys (all_behind (λ z. Is (spell z) z) x xs ax) (all_behind (λ z. Is (spell z) z) y ys ay) (ap behind_line e) i
    where
      first_line : List (List ℕ) → List ℕ
      first_line [] = []
      first_line (l ∷ ls) = l

      behind_line : List (List ℕ) → List (List ℕ)
      behind_line [] = []
      behind_line (l ∷ ls) = ls
