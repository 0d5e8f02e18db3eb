-- A list that is looked up among the lists stored, or stored as one more.
use Rattle.std.proofs.Common.{◌≡◌, refl, sym, ◌∙◌, ap, subst, ℕ, Bool, true, false, not, nat_eq, cond, List, [], ◌∷◌, ◌++◌, length, map, get_or, slice_get, position, option_map, Some, Vec, Contains, inl, inr, arith, ◌<◌}
use Rattle.std.specs.Bool.{Decides}
use Rattle.std.specs.List.{list_any}
use Rattle.std.specs.Cmp.Lexicographic.{pointwise}
use Rattle.std.specs.declared.alloc.Global.{Global}
use Rattle.std.proofs.lemmas.List.{length-map, get_or-map, map_push}
use Rattle.std.proofs.lemmas.List.Quantifiers.{position-Some}
use Rattle.std.proofs.lemmas.Bool.Decides.{Decides-eqb}
use Rattle.std.proofs.lemmas.Map.Made.{is_member-Decides}
use Rattle.std.proofs.lemmas.Option.{slice_get-map, slice_get-get_or}
use Rattle.std.proofs.lemmas.Slice.Eq.{slice_eq-Decides}
use Rattle.std.proofs.lemmas.Bool.{not-false}
use Rattle.hs_scheme.proofs.Lists.{any-map, position-map}
use Rattle.indexmap.specs.IndexSet.{insert_key}
use Rattle.hs_types.specs.Nodes.{Adds, lists_of}

module _ (E : ℕ → ℕ → Bool) (same : (a b : ℕ) → Decides (E a b) (a ≡ b)) (vs : List (Vec ℕ Global)) (ids : List ℕ) where
  list_same : (xs ys : List ℕ) → Decides (pointwise E xs ys) (xs ≡ ys)
  list_same xs ys = slice_eq-Decides same xs ys (pointwise E xs ys) refl

  pub found : (place : ℕ) → Some place ≡ position (λ (v : Vec ℕ Global). pointwise E ids v.items) vs → slice_get (lists_of vs) place ≡ Some ids
  found place e =
      let p = position-Some (pointwise E ids) (lists_of vs) place [] (position-map (pointwise E ids) (λ (v : Vec ℕ Global). v.items) vs ∙ sym e) in
      slice_get-get_or (lists_of vs) place [] p.0 ∙ ap (λ (x : List ℕ). Some x) (sym ((list_same ids (get_or (lists_of vs) place [])).0 p.1))

  pub stored : (place : ℕ) (v k : Vec ℕ Global) → v.items ≡ ids → slice_get vs place ≡ Some k → pointwise E v.items k.items ≡ true → slice_get (lists_of vs) place ≡ Some ids
  stored place v k is at e =
      slice_get-map (λ (v : Vec ℕ Global). v.items) vs place ∙ ap (λ o. option_map (λ (v : Vec ℕ Global). v.items) o) at
      ∙ ap (λ (x : List ℕ). Some x) (sym ((list_same v.items k.items).0 e) ∙ is)

  pub adds : (v : Vec ℕ Global) (new : List (Vec ℕ Global)) → v.items ≡ ids → new ≡ insert_key (λ (a b : Vec ℕ Global). pointwise E a.items b.items) vs v → Adds (lists_of vs) (lists_of new) ids
  adds v new is e = by (list_any (λ (b : Vec ℕ Global). pointwise E v.items b.items) vs) refl
    where
      by : (b : Bool) → list_any (λ (b : Vec ℕ Global). pointwise E v.items b.items) vs ≡ b → Adds (lists_of vs) (lists_of new) ids
      by true t = inl (ap lists_of (e ∙ ap (λ c. cond c vs (vs ++ v ∷ [])) t))
      by false t = inr (
        λ c. absurd (let f = (is_member-Decides list_same (lists_of vs) v.items).1 (subst (Contains (lists_of vs)) (sym is) c) in
            let g : true ≡ false = sym f ∙ any-map (pointwise E v.items) (λ (v : Vec ℕ Global). v.items) vs ∙ t in cc),
        ap lists_of (e ∙ ap (λ c. cond c vs (vs ++ v ∷ [])) t) ∙ map_push (λ (v : Vec ℕ Global). v.items) vs v ∙ ap (λ x. lists_of vs ++ x ∷ []) is,
      )

-- the items of the list at a place
pub items_read : (vs slice : List (Vec ℕ Global)) (s n : ℕ) (v : Vec ℕ Global) (items : List ℕ) → s < length (lists_of vs) → slice ≡ vs → n ≡ s → v ≡ get_or slice n v → items ≡ v.items
    → items ≡ get_or (lists_of vs) s []
items_read vs slice s n v items h e f is i =
    let k : s < length vs = omega (arith, h, length-map vs (λ (v : Vec ℕ Global). v.items)) in
    let at : v ≡ get_or vs s v = is ∙ (λ j. get_or (e j) (f j) v) in
    i ∙ ap (λ (w : Vec ℕ Global). w.items) at ∙ sym (get_or-map (λ (w : Vec ℕ Global). w.items) vs s v [] k)

-- a list that is compared with one at a place
pub guessed : {X : Type 0} (f : ℕ → X) (lists : List (List X)) (g : ℕ) (xs ys : List ℕ) (differ : Bool) → g < length lists → map f xs ≡ get_or lists g [] → differ ≡ not (pointwise nat_eq xs ys) → differ ≡ false
    → slice_get lists g ≡ Some (map f ys)
guessed f lists g xs ys differ lt is decides false_is =
    let same : xs ≡ ys = (slice_eq-Decides Decides-eqb xs ys (pointwise nat_eq xs ys) refl).0 (not-false (pointwise nat_eq xs ys) (sym decides ∙ false_is)) in
    slice_get-get_or lists g [] lt ∙ ap (λ zs. Some zs) (sym is ∙ ap (map f) same)
