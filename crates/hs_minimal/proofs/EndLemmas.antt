-- Rows by their points and last states.
use Rattle.std.proofs.Common.{◌≡◌, refl, sym, ◌∙◌, ap, subst, ℕ, Bool, true, false, cond, nat_eq, List, [], ◌∷◌, ◌++◌, map, Option, Some, None, Vec, Contains, ◌⊎◌, inl, inr}
use Rattle.std.specs.Prelude.{unwrap_or}
use Rattle.std.specs.Map.{lookup}
use Rattle.std.specs.Option.{option_map}
use Rattle.std.specs.declared.alloc.Global.{Global}
use Rattle.std.proofs.lemmas.Bool.{eqb-true, eq-eqb, and_parts}
use Rattle.std.proofs.lemmas.List.Elements.{Contains-append_left, Contains-append_right}
use Rattle.hs_scheme.specs.Key.{key_eq}
use Rattle.hs_scheme.proofs.Lists.{here}
use Rattle.hs_table_laws.proofs.Members.{pushed_cases}
use Rattle.hs_types.specs.Interned.{RowData}
use Rattle.hs_minimal.specs.Ends.{EndData, rows_ending}

pub key_parts : (a b x y : ℕ) → key_eq (a, b) (x, y) ≡ true → (a ≡ x) × (b ≡ y)
key_parts a b x y h = let p = and_parts (nat_eq a x) (nat_eq b y) h in (eqb-true a x p.0, eqb-true b y p.1)

pub same_key : (a b x y : ℕ) → a ≡ x → b ≡ y → key_eq (a, b) (x, y) ≡ true
same_key a b x y e f = rw (eq-eqb a x e, eq-eqb b y f)

-- a list that may have got one more
pub gained : {T : Type 0} (t : Bool) (xs ys : List T) (x y : T) → ys ≡ cond t (xs ++ x ∷ []) xs → Contains ys y → Contains xs y ⊎ ((t ≡ true) × (y ≡ x))
gained {T = T} true xs ys x y e m = elim (pushed_cases xs x y (subst (λ (z : List T). Contains z y) e m)) [
  | inl was ↦ inl was
  | inr own ↦ inr (refl, own)
]
gained {T = T} false xs ys x y e m = inl (subst (λ (z : List T). Contains z y) e m)

pub still : {T : Type 0} (t : Bool) (xs ys : List T) (x y : T) → ys ≡ cond t (xs ++ x ∷ []) xs → Contains xs y → Contains ys y
still {T = T} true xs ys x y e m = subst (λ (z : List T). Contains z y) (sym e) (Contains-append_left xs (x ∷ []) y m)
still {T = T} false xs ys x y e m = subst (λ (z : List T). Contains z y) (sym e) m

pub now_there : {T : Type 0} (t : Bool) (xs ys : List T) (x : T) → ys ≡ cond t (xs ++ x ∷ []) xs → t ≡ true → Contains ys x
now_there {T = T} true xs ys x e h = subst (λ (z : List T). Contains z x) (sym e) (Contains-append_right xs (x ∷ []) x (here x []))
now_there false xs ys x e h = absurd (cc)

-- rows as they are kept
abbrev pub Kept : Type 0
Kept = List ((ℕ × ℕ) × Vec RowData Global)

abbrev pub seen : Kept → EndData
seen es = map (λ (e : (ℕ × ℕ) × Vec RowData Global). (e.0, e.1.items)) es

lookup_seen : (test : ℕ × ℕ → Bool) (es : Kept) → lookup test (seen es) ≡ option_map (λ (v : Vec RowData Global). v.items) (lookup test es)
lookup_seen test [] = refl
lookup_seen test (e ∷ es) = by (test e.0) (lookup_seen test es)
  where
    by : (t : Bool) → lookup test (seen es) ≡ option_map (λ (v : Vec RowData Global). v.items) (lookup test es)
        → cond t (Some e.1.items) (lookup test (seen es)) ≡ option_map (λ (v : Vec RowData Global). v.items) (cond t (Some e.1) (lookup test es))
    by true rest = refl
    by false rest = rest

-- the rows of an entry of the map, none where it has none
abbrev pub items_of : Option (Vec RowData Global) → List RowData
items_of None = []
items_of (Some v) = v.items

mapped : (o : Option (Vec RowData Global)) → unwrap_or (option_map (λ (v : Vec RowData Global). v.items) o) [] ≡ items_of o
mapped None = refl
mapped (Some v) = refl

pub ending_is : (es : Kept) (ends : EndData) → seen es ≡ ends → (u q : ℕ) → rows_ending ends u q ≡ items_of (lookup (key_eq (u, q)) es)
ending_is es ends view u q =
    ap (λ (z : EndData). rows_ending z u q) (sym view) ∙ (ap (λ (o : Option (List RowData)). unwrap_or o []) (lookup_seen (key_eq (u, q)) es) ∙ mapped (lookup (key_eq (u, q)) es))

-- a list is written
pub items_written : (t : Bool) (v : Vec RowData Global) (old new : Option (Vec RowData Global)) → new ≡ cond t (Some v) old → items_of new ≡ cond t v.items (items_of old)
items_written true v old new is = ap items_of is
items_written false v old new is = ap items_of is

-- a row is added to a list, which is taken out for that
pub list_pushed : (t : Bool) (old mid at_key o : Option (Vec RowData Global)) (row fresh : Vec RowData Global) (pushed new : List RowData) (item : RowData) → (t ≡ true → at_key ≡ old) → o ≡ at_key → fresh.items ≡ [] → row ≡ unwrap_or o fresh
    → pushed ≡ row.items ++ item ∷ [] → mid ≡ cond t None old → new ≡ cond t pushed (items_of mid) → new ≡ cond t (items_of old ++ item ∷ []) (items_of old)
list_pushed true old mid at_key o row fresh pushed new item key was empty is more removed back =
    back ∙ (more ∙ ap (λ (xs : List RowData). xs ++ item ∷ []) (ap (λ (v : Vec RowData Global). v.items) is ∙ (taken o ∙ ap items_of (was ∙ key refl))))
  where
    taken : (o : Option (Vec RowData Global)) → (unwrap_or o fresh).items ≡ items_of o
    taken None = empty
    taken (Some v) = refl
list_pushed false old mid at_key o row fresh pushed new item key was empty is more removed back = back ∙ ap items_of removed
