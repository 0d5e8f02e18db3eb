-- The entries chosen are those of `Chosen`.
use Rattle.std.proofs.Common.{◌≡◌, refl, sym, ◌∙◌, ap, subst, ℕ, suc, Bool, true, false, ◌&&◌, nat_eq, cond, Some, None, List, [], ◌∷◌, ◌++◌, length, map, arith, Contains}
use Rattle.std.specs.List.{flat_map}
use Rattle.std.specs.Ordering.{is_eq}
use Rattle.std.proofs.lemmas.Bool.{eqb-true, eq-eqb, and_parts, and_from}
use Rattle.std.proofs.lemmas.Cmp.{tied_itself}
use Rattle.hs_scheme.specs.Problem.{ProblemData}
use Rattle.hs_scheme.specs.Tree.{node, none, more, children, children-forest, forest-children}
use Rattle.hs_scheme.proofs.Orderings.{equal_of}
use Rattle.hs_scheme.proofs.Lists.{none_in, here, Contains-at, only}
use Rattle.hs_table.specs.Types.{TypeTree, arrows, type_cmp}
use Rattle.hs_table.specs.Entries.{Env, EntryData, InShape}
use Rattle.hs_table.specs.Follows.{IsAt, Chosen, done, next_argument, choose}
use Rattle.hs_table_laws.proofs.Places.{place_of}
use Rattle.hs_table_laws.proofs.Orders.{type_cmp_total, type_same}
use Rattle.hs_table_plain.specs.Enumeration.{joined, extended, picks, retyped, through}
use Rattle.hs_table_plain.proofs.Members.{from_flat_map, into_flat_map}
use Rattle.hs_table_plain.proofs.UnionLemmas.{joins, joins-append}

pub from_cond : {X : Type 0} (b : Bool) (x y : X) → Contains (cond b (x ∷ []) []) y → (b ≡ true) × (y ≡ x)
from_cond true x y c = (refl, only x y c)
from_cond false x y c = absurd (none_in y c)

pub into_cond : {X : Type 0} (b : Bool) (x : X) → b ≡ true → Contains (cond b (x ∷ []) []) x
into_cond b x e = subst (λ v. Contains (cond v (x ∷ []) []) x) (sym e) (here x [])

-- for each argument the entries chosen for its set
abbrev pub choose_all : List EntryData → List ℕ → Env → List EntryData → List EntryData
choose_all E [] ss es = es
choose_all E (u ∷ us) [] es = es
choose_all E (u ∷ us) (s ∷ ss) es = choose_all E us ss (picks E u s es)

pub through_arrows : (E : List EntryData) (us : List ℕ) (ss : Env) (t : TypeTree) (es : List EntryData) → length ss ≡ length us → through E us (arrows ss t) es ≡ map (retyped t) (choose_all E us ss es)
through_arrows E [] [] t es e = refl
through_arrows E [] (s ∷ ss) t es e = absurd (omega arith)
through_arrows E (u ∷ us) [] t es e = absurd (omega arith)
through_arrows E (u ∷ us) (s ∷ ss) t es e = ap (λ r. through E us (arrows ss t) (picks E u r es)) (children-forest s) ∙ through_arrows E us ss t (picks E u s es) (omega arith)

pub record Split (us : List ℕ) (ty : TypeTree) : Type 0 where
  pub sets : Env
  pub rest : TypeTree
  pub is : ty ≡ arrows sets rest
  pub long : length sets ≡ length us

pub split_from : (E : List EntryData) (us : List ℕ) (ty : TypeTree) (es : List EntryData) (y : EntryData) → Contains (through E us ty es) y → Split us ty
split_from E [] ty es y c = record { sets = []; rest = ty; is = refl; long = refl }
split_from E (u ∷ us) (node (Some q) ts) es y c = absurd (none_in y c)
split_from E (u ∷ us) (node None none) es y c = absurd (none_in y c)
split_from E (u ∷ us) (node None (more t ts)) es y c = let r = split_from E us t (picks E u (children ts) es) y c in
    record { sets = children ts ∷ r.sets; rest = r.rest; is = let kids = sym (forest-children ts) in λ i. node None (more (r.is i) (kids i)); long = ap suc r.long }

module _ (p : ProblemData) (E : List EntryData) (shapes : (e : EntryData) → Contains E e → InShape p e) where
  pub at_place : (x : EntryData) → Contains E x → (place : ℕ) × IsAt p E place x
  at_place x c = let r = place_of E x c in (r.0, record { at = r.1; shape = shapes x c })

  into_extended : (es : List EntryData) (e x : EntryData) (u : ℕ) (a : TypeTree) → Contains es e → Contains E x → x.point ≡ u → x.ty ≡ a
      → Contains (flat_map (λ e. flat_map (extended u a e) E) es) (joined e x)
  into_extended es e x u a c d point ty =
      into_flat_map (λ e. flat_map (extended u a e) E) es e (joined e x) c
      (into_flat_map (extended u a e) E x (joined e x) d
      (into_cond (nat_eq x.point u && is_eq (type_cmp x.ty a)) (joined e x)
      (and_from (nat_eq x.point u) (is_eq (type_cmp x.ty a)) (eq-eqb x.point u point) (ap is_eq (ap (type_cmp x.ty) (sym ty) ∙ tied_itself type_cmp_total x.ty)))))

  pub into_all : {i : ℕ} {us : List ℕ} {ss : Env} {args : List (ℕ × ℕ)} {xs : List EntryData} → Chosen p E i us ss args xs → (es : List EntryData) (e : EntryData) → Contains es e
      → Contains (choose_all E us ss es) (joins e xs)
  into_all done es e c = c
  into_all (next_argument h) es e c = into_all h es e c
  into_all (choose {u = u} {place = place} {a = a} {e = x} at point ty h) es e c =
      into_all h (flat_map (λ e. flat_map (extended u a e) E) es) (joined e x) (into_extended es e x u a c (Contains-at E place x at.at) point ty)

  pub long : {i : ℕ} {us : List ℕ} {ss : Env} {args : List (ℕ × ℕ)} {xs : List EntryData} → Chosen p E i us ss args xs → length ss ≡ length us
  long done = refl
  long (next_argument h) = ap suc (long h)
  long (choose at point ty h) = long h

  record Picked (u : ℕ) (s : List TypeTree) (es : List EntryData) (y : EntryData) : Type 0 where
    from : EntryData
    there : Contains es from
    xs : List EntryData
    is : y ≡ joins from xs
    grow : (i : ℕ) (us : List ℕ) (ss : Env) (args : List (ℕ × ℕ)) (rest : List EntryData) → Chosen p E i (u ∷ us) ([] ∷ ss) args rest → (all : List (ℕ × ℕ)) × Chosen p E i (u ∷ us) (s ∷ ss) all (xs ++ rest)

  from_picks : (u : ℕ) (s : List TypeTree) (es : List EntryData) (y : EntryData) → Contains (picks E u s es) y → Picked u s es y
  from_picks u [] es y c = record { from = y; there = c; xs = []; is = refl; grow = λ i us ss args rest h. (args, h) }
  from_picks u (a ∷ s) es y c =
      let later_ones = from_picks u s (flat_map (λ e. flat_map (extended u a e) E) es) y c in
      let first = from_flat_map (λ e. flat_map (extended u a e) E) es later_ones.from later_ones.there in
      let candidate = from_flat_map (extended u a first.item) E later_ones.from first.gives in
      let test = from_cond (nat_eq candidate.item.point u && is_eq (type_cmp candidate.item.ty a)) (joined first.item candidate.item) later_ones.from candidate.gives in
      let parts = and_parts (nat_eq candidate.item.point u) (is_eq (type_cmp candidate.item.ty a)) test.0 in
      let place = at_place candidate.item candidate.there in
      record {
        from = first.item;
        there = first.there;
        xs = candidate.item ∷ later_ones.xs;
        is = later_ones.is ∙ ap (λ e. joins e later_ones.xs) test.1;
        grow = λ i us ss args rest h. let r = later_ones.grow i us ss args rest h in
            ((i, place.0) ∷ r.0, choose place.1 (eqb-true candidate.item.point u parts.0) (type_same candidate.item.ty a (equal_of (type_cmp candidate.item.ty a) parts.1)) r.1);
      }

  -- the entry is one of the given ones, joined with entries chosen for the sets
  pub record JoinedWithChosen (us : List ℕ) (ss : Env) (es : List EntryData) (y : EntryData) : Type 0 where
    pub from : EntryData
    pub there : Contains es from
    pub xs : List EntryData
    pub is : y ≡ joins from xs
    pub are : (i : ℕ) → (args : List (ℕ × ℕ)) × Chosen p E i us ss args xs

  pub from_all : (us : List ℕ) (ss : Env) (es : List EntryData) (y : EntryData) → length ss ≡ length us → Contains (choose_all E us ss es) y → JoinedWithChosen us ss es y
  from_all [] [] es y e c = record { from = y; there = c; xs = []; is = refl; are = λ i. ([], done) }
  from_all [] (s ∷ ss) es y e c = absurd (omega arith)
  from_all (u ∷ us) [] es y e c = absurd (omega arith)
  from_all (u ∷ us) (s ∷ ss) es y e c =
      let rest = from_all us ss (picks E u s es) y (omega arith) c in
      let first = from_picks u s es rest.from rest.there in
      record {
        from = first.from;
        there = first.there;
        xs = first.xs ++ rest.xs;
        is = rest.is ∙ (ap (λ e. joins e rest.xs) first.is ∙ sym (joins-append first.from first.xs rest.xs));
        are = λ i. let r = rest.are (suc i) in first.grow i us ss r.0 rest.xs (next_argument r.1);
      }
