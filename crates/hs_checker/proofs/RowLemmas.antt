-- The types that rows say.
use Rattle.std.proofs.Common.{◌≡◌, sym, ◌∙◌, ap, subst, ℕ, ◌<◌, ◌&&◌, ◌==◌, nat_eq, true, List, [], ◌∷◌, length, map, filter, Contains, All, ◌↔◌, Bor, arith}
use Rattle.std.specs.List.{flat_map}
use Rattle.std.proofs.lemmas.Bool.{eqb-true}
use Rattle.std.proofs.lemmas.List.Elements.{All-contains, All-contains_itself, All-weaker}
use Rattle.hs_scheme.specs.declared.flow.FlowPair.{FlowPair}
use Rattle.hs_scheme.proofs.Lists.{none_in}
use Rattle.hs_table.specs.Types.{TypeTree}
use Rattle.hs_table.specs.Entries.{EntryData}
use Rattle.hs_table_laws.proofs.Members.{from_map, into_map}
use Rattle.hs_table_plain.specs.Enumeration.{flow_type}
use Rattle.hs_types.specs.Interned.{InternerData, type_of_id, RowData, IsRow, entry_of}
use Rattle.hs_checker.specs.Any.{AnyOf}
use Rattle.hs_checker.specs.Order.{HasRowAt}
use Rattle.hs_checker.specs.Numbers.{entries_of, trees_of, AreTypes}
use Rattle.hs_checker.proofs.NumberLemmas.{typed_rows}
use Rattle.hs_checker.proofs.TypeLemmas.{flow_types}

pub types_at : (R : List RowData) (rows : List (Bor RowData)) (u : ℕ) → ((r : RowData) → Contains (map (λ (r : Bor RowData). r.now) rows) r ↔ (Contains R r × (r.point ≡ u)))
    → (t : ℕ) → AnyOf (λ (r : Bor RowData) (t : ℕ). t ≡ r.now.ty) rows t ↔ HasRowAt R u t
types_at R rows u exact t = (
  λ a. let both = (exact a.item.now).0 (into_map (λ (r : Bor RowData). r.now) rows a.item a.there) in record { row = a.item.now; there = both.0; at = both.1; typed = sym a.holds },
  λ h. let row = from_map (λ (r : Bor RowData). r.now) rows h.row ((exact h.row).1 (h.there, h.at)) in
      record { item = row.item; there = row.there; holds = sym h.typed ∙ ap (λ (r : RowData). r.ty) row.is },
)

-- where no row stands, nothing has a type
pub nothing_at : (I : InternerData) (R : List RowData) (rows : List (Bor RowData)) (u : ℕ) → ((r : RowData) → Contains (map (λ (r : Bor RowData). r.now) rows) r ↔ (Contains R r × (r.point ≡ u))) → true ≡ (length rows == 0)
    → (e : EntryData) → Contains (entries_of I R) e → e.point ≡ u → ⊥
nothing_at I R [] u exact none e there at =
    let s = from_map (entry_of I) R e there in
    none_in s.item ((exact s.item).1 (s.there, sym (ap (λ (z : EntryData). z.point) s.is) ∙ at))
nothing_at I R (r ∷ rows) u exact none e there at = let f : length (r ∷ rows) ≡ 0 = eqb-true (length (r ∷ rows)) 0 (sym none) in absurd (omega (arith, f))

-- by the pairs of a parameter
module _ (I : InternerData) (R : List RowData) (pairs : List FlowPair) (rule x : ℕ) (found : List ℕ)
    (exact : (t : ℕ) → Contains found t ↔ AnyOf (λ (f : FlowPair) (t : ℕ). HasRowAt R f.point t) (filter (λ f. nat_eq f.rule rule && nat_eq f.param x) pairs) t) where
  pub flow_trees : (t : TypeTree) → Contains (trees_of I found) t ↔ Contains (flat_map (flow_type pairs rule x) (entries_of I R)) t
  flow_trees t =
      let plain = flow_types (entries_of I R) pairs rule x t in (
        λ c.
            let s = from_map (type_of_id I) found t c in
            let a = (exact s.item).0 s.there in
            let h = a.holds in
            plain.0 (record { item = a.item; there = a.there; holds = record { entry = entry_of I h.row; there = into_map (entry_of I) R h.row h.there; at = h.at; typed = ap (type_of_id I) h.typed ∙ sym s.is } }),
        λ c.
            let a = plain.1 c in
            let k = typed_rows I R a.item.point t a.holds in
            subst (λ z. Contains (trees_of I found) z) k.1.1 (into_map (type_of_id I) found k.0 ((exact k.0).1 (record { item = a.item; there = a.there; holds = k.1.0 }))),
      )

  pub flow_range : All (IsRow I) R → AreTypes I found
  flow_range all =
      All-weaker (Contains found) (λ t. t < length I.types)
      (λ t c. let h = ((exact t).0 c).holds in subst (λ n. n < length I.types) h.typed (All-contains (IsRow I) R h.row all h.there).1) found (All-contains_itself found)

-- the entries of rows at a point
pub entries_at : (I : InternerData) (R : List RowData) (rows : List (Bor RowData)) (u : ℕ) → ((r : RowData) → Contains (map (λ (r : Bor RowData). r.now) rows) r ↔ (Contains R r × (r.point ≡ u)))
    → (e : EntryData) → Contains (map (λ (r : Bor RowData). entry_of I r.now) rows) e ↔ (Contains (entries_of I R) e × (e.point ≡ u))
entries_at I R rows u exact e =
    let f : Bor RowData → EntryData = λ r. entry_of I r.now in
    let g : Bor RowData → RowData = λ r. r.now in (
      λ c.
          let s = from_map f rows e c in
          let b = (exact s.item.now).0 (into_map g rows s.item s.there) in
          (subst (λ z. Contains (entries_of I R) z) (sym s.is) (into_map (entry_of I) R s.item.now b.0), ap (λ (z : EntryData). z.point) s.is ∙ b.1),
      λ b.
          let s = from_map (entry_of I) R e b.0 in
          let r = from_map g rows s.item ((exact s.item).1 (s.there, sym (ap (λ (z : EntryData). z.point) s.is) ∙ b.1)) in
          subst (λ z. Contains (map f rows) z) (sym (s.is ∙ ap (entry_of I) r.is)) (into_map f rows r.item r.there),
    )
