-- A certificate while its interner grows.
use Rattle.std.proofs.Common.{◌≡◌, refl, sym, ◌∙◌, ap, subst, ℕ, ◌<◌, List, [], ◌∷◌, ◌++◌, length, map, All, Option, Some, None, IfSome}
use Rattle.std.proofs.lemmas.List.{map_push}
use Rattle.std.proofs.lemmas.List.Elements.{All-push, All-weaker, All-head, All-tail}
use Rattle.hs_table.specs.Entries.{EntryData, entry_cmp}
use Rattle.hs_weak.specs.Void.{VoidData, void_cmp}
use Rattle.hs_types.specs.Interned.{InternerData, RowData, IsRow, entry_of, Grows}
use Rattle.hs_types.proofs.Numbers.{type_within, set_within, env_within, env_stays, row_within}
use Rattle.hs_types.proofs.RowLemmas.{rows_stay}
use Rattle.hs_numbered.specs.Certificates.{VoidRowData, IsVoidRow, void_of, AreHeld, given_of, CertificateData, IsAboveLast}

some_weaker : (o : Option ℕ) (m n : ℕ) → ((k : ℕ) → k < m → k < n) → IfSome o (λ k. k < m) → IfSome o (λ k. k < n)
some_weaker None m n f h = tt
some_weaker (Some k) m n f h = f k h

module _ (I J : InternerData) (g : Grows I J) where
  pub voids_stay : (void : List VoidRowData) → All (IsVoidRow I) void → map (void_of J) void ≡ map (void_of I) void
  voids_stay [] h = refl
  voids_stay (v ∷ void) h =
      let env = env_stays I J g v.env (All-head (IsVoidRow I) v void h) in
      let rest = voids_stay void (All-tail (IsVoidRow I) v void h) in
      λ i. record { rule = v.rule; env = env i } ∷ rest i

  module _ (table : List RowData) (void : List VoidRowData) (type set env : Option ℕ) (h : AreHeld I table void type set env) where
    pub held_more : AreHeld J table void type set env
    held_more = record {
      rows = All-weaker (IsRow I) (IsRow J) (λ r is. row_within I J g r is) table h.rows;
      void_rows = All-weaker (IsVoidRow I) (IsVoidRow J) (λ v is. env_within I J g v.env is) void h.void_rows;
      types = some_weaker type (length I.types) (length J.types) (type_within I J g) h.types;
      sets = some_weaker set (length I.sets) (length J.sets) (set_within I J g) h.sets;
      envs = some_weaker env (length I.envs) (length J.envs) (env_within I J g) h.envs;
    }

    pub lists_stay : (d : CertificateData) → record { numbers = I; table = map (entry_of I) table; void = map (void_of I) void; given = given_of type set env } ≡ d → (map (entry_of J) table ≡ d.table) × (map (void_of J) void ≡ d.void)
    lists_stay d is = (rows_stay I J g table h.rows ∙ ap (λ (x : CertificateData). x.table) is, voids_stay void h.void_rows ∙ ap (λ (x : CertificateData). x.void) is)

    module _ (d : CertificateData) (is : record { numbers = I; table = map (entry_of I) table; void = map (void_of I) void; given = given_of type set env } ≡ d) where
      -- one entry more
      module _ (row : RowData) (used : IsRow J row) (entry : EntryData) (same : entry_of J row ≡ entry) where
        pub row_added : (new : List RowData) → new ≡ table ++ row ∷ [] → map (entry_of J) new ≡ d.table ++ entry ∷ []
        row_added new e = ap (λ (rs : List RowData). map (entry_of J) rs) e ∙ map_push (entry_of J) table row ∙ (λ i. (lists_stay d is).0 i ++ same i ∷ [])

        pub row_held : (new : List RowData) → new ≡ table ++ row ∷ [] → AreHeld J new void type set env
        row_held new e =
            let more = held_more in
            record {
              rows = subst (λ (rs : List RowData). All (IsRow J) rs) (sym e) (All-push (IsRow J) table row more.rows used);
              void_rows = more.void_rows;
              types = more.types;
              sets = more.sets;
              envs = more.envs;
            }

        pub above_entries : (x : CertificateData) → record { numbers = J; table = map (entry_of J) table; void = map (void_of J) void; given = given_of type set env } ≡ x → IsAboveLast entry_cmp x.table (entry_of x.numbers row) → IsAboveLast entry_cmp d.table entry
        above_entries x x_is above =
            let own = subst (λ (z : CertificateData). IsAboveLast entry_cmp z.table (entry_of z.numbers row)) (sym x_is) above in
            subst (λ (z : EntryData). IsAboveLast entry_cmp d.table z) same (subst (λ (es : List EntryData). IsAboveLast entry_cmp es (entry_of J row)) (lists_stay d is).0 own)

        pub entries_above : (x : CertificateData) → record { numbers = J; table = map (entry_of J) table; void = map (void_of J) void; given = given_of type set env } ≡ x → IsAboveLast entry_cmp d.table entry → IsAboveLast entry_cmp x.table (entry_of x.numbers row)
        entries_above x x_is above =
            subst (λ (z : CertificateData). IsAboveLast entry_cmp z.table (entry_of z.numbers row)) x_is
            (subst (λ (es : List EntryData). IsAboveLast entry_cmp es (entry_of J row)) (sym (lists_stay d is).0) (subst (λ (z : EntryData). IsAboveLast entry_cmp d.table z) (sym same) above))

      -- one pair more
      module _ (row : VoidRowData) (used : IsVoidRow J row) (pair : VoidData) (same : void_of J row ≡ pair) where
        pub void_added : (new : List VoidRowData) → new ≡ void ++ row ∷ [] → map (void_of J) new ≡ d.void ++ pair ∷ []
        void_added new e = ap (λ (rs : List VoidRowData). map (void_of J) rs) e ∙ map_push (void_of J) void row ∙ (λ i. (lists_stay d is).1 i ++ same i ∷ [])

        pub void_held : (new : List VoidRowData) → new ≡ void ++ row ∷ [] → AreHeld J table new type set env
        void_held new e =
            let more = held_more in
            record {
              rows = more.rows;
              void_rows = subst (λ (rs : List VoidRowData). All (IsVoidRow J) rs) (sym e) (All-push (IsVoidRow J) void row more.void_rows used);
              types = more.types;
              sets = more.sets;
              envs = more.envs;
            }

        pub above_pairs : (x : CertificateData) → record { numbers = J; table = map (entry_of J) table; void = map (void_of J) void; given = given_of type set env } ≡ x → IsAboveLast void_cmp x.void (void_of x.numbers row) → IsAboveLast void_cmp d.void pair
        above_pairs x x_is above =
            let own = subst (λ (z : CertificateData). IsAboveLast void_cmp z.void (void_of z.numbers row)) (sym x_is) above in
            subst (λ (z : VoidData). IsAboveLast void_cmp d.void z) same (subst (λ (es : List VoidData). IsAboveLast void_cmp es (void_of J row)) (lists_stay d is).1 own)

        pub pairs_above : (x : CertificateData) → record { numbers = J; table = map (entry_of J) table; void = map (void_of J) void; given = given_of type set env } ≡ x → IsAboveLast void_cmp d.void pair → IsAboveLast void_cmp x.void (void_of x.numbers row)
        pairs_above x x_is above =
            subst (λ (z : CertificateData). IsAboveLast void_cmp z.void (void_of z.numbers row)) x_is
            (subst (λ (es : List VoidData). IsAboveLast void_cmp es (void_of J row)) (sym (lists_stay d is).1) (subst (λ (z : VoidData). IsAboveLast void_cmp d.void z) (sym same) above))
