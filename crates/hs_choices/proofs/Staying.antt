-- Rows stand for the same once there are more numbers.
use Rattle.std.proofs.Common.{◌≡◌, refl, sym, ◌∙◌, subst, ◌<◌, List, [], ◌∷◌, length, map, Contains, All}
use Rattle.std.proofs.lemmas.List.Elements.{All-weaker, All-contains}
use Rattle.hs_scheme.specs.Problem.{ProblemData}
use Rattle.hs_scheme.proofs.Lists.{here, later}
use Rattle.hs_table.specs.Entries.{EntryData}
use Rattle.hs_table.specs.Follows.{IsAt}
use Rattle.hs_weak.specs.Void.{VoidData}
use Rattle.hs_types.specs.Interned.{InternerData, RowData, IsRow, Grows}
use Rattle.hs_types.proofs.Numbers.{env_within, env_stays, row_within, row_stays}
use Rattle.hs_numbered.specs.Certificates.{VoidRowData, void_of}
use Rattle.hs_choices.specs.Numbered.{AreTableRows, AreNumbered}

map_same : {X Y : Type 0} (f g : X → Y) (xs : List X) → ((x : X) → Contains xs x → f x ≡ g x) → map f xs ≡ map g xs
map_same f g [] h = refl
map_same f g (x ∷ xs) h = λ i. h x (here x xs) i ∷ map_same f g xs (λ y m. h y (later x y xs m)) i

module _ (I J : InternerData) (grows : Grows I J) where
  pub void_stays : (v : VoidRowData) → v.env < length I.envs → void_of J v ≡ void_of I v
  void_stays v lt = λ i. record { rule = v.rule; env = env_stays I J grows v.env lt i }

  pub rows_stay : (p : ProblemData) (C : List EntryData) (table : List RowData) → All (IsRow I) table → AreTableRows p C I table → AreTableRows p C J table
  rows_stay p C table in_use are = record {
    taken = λ row m.
        let t = are.taken row m in
        (t.0, subst (λ (e : EntryData). IsAt p C t.0 e) (sym (row_stays I J grows row (All-contains (IsRow I) table row in_use m))) t.1);
    each = λ place e at.
        let t = are.each place e at in
        (t.0, (t.1.0, row_stays I J grows t.0 (All-contains (IsRow I) table t.0 in_use t.1.0) ∙ t.1.1));
  }

  pub voids_stay : (void : List VoidRowData) → All (λ (v : VoidRowData). v.env < length I.envs) void → map (void_of J) void ≡ map (void_of I) void
  voids_stay void in_use = map_same (void_of J) (void_of I) void (λ v m. void_stays v (All-contains (λ (v : VoidRowData). v.env < length I.envs) void v in_use m))

pub numbered_stays : (p : ProblemData) (C : List EntryData) (V : List VoidData) (I J : InternerData) (table : List RowData) (void : List VoidRowData) → Grows I J → AreNumbered p C V I table void → AreNumbered p C V J table void
numbered_stays p C V I J table void grows are = record {
  rows = rows_stay I J grows p C table are.in_use are.rows;
  in_use = All-weaker (IsRow I) (IsRow J) (row_within I J grows) table are.in_use;
  order = are.order;
  pairs = voids_stay I J grows void are.envs ∙ are.pairs;
  envs = All-weaker (λ (v : VoidRowData). v.env < length I.envs) (λ (v : VoidRowData). v.env < length J.envs) (λ v lt. env_within I J grows v.env lt) void are.envs;
}

-- rows whose numbers were in use stood for the same before there were more
pub numbered_back : (p : ProblemData) (C : List EntryData) (V : List VoidData) (I J : InternerData) (table : List RowData) (void : List VoidRowData) → Grows I J → All (IsRow I) table → All (λ (v : VoidRowData). v.env < length I.envs) void → AreNumbered p C V J table void → AreNumbered p C V I table void
numbered_back p C V I J table void grows in_use envs are = record {
  rows = record {
    taken = λ row m.
        let t = are.rows.taken row m in
        (t.0, subst (λ (e : EntryData). IsAt p C t.0 e) (row_stays I J grows row (All-contains (IsRow I) table row in_use m)) t.1);
    each = λ place e at.
        let t = are.rows.each place e at in
        (t.0, (t.1.0, sym (row_stays I J grows t.0 (All-contains (IsRow I) table t.0 in_use t.1.0)) ∙ t.1.1));
  };
  in_use = in_use;
  order = are.order;
  pairs = sym (voids_stay I J grows void envs) ∙ are.pairs;
  envs = envs;
}
