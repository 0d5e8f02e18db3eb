-- Where no type of an entry is as strong as another that is asked for, what weakly follows from entries of a closed table is in it. So its
-- strongest entries are a compact list.
use Rattle.std.proofs.Common.{◌≡◌, ◌≢◌, sym, ◌∙◌, ap, subst, ℕ, zero, suc, ◌<◌, ◌≤◌, List, [], ◌∷◌, ◌++◌, Option, Some, None, length, map, take, get_or, replicate, set, slice_get, Contains, arith, inl, inr, Result, Ok, Err, IfOk}
use Rattle.std.specs.Prelude.{AllPairs}
use Rattle.std.specs.Option.{IfSome}
use Rattle.std.specs.List.Sorted.{IsPermutation, IsSorted}
use Rattle.std.proofs.lemmas.Bool.{cases_lt}
use Rattle.std.proofs.lemmas.List.{length-map, get_or-map}
use Rattle.std.proofs.lemmas.List.Elements.{Contains-get_or}
use Rattle.std.proofs.lemmas.List.Sorted.{IsPermutation-sym, Contains-permutation}
use Rattle.hs_scheme.specs.declared.term.Head.{Head}
use Rattle.hs_scheme.specs.declared.term.Head.TheVariants.{Var, Nt, Tm}
use Rattle.hs_scheme.specs.flow.Flow.{IsAscending}
use Rattle.hs_scheme.specs.Problem.{ProblemData}
use Rattle.hs_scheme.proofs.Lists.{none_in, here, later, Contains-at, read-slice_get}
use Rattle.hs_scheme.proofs.Orderings.{ascends}
use Rattle.hs_table.specs.declared.support.HeadBy.{HeadBy}
use Rattle.hs_table.specs.declared.support.HeadBy.TheVariants.{Terminal, Rule, Param}
use Rattle.hs_table.specs.Types.{TypeTree, state, arrow, arrows}
use Rattle.hs_table.specs.Entries.{Env, EntryData, Has, InShape, entry_cmp}
use Rattle.hs_table.specs.Follows.{IsHeadType, IsTerminalType, rank_of, Chosen, done, next_argument, choose, Follows}
use Rattle.hs_table.specs.Tables.{IsLeastTable}
use Rattle.hs_table_laws.proofs.Arrows.{arrow_same, arrows-append, has_within, empties_has, one_long, one_has}
use Rattle.hs_table_laws.proofs.Members.{from_map, into_map}
use Rattle.hs_table_laws.proofs.Orders.{entry_cmp_total, entry_same}
use Rattle.hs_table_laws.proofs.Places.{place_of, fewer}
use Rattle.hs_table_laws.proofs.Shapes.{follows_shape}
use Rattle.hs_verdict.specs.Premises.{IsSortedProblem}
use Rattle.hs_weak.specs.Strength.{AsStrongAs, Covers}
use Rattle.hs_weak.specs.Weak.{WeaklyChosen, WeaklyFollows, EachWeaklyFollows, IsCoveredIn}
use Rattle.hs_weak.specs.Weak.{done as done', next_argument as next_argument', choose as choose'}
use Rattle.hs_weak.proofs.Strength.{strong_refl, state_only, covers_refl}
use Rattle.hs_types.specs.Interned.{InternerData, RowData, type_of_id, entry_of}
use Rattle.hs_choices.proofs.Growing.{all_members}
use Rattle.hs_minimal.specs.Compact.{IsTable}
use Rattle.hs_minimal.specs.Strongest.{MatchExactly, AreStrongest}
use Rattle.hs_minimal.proofs.CompactingLemmas.{ascending_distinct}
use Rattle.hs_minimal.proofs.Elsewhere.{weakly_more}

-- the sets in front of a type that ends with these sets and a state are some of them
fronts : (ss rs : Env) (t : TypeTree) (q k : ℕ) (a : TypeTree) → arrows ss t ≡ arrows rs (state q) → Has ss k a → Has rs k a
fronts [] rs t q k a is m = absurd (none_in a m)
fronts (s ∷ ss) [] t q k a is m = absurd (let e : arrow s (arrows ss t) ≡ state q = is in cc)
fronts (s ∷ ss) (r ∷ rs) t q zero a is m = subst (λ (z : List TypeTree). Contains z a) (arrow_same s r (arrows ss t) (arrows rs (state q)) is).0 m
fronts (s ∷ ss) (r ∷ rs) t q (suc k) a is m = fronts ss rs t q k a (arrow_same s r (arrows ss t) (arrows rs (state q)) is).1 m

behind : (E ss : Env) (k : ℕ) (a : TypeTree) → Has ss k a → (j : ℕ) × Has (E ++ ss) j a
behind [] ss k a m = (k, m)
behind (s ∷ E) ss k a m = let r = behind E ss k a m in (suc r.0, r.1)

-- what follows weakly follows
module _ (p : ProblemData) (E : List EntryData) where
  weaker_chosen : {i : ℕ} {us : List ℕ} {ss : Env} {args : List (ℕ × ℕ)} {es : List EntryData} → Chosen p E i us ss args es → WeaklyChosen AsStrongAs p E i us ss args es
  weaker_chosen done = done'
  weaker_chosen (next_argument c) = next_argument' (weaker_chosen c)
  weaker_chosen (choose {e = e} at point ty c) = choose' at point (subst (λ (t : TypeTree). AsStrongAs e.ty t) ty (strong_refl p.sorted.automaton.states e.ty at.shape.ty)) (weaker_chosen c)

  weaker : (e : EntryData) → Follows p E e → WeaklyFollows AsStrongAs p E e
  weaker e (s, f) = (s, record { of = f.of; at = f.at; sets = f.sets; head = f.head; chosen = f.chosen; are = weaker_chosen f.are; env = f.env; union = f.union })

module _ (p : ProblemData) (I : InternerData) (rows : List RowData) (exactly : MatchExactly I rows) (C : List EntryData) (of_rows : (e : EntryData) → Contains C e → (r : RowData) × (Contains rows r × (entry_of I r ≡ e))) where
  -- a type of a row that is as strong as this one is it
  abbrev IsExact : TypeTree → Type 0
  IsExact a = (r : RowData) → Contains rows r → AsStrongAs (type_of_id I r.ty) a → type_of_id I r.ty ≡ a

  state_exact : (q : ℕ) (a : TypeTree) → a ≡ state q → IsExact a
  state_exact q a is r m strong = state_only (type_of_id I r.ty) q (subst (λ (t : TypeTree). AsStrongAs (type_of_id I r.ty) t) is strong) ∙ sym is

  terminal_exact : (b q : ℕ) (child : Option ℕ) (sets : Env) (t : TypeTree) → IsTerminalType p b q child (arrows sets t) → (k : ℕ) (a : TypeTree) → Has sets k a → IsExact a
  terminal_exact b q None sets t x k a m = absurd (empties_has (rank_of p b) k a (fronts sets (replicate (rank_of p b) []) t q k a x.is m))
  terminal_exact b q (Some child) sets t x k a m =
      let n = length x.qs in
      let full : Env = set (replicate n []) x.place (state x.r ∷ []) in
      let there = fronts sets full t q k a x.is m in
      let long = one_long n x.place (state x.r ∷ []) in
      let within = has_within full k a there in
      state_exact x.r a ((one_has n x.place k (state x.r) a (omega (arith, within, long))).0 there).1

  asked_exact : (e : EntryData) → Contains C e → (sets : Env) (t : TypeTree) (k : ℕ) (a : TypeTree) → arrows e.env e.ty ≡ arrows sets t → Has sets k a → IsExact a
  asked_exact e there sets t k a is m r in_r strong =
      let o = of_rows e there in
      exactly r o.0 in_r o.1.0 sets t k a (ap (λ (d : EntryData). arrows d.env d.ty) o.1.1 ∙ is) m strong

  head_exact : (rule : ℕ) (h : Head) (by : HeadBy) (sets : Env) (t : TypeTree) → IsHeadType p C rule h by (arrows sets t) → (k : ℕ) (a : TypeTree) → Has sets k a → IsExact a
  head_exact rule (Tm b) (Terminal q child) sets t x k a m = terminal_exact b q child sets t x.1 k a m
  head_exact rule (Tm b) (Rule place) sets t x k a m = absurd x
  head_exact rule (Tm b) (Param y place) sets t x k a m = absurd x
  head_exact rule (Nt f) (Terminal q child) sets t x k a m = absurd x
  head_exact rule (Nt f) (Rule place) sets t x k a m =
      asked_exact x.entry (Contains-at C place x.entry x.holds.at) sets t k a (ap (λ (u : TypeTree). arrows x.entry.env u) x.is_state ∙ sym x.is) m
  head_exact rule (Nt f) (Param y place) sets t x k a m = absurd x
  head_exact rule (Var j) (Terminal q child) sets t x k a m = absurd x
  head_exact rule (Var j) (Rule place) sets t x k a m = absurd x
  head_exact rule (Var j) (Param y place) sets t x k a m =
      let e = x.1.entry in
      let b = behind e.env sets k a m in
      asked_exact e (Contains-at C place e x.1.holds.at) (e.env ++ sets) t b.0 a (ap (λ (u : TypeTree). arrows e.env u) (sym x.1.is) ∙ sym (arrows-append e.env sets t)) b.1

  later_exact : (b : TypeTree) (s : List TypeTree) (ss : Env) → ((k : ℕ) (a : TypeTree) → Has ((b ∷ s) ∷ ss) k a → IsExact a) → (k : ℕ) (a : TypeTree) → Has (s ∷ ss) k a → IsExact a
  later_exact b s ss f zero a m = f zero a (later b a s m)
  later_exact b s ss f (suc k) a m = f (suc k) a m

  exact_chosen : {i : ℕ} {us : List ℕ} {ss : Env} {args : List (ℕ × ℕ)} {es : List EntryData} → ((k : ℕ) (a : TypeTree) → Has ss k a → IsExact a) → WeaklyChosen AsStrongAs p C i us ss args es → Chosen p C i us ss args es
  exact_chosen f done' = done
  exact_chosen f (next_argument' c) = next_argument (exact_chosen (λ k a m. f (suc k) a m) c)
  exact_chosen f (choose' {place = place} {a = a} {s = s} {ss = ss} {e = e} at point strong c) =
      let o = of_rows e (Contains-at C place e at.at) in
      let ty_of = ap (λ (d : EntryData). d.ty) o.1.1 in
      let same = f zero a (here a s) o.0 o.1.0 (subst (λ (t : TypeTree). AsStrongAs t a) (sym ty_of) strong) in
      choose at point (sym ty_of ∙ same) (exact_chosen (later_exact a s ss f) c)

  pub exactly_follows : (e : EntryData) → WeaklyFollows AsStrongAs p C e → Follows p C e
  exactly_follows e (s, f) =
      (s, record { of = f.of; at = f.at; sets = f.sets; head = f.head; chosen = f.chosen; are = exact_chosen (λ k a m. head_exact f.of.rule f.of.head s.head f.sets e.ty f.head k a m) f.are; env = f.env; union = f.union })

-- a list whose images differ has no item twice, and the other way round where no two items have one image
pub images_differ : {X Y : Type 0} (f : X → Y) (xs : List X) → AllPairs (λ a b. a ≢ b) (map f xs) → AllPairs (λ a b. a ≢ b) xs
images_differ f xs differ i j d lt within same =
    let long = length-map xs f in
    let first = get_or-map f xs i d (f d) (omega (arith, lt, within)) in
    let second = get_or-map f xs j d (f d) within in
    differ i j (f d) lt (omega (arith, long, within)) (first ∙ (ap f same ∙ sym second))

pub differ_mapped : {X Y : Type 0} (f : X → Y) (xs : List X) → ((a b : X) → Contains xs a → Contains xs b → f a ≡ f b → a ≡ b) → (d : X) → AllPairs (λ a b. a ≢ b) xs → AllPairs (λ a b. a ≢ b) (map f xs)
differ_mapped f xs one d differ i j e lt within same =
    let long = length-map xs f in
    let below : j < length xs = omega (arith, long, within) in
    let first = get_or-map f xs i d e (omega (arith, lt, below)) in
    let second = get_or-map f xs j d e below in
    differ i j d lt below (one (get_or xs i d) (get_or xs j d) (Contains-get_or xs i d (omega (arith, lt, below))) (Contains-get_or xs j d below) (sym first ∙ (same ∙ second)))

module _ (p : ProblemData) (given : IsSortedProblem p) (I : InternerData) (rows : List RowData) (least : IsLeastTable p (map (entry_of I) rows)) where
  abbrev T : List EntryData
  T = map (entry_of I) rows

  pub row_shape : (r : RowData) → Contains rows r → InShape p (entry_of I r)
  row_shape r m =
      let at = place_of T (entry_of I r) (into_map (entry_of I) rows r m) in
      follows_shape p (take at.0 T) given.automaton.to (entry_of I r) (least.supported.follows at.0 (entry_of I r) at.1)

  pub rows_within : (r : RowData) → Contains rows r → r.point < length p.points.points
  rows_within r m = let s = row_shape r m in (read-slice_get p.points.points r.point s.of s.at).0

  derived : EachWeaklyFollows AsStrongAs p T
  derived i e at = weaker p (take i T) e (least.supported.follows i e at)

  module _ (kept : List RowData) (h : AreStrongest I rows kept) (exactly : MatchExactly I rows) (trees table : List EntryData) (are : trees ≡ map (entry_of I) kept) (moved : IsPermutation trees table) (sorted : IsSorted entry_cmp table) where
    row_of : (e : EntryData) → Contains table e → (r : RowData) × (Contains kept r × (entry_of I r ≡ e))
    row_of e m =
        let r = from_map (entry_of I) kept e (subst (λ (z : List EntryData). Contains z e) are (Contains-permutation table trees e (IsPermutation-sym trees table moved) m)) in
        (r.item, (r.there, sym r.is))

    into_table : (r : RowData) → Contains kept r → Contains table (entry_of I r)
    into_table r m = Contains-permutation trees table (entry_of I r) moved (subst (λ (z : List EntryData). Contains z (entry_of I r)) (sym are) (into_map (entry_of I) kept r m))

    of_rows : (e : EntryData) → Contains table e → (r : RowData) × (Contains rows r × (entry_of I r ≡ e))
    of_rows e m = let r = row_of e m in (r.0, (h.within r.0 r.1.0, r.1.1))

    one_row : (a b : RowData) → Contains kept a → Contains kept b → entry_of I a ≡ entry_of I b → a ≡ b
    one_row a b in_a in_b same = h.apart a b in_a in_b (subst (λ (e : EntryData). Covers AsStrongAs (entry_of I a) e) same (covers_refl p (entry_of I a) (row_shape a (h.within a in_a))))

    distinct_trees : AllPairs (λ a b. a ≢ b) trees
    distinct_trees = subst (λ (z : List EntryData). AllPairs (λ a b. a ≢ b) z) (sym are) (differ_mapped (entry_of I) kept one_row (record { point = 0; env = 0; ty = 0 }) h.distinct)

    ascending : IsAscending entry_cmp table
    ascending = ascends entry_cmp entry_cmp_total entry_same trees table distinct_trees moved sorted

    distinct : AllPairs (λ a b. a ≢ b) table
    distinct = ascending_distinct table ascending

    in_table : (e : EntryData) → Contains table e → Contains T e
    in_table e m = let r = of_rows e m in subst (λ (x : EntryData). Contains T x) r.1.1 (into_map (entry_of I) rows r.0 r.1.0)

    shape : (e : EntryData) → Contains table e → InShape p e
    shape e m = let r = of_rows e m in subst (λ (x : EntryData). InShape p x) r.1.1 (row_shape r.0 r.1.0)

    one_entry : (a b : EntryData) → Contains table a → Contains table b → Covers AsStrongAs a b → a ≡ b
    one_entry a b in_a in_b covers =
        let r = row_of a in_a in
        let q = row_of b in_b in
        let own = subst (λ (e : EntryData). Covers AsStrongAs (entry_of I r.0) e) (sym q.1.1) (subst (λ (e : EntryData). Covers AsStrongAs e b) (sym r.1.1) covers) in
        sym r.1.1 ∙ (ap (entry_of I) (h.apart r.0 q.0 r.1.0 q.1.0 own) ∙ q.1.1)

    never : (i j : ℕ) (a : EntryData) → i < j → slice_get table i ≡ Some a → slice_get table j ≡ Some a → ⊥
    never i j a lt at_i at_j =
        let r = read-slice_get table i a at_i in
        let q = read-slice_get table j a at_j in
        distinct i j a lt q.0 (r.1 ∙ sym q.1)

    one_place : (i j : ℕ) (a : EntryData) → slice_get table i ≡ Some a → slice_get table j ≡ Some a → i ≡ j
    one_place i j a at_i at_j = elim (cases_lt i j) [
      | inl lt ↦ absurd (never i j a lt at_i at_j)
      | inr ge ↦ elim (cases_lt j i) [
        | inl gt ↦ absurd (never j i a gt at_j at_i)
        | inr le ↦ omega (arith, ge, le)
      ]
    ]

    closed : (e : EntryData) → WeaklyFollows AsStrongAs p table e → IsCoveredIn AsStrongAs p table e
    closed e follows =
        let more : WeaklyFollows AsStrongAs p T e = weakly_more p table T in_table e follows in
        let there = least.closed e (exactly_follows p I rows exactly T (λ d m. let r = from_map (entry_of I) rows d m in (r.item, (r.there, sym r.is))) e more) in
        let r = from_map (entry_of I) rows e there in
        let k = h.covering r.item r.there in
        let own = into_table k.0 k.1.0 in
        let at = place_of table (entry_of I k.0) own in
        (at.0, entry_of I k.0, (record { at = at.1; shape = shape (entry_of I k.0) own }, subst (λ (x : EntryData). Covers AsStrongAs (entry_of I k.0) x) (sym r.is) k.1.1))

    pub strongest_table : (budget : ℕ) → length rows ≤ budget → IsTable p budget table
    strongest_table budget few = record {
      compact = record {
        apart = λ i j a b at_i at_j not covers. not (one_place i j a at_i (subst (λ (e : EntryData). slice_get table j ≡ Some e) (sym (one_entry a b (Contains-at table i a at_i) (Contains-at table j b at_j) covers)) at_j));
        from = T;
        derived = derived;
        within = in_table;
        closed = closed;
      };
      ascending = ascending;
      shape = all_members (InShape p) table shape;
      few = let most = fewer table T distinct in_table in let long = length-map rows (entry_of I) in omega (arith, most, long, few);
    }

-- of what was found, what holds of all problems
pub some_found : {X E : Type 0} (r : Result (Option X) E) (S : X → Type 0) (p : ProblemData) (Given : ProblemData → Type 0) → Given p → (M : Type 0) → M → IfOk r (λ found. IfSome found (λ x. (q : ProblemData) → Given q → S x)) → IfOk r (λ found. IfSome found (λ x. S x × M))
some_found (Ok None) S p Given given M m h = tt
some_found (Ok (Some x)) S p Given given M m h = (h p given, m)
some_found (Err e) S p Given given M m h = tt

pub of_some : {X : Type 0} (o : Option X) (x : X) (P : X → Type 0) → o ≡ Some x → IfSome o P → P x
of_some {X = X} o x P is h = subst (λ (z : Option X). IfSome z P) is h
