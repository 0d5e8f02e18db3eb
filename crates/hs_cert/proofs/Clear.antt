-- The report of an accepted scheme is a certificate.
use Rattle.std.proofs.Common.{◌≡◌, ◌≢◌, refl, sym, ◌∙◌, ap, subst, ℕ, zero, suc, ◌<◌, ◌≤◌, ◌^◌, true, false, not, ◌&&◌, List, [], ◌∷◌, ◌++◌, length, map, get_or, codes, decimal, Option, Some, None, All, AllPairs, Contains, ◌↔◌, append_assoc, arith}
use Rattle.std.specs.List.{list_all, flat_map, enumerate_from, join_by}
use Rattle.std.specs.Char.{digit_value}
use Rattle.std.specs.Str.Parse.{AllDigits}
use Rattle.std.specs.Cmp.{IsTotalOrder}
use Rattle.std.specs.declared.cmp.Ordering.{Ordering}
use Rattle.std.specs.declared.cmp.Ordering.TheVariants.{Less, Equal}
use Rattle.std.proofs.lemmas.Bool.{and_parts}
use Rattle.std.proofs.lemmas.Cmp.{tied_itself}
use Rattle.std.proofs.lemmas.Fmt.{decimal_is_IsNumeral}
use Rattle.std.proofs.lemmas.List.{append-nil}
use Rattle.std.proofs.lemmas.List.Concat.{flat_map-append}
use Rattle.std.proofs.lemmas.List.Elements.{All-contains}
use Rattle.std.proofs.lemmas.Str.Parse.{digit_from_value}
use Rattle.hs_scheme.specs.Tree.{Tree, Trees, node, none, more}
use Rattle.hs_scheme.specs.flow.Flow.{IsAscending}
use Rattle.hs_scheme.specs.flow.Points.{point_at}
use Rattle.hs_scheme.specs.Problem.{ProblemData}
use Rattle.hs_scheme.proofs.Lists.{here, later, not_equal, read-slice_get}
use Rattle.hs_reader.specs.Tokens.{is_name_byte}
use Rattle.hs_table.specs.Types.{TypeTree}
use Rattle.hs_table.specs.Entries.{Env, EntryData, InShape, entry_cmp}
use Rattle.hs_table_laws.proofs.Orders.{entry_cmp_total}
use Rattle.hs_table_laws.proofs.Places.{fewer}
use Rattle.hs_text.specs.Canonical.{name_at, params_at}
use Rattle.hs_weak.specs.Void.{VoidData, void_cmp, IsVoidShape}
use Rattle.hs_text.proofs.VoidOrder.{void_cmp_total}
use Rattle.hs_text.specs.Report.{braced, type_text, type_texts, set_text, binding_text, env_text, summary, IsTableText, IsReport, certificate_summary, IsVoidText, IsCertificateReport}
use Rattle.hs_text.specs.declared.verdict.Verdict.TheVariants.{Accepted}
use Rattle.hs_cert.specs.declared.heading.Form.TheVariants.{Full, Compact}
use Rattle.hs_cert.specs.Certificate.{HasOwnNames, HasNamesInLines, AreNested, IsNested, line_text, pair_text, ended, IsInLine, count_line, number_line, verdict_line, certificate_lines, IsCertificate, IsCompactCertificate}
use Rattle.hs_cert.specs.Front.{text_of}
use Rattle.hs_cert.proofs.Fronts.{all_behind}
use Rattle.hs_cert.proofs.LineLemmas.{is_inner}

-- ---- texts without an LF

joined : (a b : List ℕ) → IsInLine a → IsInLine b → IsInLine (a ++ b)
joined [] b ia ib = ib
joined (x ∷ a) b ia ib = let parts = and_parts (is_inner x) (list_all is_inner a) ia in λ i. parts.0 i && joined a b parts.1 ib i

name_inside : (names : List (List ℕ)) (n : ℕ) → All IsInLine names → IsInLine (name_at names n)
name_inside [] n h = refl
name_inside (w ∷ names) zero h = h 0 [] (omega arith)
name_inside (w ∷ names) (suc n) h = name_inside names n (λ k d lt. h (suc k) d (omega (arith, lt)))

params_inside : (params : List (List (List ℕ))) (f : ℕ) → All (λ names. All IsInLine names) params → All IsInLine (params_at params f)
params_inside [] f h = λ k d lt. absurd (omega (arith, lt))
params_inside (names ∷ params) zero h = h 0 [] (omega arith)
params_inside (names ∷ params) (suc f) h = params_inside params f (λ k d lt. h (suc k) d (omega (arith, lt)))

digit_inside : (c : ℕ) → digit_value c < 10 → is_inner c ≡ true
digit_inside c h = let r = digit_from_value c h in ap not (not_equal c 10 (λ e. omega (arith, r, e)))

digits_inside : (ds : List ℕ) → AllDigits 10 ds → IsInLine ds
digits_inside [] d = refl
digits_inside (c ∷ cs) d = λ i. digit_inside c d.0 i && digits_inside cs d.1 i

number_inside : (n : ℕ) → n < 2 ^ 64 → IsInLine (decimal n)
number_inside n small = digits_inside (decimal n) (decimal_is_IsNumeral n small).0.1

module _ (names : List (List ℕ)) (inside : All IsInLine names) where
  commas_inside : (texts : List (List ℕ)) → ((k : ℕ) (d : List ℕ) → k < length texts → IsInLine (get_or texts k d)) → IsInLine (flat_map (λ t. codes "," ++ t) texts)
  commas_inside [] h = refl
  commas_inside (t ∷ texts) h = joined (codes "," ++ t) (flat_map (λ u. codes "," ++ u) texts) (h 0 [] (omega arith)) (commas_inside texts (λ k d lt. h (suc k) d (omega (arith, lt))))

  braced_inside : (texts : List (List ℕ)) → ((k : ℕ) (d : List ℕ) → k < length texts → IsInLine (get_or texts k d)) → IsInLine (braced texts)
  braced_inside [] h = refl
  braced_inside (t ∷ texts) h =
      joined (t ++ flat_map (λ u. codes "," ++ u) texts) (codes "}") (joined t (flat_map (λ u. codes "," ++ u) texts) (h 0 [] (omega arith)) (commas_inside texts (λ k d lt. h (suc k) d (omega (arith, lt))))) refl

  mutual
    type_inside : (t : Tree (Option ℕ)) → IsInLine (type_text names t)
    type_inside (node (Some q) us) = name_inside names q inside
    type_inside (node None none) = refl
    type_inside (node None (more t us)) = joined (braced (type_texts names us)) (codes " -> " ++ type_text names t) (braced_inside (type_texts names us) (types_inside us)) (type_inside t)

    types_inside : (us : Trees (Option ℕ)) → (k : ℕ) (d : List ℕ) → k < length (type_texts names us) → IsInLine (get_or (type_texts names us) k d)
    types_inside none k d lt = absurd (omega (arith, lt))
    types_inside (more t us) zero d lt = type_inside t
    types_inside (more t us) (suc k) d lt = types_inside us k d (omega (arith, lt))

  set_inside : (s : List TypeTree) → IsInLine (set_text names s)
  set_inside s = braced_inside (map (type_text names) s) (members s)
    where
      members : (s : List TypeTree) (k : ℕ) (d : List ℕ) → k < length (map (type_text names) s) → IsInLine (get_or (map (type_text names) s) k d)
      members [] k d lt = absurd (omega (arith, lt))
      members (t ∷ s) zero d lt = type_inside t
      members (t ∷ s) (suc k) d lt = members s k d (omega (arith, lt))

  module _ (params : List (List ℕ)) (clear : All IsInLine params) where
    binding_inside : (b : ℕ × List TypeTree) → IsInLine (binding_text names params b)
    binding_inside b = joined (name_at params b.0) (codes ":" ++ set_text names b.1) (name_inside params b.0 clear) (set_inside b.1)

    others_inside : (bs : List (ℕ × List TypeTree)) → IsInLine (flat_map (λ b. codes "; " ++ binding_text names params b) bs)
    others_inside [] = refl
    others_inside (b ∷ bs) = joined (codes "; " ++ binding_text names params b) (flat_map (λ c. codes "; " ++ binding_text names params c) bs) (binding_inside b) (others_inside bs)

    sets_inside : (bs : List (ℕ × List TypeTree)) → IsInLine (join_by (binding_text names params) (codes "; ") bs)
    sets_inside [] = refl
    sets_inside (b ∷ bs) = joined (binding_text names params b) (flat_map (λ c. codes "; " ++ binding_text names params c) bs) (binding_inside b) (others_inside bs)

    env_inside : (env : Env) → IsInLine (env_text names params env)
    env_inside env = joined (join_by (binding_text names params) (codes "; ") (enumerate_from 0 env)) (codes "]") (sets_inside (enumerate_from 0 env)) refl

word_inside : (w : List ℕ) → list_all is_name_byte w ≡ true → IsInLine w
word_inside [] h = refl
word_inside (b ∷ w) h =
    let parts = and_parts (is_name_byte b) (list_all is_name_byte w) h in
    let other : b ≡ 10 → ⊥ = λ e. (let f : is_name_byte 10 ≡ true = subst (λ c. is_name_byte c ≡ true) e parts.0 in let g : false ≡ true = f in cc) in
    λ i. not (not_equal b 10 other i) && word_inside w parts.1 i

module _ (p : ProblemData) (known : HasOwnNames p) (has : HasNamesInLines p) where
  states_inside : All IsInLine p.sorted.names.states
  states_inside = λ k d lt. word_inside (get_or p.sorted.names.states k d) (known.states.words k d lt).1

  rule_inside : (rule : ℕ) → IsInLine (name_at p.sorted.names.rules rule ++ codes " ")
  rule_inside rule = joined (name_at p.sorted.names.rules rule) (codes " ") (name_inside p.sorted.names.rules rule has.rules) refl

  own_env_inside : (rule : ℕ) (env : Env) → IsInLine (env_text p.sorted.names.states (params_at p.sorted.names.params rule) env)
  own_env_inside rule env =
      let params = params_at p.sorted.names.params rule in env_inside p.sorted.names.states states_inside params (params_inside p.sorted.names.params rule has.params) env

  entry_inside : (e : EntryData) → e.point < 2 ^ 64 → IsInLine (line_text p e)
  entry_inside e small =
      let names = p.sorted.names in
      let rule = (point_at p.points e.point).rule in
      let env = env_text names.states (params_at names.params rule) e.env in
      let ty = type_inside names.states states_inside e.ty in
      joined (decimal e.point ++ (codes " " ++ (name_at names.rules rule ++ codes " "))) (env ++ (codes " " ++ type_text names.states e.ty))
      (joined (decimal e.point) (codes " " ++ (name_at names.rules rule ++ codes " ")) (number_inside e.point small) (rule_inside rule))
      (joined env (codes " " ++ type_text names.states e.ty) (own_env_inside rule e.env) ty)

  pair_inside : (v : VoidData) → IsInLine (pair_text p v)
  pair_inside v =
      let names = p.sorted.names in
      let env = env_text names.states (params_at names.params v.rule) v.env in
      joined (name_at names.rules v.rule) (codes " " ++ env) (name_inside names.rules v.rule has.rules) (own_env_inside v.rule v.env)

-- ---- the lines of a report

lines_text : {X : Type 0} (spell : X → List ℕ) (xs : List X) → flat_map (λ x. spell x ++ codes "\n") xs ≡ text_of (map spell xs)
lines_text spell [] = refl
lines_text spell (x ∷ xs) = ap (λ (r : List ℕ). ended (spell x) ++ r) (lines_text spell xs)

all_both : {A : Type 0} (P : A → Type 0) (xs ys : List A) → All P xs → All P ys → All P (xs ++ ys)
all_both P [] ys a b k d lt = b k d lt
all_both P (x ∷ xs) ys a b zero d lt = a 0 d (omega arith)
all_both P (x ∷ xs) ys a b (suc k) d lt = all_both P xs ys (all_behind P x xs a) b k d (omega (arith, lt))

member : {A : Type 0} (xs : List A) (k : ℕ) (d : A) → k < length xs → Contains xs (get_or xs k d)
member xs k d lt = (k, lt, same xs k (get_or xs k d) d lt)
  where
    same : {A : Type 0} (xs : List A) (k : ℕ) (d f : A) → k < length xs → get_or xs k d ≡ get_or xs k f
    same [] k d f lt = absurd (omega (arith, lt))
    same (x ∷ xs) zero d f lt = refl
    same (x ∷ xs) (suc k) d f lt = same xs k d f (omega (arith, lt))

texts_inside : {X : Type 0} (spell : X → List ℕ) (xs : List X) → ((x : X) → Contains xs x → IsInLine (spell x)) → (k : ℕ) (d : List ℕ) → k < length (map spell xs) → IsInLine (get_or (map spell xs) k d)
texts_inside spell [] h k d lt = absurd (omega (arith, lt))
texts_inside spell (x ∷ xs) h zero d lt = h x (here x xs)
texts_inside spell (x ∷ xs) h (suc k) d lt = texts_inside spell xs (λ y c. h y (later x y xs c)) k d (omega (arith, lt))

distinct : {X : Type 0} (cmp : X → X → Ordering) → IsTotalOrder cmp → (xs : List X) → IsAscending cmp xs → AllPairs (λ a b. a ≢ b) xs
distinct cmp total xs up i j d less within e =
    let a = get_or xs i d in
    let b = get_or xs j d in
    let f : Less ≡ Equal = sym (up i j d less within) ∙ (ap (λ c. cmp c b) e ∙ tied_itself total b) in cc

module _ (p : ProblemData) (known : HasOwnNames p) (has : HasNamesInLines p) (table : List EntryData) (shape : All (InShape p) table) (nested : All IsNested table) (once : AllPairs (λ a b. a ≢ b) table)
    (sorted : List EntryData) (up : IsAscending entry_cmp sorted) (same : (e : EntryData) → Contains sorted e ↔ Contains table e) where
  own : (P : EntryData → Type 0) → All P table → (e : EntryData) → Contains sorted e → P e
  own P h e c = All-contains P table e h ((same e).0 c)

  own_all : (P : EntryData → Type 0) → All P table → All P sorted
  own_all P h k d lt = own P h (get_or sorted k d) (member sorted k d lt)

  long : length sorted ≡ length table
  long =
      let most = fewer sorted table (distinct entry_cmp entry_cmp_total sorted up) (λ e c. (same e).0 c) in
      let least = fewer table sorted once (λ e c. (same e).1 c) in omega (arith, most, least)

  point_small : (e : EntryData) → Contains sorted e → e.point < 2 ^ 64
  point_small e c =
      let s = own (InShape p) shape e c in let within = (read-slice_get p.points.points e.point s.of s.at).0 in omega (arith, within, known.few)

  entries_inside : (k : ℕ) (d : List ℕ) → k < length (map (line_text p) sorted) → IsInLine (get_or (map (line_text p) sorted) k d)
  entries_inside = texts_inside (line_text p) sorted (λ e c. entry_inside p known has e (point_small e c))

pub report_certificate : (p : ProblemData) (table : List EntryData) (entries checked : ℕ) (text : List ℕ) → HasOwnNames p → HasNamesInLines p
    → IsReport p (Accepted entries checked) (Some table) None None text → AllPairs (λ a b. a ≢ b) table → entries ≡ length table → entries ≤ 1000000 → checked < 2 ^ 64
    → All (InShape p) table → All IsNested table
    → (sorted : List EntryData) × ((e : EntryData) → Contains sorted e ↔ Contains table e) × IsCertificate p text sorted checked
report_certificate p table entries checked text known has r once count few fits shape nested = (
  sorted,
  t.same,
  record {
    are = r.1.1 ∙ spelled;
    clear = clear;
    few = omega (arith, count, lengths, few);
    within = fits;
    counted = refl;
    shape = own_all p known has table shape nested once sorted t.ascending t.same (InShape p) shape;
    nested = own_all p known has table shape nested once sorted t.ascending t.same IsNested nested;
    ascending = t.ascending;
    void_shape = λ k d lt. absurd (omega (arith, lt));
    void_nested = λ k d lt. absurd (omega (arith, lt));
    void_ascending = λ i j d less within. absurd (omega (arith, less, within));
  },
)
  where
    t : IsTableText p table r.0
    t = r.1.0

    sorted : List EntryData
    sorted = t.entries

    lengths : length sorted ≡ length table
    lengths = long p known has table shape nested once sorted t.ascending t.same

    spelled : summary p (Accepted entries checked) None None ++ r.0 ≡ text_of (certificate_lines p Full checked sorted [])
    spelled =
        let head = codes "accepted\nentries " ++ (decimal entries ++ codes "\n") in
        let numbers = codes "checked " ++ (decimal checked ++ codes "\n") in
        let lines = text_of (map (line_text p) sorted) in
        let all = λ (n : ℕ) (rows : List (List ℕ)). ended verdict_line ++ (ended (count_line Full n) ++ (ended (number_line Full checked) ++ text_of rows)) in
        ap (λ (x : List ℕ). x ++ r.0) (append-nil (head ++ numbers)) ∙ (append_assoc head numbers r.0
        ∙ (ap (λ (x : List ℕ). head ++ (numbers ++ x)) (t.is ∙ lines_text (line_text p) sorted)
        ∙ (ap (λ n. all n (map (line_text p) sorted)) (count ∙ sym lengths) ∙ ap (all (length sorted)) (sym (append-nil (map (line_text p) sorted))))))

    clear : All IsInLine (certificate_lines p Full checked sorted [])
    clear zero d lt = refl
    clear (suc zero) d lt = joined (codes "entries ") (decimal (length sorted)) refl (number_inside (length sorted) (omega (arith, lengths, count, few)))
    clear (suc (suc zero)) d lt = joined (codes "checked ") (decimal checked) refl (number_inside checked fits)
    clear (suc (suc (suc k))) d lt =
        rows k d (omega (arith, lt))
      where
        rows : All IsInLine (map (line_text p) sorted ++ [])
        rows = subst (All IsInLine) (sym (append-nil (map (line_text p) sorted))) (entries_inside p known has table shape nested once sorted t.ascending t.same)

pub certificate_report_certificate : (p : ProblemData) (table : List EntryData) (void : List VoidData) (text : List ℕ) → HasOwnNames p → HasNamesInLines p
    → IsCertificateReport p table void true None text → AllPairs (λ a b. a ≢ b) table → AllPairs (λ a b. a ≢ b) void → length table ≤ 1000000 → length void ≤ 1000000
    → All (InShape p) table → All IsNested table → All (IsVoidShape p) void → All (λ v. AreNested v.env) void
    → (sorted : List EntryData) × ((e : EntryData) → Contains sorted e ↔ Contains table e)
    × (pairs : List VoidData) × ((v : VoidData) → Contains pairs v ↔ Contains void v) × IsCompactCertificate p text sorted pairs
certificate_report_certificate p table void text known has r once apart few few_void shape nested void_shape void_nested = (
  sorted,
  t.same,
  pairs,
  v.same,
  record {
    are = r.2.1.1 ∙ spelled;
    clear = clear;
    few = omega (arith, lengths, few);
    within = omega (arith, void_lengths, few_void);
    counted = refl;
    shape = own_all p known has table shape nested once sorted t.ascending t.same (InShape p) shape;
    nested = own_all p known has table shape nested once sorted t.ascending t.same IsNested nested;
    ascending = t.ascending;
    void_shape = void_all (IsVoidShape p) void_shape;
    void_nested = void_all (λ u. AreNested u.env) void_nested;
    void_ascending = v.ascending;
  },
)
  where
    t : IsTableText p table r.0
    t = r.2.0

    v : IsVoidText p void r.1
    v = r.2.1.0

    sorted : List EntryData
    sorted = t.entries

    pairs : List VoidData
    pairs = v.pairs

    lengths : length sorted ≡ length table
    lengths = long p known has table shape nested once sorted t.ascending t.same

    void_lengths : length pairs ≡ length void
    void_lengths =
        let most = fewer pairs void (distinct void_cmp void_cmp_total pairs v.ascending) (λ u c. (v.same u).0 c) in
        let least = fewer void pairs apart (λ u c. (v.same u).1 c) in omega (arith, most, least)

    void_all : (P : VoidData → Type 0) → All P void → All P pairs
    void_all P h k d lt = All-contains P void (get_or pairs k d) h ((v.same (get_or pairs k d)).0 (member pairs k d lt))

    spelled : certificate_summary (length table) (length void) None ++ (r.0 ++ r.1) ≡ text_of (certificate_lines p Compact (length pairs) sorted pairs)
    spelled =
        let count = ended (count_line Compact (length table)) in
        let number = codes "void " ++ (decimal (length void) ++ codes "\n") in
        let rows = map (line_text p) sorted ++ map (pair_text p) pairs in
        let all = λ (n k : ℕ). ended verdict_line ++ (ended (count_line Compact n) ++ (ended (number_line Compact k) ++ text_of rows)) in
        ap (λ (x : List ℕ). (codes "accepted\n" ++ (count ++ x)) ++ (r.0 ++ r.1)) (append-nil number)
        ∙ (append_assoc (codes "accepted\n") (count ++ number) (r.0 ++ r.1)
        ∙ (ap (λ (x : List ℕ). codes "accepted\n" ++ x) (append_assoc count number (r.0 ++ r.1))
        ∙ (ap (λ (x : List ℕ). codes "accepted\n" ++ (count ++ (number ++ x)))
        ((λ i. (t.is ∙ lines_text (line_text p) sorted) i ++ (v.is ∙ lines_text (pair_text p) pairs) i) ∙ sym (flat_map-append ended (map (line_text p) sorted) (map (pair_text p) pairs)))
        ∙ (λ i. all (sym lengths i) (sym void_lengths i)))))

    clear : All IsInLine (certificate_lines p Compact (length pairs) sorted pairs)
    clear zero d lt = refl
    clear (suc zero) d lt = joined (codes "compact ") (decimal (length sorted)) refl (number_inside (length sorted) (omega (arith, lengths, few)))
    clear (suc (suc zero)) d lt = joined (codes "void ") (decimal (length pairs)) refl (number_inside (length pairs) (omega (arith, void_lengths, few_void)))
    clear (suc (suc (suc k))) d lt =
        all_both IsInLine (map (line_text p) sorted) (map (pair_text p) pairs) (entries_inside p known has table shape nested once sorted t.ascending t.same)
        (texts_inside (pair_text p) pairs (λ u c. pair_inside p known has u)) k d (omega (arith, lt))
