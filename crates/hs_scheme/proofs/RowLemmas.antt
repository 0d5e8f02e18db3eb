-- Rows of points with ranges in one list of arguments, and whose arguments the points are.
use Rattle.std.proofs.Common.{◌≡◌, refl, sym, ◌∙◌, ap, subst, ℕ, ◌+◌, ◌-◌, ◌<◌, List, [], ◌∷◌, ◌++◌, length, get_or, set, take, drop, slice_get, Option, Some, None, append_assoc, add_assoc, length-append, All, arith}
use Rattle.std.specs.List.{slice_range}
use Rattle.std.proofs.lemmas.List.{take_more, append-nil, length-take-le, length-map, drop-append-le, take-append-le, length-drop, map-append, map-set, get_or-map}
use Rattle.std.proofs.Math.Seq.{map-set_same}
use Rattle.std.proofs.Math.Seq.{drop-append_seam}
use Rattle.std.proofs.lemmas.Option.{slice_get-get_or}
use Rattle.std.proofs.Math.Seq.{take-length}
use Rattle.hs_scheme.proofs.PointLemmas.{total}
use Rattle.std.proofs.lemmas.List.Elements.{All-tail, All-head}
use Rattle.hs_scheme.specs.declared.term.Head.{Head}
use Rattle.hs_scheme.specs.declared.term.Rule.{Rule}
use Rattle.hs_scheme.specs.declared.points.Argument.{Argument}
use Rattle.hs_scheme.specs.declared.points.Row.{Row}
use Rattle.hs_scheme.specs.Tree.{Tree, node, forest}
use Rattle.hs_scheme.specs.flow.Points.{PointData, size, sizes, numbers}
use Rattle.hs_scheme.specs.flow.Rows.{point_of, points_in, places_in, Fits, term_places, terms_places, rules_places}

-- a range of a list stays as it is where the list grows
fits_grown : (args added : List ℕ) (row : Row) → Fits args row → Fits (args ++ added) row
fits_grown args added row fits = record { up = fits.up; within = omega (arith, length-append args added) }

row_grown : (args added : List ℕ) (row : Row) → Fits args row → point_of (args ++ added) row ≡ point_of args row
row_grown args added row fits =
    let same : slice_range (args ++ added) row.from row.to ≡ slice_range args row.from row.to =
    ap (take (row.to - row.from)) (drop-append-le row.from args added (omega arith)) ∙ take-append-le (row.to - row.from) (drop row.from args) added (omega (arith, length-drop row.from args)) in
    λ j. record { rule = row.rule; head = row.head; args = same j }

pub rows_grown : (args added : List ℕ) (rows : List Row) → All (Fits args) rows → points_in (args ++ added) rows ≡ points_in args rows
rows_grown args added [] fit = refl
rows_grown args added (row ∷ rows) fit =
    λ j. row_grown args added row (All-head (Fits args) row rows fit) j ∷ rows_grown args added rows (All-tail (Fits args) row rows fit) j

pub all_grown : (args added : List ℕ) (rows : List Row) → All (Fits args) rows → All (Fits (args ++ added)) rows
all_grown args added rows fit k d l = fits_grown args added (get_or rows k d) (fit k d l)

pub last_range : (args added : List ℕ) (n m : ℕ) → n ≡ length args → m ≡ length args + length added → slice_range (args ++ added) n m ≡ added
last_range args added n m from to =
    (λ j. slice_range (args ++ added) (from j) (to j)) ∙ (ap (take (length args + length added - length args)) (drop-append_seam args added)
    ∙ (ap (λ k. take k added) (omega arith) ∙ take-length added))

-- the places of one more term in a row
terms_places-push : (q i n : ℕ) (us : List (Tree Head)) (u : Tree Head)
    → terms_places q i n (forest (us ++ u ∷ [])) ≡ terms_places q i n (forest us) ++ term_places (Some (record { point = q; place = i + length us })) (n + sizes (forest us)) u
terms_places-push q i n [] u =
    let e : i ≡ i + 0 = omega arith in let f : n ≡ n + 0 = omega arith in
    append-nil (term_places (Some (record { point = q; place = i })) n u) ∙ (λ j. term_places (Some (record { point = q; place = e j })) (f j) u)
terms_places-push q i n (v ∷ us) u =
    let e : i + 1 + length us ≡ i + length (v ∷ us) = omega arith in
    ap (λ ps. term_places (Some (record { point = q; place = i })) n v ++ ps) (terms_places-push q (i + 1) (n + size v) us u
    ∙ (λ j. terms_places q (i + 1) (n + size v) (forest us) ++ term_places (Some (record { point = q; place = e j })) (add_assoc n (size v) (sizes (forest us)) j) u))
    ∙ sym (append_assoc (term_places (Some (record { point = q; place = i })) n v) (terms_places q (i + 1) (n + size v) (forest us)) (term_places (Some (record { point = q; place = i + length (v ∷ us) })) (n + sizes (forest (v ∷ us))) u))

pub places_more : (q n i m : ℕ) (before so_far : List (Option Argument)) (us : List (Tree Head)) (u : Tree Head) → i < length us → u ≡ get_or us i u → m ≡ n + sizes (forest (take i us))
    → so_far ≡ before ++ terms_places q 0 n (forest (take i us)) → (new : List (Option Argument)) → new ≡ so_far ++ term_places (Some (record { point = q; place = i })) m u
    → new ≡ before ++ terms_places q 0 n (forest (take (i + 1) us))
places_more q n i m before so_far us u lt is long row new e =
    let here : i ≡ 0 + length (take i us) = omega (arith, length-take-le i us (omega arith)) in
    e ∙ ((λ j. row j ++ term_places (Some (record { point = q; place = here j })) (long j) u)
    ∙ (append_assoc before (terms_places q 0 n (forest (take i us))) (term_places (Some (record { point = q; place = 0 + length (take i us) })) (n + sizes (forest (take i us))) u)
    ∙ ap (λ ps. before ++ ps) (sym (terms_places-push q 0 n (take i us) u) ∙ ap (λ vs. terms_places q 0 n (forest vs)) (sym (take_more us i u lt ∙ ap (λ v. take i us ++ v ∷ []) (sym is))))))

rules_places-push : (n : ℕ) (rules : List Rule) (r : Rule) → rules_places n (rules ++ r ∷ []) ≡ rules_places n rules ++ term_places None (n + total rules) r.body
rules_places-push n [] r = append-nil (term_places None n r.body) ∙ (let f : n ≡ n + 0 = omega arith in λ j. term_places None (f j) r.body)
rules_places-push n (s ∷ rules) r =
    ap (λ ps. term_places None n s.body ++ ps) (rules_places-push (n + size s.body) rules r ∙ (λ j. rules_places (n + size s.body) rules ++ term_places None (add_assoc n (size s.body) (total rules) j) r.body))
    ∙ sym (append_assoc (term_places None n s.body) (rules_places (n + size s.body) rules) (term_places None (n + total (s ∷ rules)) r.body))

pub rule_places_more : (i m : ℕ) (rules : List Rule) (r : Rule) (so_far new : List (Option Argument)) → i < length rules → r ≡ get_or rules i r → m ≡ 0 + total (take i rules)
    → so_far ≡ rules_places 0 (take i rules) → new ≡ so_far ++ term_places None m r.body → new ≡ rules_places 0 (take (i + 1) rules)
rule_places_more i m rules r so_far new lt is long row e =
    e ∙ ((λ j. row j ++ term_places None (long j) r.body) ∙ (sym (rules_places-push 0 (take i rules) r) ∙ ap (rules_places 0) (sym (take_more rules i r lt ∙ ap (λ s. take i rules ++ s ∷ []) (sym is)))))

pub length-numbers : (n : ℕ) (us : List (Tree Head)) → length (numbers n (forest us)) ≡ length us
length-numbers n [] = refl
length-numbers n (u ∷ us) = omega (arith, length-numbers (n + size u) us)

-- the first of the points of a term, as it was pushed
pub first_pushed : (args : List ℕ) (rows new : List Row) (row : Row) → new ≡ rows ++ row ∷ [] → points_in args new ≡ points_in args rows ++ point_of args row ∷ []
first_pushed args rows new row e = ap (points_in args) e ∙ map-append (point_of args) rows (row ∷ [])

pub place_pushed : (rows new : List Row) (row : Row) → new ≡ rows ++ row ∷ [] → places_in new ≡ places_in rows ++ row.argument ∷ []
place_pushed rows new row e = ap places_in e ∙ map-append (λ (r : Row). r.argument) rows (row ∷ [])

-- the row at n gets a range at the end of the arguments
module _ (args new_args added : List ℕ) (rows : List Row) (n : ℕ) (row : Row) (lt : n < length rows) (is : row ≡ get_or rows n row) (fit : All (Fits args) rows) (grown : new_args ≡ args ++ added)
    (from to : ℕ) (from_is : from ≡ length args) (to_is : to ≡ length args + length added) where
  abbrev ranged : Row
  ranged = record { rule = row.rule; head = row.head; argument = row.argument; from = from; to = to }

  its_point : get_or (points_in args rows) n (point_of args row) ≡ point_of args row
  its_point = get_or-map (point_of args) rows n row (point_of args row) lt ∙ ap (point_of args) (sym is)

  pub ranged_points : (first : PointData) → get_or (points_in args rows) n (point_of args row) ≡ first
      → points_in new_args (set rows n ranged) ≡ set (points_in args rows) n (record { rule = first.rule; head = first.head; args = added })
  ranged_points first e =
      let same : point_of args row ≡ first = sym its_point ∙ e in
      let range : slice_range new_args from to ≡ added = ap (λ (xs : List ℕ). slice_range xs from to) grown ∙ last_range args added from to from_is to_is in
      map-set (point_of new_args) rows n ranged
      ∙ (ap (λ (ps : List PointData). set ps n (point_of new_args ranged)) (ap (λ (xs : List ℕ). points_in xs rows) grown ∙ rows_grown args added rows fit)
      ∙ ap (set (points_in args rows) n) (λ j. record { rule = (same j).rule; head = (same j).head; args = range j }))

  pub ranged_places : places_in (set rows n ranged) ≡ places_in rows
  ranged_places = map-set_same (λ (r : Row). r.argument) rows n ranged row (ap (λ (r : Row). r.argument) is)

pub term_placed : (argument : Option Argument) (n : ℕ) (old q p : List (Option Argument)) (h : Head) (us : List (Tree Head)) (term : Tree Head) (m : ℕ) → m ≡ n → node h (forest us) ≡ term
    → q ≡ old ++ argument ∷ [] → p ≡ q ++ terms_places n 0 (n + 1) (forest us) → p ≡ old ++ term_places argument m term
term_placed argument n old q p h us term m same whole pushed row =
    row ∙ (ap (λ ps. ps ++ terms_places n 0 (n + 1) (forest us)) pushed ∙ (append_assoc old (argument ∷ []) (terms_places n 0 (n + 1) (forest us)) ∙ (λ j. old ++ term_places argument (sym same j) (whole j))))

-- what holds of a point, read at its row
pub row_holds : (args : List ℕ) (rows : List Row) (P : PointData → Type 0) (p : ℕ) (row : Row) → All P (points_in args rows) → p < length rows → row ≡ get_or rows p row → P (point_of args row)
row_holds args rows P p row all lt is =
    subst P (get_or-map (point_of args) rows p row (point_of args row) lt ∙ ap (point_of args) (sym is)) (all p (point_of args row) (omega (arith, length-map rows (point_of args))))

pub place_there : (rows : List Row) (p : ℕ) (row : Row) → p < length rows → row ≡ get_or rows p row → slice_get (places_in rows) p ≡ Some row.argument
place_there rows p row lt is =
    slice_get-get_or (places_in rows) p row.argument (omega (arith, length-map rows (λ (r : Row). r.argument)))
    ∙ ap (λ (a : Option Argument). Some a) (get_or-map (λ (r : Row). r.argument) rows p row row.argument lt ∙ ap (λ (r : Row). r.argument) (sym is))

pub long : (args : List ℕ) (rows : List Row) (points : List PointData) (p : ℕ) → points_in args rows ≡ points → p < length points → p < length rows
long args rows points p is lt = omega (arith, ap length is, length-map rows (point_of args))
