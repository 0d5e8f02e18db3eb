-- The steps of the walk that measures the nodes.
use Rattle.std.proofs.Common.{◌≡◌, ◌≢◌, refl, sym, ◌∙◌, ap, subst, cond, ℕ, ◌+◌, ◌*◌, ◌<◌, ◌≤◌, List, [], ◌∷◌, ◌++◌, length, slice_get, get_or, set, take, replicate, ◌-◌, length-set, length-append, Some, Bool, true, false, nat_eq, ◌⊎◌, inl, inr, arith}
use Rattle.std.proofs.Math.Nat.{mul-le-mul_left}
use Rattle.std.proofs.lemmas.Bool.{eqb-true, eq-eqb}
use Rattle.std.proofs.lemmas.List.{take_at, length-map, length-replicate}
use Rattle.std.proofs.lemmas.List.Sums.{sum_by-set}
use Rattle.std.specs.Option.{option_map}
use Rattle.std.proofs.lemmas.Option.{same_Some, slice_get_within, slice_get-map, get_or_from_slice_get, slice_get-get_or}
use Rattle.hs_scheme.specs.sorting.Sorting.{SortTree, o, arrow, size}
use Rattle.hs_scheme.proofs.Lists.{at_append, back_at, place-append}
use Rattle.hs_sorts.specs.declared.store.Shape.TheVariants.{Open, Base, Arrow}
use Rattle.hs_sorts.specs.declared.store.Node.{Node}
use Rattle.hs_sorts.specs.declared.store.Node.TheVariants.{Root, Link}
use Rattle.hs_sorts.specs.declared.measures.Measure.{Measure}
use Rattle.hs_sorts.specs.declared.measures.Mark.{Mark}
use Rattle.hs_sorts.specs.declared.measures.Mark.TheVariants.{New, Entered, Measured}
use Rattle.hs_sorts.specs.declared.measures.Step.TheVariants.{Done, Child}
use Rattle.hs_sorts.specs.Nodes.{Valuation, IsValuationOf, IsStore}
use Rattle.hs_sorts.specs.Measures.{ReadsNode, Describes, measured, measure_in, measures_in, IsMeasured, IsChildOf, ChildrenBelow, IsMeasuringStep}
use Rattle.hs_sorts.specs.Search.{rank, newness, new_count, PartReading, IsSearch, IsStarted, IsLastOnPath, AdvancesSearch, IsAdvance, IsEntry, Measuring}
use Rattle.hs_sorts.proofs.Lists.{get_set_same, get_set_other, get_replicate}
use Rattle.hs_sorts.proofs.NodeLemmas.{here_or_not, written, one_place}
use Rattle.hs_sorts.proofs.Measuring.{size-arrow}

-- a child's number is below the number of nodes
pub child_below : (nodes : List Node) (i : ℕ) (n : Node) → IsStore nodes → slice_get nodes i ≡ Some n → ChildrenBelow (length nodes) n
child_below nodes i (Root Open) is at c h = absurd h
child_below nodes i (Root Base) is at c h = absurd h
child_below nodes i (Root (Arrow a b)) is at c (inl e) = let r = is.in_range i (Root (Arrow a b)) at in omega (arith, e, r.0)
child_below nodes i (Root (Arrow a b)) is at c (inr e) = let r = is.in_range i (Root (Arrow a b)) at in omega (arith, e, r.1)
child_below nodes i (Link up) is at c e = let r : up < i = is.in_range i (Link up) at in omega (arith, e, slice_get_within nodes i (Link up) at)

smaller_rank : (count s t c i : ℕ) → s + 1 ≤ t → c < count → s * (count + 1) + c < t * (count + 1) + i
smaller_rank count s t c i h l = omega (arith, mul-le-mul_left (count + 1) h)

pub child_lower : (nodes : List Node) (v : Valuation) (i c : ℕ) (n : Node) → IsStore nodes → IsValuationOf v nodes → slice_get nodes i ≡ Some n → IsChildOf n c → rank v (length nodes) c < rank v (length nodes) i
child_lower nodes v i c (Root Open) is r at h = absurd h
child_lower nodes v i c (Root Base) is r at h = absurd h
child_lower nodes v i c (Root (Arrow a b)) is r at (inl e) =
    let fit : v i ≡ arrow (v a) (v b) = r.fits i (Root (Arrow a b)) at in
    smaller_rank (length nodes) (size (v c)) (size (v i)) c i (omega (arith, ap size fit, size-arrow (v a) (v b), ap (λ j. size (v j)) e)) (child_below nodes i (Root (Arrow a b)) is at c (inl e))
child_lower nodes v i c (Root (Arrow a b)) is r at (inr e) =
    let fit : v i ≡ arrow (v a) (v b) = r.fits i (Root (Arrow a b)) at in
    smaller_rank (length nodes) (size (v c)) (size (v i)) c i (omega (arith, ap size fit, size-arrow (v a) (v b), ap (λ j. size (v j)) e)) (child_below nodes i (Root (Arrow a b)) is at c (inr e))
child_lower nodes v i c (Link up) is r at e =
    let fit : v i ≡ v up = r.fits i (Link up) at in
    let low : up < i = is.in_range i (Link up) at in
    omega (arith, ap (λ s. size s * (length nodes + 1)) fit, ap (λ j. size (v j) * (length nodes + 1)) e, e)

entered_not_measured : (w : Measure) → Some Entered ≡ Some (measured w) → ⊥
entered_not_measured w h = cc

new_not_measured : (w : Measure) → Some New ≡ Some (measured w) → ⊥
new_not_measured w h = cc

new_not_entered : Some New ≡ Some Entered → ⊥
new_not_entered h = cc

count_set : (marks : List Mark) (i : ℕ) (x y : Mark) → slice_get marks i ≡ Some x → new_count (set marks i y) + newness x ≡ new_count marks + newness y
count_set marks i x y h =
    subst (λ (z : Mark). new_count (set marks i y) + newness z ≡ new_count marks + newness y) (get_or_from_slice_get marks i x x h)
    (sum_by-set newness marks i y x (slice_get_within marks i x h))

-- a mark that is measured after a node was put on the path was so before
measured_before : (marks : List Mark) (i j : ℕ) → i < length marks → IsMeasured (set marks i Entered) j → IsMeasured marks j
measured_before marks i j within (w, h) =
    let x = written marks i j Entered (measured w) within h in
    elim (here_or_not i j) [
      | inl same ↦ absurd (entered_not_measured w (ap (λ m. Some m) (sym (x.there same))))
      | inr other ↦ (w, x.elsewhere other)
    ]

measured_after : (marks : List Mark) (i j : ℕ) (y : Mark) → ((w : Measure) → slice_get marks i ≡ Some (measured w) → ⊥) → IsMeasured marks j → IsMeasured (set marks i y) j
measured_after marks i j y never (w, h) = (w, get_set_other marks i j y (λ e. never w (subst (λ (k : ℕ). slice_get marks k ≡ Some (measured w)) e h)) ∙ h)

module _ (nodes : List Node) (marks : List Mark) (path : List ℕ) (s : IsSearch nodes marks path) where
  -- a new node is put on the path
  module _ (c : ℕ) (is_new : slice_get marks c ≡ Some New) (lower : (v : Valuation) → IsValuationOf v nodes → (p i : ℕ) → slice_get path p ≡ Some i → rank v (length nodes) c ≤ rank v (length nodes) i) where
    in_marks : c < length marks
    in_marks = slice_get_within marks c New is_new

    not_on_path : (p : ℕ) → slice_get path p ≡ Some c → ⊥
    not_on_path p h = new_not_entered (sym is_new ∙ s.entered p c h)

    entry_place : (p i : ℕ) → slice_get (path ++ c ∷ []) p ≡ Some i → (slice_get path p ≡ Some i) ⊎ ((p ≡ length path) × (i ≡ c))
    entry_place p i h = elim (place-append path (c ∷ []) p i h) [
      | inl e ↦ inl e
      | inr l ↦ let e = one_place c i l.place l.at in inr (omega (arith, l.is, e.0), sym e.1)
    ]

    entered_search : IsSearch nodes (set marks c Entered) (path ++ c ∷ [])
    entered_search = record {
      as_long = length-set marks c Entered ∙ s.as_long;
      entered = λ p i h. elim (entry_place p i h) [
        | inl e ↦ get_set_other marks c i Entered (λ f. not_on_path p (e ∙ ap (λ j. Some j) f)) ∙ s.entered p i e
        | inr e ↦ subst (λ (j : ℕ). slice_get (set marks c Entered) j ≡ Some Entered) (sym e.1) (get_set_same marks c Entered in_marks)
      ];
      on_path = λ i h. elim (here_or_not c i) [
        | inl same ↦ (length path + 0, back_at path (c ∷ []) 0 ∙ ap (λ j. Some j) (sym same))
        | inr other ↦ let x = s.on_path i ((written marks c i Entered Entered in_marks h).elsewhere other) in (x.0, at_append path (c ∷ []) x.0 i x.1)
      ];
      distinct = λ p q i h k. elim (entry_place p i h) [
        | inl e ↦ elim (entry_place q i k) [
          | inl f ↦ s.distinct p q i e f
          | inr f ↦ absurd (not_on_path p (e ∙ ap (λ j. Some j) f.1))
        ]
        | inr e ↦ elim (entry_place q i k) [
          | inl f ↦ absurd (not_on_path q (f ∙ ap (λ j. Some j) e.1))
          | inr f ↦ omega (arith, e.0, f.0)
        ]
      ];
      falling = λ v r p q i j l h k. elim (entry_place q j k) [
        | inl f ↦ elim (entry_place p i h) [
          | inl e ↦ s.falling v r p q i j l e f
          | inr e ↦ absurd (omega (arith, e.0, slice_get_within path q j f))
        ]
        | inr f ↦ elim (entry_place p i h) [
          | inl e ↦ omega (arith, lower v r p i e, ap (rank v (length nodes)) f.1)
          | inr e ↦ omega (arith, ap (rank v (length nodes)) f.1, ap (rank v (length nodes)) e.1)
        ]
      ];
      reading = record {
        valuation = s.reading.valuation;
        describes = λ i w h. let b = measured_before marks c i in_marks (w, h) in
            s.reading.describes i w ((written marks c i Entered (measured w) in_marks h).elsewhere (λ e. new_not_measured b.0 (sym is_new ∙ (ap (slice_get marks) (sym e) ∙ b.1))));
        reads = λ i n h at. s.reading.reads i n (measured_before marks c i in_marks h) at;
        children = λ i n h at d child. measured_after marks c d Entered (λ w e. new_not_measured w (sym is_new ∙ e)) (s.reading.children i n (measured_before marks c i in_marks h) at d child);
      };
    }

    started_after : (i : ℕ) → IsStarted marks i → IsStarted (set marks c Entered) i
    started_after i h e = elim (here_or_not c i) [
      | inl same ↦ h (ap (slice_get marks) same ∙ is_new)
      | inr other ↦ h (sym (get_set_other marks c i Entered other) ∙ e)
    ]

    started_now : IsStarted (set marks c Entered) c
    started_now e = new_not_entered (sym e ∙ get_set_same marks c Entered in_marks)

    pub entry_advances : AdvancesSearch nodes marks path (set marks c Entered) (path ++ c ∷ [])
    entry_advances = record {
      search = entered_search;
      smaller = omega (arith, count_set marks c New Entered is_new, length-append path (c ∷ []));
      kept = started_after;
    }

    pub entry_started : IsStarted (set marks c Entered) c
    entry_started = started_now

-- the sort that is read from a node
abbrev reading_of : Valuation → Node → SortTree
reading_of v (Root Open) = o
reading_of v (Root Base) = o
reading_of v (Root (Arrow a b)) = arrow (v a) (v b)
reading_of v (Link up) = v up

reads_of : (v : Valuation) (n : Node) → ReadsNode v (reading_of v n) n
reads_of v (Root Open) = refl
reads_of v (Root Base) = refl
reads_of v (Root (Arrow a b)) = refl
reads_of v (Link up) = refl

reads_same : (v w : Valuation) (s : SortTree) (n : Node) → ((c : ℕ) → IsChildOf n c → w c ≡ v c) → ReadsNode v s n → ReadsNode w s n
reads_same v w s (Root Open) same h = h
reads_same v w s (Root Base) same h = h
reads_same v w s (Root (Arrow a b)) same h = h ∙ (λ i. arrow (sym (same a (inl refl)) i) (sym (same b (inr refl)) i))
reads_same v w s (Link up) same h = h ∙ sym (same up refl)

-- a valuation with another sort at one node
abbrev put : Valuation → ℕ → SortTree → Valuation
put v top x i = cond (nat_eq i top) x (v i)

put_same : (v : Valuation) (top : ℕ) (x : SortTree) → put v top x top ≡ x
put_same v top x = ap (λ b. cond b x (v top)) (eq-eqb top top refl)

put_other : (v : Valuation) (top : ℕ) (x : SortTree) (i : ℕ) → i ≢ top → put v top x i ≡ v i
put_other v top x i other = elim (nat_eq i top) as (λ b. nat_eq i top ≡ b → cond b x (v i) ≡ v i) [
  | true ↦ λ e. absurd (other (eqb-true i top e))
  | false ↦ λ e. refl
] refl

pub mark_cases : (marks : List Mark) (i : ℕ) → i < length marks → (slice_get marks i ≡ Some New) ⊎ ((slice_get marks i ≡ Some Entered) ⊎ IsMeasured marks i)
mark_cases marks i within = by_mark (get_or marks i New) (slice_get-get_or marks i New within)
  where
    by_mark : (m : Mark) → slice_get marks i ≡ Some m → (slice_get marks i ≡ Some New) ⊎ ((slice_get marks i ≡ Some Entered) ⊎ IsMeasured marks i)
    by_mark New h = inl h
    by_mark Entered h = inr (inl h)
    by_mark (Measured first_order size arity) h = inr (inr (record { size = size; arity = arity; first_order = first_order }, h))

module _ (nodes : List Node) (marks : List Mark) (path rest : List ℕ) (top : ℕ) (n : Node) (s : IsSearch nodes marks path) (last : path ≡ rest ++ top ∷ []) (at_node : slice_get nodes top ≡ Some n) where
  at_top : slice_get path (length rest) ≡ Some top
  at_top =
      let e : length rest + 0 ≡ length rest = omega arith in
      ap (λ (xs : List ℕ). slice_get xs (length rest)) last ∙ (ap (slice_get (rest ++ top ∷ [])) (sym e) ∙ back_at rest (top ∷ []) 0)

  top_entered : slice_get marks top ≡ Some Entered
  top_entered = s.entered (length rest) top at_top

  in_front : (p i : ℕ) → slice_get rest p ≡ Some i → slice_get path p ≡ Some i
  in_front p i h = ap (λ (xs : List ℕ). slice_get xs p) last ∙ at_append rest (top ∷ []) p i h

  pub top_below : top < length marks
  top_below = slice_get_within marks top Entered top_entered

  -- a child that is on the path is a part of itself
  pub cycle : (c : ℕ) → IsStore nodes → IsChildOf n c → IsStarted marks c → ((w : Measure) → slice_get marks c ≡ Some (measured w) → ⊥) → (v : Valuation) → IsValuationOf v nodes → ⊥
  cycle c store child started never v r =
      let below = child_below nodes top n store at_node c child in
      elim (mark_cases marks c (omega (arith, s.as_long, below))) [
        | inl e ↦ started e
        | inr (inl e) ↦
            let p = s.on_path c e in
            let place = slice_get_within path p.0 c p.1 in
            let le : p.0 ≤ length rest = omega (arith, place, ap length last, length-append rest (top ∷ [])) in
            let low = child_lower nodes v top c n store r at_node child in
            let high = s.falling v r p.0 (length rest) c top le p.1 at_top in
            absurd (omega (arith, low, high))
        | inr (inr (w, e)) ↦ never w e
      ]

  -- so a child that is new goes on the path
  pub child_entered : (c : ℕ) → IsStore nodes → IsChildOf n c → slice_get marks c ≡ Some New → AdvancesSearch nodes marks path (set marks c Entered) (path ++ c ∷ [])
  child_entered c store child is_new = entry_advances nodes marks path s c is_new (λ v r p i h.
      let place = slice_get_within path p i h in
      let le : p ≤ length rest = omega (arith, place, ap length last, length-append rest (top ∷ [])) in
      omega (arith, child_lower nodes v top c n store r at_node child, s.falling v r p (length rest) i top le h at_top))

  module _ (w : Measure) (step : IsMeasuringStep marks n (Done w)) where
    never_measured : (u : Measure) → slice_get marks top ≡ Some (measured u) → ⊥
    never_measured u h = entered_not_measured u (sym top_entered ∙ h)

    abbrev value : SortTree
    value = reading_of s.reading.valuation n

    abbrev more_valuation : Valuation
    more_valuation = put s.reading.valuation top value

    -- a measured node keeps its sort
    keeps : (i : ℕ) → IsMeasured marks i → more_valuation i ≡ s.reading.valuation i
    keeps i (u, h) = put_other s.reading.valuation top value i (λ e. never_measured u (subst (λ (k : ℕ). slice_get marks k ≡ Some (measured u)) e h))

    describes_value : Describes w value
    describes_value = step.1 s.reading.valuation value s.reading.describes (reads_of s.reading.valuation n)

    still_measured : (c : ℕ) → IsMeasured marks c → IsMeasured (set marks top (measured w)) c
    still_measured c h = measured_after marks top c (measured w) never_measured h

    measured_place : (i : ℕ) (u : Measure) → slice_get (set marks top (measured w)) i ≡ Some (measured u) → ((i ≡ top) × (u ≡ w)) ⊎ (slice_get marks i ≡ Some (measured u))
    measured_place i u h =
        let x = written marks top i (measured w) (measured u) top_below h in
        elim (here_or_not top i) [
          | inl same ↦ inl (same, same_measure u w (x.there same))
          | inr other ↦ inr (x.elsewhere other)
        ]
      where
        same_measure : (a b : Measure) → measured a ≡ measured b → a ≡ b
        same_measure a b e = ap measure_in e

    not_top_in_front : (p i : ℕ) → slice_get rest p ≡ Some i → i ≢ top
    not_top_in_front p i h e =
        let same = s.distinct p (length rest) i (in_front p i h) (at_top ∙ ap (λ j. Some j) (sym e)) in
        omega (arith, same, slice_get_within rest p i h)

    same_node : (m : Node) → slice_get nodes top ≡ Some m → n ≡ m
    same_node m h = same_Some n m (sym at_node ∙ h)

    more_reading : PartReading nodes (set marks top (measured w))
    more_reading = record {
      valuation = more_valuation;
      describes = λ i u h. elim (measured_place i u h) [
        | inl (same, is) ↦
            subst (λ (x : Measure). Describes x (more_valuation i)) (sym is)
            (subst (Describes w) (sym (ap more_valuation same ∙ put_same s.reading.valuation top value)) describes_value)
        | inr before ↦ subst (Describes u) (sym (keeps i (u, before))) (s.reading.describes i u before)
      ];
      reads = λ i m h there. elim (measured_place i h.0 h.1) [
        | inl (same, is) ↦
            let e = same_node m (ap (slice_get nodes) (sym same) ∙ there) in
            subst (λ (x : Node). ReadsNode more_valuation (more_valuation i) x) e
            (subst (λ (x : SortTree). ReadsNode more_valuation x n) (sym (ap more_valuation same ∙ put_same s.reading.valuation top value))
            (reads_same s.reading.valuation more_valuation value n (λ c child. keeps c (step.0 c child)) (reads_of s.reading.valuation n)))
        | inr before ↦
            reads_same s.reading.valuation more_valuation (more_valuation i) m (λ c child. keeps c (s.reading.children i m (h.0, before) there c child))
            (subst (λ (x : SortTree). ReadsNode s.reading.valuation x m) (sym (keeps i (h.0, before))) (s.reading.reads i m (h.0, before) there))
      ];
      children = λ i m h there c child. elim (measured_place i h.0 h.1) [
        | inl (same, is) ↦
            let e = same_node m (ap (slice_get nodes) (sym same) ∙ there) in
            still_measured c (step.0 c (subst (λ (x : Node). IsChildOf x c) (sym e) child))
        | inr before ↦ still_measured c (s.reading.children i m (h.0, before) there c child)
      ];
    }

    entered_elsewhere : (i : ℕ) → slice_get (set marks top (measured w)) i ≡ Some Entered → (slice_get marks i ≡ Some Entered) × (i ≢ top)
    entered_elsewhere i h =
        let other : i ≢ top = λ e. entered_not_measured w (sym h ∙ (ap (slice_get (set marks top (measured w))) e ∙ get_set_same marks top (measured w) top_below)) in
        ((written marks top i (measured w) Entered top_below h).elsewhere other, other)

    measured_search : IsSearch nodes (set marks top (measured w)) rest
    measured_search = record {
      as_long = length-set marks top (measured w) ∙ s.as_long;
      entered = λ p i h. get_set_other marks top i (measured w) (not_top_in_front p i h) ∙ s.entered p i (in_front p i h);
      on_path = λ i h.
          let x = entered_elsewhere i h in
          let p = s.on_path i x.0 in
          elim (place-append rest (top ∷ []) p.0 i (ap (λ (xs : List ℕ). slice_get xs p.0) (sym last) ∙ p.1)) [
            | inl e ↦ (p.0, e)
            | inr l ↦ absurd (x.1 (sym (one_place top i l.place l.at).1))
          ];
      distinct = λ p q i h k. s.distinct p q i (in_front p i h) (in_front q i k);
      falling = λ v r p q i j l h k. s.falling v r p q i j l (in_front p i h) (in_front q j k);
      reading = more_reading;
    }

    pub measured_advances : AdvancesSearch nodes marks path (set marks top (measured w)) rest
    measured_advances = record {
      search = measured_search;
      smaller = omega (arith, count_set marks top Entered (measured w) top_entered, ap length last, length-append rest (top ∷ []));
      kept = λ i h e. elim (here_or_not top i) [
        | inl same ↦ new_not_measured w (sym e ∙ (ap (slice_get (set marks top (measured w))) same ∙ get_set_same marks top (measured w) top_below))
        | inr other ↦ h (sym (get_set_other marks top i (measured w) other) ∙ e)
      ];
    }

-- where the path is empty, what was come to is measured
pub started_measured : (nodes : List Node) (marks : List Mark) (i : ℕ) → IsSearch nodes marks [] → i < length marks → IsStarted marks i → IsMeasured marks i
started_measured nodes marks i s within started = elim (mark_cases marks i within) [
  | inl e ↦ absurd (started e)
  | inr (inl e) ↦ let p = s.on_path i e in absurd (nothing_there p.0 i p.1)
  | inr (inr e) ↦ e
]
  where
    nothing_there : (p j : ℕ) → slice_get [] p ≡ Some j → ⊥
    nothing_there p j h = cc

pub last_below : (nodes : List Node) (marks : List Mark) (path : List ℕ) (top : ℕ) → IsSearch nodes marks path → IsLastOnPath path top → top < length marks
last_below nodes marks path top s (rest, last) =
    let e : length rest + 0 ≡ length rest = omega arith in
    slice_get_within marks top Entered (s.entered (length rest) top
    (ap (λ (xs : List ℕ). slice_get xs (length rest)) last ∙ (ap (slice_get (rest ++ top ∷ [])) (sym e) ∙ back_at rest (top ∷ []) 0)))

pub popped : (path now rest : List ℕ) (top m : ℕ) → path ≡ rest ++ top ∷ [] → now ≡ take (m - 1) path → m ≡ length path → now ≡ rest
popped path now rest top m last is long =
    let e : m - 1 ≡ length rest = omega (arith, ap length last, length-append rest (top ∷ [])) in
    is ∙ ((λ i. take (e i) (last i)) ∙ take_at rest (top ∷ []) (length rest) refl)

-- a child that is put on the path, or was on it
pub child_advances : (nodes : List Node) (marks : List Mark) (path : List ℕ) (top : ℕ) (n : Node) (c : ℕ) (new : List Mark) (longer : List ℕ) (answer : Bool) → IsSearch nodes marks path → IsLastOnPath path top → slice_get nodes top ≡ Some n
    → IsStore nodes → IsMeasuringStep marks n (Child c) → IsEntry marks path c new longer answer → IsAdvance nodes marks path new longer answer
child_advances nodes marks path top n c new longer true s (rest, last) at store step (is_new, marked, pushed) =
    subst (λ (ms : List Mark). AdvancesSearch nodes marks path ms longer) (sym marked)
    (subst (λ (xs : List ℕ). AdvancesSearch nodes marks path (set marks c Entered) xs) (sym pushed) (child_entered nodes marks path rest top n s last at c store step.0 is_new))
child_advances nodes marks path top n c new longer false s (rest, last) at store step (started, marked, pushed) =
    cycle nodes marks path rest top n s last at c store step.0 started step.1

nothing_on : (path : List ℕ) (p i : ℕ) → path ≡ [] → slice_get path p ≡ Some i → ⊥
nothing_on path p i e h = let f : slice_get [] p ≡ Some i = ap (λ (xs : List ℕ). slice_get xs p) (sym e) ∙ h in cc

-- a walk begins with a new node on an empty path
pub begun : (nodes : List Node) (marks : List Mark) (path : List ℕ) (start : ℕ) (new : List Mark) (longer : List ℕ) → IsSearch nodes marks path → path ≡ [] → IsEntry marks path start new longer true
    → AdvancesSearch nodes marks path new longer × IsStarted new start
begun nodes marks path start new longer s empty (is_new, marked, pushed) =
    let lower : (v : Valuation) → IsValuationOf v nodes → (p i : ℕ) → slice_get path p ≡ Some i → rank v (length nodes) start ≤ rank v (length nodes) i = λ v r p i h. absurd (nothing_on path p i empty h) in (
      subst (λ (ms : List Mark). AdvancesSearch nodes marks path ms longer) (sym marked) (subst (λ (xs : List ℕ). AdvancesSearch nodes marks path (set marks start Entered) xs) (sym pushed) (entry_advances nodes marks path s start is_new lower)),
      subst (λ (ms : List Mark). IsStarted ms start) (sym marked) (entry_started nodes marks path s start is_new lower),
    )

-- before the first walk all nodes are new
pub search_none : (nodes : List Node) (marks : List Mark) (path : List ℕ) → marks ≡ replicate (length nodes) New → path ≡ [] → IsSearch nodes marks path
search_none nodes marks path all empty = record {
  as_long = ap length all ∙ length-replicate (length nodes) New;
  entered = λ p i h. absurd (nothing_on path p i empty h);
  on_path = λ i h. absurd (new_not_entered (ap (λ m. Some m) (sym (is_new i Entered h))));
  distinct = λ p q i h k. absurd (nothing_on path p i empty h);
  falling = λ v r p q i j l h k. absurd (nothing_on path p i empty h);
  reading = record {
    valuation = λ _. o;
    describes = λ i w h. absurd (new_not_measured w (ap (λ m. Some m) (sym (is_new i (measured w) h))));
    reads = λ i n h at. absurd (new_not_measured h.0 (ap (λ m. Some m) (sym (is_new i (measured h.0) h.1))));
    children = λ i n h at. absurd (new_not_measured h.0 (ap (λ m. Some m) (sym (is_new i (measured h.0) h.1))));
  };
}
  where
    is_new : (i : ℕ) (m : Mark) → slice_get marks i ≡ Some m → m ≡ New
    is_new i m h = get_replicate (length nodes) i New m (ap (λ (ms : List Mark). slice_get ms i) (sym all) ∙ h)

-- after a walk from each node all are measured
pub all_measured : (nodes : List Node) (marks : List Mark) (path : List ℕ) → IsSearch nodes marks path → path ≡ [] → ((i : ℕ) → i < length nodes → IsStarted marks i) → (i : ℕ) → i < length marks → IsMeasured marks i
all_measured nodes marks path s empty started i within =
    started_measured nodes marks i (subst (IsSearch nodes marks) empty s) within (started i (omega (arith, s.as_long)))

pub measuring : (nodes : List Node) (marks : List Mark) (path : List ℕ) → IsSearch nodes marks path → path ≡ [] → ((i : ℕ) → i < length nodes → IsStarted marks i) → Measuring nodes (measures_in marks)
measuring nodes marks path s empty started =
    let all = all_measured nodes marks path s empty started in
    record {
      as_long = length-map marks measure_in ∙ s.as_long;
      valuation = s.reading.valuation;
      reading = record { reads = λ i n h. s.reading.reads i n (all i (omega (arith, slice_get_within nodes i n h, s.as_long))) h };
      describes = λ i w h.
          let x = all i (omega (arith, slice_get_within (measures_in marks) i w h, length-map marks measure_in)) in
          let same : x.0 ≡ w = same_Some x.0 w (sym (slice_get-map measure_in marks i ∙ ap (option_map measure_in) x.1) ∙ h) in
          subst (λ (y : Measure). Describes y (s.reading.valuation i)) same (s.reading.describes i x.0 x.1);
    }
