-- A search through a cut finds no error exactly where the cut is read to its end.
use Rattle.std.proofs.Common.{◌≡◌, refl, sym, ◌∙◌, ap, ℕ, zero, suc, ◌+◌, ◌-◌, ◌<◌, ◌≤◌, true, false, ◌&&◌, List, [], ◌∷◌, length, drop, map, slice_get, get_or, None, Some, option_map, arith}
use Rattle.std.proofs.Common.{subst as along}
use Rattle.std.specs.Prelude.{IsTrue, slice_index}
use Rattle.std.specs.Option.{option_map_or}
use Rattle.std.proofs.lemmas.List.{drop_more, drop_all, get_or-map, length-map}
use Rattle.std.proofs.lemmas.Option.{get_or_from_slice_get, slice_get-get_or, slice_get_read, slice_get-map}
use Rattle.hs_scheme.specs.declared.term.Head.{Head}
use Rattle.hs_scheme.specs.declared.term.Head.TheVariants.{Var, Nt, Tm}
use Rattle.hs_scheme.specs.declared.term.Rule.{Rule}
use Rattle.hs_scheme.specs.acceptance.Transition.{TransitionData}
use Rattle.hs_scheme.specs.acceptance.Automaton.{next}
use Rattle.hs_scheme.specs.Tree.{Tree, Trees, node, children, forest, children-forest}
use Rattle.hs_scheme.specs.acceptance.Cut.{CutTree, undefined, cut, unfolded}
use Rattle.hs_scheme.specs.acceptance.Run.{run, runs}
use Rattle.hs_scheme.specs.sorting.Sorting.{Sorts}
use Rattle.hs_scheme.specs.sorting.Sorted.{SortedData, known, sorts_of}
use Rattle.hs_scheme.specs.acceptance.Steps.{Reaches, Fails, HasNoTransition}
use Rattle.hs_scheme.specs.TreeTerms.{IsTreeTerm}
use Rattle.hs_scheme.proofs.PlainLemmas.{cut-Var, cut-Nt_none, cut-Nt_some, cut-Tm}
use Rattle.hs_steps.proofs.Sorted.{step_sorted}
use Rattle.hs_steps.proofs.Failing.{within_refused}
use Rattle.hs_steps.proofs.PathLemmas.{after_replacement, after_descent}
use Rattle.hs_reduce.specs.Graph.{term_at, terms_at, head_of, arguments_of, NamesTerms}
use Rattle.hs_scheme.specs.acceptance.FailingPath.{FailingPathData}
use Rattle.hs_reduce.specs.Path.{IsErrorFrom}
use Rattle.hs_reduce.specs.Advances.{HasKnownSorts}
use Rattle.hs_reduce.specs.Bounds.{ReadsCut, IsErrorWithin}
use Rattle.hs_reduce.proofs.ReplacementLemmas.{whole}
use Rattle.hs_reduce.proofs.ReplayLemmas.{arguments_by_rank, states_by_rank}

-- a path with one more step in front
abbrev pub longer : List (ℕ × ℕ) → FailingPathData → FailingPathData
longer label path = record { steps = label; last = path.last; state = path.state; used = path.used + 1 }

module _ (s : SortedData) where
  abbrev rules : List Rule
  rules = s.scheme.rules

  abbrev ts : List TransitionData
  ts = s.automaton.transitions

  abbrev sorts : Sorts
  sorts = sorts_of s.sorts s.scheme.ranks

  abbrev IsError : ℕ → Tree Head → FailingPathData → Type 0
  IsError q t path = IsErrorFrom rules ts q t path

  pub read_replaced : (n q f : ℕ) (t u : Tree Head) → 0 < n → head_of t ≡ Nt f → unfolded rules f (arguments_of t) ≡ Some u → ReadsCut s (n - 1) q u → ReadsCut s n q t
  read_replaced n q f t u more_steps front e read =
      along (λ (x : CutTree). IsTrue (run ts q x)) (cut-Nt_some rules n t (head_of t) (arguments_of t) (whole t) f u front more_steps e) read

  -- a term without a step is read
  pub read_cut_off : (n q : ℕ) (t : Tree Head) → n ≡ 0 → ReadsCut s n q t
  read_cut_off n q t e = along (λ k. ReadsCut s k q t) (sym e) refl

  pub read_parameter : (n q j : ℕ) (t : Tree Head) → head_of t ≡ Var j → ReadsCut s n q t
  read_parameter n q j t front = along (λ (x : CutTree). IsTrue (run ts q x)) (cut-Var rules n t (head_of t) (arguments_of t) (whole t) j front) refl

  pub read_stays : (n q f : ℕ) (t : Tree Head) → head_of t ≡ Nt f → unfolded rules f (arguments_of t) ≡ None → ReadsCut s n q t
  read_stays n q f t front e = along (λ (x : CutTree). IsTrue (run ts q x)) (cut-Nt_none rules n t (head_of t) (arguments_of t) (whole t) f front e) refl

  one_later : (n : ℕ) → suc n ≡ n + 1
  one_later n = omega arith

  pub error_replaced : (q f : ℕ) (t u : Tree Head) (path : FailingPathData) → head_of t ≡ Nt f → unfolded rules f (arguments_of t) ≡ Some u → IsError q u path → IsError q t (longer path.steps path)
  error_replaced q f t u path front e error =
      let us = forest (arguments_of t) in
      let fronted : node (Nt f) us ≡ t = sym (ap (λ h. node h us) front) ∙ whole t in
      let goes_to : unfolded rules f (children us) ≡ Some u = ap (unfolded rules f) (children-forest (arguments_of t)) ∙ e in
      along (λ (x : Tree Head). IsError q x (longer path.steps path)) fronted (record {
        fails = along (λ k. Fails rules ts k q (node (Nt f) us) path.steps) (one_later path.used) (after_replacement rules ts (HasNoTransition ts) path.used q f us u path.steps goes_to error.fails);
        arguments = error.arguments;
        reaches = along (λ k. Reaches rules ts k q (node (Nt f) us) path.steps path.state (node (Tm path.last) error.arguments)) (one_later path.used)
            (after_replacement rules ts (λ r v. (r ≡ path.state) × (v ≡ node (Tm path.last) error.arguments)) path.used q f us u path.steps goes_to error.reaches);
      })

  -- a terminal without transition is an error at once
  pub error_here : (q a : ℕ) (t : Tree Head) (steps : List (ℕ × ℕ)) → steps ≡ [] → head_of t ≡ Tm a → next ts q a ≡ None → IsError q t (record { steps = steps; last = a; state = q; used = 0 })
  error_here q a t steps none front e =
      let us = forest (arguments_of t) in
      let fronted : node (Tm a) us ≡ t = sym (ap (λ h. node h us) front) ∙ whole t in
      along (λ (x : Tree Head). IsError q x (record { steps = steps; last = a; state = q; used = 0 })) fronted (record { fails = (none, e); arguments = us; reaches = (none, (refl, refl)) })

  module _ (sorted : HasKnownSorts s) where
    pub refused : (n q : ℕ) (t : Tree Head) (path : FailingPathData) → IsErrorWithin s n q t path → run ts q (cut rules n t) ≡ false
    refused zero q t path e = absurd (omega (arith, e.within))
    refused (suc n) q t path e =
        along (λ k. run ts q (cut rules k t) ≡ false) (sym (one_later n)) (within_refused rules ts n q t (path.steps, path.used, omega (arith, e.within), e.error.fails))

    pub replaced_sorted : (q f : ℕ) (t u : Tree Head) → IsTreeTerm sorts t → head_of t ≡ Nt f → unfolded rules f (arguments_of t) ≡ Some u → IsTreeTerm sorts u
    replaced_sorted q f t u typed front e =
        let us = forest (arguments_of t) in
        let fronted : node (Nt f) us ≡ t = sym (ap (λ h. node h us) front) ∙ whole t in
        step_sorted rules (length s.scheme.ranks) (known s.scheme.ranks) ts sorts sorted q q (node (Nt f) us) u []
        (refl, refl, ap (unfolded rules f) (children-forest (arguments_of t)) ∙ e) (along (λ (x : Tree Head). IsTreeTerm sorts x) (sym fronted) typed)

    -- a terminal with a transition
    module _ (n q a : ℕ) (t : Tree Head) (typed : IsTreeTerm sorts t) (front : head_of t ≡ Tm a) (to : List ℕ) (e : next ts q a ≡ Some to)
        (trees : List (Tree Head)) (places : List ℕ) (named : NamesTerms trees places (arguments_of t)) where
      abbrev us : Trees Head
      us = forest (arguments_of t)

      fronted : node (Tm a) us ≡ t
      fronted = sym (ap (λ h. node h us) front) ∙ whole t

      front_typed : IsTreeTerm sorts (node (Tm a) us)
      front_typed = along (λ (x : Tree Head). IsTreeTerm sorts x) (sym fronted) typed

      pub as_many_states : length to ≡ slice_index s.scheme.ranks a
      as_many_states = states_by_rank s sorted q a us to e front_typed

      pub as_many_places : length places ≡ slice_index s.scheme.ranks a
      as_many_places =
          sym (length-map places (term_at trees)) ∙ (ap length (named.terms ∙ sym (children-forest (arguments_of t))) ∙ arguments_by_rank s sorted a us front_typed)

      module _ (i child : ℕ) (lt : i < slice_index s.scheme.ranks a) (is : child ≡ get_or places i child) where
        at_place : slice_get places i ≡ Some child
        at_place = slice_get_read places (length places) i child refl (omega (arith, as_many_places)) is

        pub child_there : child < length trees
        child_there = along (λ j. j < length trees) (get_or_from_slice_get places i child 0 at_place) (named.within i 0 (omega (arith, as_many_places)))

        in_state : slice_get to i ≡ Some (get_or to i 0)
        in_state = slice_get-get_or to i 0 (omega (arith, as_many_states))

        child_term : slice_get (children us) i ≡ Some (term_at trees child)
        child_term =
            ap (λ xs. slice_get xs i) (children-forest (arguments_of t) ∙ sym named.terms) ∙ (slice_get-map (term_at trees) places i ∙ ap (option_map (term_at trees)) at_place)

        pub child_sorted : IsTreeTerm sorts (term_at trees child)
        child_sorted =
            step_sorted rules (length s.scheme.ranks) (known s.scheme.ranks) ts sorts sorted q (get_or to i 0) (node (Tm a) us) (term_at trees child) ((a, i + 1) ∷ [])
            (to, e, record { place = i; labelled = refl; state = in_state; term = child_term }) front_typed

        pub error_below : (path : FailingPathData) → IsError (get_or to i 0) (term_at trees child) path → IsError q t (longer ((a, i + 1) ∷ path.steps) path)
        error_below path error = along (λ (x : Tree Head). IsError q x (longer ((a, i + 1) ∷ path.steps) path)) fronted (record {
          fails = along (λ k. Fails rules ts k q (node (Tm a) us) ((a, i + 1) ∷ path.steps)) (one_later path.used)
              (after_descent rules ts (HasNoTransition ts) path.used q (get_or to i 0) a i to us (term_at trees child) path.steps e in_state child_term error.fails);
          arguments = error.arguments;
          reaches = along (λ k. Reaches rules ts k q (node (Tm a) us) ((a, i + 1) ∷ path.steps) path.state (node (Tm path.last) error.arguments)) (one_later path.used)
              (after_descent rules ts (λ r v. (r ≡ path.state) × (v ≡ node (Tm path.last) error.arguments)) path.used q (get_or to i 0) a i to us (term_at trees child) path.steps
              e in_state child_term error.reaches);
        })

        -- a child that is read leaves it to the rest
        pub one_more_read : ReadsCut s (n - 1) (get_or to i 0) (term_at trees child)
            → runs ts (forest (drop i (map (cut rules (n - 1)) (terms_at trees places)))) (drop i to) ≡ runs ts (forest (map (cut rules (n - 1)) (terms_at trees places))) to
            → runs ts (forest (drop (i + 1) (map (cut rules (n - 1)) (terms_at trees places)))) (drop (i + 1) to) ≡ runs ts (forest (map (cut rules (n - 1)) (terms_at trees places))) to
        one_more_read read rest =
            let cuts = map (cut rules (n - 1)) (terms_at trees places) in
            let in_places : i < length places = omega (arith, as_many_places) in
            let in_terms : i < length (terms_at trees places) = omega (arith, length-map places (term_at trees), as_many_places) in
            let in_cuts : i < length cuts = omega (arith, length-map (terms_at trees places) (cut rules (n - 1))) in
            let in_states : i < length to = omega (arith, as_many_states) in
            let here : get_or cuts i undefined ≡ cut rules (n - 1) (term_at trees child) =
            get_or-map (cut rules (n - 1)) (terms_at trees places) i (term_at trees child) undefined in_terms
            ∙ ap (cut rules (n - 1)) (get_or-map (term_at trees) places i child (term_at trees child) in_places ∙ ap (term_at trees) (sym is)) in
            let split : runs ts (forest (drop i cuts)) (drop i to) ≡ run ts (get_or to i 0) (get_or cuts i undefined) && runs ts (forest (drop (i + 1) cuts)) (drop (i + 1) to) =
            (λ k. runs ts (forest (drop_more cuts i undefined in_cuts k)) (drop_more to i 0 in_states k)) in
            let reads : run ts (get_or to i 0) (get_or cuts i undefined) ≡ true = ap (run ts (get_or to i 0)) here ∙ read in
            sym (ap (λ b. b && runs ts (forest (drop (i + 1) cuts)) (drop (i + 1) to)) reads) ∙ (sym split ∙ rest)

      pub all_read : (i : ℕ) → 0 < n → slice_index s.scheme.ranks a ≤ i
          → runs ts (forest (drop i (map (cut rules (n - 1)) (terms_at trees places)))) (drop i to) ≡ runs ts (forest (map (cut rules (n - 1)) (terms_at trees places))) to → ReadsCut s n q t
      all_read i more_steps end rest =
          let cuts = map (cut rules (n - 1)) (terms_at trees places) in
          let no_cuts : drop i cuts ≡ [] = drop_all i cuts (omega (arith, length-map (terms_at trees places) (cut rules (n - 1)), length-map places (term_at trees), as_many_places)) in
          let no_states : drop i to ≡ [] = drop_all i to (omega (arith, as_many_states)) in
          let all : runs ts (forest cuts) to ≡ true = sym rest ∙ (λ k. runs ts (forest (no_cuts k)) (no_states k)) in
          let is_cut : node (Some a) (forest (map (cut rules (n - 1)) (arguments_of t))) ≡ cut rules n t =
          cut-Tm rules n t (head_of t) (arguments_of t) (whole t) a front more_steps in
          sym (ap (run ts q) is_cut) ∙ (ap (λ o. option_map_or (runs ts (forest (map (cut rules (n - 1)) (arguments_of t)))) o false) e
          ∙ (ap (λ us. runs ts (forest (map (cut rules (n - 1)) us)) to) (sym named.terms) ∙ all))
