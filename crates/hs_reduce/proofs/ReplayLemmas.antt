-- What is met along a path, and that nothing else is.
use Rattle.std.proofs.Common.{◌≡◌, refl, sym, ◌∙◌, ap, ℕ, zero, suc, ◌+◌, ◌<◌, ◌≤◌, ◌⊎◌, ◌↔◌, inl, inr, List, [], ◌∷◌, ◌++◌, length, take, drop, slice_get, Some, None, arith}
use Rattle.std.proofs.Common.{subst as along}
use Rattle.std.specs.Prelude.{slice_index, unwrap_or}
use Rattle.std.proofs.lemmas.Bool.{cases_lt}
use Rattle.std.proofs.lemmas.List.{map-append, take_more, drop_more, drop_all, length-map}
use Rattle.std.proofs.Common.{length-drop, append-nil, option_map}
use Rattle.std.proofs.lemmas.Option.{unwrap_or-slice_get, slice_get_past, slice_get_within, get_or_from_slice_get, slice_get-map}
use Rattle.hs_scheme.specs.declared.term.Head.{Head}
use Rattle.hs_scheme.specs.declared.term.Head.TheVariants.{Nt, Tm}
use Rattle.hs_scheme.specs.declared.term.Rule.{Rule}
use Rattle.hs_scheme.specs.acceptance.Transition.{TransitionData}
use Rattle.hs_scheme.specs.acceptance.Automaton.{next}
use Rattle.hs_scheme.specs.Tree.{Tree, Trees, node, children, forest, children-forest}
use Rattle.hs_scheme.specs.acceptance.Cut.{unfolded}
use Rattle.hs_scheme.specs.acceptance.Run.{start}
use Rattle.hs_scheme.specs.acceptance.Failing.{IsFailingPath}
use Rattle.hs_scheme.specs.Scheme.{IsScheme}
use Rattle.hs_scheme.specs.sorting.Sorting.{Sorts}
use Rattle.hs_scheme.specs.sorting.Sorted.{SortedData, IsSorted, known, sorts_of}
use Rattle.hs_scheme.specs.acceptance.Steps.{Path, StepsTo, Reaches, ReachesByChildren, child_numbers}
use Rattle.hs_scheme.specs.TreeTerms.{IsTreeTerm, ground}
use Rattle.hs_scheme.proofs.Sortings.{length-ranked}
use Rattle.hs_steps.proofs.Sorted.{count, as_many, start_sorted, step_sorted}
use Rattle.hs_steps.proofs.PathLemmas.{one_more}
use Rattle.hs_reduce.specs.declared.answers.Replay.{Replay}
use Rattle.hs_reduce.specs.declared.answers.Replay.TheVariants.{Stuck, Ended, NoChild, Runs}
use Rattle.hs_reduce.specs.Replays.{IsMet, HasTransition, IsNoChild, IsEndOfPath, IsOffPath, MeetsAlong, IsReplayAnswer}
use Rattle.hs_reduce.specs.declared.replaying.Progress.{Progress}
use Rattle.hs_reduce.specs.Graph.{term_at, head_of, arguments_of, NamesTerms}
use Rattle.hs_reduce.specs.Advances.{HasKnownSorts, HasNoStep, IsReached}
use Rattle.hs_reduce.proofs.ReplacementLemmas.{whole}
use Rattle.hs_reduce.proofs.Walks.{Config, config, goes, after, walked, last, stops_without_transition, stops_without_child, stops_without_step}

-- what the types of a sorted scheme and of its scheme keep
pub has_sorting : (s : SortedData) → IsSorted s → IsScheme s.scheme → HasKnownSorts s
has_sorting s is scheme = record { are_rules = scheme; sorting = is.sorting; agree = is.ranks }

module _ (s : SortedData) (sorted : HasKnownSorts s) where
  abbrev rules : List Rule
  rules = s.scheme.rules

  abbrev ts : List TransitionData
  ts = s.automaton.transitions

  abbrev sorts : Sorts
  sorts = sorts_of s.sorts s.scheme.ranks

  reached_sorted : (n q p : ℕ) (t u : Tree Head) (path : Path) → Reaches rules ts n q t path p u → IsTreeTerm sorts t → IsTreeTerm sorts u
  reached_sorted zero q p t u path (e, (is, are)) k = along (λ (x : Tree Head). IsTreeTerm sorts x) are k
  reached_sorted (suc n) q p t u path l k =
      reached_sorted n l.state p l.term u l.rest l.holds (step_sorted rules (length s.scheme.ranks) (known s.scheme.ranks) ts sorts sorted q l.state t l.term l.label l.step k)

  pub met_sorted : (n p : ℕ) (u : Tree Head) (cs : List ℕ) → ReachesByChildren rules ts n 0 start cs p u → IsTreeTerm sorts u
  met_sorted n p u cs (path, numbers, reaches) =
      reached_sorted n 0 p start u path reaches (start_sorted rules (length s.scheme.ranks) (known s.scheme.ranks) ts sorts sorted)

  -- a terminal with a transition has as many arguments as its rank says, and the transition as many states
  pub arguments_by_rank : (a : ℕ) (us : Trees Head) → IsTreeTerm sorts (node (Tm a) us) → length (children us) ≡ slice_index s.scheme.ranks a
  arguments_by_rank a us k =
      count (ground sorts) us (sorts.terminal a) k ∙ (length-ranked (unwrap_or (slice_get s.scheme.ranks a) 0) ∙ unwrap_or-slice_get s.scheme.ranks a 0)

  pub states_by_rank : (q a : ℕ) (us : Trees Head) (to : List ℕ) → next ts q a ≡ Some to → IsTreeTerm sorts (node (Tm a) us) → length to ≡ slice_index s.scheme.ranks a
  states_by_rank q a us to e k =
      sym (as_many rules (length s.scheme.ranks) (known s.scheme.ranks) ts sorts sorted q a to us e k) ∙ arguments_by_rank a us k

  pub number_of_no_child : (q a c : ℕ) (us : Trees Head) (to : List ℕ) (n : ℕ) → next ts q a ≡ Some to → IsTreeTerm sorts (node (Tm a) us) → n ≡ length (children us)
      → (c ≡ 0) ⊎ (n < c) ⊎ (length to < c) → IsNoChild s.scheme.ranks a c
  number_of_no_child q a c us to n e k long h = elim h [
    | inl zero_is ↦ inl zero_is
    | inr (inl lt) ↦ inr (omega (arith, arguments_by_rank a us k))
    | inr (inr lt) ↦ inr (omega (arith, states_by_rank q a us to e k))
  ]

  module _ (path : List ℕ) where
    -- a terminal that is met, and from which the path doesn't go on
    record IsLast (used at q a : ℕ) (us : Trees Head) : Type 0 where
      pub on_path : at ≤ length path
      pub there : after rules ts used (config 0 start path) ≡ Some (config q (node (Tm a) us) (drop at path))
      pub final : goes rules ts q (node (Tm a) us) (drop at path) ≡ None

    last_of : (steps at used q a : ℕ) (m : IsMet s path steps at used q a) → goes rules ts q (node (Tm a) m.arguments) (drop at path) ≡ None → IsLast used at q a m.arguments
    last_of steps at used q a m final =
        record { on_path = m.on_path; there = walked rules ts used 0 q at start (node (Tm a) m.arguments) path m.reached; final = final }

    stuck_last : (steps at used q a : ℕ) (m : IsMet s path steps at used q a) → next ts q a ≡ None → IsLast used at q a m.arguments
    stuck_last steps at used q a m e = last_of steps at used q a m (stops_without_transition rules ts q a m.arguments (drop at path) e)

    end_last : (steps used : ℕ) (m : IsEndOfPath s path steps used) → IsLast used (length path) m.state m.terminal m.met.arguments
    end_last steps used m =
        last_of steps (length path) used m.state m.terminal m.met
        (ap (goes rules ts m.state (node (Tm m.terminal) m.met.arguments)) (drop_all (length path) path (omega arith)))

    no_child : (q a c : ℕ) (us : Trees Head) (cs to : List ℕ) → IsTreeTerm sorts (node (Tm a) us) → next ts q a ≡ Some to → IsNoChild s.scheme.ranks a c → goes rules ts q (node (Tm a) us) (c ∷ cs) ≡ None
    no_child q a zero us cs to k e h = refl
    no_child q a (suc i) us cs to k e (inl h) = absurd (omega arith)
    no_child q a (suc i) us cs to k e (inr h) =
        stops_without_child rules ts q a i us to cs e (slice_get_past to i (omega (arith, states_by_rank q a us to e k)))

    off_last : (steps at : ℕ) (m : IsOffPath s path steps at) → IsLast m.used at m.state m.terminal m.met.arguments
    off_last steps at m =
        let lt : at < length path = slice_get_within path at m.number m.next in
        let here : drop at path ≡ m.number ∷ drop (at + 1) path =
        drop_more path at m.number lt ∙ ap (λ c. c ∷ drop (at + 1) path) (get_or_from_slice_get path at m.number m.number m.next) in
        last_of steps at m.used m.state m.terminal m.met (ap (goes rules ts m.state (node (Tm m.terminal) m.met.arguments)) here
        ∙ no_child m.state m.terminal m.number m.met.arguments (drop (at + 1) path) m.goes_on.0
        (met_sorted m.used m.state (node (Tm m.terminal) m.met.arguments) (take at path) m.met.reached) m.goes_on.1 m.no_child)

    -- two such are one
    record AreOne (used n at i q p a b : ℕ) : Type 0 where
      pub steps : used ≡ n
      pub children : at ≡ i
      pub states : q ≡ p
      pub terminals : a ≡ b

    same_config : (used n at i q p a b : ℕ) (us vs : Trees Head) → IsLast used at q a us → IsLast n i p b vs → used ≤ n → AreOne used n at i q p a b
    same_config used n at i q p a b us vs l m le =
        let r = last rules ts used n (config 0 start path) (config q (node (Tm a) us) (drop at path)) (config p (node (Tm b) vs) (drop i path)) l.there l.final m.there le in
        let terms : node (Tm a) us ≡ node (Tm b) vs = ap (λ (c : Config). c.term) r.1 in
        record {
          steps = r.0;
          children = omega (arith, ap (λ (c : Config). length c.left) r.1, length-drop at path, length-drop i path, l.on_path, m.on_path);
          states = ap (λ (c : Config). c.state) r.1;
          terminals = cc;
        }

    one : (used n at i q p a b : ℕ) (us vs : Trees Head) → IsLast used at q a us → IsLast n i p b vs → AreOne used n at i q p a b
    one used n at i q p a b us vs l m = elim (cases_lt used n) [
      | inl lt ↦ same_config used n at i q p a b us vs l m (omega arith)
      | inr le ↦ let r = same_config n used i at p q b a vs us m l le in record { steps = sym r.steps; children = sym r.children; states = sym r.states; terminals = sym r.terminals }
    ]

    module _ (steps : ℕ) where
      has_none : (used n at i q p a b : ℕ) → AreOne used n at i q p a b → next ts q a ≡ None → HasTransition ts p b → ⊥
      has_none used n at i q p a b same e (to, f) = none_some to (sym ((λ k. next ts (sym same.states k) (sym same.terminals k)) ∙ e) ∙ f)
        where
          none_some : (x : List ℕ) → None ≡ Some x → ⊥
          none_some x h = (cc)

      within : (at : ℕ) (m : IsOffPath s path steps at) → at ≡ length path → ⊥
      within at m e = absurd (omega (arith, slice_get_within path at m.number m.next))

      pub same_answer : (r other : Replay) → MeetsAlong s path steps r → MeetsAlong s path steps other → r ≡ other
      same_answer Runs other h k = absurd h
      same_answer (Stuck a q at used) Runs h k = absurd k
      same_answer (Ended used) Runs h k = absurd k
      same_answer (NoChild at) Runs h k = absurd k
      same_answer (Stuck a q at used) (Stuck b p i n) (m, e) (l, f) =
          let r = one used n at i q p a b m.arguments l.arguments (stuck_last steps at used q a m e) (stuck_last steps i n p b l f) in
          λ j. Stuck (r.terminals j) (r.states j) (r.children j) (r.steps j)
      same_answer (Stuck a q at used) (Ended n) (m, e) k =
          absurd (has_none used n at (length path) q k.state a k.terminal (one used n at (length path) q k.state a k.terminal m.arguments k.met.arguments (stuck_last steps at used q a m e) (end_last steps n k)) e k.goes_on)
      same_answer (Stuck a q at used) (NoChild i) (m, e) k =
          absurd (has_none used k.used at i q k.state a k.terminal (one used k.used at i q k.state a k.terminal m.arguments k.met.arguments (stuck_last steps at used q a m e) (off_last steps i k)) e k.goes_on)
      same_answer (Ended n) (Stuck a q at used) k (m, e) =
          absurd (has_none used n at (length path) q k.state a k.terminal (one used n at (length path) q k.state a k.terminal m.arguments k.met.arguments (stuck_last steps at used q a m e) (end_last steps n k)) e k.goes_on)
      same_answer (NoChild i) (Stuck a q at used) k (m, e) =
          absurd (has_none used k.used at i q k.state a k.terminal (one used k.used at i q k.state a k.terminal m.arguments k.met.arguments (stuck_last steps at used q a m e) (off_last steps i k)) e k.goes_on)
      same_answer (Ended used) (Ended n) h k =
          ap (λ j. Ended j) (one used n (length path) (length path) h.state k.state h.terminal k.terminal h.met.arguments k.met.arguments (end_last steps used h) (end_last steps n k)).steps
      same_answer (NoChild at) (NoChild i) h k =
          ap (λ j. NoChild j) (one h.used k.used at i h.state k.state h.terminal k.terminal h.met.arguments k.met.arguments (off_last steps at h) (off_last steps i k)).children
      same_answer (Ended n) (NoChild i) h k =
          absurd (within i k (sym (one n k.used (length path) i h.state k.state h.terminal k.terminal h.met.arguments k.met.arguments (end_last steps n h) (off_last steps i k)).children))
      same_answer (NoChild i) (Ended n) k h =
          absurd (within i k (sym (one n k.used (length path) i h.state k.state h.terminal k.terminal h.met.arguments k.met.arguments (end_last steps n h) (off_last steps i k)).children))

      -- an answer is met, or nothing is
      kind : (r : Replay) → IsReplayAnswer s path steps r → MeetsAlong s path steps r ⊎ ((r ≡ Runs) × ((met : Replay) → MeetsAlong s path steps met → ⊥))
      kind (Stuck a q at used) h = inl h
      kind (Ended used) h = inl h
      kind (NoChild at) h = inl h
      kind Runs h = inr (refl, h)

      pub one_answer : (r other : Replay) → IsReplayAnswer s path steps r → IsReplayAnswer s path steps other → r ≡ other
      one_answer r other h k = elim (kind r h) [
        | inl m ↦ elim (kind other k) [ inl l ↦ same_answer r other m l | inr (e, nothing) ↦ absurd (nothing r m) ]
        | inr (e, nothing) ↦ elim (kind other k) [ inl l ↦ absurd (nothing other l) | inr (f, z) ↦ e ∙ sym f ]
      ]

      pub exactly : (r : Replay) → IsReplayAnswer s path steps r → (answer : Replay) → (r ≡ answer) ↔ IsReplayAnswer s path steps answer
      exactly r h answer = (λ e. along (λ (x : Replay). IsReplayAnswer s path steps x) e h, one_answer r answer h)

      pub met_answer : (r : Replay) → MeetsAlong s path steps r → IsReplayAnswer s path steps r
      met_answer (Stuck a q at used) h = h
      met_answer (Ended used) h = h
      met_answer (NoChild at) h = h
      met_answer Runs h = absurd h

      -- what is met is a last terminal
      record MeetsLast : Type 0 where
        pub used : ℕ
        pub at : ℕ
        pub state : ℕ
        pub terminal : ℕ
        pub arguments : Trees Head
        pub in_time : used ≤ steps
        pub is : IsLast used at state terminal arguments

      meets_last : (r : Replay) → MeetsAlong s path steps r → MeetsLast
      meets_last (Stuck a q at used) (m, e) = record { used = used; at = at; state = q; terminal = a; arguments = m.arguments; in_time = m.in_time; is = stuck_last steps at used q a m e }
      meets_last (Ended used) m =
          record { used = used; at = length path; state = m.state; terminal = m.terminal; arguments = m.met.arguments; in_time = m.met.in_time; is = end_last steps used m }
      meets_last (NoChild at) m =
          record { used = m.used; at = at; state = m.state; terminal = m.terminal; arguments = m.met.arguments; in_time = m.met.in_time; is = off_last steps at m }
      meets_last Runs h = absurd h

      -- nothing is met where a term without a step and without a terminal in front is reached, or one after more steps
      pub nothing_at_rest : (used at q : ℕ) (t : Tree Head) → ReachesByChildren rules ts used 0 start (take at path) q t → HasNoStep s q t → (r : Replay) → MeetsAlong s path steps r → ⊥
      nothing_at_rest used at q t reached rests r h =
          let m = meets_last r h in
          let here = walked rules ts used 0 q at start t path reached in
          let from : Config = config 0 start path in
          let there : Config = config m.state (node (Tm m.terminal) m.arguments) (drop m.at path) in
          let stops = stops_without_step rules ts q t (drop at path) rests.no_terminal rests.no_step in
          elim (cases_lt used m.used) [
            | inl lt ↦ absurd (rests.no_terminal m.terminal m.arguments (ap (λ (c : Config). c.term) (last rules ts used m.used from (config q t (drop at path)) there here stops m.is.there (omega arith)).1))
            | inr le ↦ absurd (rests.no_terminal m.terminal m.arguments (sym (ap (λ (c : Config). c.term) (last rules ts m.used used from there (config q t (drop at path)) m.is.there m.is.final here le).1)))
          ]

      pub nothing_in_time : (used at q : ℕ) (t : Tree Head) → ReachesByChildren rules ts used 0 start (take at path) q t → steps < used → (r : Replay) → MeetsAlong s path steps r → ⊥
      nothing_in_time used at q t reached late r h =
          let m = meets_last r h in
          let same : m.used ≡ used =
          (last rules ts m.used used (config 0 start path) (config m.state (node (Tm m.terminal) m.arguments) (drop m.at path)) (config q t (drop at path)) m.is.there m.is.final
          (walked rules ts used 0 q at start t path reached) (omega (arith, m.in_time))).0 in
          absurd (omega (arith, m.in_time))

    -- one more step along the path
    numbers_on : (at at' : ℕ) (trail label : Path) → child_numbers trail ≡ take at path → take at' path ≡ take at path ++ child_numbers label → child_numbers (trail ++ label) ≡ take at' path
    numbers_on at at' trail label numbers e =
        map-append (λ (x : ℕ × ℕ). x.1) trail label ∙ (ap (λ cs. cs ++ child_numbers label) numbers ∙ sym e)

    pub by_children : (trail : Path) (progress : Progress) (t : Tree Head) → IsReached s path trail progress t → ReachesByChildren rules ts progress.used 0 start (take progress.at path) progress.state t
    by_children trail progress t is = (trail, is.numbers, is.reached)

    -- what is met at a progress
    module _ (trail : Path) (progress : Progress) (t : Tree Head) (a : ℕ) (is : IsReached s path trail progress t) (front : head_of t ≡ Tm a) where
      pub fronted : t ≡ node (Tm a) (forest (arguments_of t))
      fronted = sym (whole t) ∙ ap (λ h. node h (forest (arguments_of t))) front

      reached_front : Reaches rules ts progress.used 0 start trail progress.state (node (Tm a) (forest (arguments_of t)))
      reached_front = along (λ (u : Tree Head). Reaches rules ts progress.used 0 start trail progress.state u) fronted is.reached

      in_front : ReachesByChildren rules ts progress.used 0 start (take progress.at path) progress.state (node (Tm a) (forest (arguments_of t)))
      in_front = (trail, is.numbers, reached_front)

      -- without transition the path fails there
      pub fails_at : next ts progress.state a ≡ None
          → IsFailingPath rules ts (record { steps = trail; last = a; state = progress.state; used = progress.used }) × (child_numbers trail ≡ take progress.at path)
      fails_at e = (record { arguments = forest (arguments_of t); reaches = reached_front; stuck = e }, is.numbers)

      met_at : (steps : ℕ) → progress.used ≤ steps → IsMet s path steps progress.at progress.used progress.state a
      met_at steps le = record { in_time = le; on_path = is.on_path; arguments = forest (arguments_of t); reached = in_front }

      pub stuck_at : next ts progress.state a ≡ None → (steps : ℕ) → progress.used ≤ steps → MeetsAlong s path steps (Stuck a progress.state progress.at progress.used)
      stuck_at e steps le = (met_at steps le, e)

      pub ends_at : (steps : ℕ) (to : List ℕ) → progress.used ≤ steps → length path ≤ progress.at → next ts progress.state a ≡ Some to → IsEndOfPath s path steps progress.used
      ends_at steps to le over e =
          let all : progress.at ≡ length path = omega (arith, is.on_path) in
          record { state = progress.state; terminal = a; met = along (λ i. IsMet s path steps i progress.used progress.state a) all (met_at steps le); goes_on = (to, e) }

      front_sorted : IsTreeTerm sorts (node (Tm a) (forest (arguments_of t)))
      front_sorted = met_sorted progress.used progress.state (node (Tm a) (forest (arguments_of t))) (take progress.at path) in_front

      own_arguments : children (forest (arguments_of t)) ≡ arguments_of t
      own_arguments = children-forest (arguments_of t)

      module _ (trees : List (Tree Head)) (places : List ℕ) (named : NamesTerms trees places (arguments_of t)) (to : List ℕ) (e : next ts progress.state a ≡ Some to) (c : ℕ) (at : slice_get path progress.at ≡ Some c) where
        as_many_places : length places ≡ length (arguments_of t)
        as_many_places = sym (length-map places (term_at trees)) ∙ ap length named.terms

        pub off_at : (steps : ℕ) → progress.used ≤ steps → (c ≡ 0) ⊎ (length places < c) ⊎ (length to < c) → IsOffPath s path steps progress.at
        off_at steps le h = record {
          used = progress.used;
          state = progress.state;
          terminal = a;
          met = met_at steps le;
          goes_on = (to, e);
          number = c;
          next = at;
          no_child = number_of_no_child progress.state a c (forest (arguments_of t)) to (length places) e front_sorted (as_many_places ∙ ap length (sym own_arguments)) h;
        }

        pub child_within : (i place : ℕ) → slice_get places i ≡ Some place → place < length trees
        child_within i place there =
            let lt : i < length places = slice_get_within places i place there in
            along (λ j. j < length trees) (get_or_from_slice_get places i place 0 there) (named.within i 0 lt)

        child_term : (i place : ℕ) → slice_get places i ≡ Some place → slice_get (children (forest (arguments_of t))) i ≡ Some (term_at trees place)
        child_term i place there =
            ap (λ us. slice_get us i) (own_arguments ∙ sym named.terms) ∙ (slice_get-map (term_at trees) places i ∙ ap (option_map (term_at trees)) there)

        pub step_down : (i place q : ℕ) → c ≡ i + 1 → slice_get places i ≡ Some place → slice_get to i ≡ Some q → StepsTo rules ts progress.state t ((a, c) ∷ []) q (term_at trees place)
        step_down i place q is_number there in_state =
            along (λ (u : Tree Head). StepsTo rules ts progress.state u ((a, c) ∷ []) q (term_at trees place)) (sym fronted)
            (to, e, record { place = i; labelled = ap (λ k. (a, k) ∷ []) is_number; state = in_state; term = child_term i place there })

        pub goes_down : (i place q : ℕ) → c ≡ i + 1 → slice_get places i ≡ Some place → slice_get to i ≡ Some q
            → IsReached s path (trail ++ (a, c) ∷ []) (record { place = place; state = q; at = progress.at + 1; used = progress.used + 1 }) (term_at trees place)
        goes_down i place q is_number there in_state =
            let lt : progress.at < length path = slice_get_within path progress.at c at in
            let numbers : take (progress.at + 1) path ≡ take progress.at path ++ c ∷ [] =
            take_more path progress.at c lt ∙ ap (λ k. take progress.at path ++ k ∷ []) (get_or_from_slice_get path progress.at c c at) in
            record {
              on_path = omega arith;
              numbers = numbers_on progress.at (progress.at + 1) trail ((a, c) ∷ []) is.numbers numbers;
              reached = one_more rules ts progress.used 0 progress.state q start t (term_at trees place) trail ((a, c) ∷ []) is.reached (step_down i place q is_number there in_state);
            }

    -- a replacement in front
    pub step_replaced : (q f : ℕ) (t u : Tree Head) → head_of t ≡ Nt f → unfolded rules f (arguments_of t) ≡ Some u → StepsTo rules ts q t [] q u
    step_replaced q f t u front e =
        let fronted : node (Nt f) (forest (arguments_of t)) ≡ t = sym (ap (λ h. node h (forest (arguments_of t))) front) ∙ whole t in
        let goes_to : unfolded rules f (children (forest (arguments_of t))) ≡ Some u = ap (unfolded rules f) (children-forest (arguments_of t)) ∙ e in
        along (λ (v : Tree Head). StepsTo rules ts q v [] q u) fronted (refl, refl, goes_to)

    pub replaces : (trail : Path) (progress : Progress) (t u : Tree Head) (f place : ℕ) → IsReached s path trail progress t → head_of t ≡ Nt f → unfolded rules f (arguments_of t) ≡ Some u
        → IsReached s path (trail ++ []) (record { place = place; state = progress.state; at = progress.at; used = progress.used + 1 }) u
    replaces trail progress t u f place is front e =
        record {
          on_path = is.on_path;
          numbers = numbers_on progress.at progress.at trail [] is.numbers (sym (append-nil (take progress.at path)));
          reached = one_more rules ts progress.used 0 progress.state progress.state start t u trail [] is.reached (step_replaced progress.state f t u front e);
        }
