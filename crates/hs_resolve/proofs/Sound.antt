-- What a file without faults stands for is a scheme with an automaton and names.
use Rattle.std.proofs.Common.{◌≡◌, refl, sym, ◌∙◌, ap, subst, ℕ, suc, ◌<◌, ◌≤◌, Bool, true, false, not, ◌||◌, ◌&&◌, cond, nat_eq, List, [], ◌∷◌, ◌++◌, length, map, slice_get, Option, Some, None, option_map, find, is_some, All, inl, inr, arith}
use Rattle.std.specs.List.{list_any, flat_map, AllByRecursion}
use Rattle.std.specs.Option.{option_map_or}
use Rattle.std.specs.Str.{bytes_eq}
use Rattle.std.proofs.lemmas.Bool.{cases_lt, eqb-true, eqb-false, or_left, or_right}
use Rattle.std.proofs.lemmas.List.Folds.{list_any-append}
use Rattle.std.proofs.lemmas.Option.{slice_get_within, slice_get-map, same_Some}
use Rattle.std.proofs.lemmas.List.{length-map}
use Rattle.std.proofs.lemmas.Map.Keys.{any_passes_from_place}
use Rattle.hs_scheme.specs.declared.term.Head.{Head}
use Rattle.hs_scheme.specs.declared.term.Head.TheVariants.{Var, Nt, Tm}
use Rattle.hs_scheme.specs.declared.term.Rule.{Rule as NumberedRule}
use Rattle.hs_scheme.specs.Tree.{Tree, Trees, node, none, more, children}
use Rattle.hs_scheme.specs.acceptance.Automaton.{IsAutomaton, IsDeterministic}
use Rattle.hs_scheme.specs.Scheme.{HeadInRange, TermInRange, TermsInRange, AreRules}
use Rattle.hs_scheme.specs.sorting.Unsorted.{UnsortedData, IsUnsorted, HasNames, AgreesWithRanks}
use Rattle.hs_scheme.proofs.TransitionLemmas.{mapped}
use Rattle.hs_scheme.proofs.Lists.{some_at}
use Rattle.hs_reader.specs.declared.raw.RawName.{RawName}
use Rattle.hs_reader.specs.Raw.{Rule, Transition, File}
use Rattle.hs_reader.specs.Limits.{IsRaw, term_names, terms_names, HasFewArguments, HaveFewArguments}
use Rattle.hs_reader.specs.Grammar.{begins_upper}
use Rattle.hs_resolve.specs.Names.{texts, is_among, number_of, number, distinct}
use Rattle.hs_resolve.specs.Numbering.{left, left_names, is_terminal, terminals_in, terminal_names, states_in, state_names, head_of, numbered, numbered_each, rule_of, transition_of, rank_of, unsorted_of}
use Rattle.hs_resolve.specs.LineFaults.{same_left}
use Rattle.hs_resolve.specs.Answer.{IsFaultless}
use Rattle.hs_resolve.specs.declared.resolving.Resolved.{Resolved}
use Rattle.hs_resolve.specs.Lengths.{length_of}
use Rattle.hs_resolve.specs.Tables.{scoped_rule, IsResolved, made_of}
use Rattle.hs_resolve.proofs.Lists.{at_map, is_some-position, map-map}
use Rattle.hs_resolve.proofs.Distinct.{same_self, among-distinct, distinct-le}
use Rattle.hs_resolve.proofs.Members.{all-map, all-same, all-append, map-same, any-before, any-filter, any-flat_map, position-at, number-name, number-within, apart-distinct, recursion-at, not-empty}

len-numbered : (head : RawName → Head) (ts : Trees RawName) → length (children (numbered_each head ts)) ≡ length (children ts)
len-numbered head none = refl
len-numbered head (more t ts) = ap suc (len-numbered head ts)

module _ (head : RawName → Head) (params rules terminals : ℕ) where
  abbrev InRange : RawName → Type 0
  InRange n = HeadInRange params rules terminals (head n)

  mutual
    term-in_range : (t : Tree RawName) → AllByRecursion InRange (term_names t) → HasFewArguments t → TermInRange params rules terminals (numbered head t)
    term-in_range (node n args) h few = (h.0, subst (λ k. k ≤ 64) (sym (len-numbered head args)) few.0, terms-in_range args h.1 few.1)

    terms-in_range : (ts : Trees RawName) → AllByRecursion InRange (terms_names ts) → HaveFewArguments ts → TermsInRange params rules terminals (numbered_each head ts)
    terms-in_range none h few = tt
    terms-in_range (more t ts) h few =
        let r = all-append InRange (term_names t) (terms_names ts) h in (term-in_range t r.0 few.0, terms-in_range ts r.1 few.1)

find-some : {A : Type 0} (p : A → Bool) (xs : List A) → list_any p xs ≡ true → (x : A) × (find p xs ≡ Some x)
find-some p [] h = absurd (cc)
find-some p (y ∷ ys) h =
    elim (p y) as (λ b. (b || list_any p ys) ≡ true → (x : _) × (cond b (Some y) (find p ys) ≡ Some x)) [
      | true ↦ λ e. (y, refl)
      | false ↦ λ e. find-some p ys e
    ] h

none_of : {A : Type 0} (xs : List A) → (0 < length xs → ⊥) → length xs ≡ 0
none_of [] h = refl
none_of (x ∷ xs) h = absurd (h (omega arith))

-- the parts of a scheme, as they are made of tables
pub record IsMadeOf (u : UnsortedData) (left terminals states : List (List ℕ)) (params : List (List (List ℕ))) (rank : List ℕ → Option ℕ) (raw : File) : Type 0 where
  pub rules_are : map (scoped_rule left terminals) raw.rules ≡ u.rules
  pub ranks_are : map rank terminals ≡ u.ranks
  pub states_are : length states ≡ u.automaton.states
  pub transitions_are : map (transition_of states terminals) raw.transitions ≡ u.automaton.transitions
  pub left_are : left ≡ u.names.rules
  pub params_are : params ≡ u.names.params

module _ (raw : File) (inside : IsRaw raw) (clean : IsFaultless raw) where
  -- the left names and the names of parameters stand once
  pub left-apart : distinct (left_names raw) ≡ left_names raw
  left-apart = apart-distinct (left raw) (λ line h. clean.lines line (inl h))

  pub params-apart : (i : ℕ) (r : Rule) → slice_get raw.rules i ≡ Some r → distinct (texts r.params) ≡ texts r.params
  params-apart i r at = apart-distinct r.params (λ line h. clean.lines line (inr (inl (record { place = i; item = r; at = at; holds = h }))))

  -- a terminal of a transition is among the terminals, and so is one of a body
  pub transition-terminal : (i : ℕ) (t : Transition) → slice_get raw.transitions i ≡ Some t → is_among (terminal_names raw) t.terminal.text ≡ true
  transition-terminal i t at =
      let bodies = flat_map terminals_in raw.rules in
      let ends = map (λ (u : Transition). u.terminal.text) raw.transitions in
      among-distinct (bodies ++ ends) t.terminal.text
      ∙ (list_any-append (bytes_eq t.terminal.text) bodies ends
      ∙ or_right (is_among bodies t.terminal.text) (is_among ends t.terminal.text)
      (any_passes_from_place (bytes_eq t.terminal.text) ends i t.terminal.text (at_map (λ (u : Transition). u.terminal.text) raw.transitions i t at) (same_self t.terminal.text)))

  pub body-terminal : (i k : ℕ) (r : Rule) (n : RawName) → slice_get raw.rules i ≡ Some r → slice_get (term_names r.body) k ≡ Some n → is_terminal (texts r.params) n.text ≡ true
      → is_among (terminal_names raw) n.text ≡ true
  body-terminal i k r n at at_name is =
      let bodies = flat_map terminals_in raw.rules in
      let ends = map (λ (u : Transition). u.terminal.text) raw.transitions in
      among-distinct (bodies ++ ends) n.text
      ∙ (list_any-append (bytes_eq n.text) bodies ends
      ∙ or_left (is_among bodies n.text) (is_among ends n.text)
      (any-flat_map (bytes_eq n.text) terminals_in raw.rules i r at
      (any-filter (bytes_eq n.text) (is_terminal (texts r.params)) (texts (term_names r.body)) k n.text (at_map (λ m. m.text) (term_names r.body) k n at_name) is (same_self n.text))))

  pub left-defined : (i k : ℕ) (r : Rule) (n : RawName) → slice_get raw.rules i ≡ Some r → slice_get (term_names r.body) k ≡ Some n → begins_upper n.text ≡ true → is_among (left_names raw) n.text ≡ true
  left-defined i k r n at at_name upper =
      elim (is_among (left_names raw) n.text) as (λ b. is_among (left_names raw) n.text ≡ b → b ≡ true) [
        | true ↦ λ e. refl
        | false ↦ λ e. absurd (clean.lines n.line (inr (inr (inl (record { place = i; item = r; at = at; holds = record { place = k; item = n; at = at_name; holds = (refl, upper, e) } })))))
      ] refl

  pub head-in_range : (i k : ℕ) (r : Rule) (n : RawName) → slice_get raw.rules i ≡ Some r → slice_get (term_names r.body) k ≡ Some n
      → HeadInRange (length r.params) (length raw.rules) (length (terminal_names raw)) (head_of (left_names raw) (texts r.params) (terminal_names raw) n)
  head-in_range i k r n at at_name =
      let Holds = HeadInRange (length r.params) (length raw.rules) (length (terminal_names raw)) in
      elim (begins_upper n.text) as (λ b. begins_upper n.text ≡ b → Holds (cond b (Nt (number (left_names raw) n.text)) (option_map_or Var (number_of (texts r.params) n.text) (Tm (number (terminal_names raw) n.text))))) [
        | true ↦ λ e.
            let within = number-within (left_names raw) n.text (left-defined i k r n at at_name e) in
            let len : length (left_names raw) ≡ length raw.rules = length-map (left raw) (λ m. m.text) ∙ length-map raw.rules (λ s. s.name) in
            subst (λ m. number (left_names raw) n.text < m) len within
        | false ↦ λ e. elim (number_of (texts r.params) n.text) as (λ o. number_of (texts r.params) n.text ≡ o → Holds (option_map_or Var o (Tm (number (terminal_names raw) n.text)))) [
          | Some j ↦ λ f.
              let found = position-at (bytes_eq n.text) (texts r.params) j f in
              subst (λ m. j < m) (length-map r.params (λ m. m.text)) (slice_get_within (texts r.params) j found.0 found.1.0)
          | None ↦ λ f.
              let absent : is_among (texts r.params) n.text ≡ false = sym (is_some-position (bytes_eq n.text) (texts r.params)) ∙ ap is_some f in
              number-within (terminal_names raw) n.text (body-terminal i k r n at at_name (λ j. not (e j) && not (absent j)))
        ] refl
      ] refl

  starts : (rule : NumberedRule) × ((slice_get (unsorted_of raw).rules 0 ≡ Some rule) × (rule.params ≡ 0))
  starts =
      let s = some_at raw.rules 0 (not-empty raw.rules inside.has_rule) in (
        rule_of (left_names raw) (terminal_names raw) s.0,
        (
          at_map (rule_of (left_names raw) (terminal_names raw)) raw.rules 0 s.0 s.1,
          none_of s.0.params (λ h. clean.lines s.0.name.line (inr (inr (inr (inl (s.0, s.1, refl, h)))))),
        ),
      )

  rules-are : AreRules (unsorted_of raw).rules (length (unsorted_of raw).ranks)
  rules-are =
      let make = rule_of (left_names raw) (terminal_names raw) in
      let ranks : length (map (rank_of raw.transitions) (terminal_names raw)) ≡ length (terminal_names raw) = length-map (terminal_names raw) (rank_of raw.transitions) in
      let rules : length (map make raw.rules) ≡ length raw.rules = length-map raw.rules make in
      record {
        start = starts;
        bodies = all-map (λ r. TermInRange r.params (length (map make raw.rules)) (length (map (rank_of raw.transitions) (terminal_names raw))) r.body) make raw.rules
            (λ i r at. subst (λ m. TermInRange (length r.params) m (length (map (rank_of raw.transitions) (terminal_names raw))) (make r).body) (sym rules)
            (subst (λ m. TermInRange (length r.params) (length raw.rules) m (make r).body) (sym ranks)
            (term-in_range (head_of (left_names raw) (texts r.params) (terminal_names raw)) (length r.params) (length raw.rules) (length (terminal_names raw)) r.body
            (all-same _ (term_names r.body) (λ k n at_name. head-in_range i k r n at at_name)) (few-of i r at))));
        few_rules = omega (arith, inside.within.rules);
        few_params = all-map (λ r. r.params ≤ 64) make raw.rules (λ i r at. few_params-of i r at);
      }
    where
      few-of : (i : ℕ) (r : Rule) → slice_get raw.rules i ≡ Some r → HasFewArguments r.body
      few-of i r at = recursion-at (λ s. HasFewArguments s.body) raw.rules i r at inside.within.arguments

      few_params-of : (i : ℕ) (r : Rule) → slice_get raw.rules i ≡ Some r → length r.params ≤ 64
      few_params-of i r at = recursion-at (λ s. length s.params ≤ 64) raw.rules i r at inside.within.parameters

  -- the first transition of a terminal is as long as each
  rank-known : (i : ℕ) (t : Transition) → slice_get raw.transitions i ≡ Some t → rank_of raw.transitions t.terminal.text ≡ Some (length t.to)
  rank-known i t at =
      let test = λ (u : Transition). bytes_eq t.terminal.text u.terminal.text in
      let first = find-some test raw.transitions (any_passes_from_place test raw.transitions i t at (same_self t.terminal.text)) in
      ap (option_map (λ u. length u.to)) first.1
      ∙ ap (λ m. Some m) (elim (nat_eq (length first.0.to) (length t.to)) as (λ b. nat_eq (length first.0.to) (length t.to) ≡ b → length first.0.to ≡ length t.to) [
        | true ↦ λ e. eqb-true _ _ e
        | false ↦ λ e. absurd (clean.lines t.from.line (inr (inr (inr (inr (inr (record { place = i; item = t; at = at; holds = (refl, first.0, first.1, eqb-false _ _ e) })))))))
      ] refl)

  agrees : AgreesWithRanks (unsorted_of raw).ranks (unsorted_of raw).automaton.transitions
  agrees =
      let make = transition_of (state_names raw) (terminal_names raw) in
      all-map (λ t. slice_get (map (rank_of raw.transitions) (terminal_names raw)) t.terminal ≡ Some (Some (length t.to))) make raw.transitions
      (λ i t at.
      at_map (rank_of raw.transitions) (terminal_names raw) (number (terminal_names raw) t.terminal.text) t.terminal.text
      (number-name (terminal_names raw) t.terminal.text (transition-terminal i t at))
      ∙ ap (λ o. Some o) (rank-known i t at ∙ ap (λ m. Some m) (sym (length-map t.to (λ q. number (state_names raw) q.text)))))

  named : HasNames (unsorted_of raw).names (unsorted_of raw).rules (length (unsorted_of raw).ranks) (unsorted_of raw).automaton.states
  named =
      let make = rule_of (left_names raw) (terminal_names raw) in
      record {
        each_rule = length-map (left raw) (λ n. n.text) ∙ (length-map raw.rules (λ r. r.name) ∙ sym (length-map raw.rules make));
        each_param = sym (map-map (λ ns. length ns) (λ r. texts r.params) raw.rules)
            ∙ (map-same (λ r. length (texts r.params)) (λ r. length r.params) raw.rules (λ i r at. length-map r.params (λ n. n.text)) ∙ map-map (λ r. r.params) make raw.rules);
        each_terminal = sym (length-map (terminal_names raw) (rank_of raw.transitions));
        each_state = refl;
      }

  pub is_unsorted : IsUnsorted (unsorted_of raw)
  is_unsorted = record { rules = rules-are; ranks = agrees; names = named }

  -- the states of a transition are among the states
  state-among : (i : ℕ) (t : Transition) (x : List ℕ) → slice_get raw.transitions i ≡ Some t → is_among (states_in t) x ≡ true → is_among (state_names raw) x ≡ true
  state-among i t x at h = among-distinct (flat_map states_in raw.transitions) x ∙ any-flat_map (bytes_eq x) states_in raw.transitions i t at h

  pub from-among : (i : ℕ) (t : Transition) → slice_get raw.transitions i ≡ Some t → is_among (state_names raw) t.from.text ≡ true
  from-among i t at = state-among i t t.from.text at (or_left (bytes_eq t.from.text t.from.text) (is_among (texts t.to) t.from.text) (same_self t.from.text))

  pub to-among : (i k : ℕ) (t : Transition) (q : RawName) → slice_get raw.transitions i ≡ Some t → slice_get t.to k ≡ Some q → is_among (state_names raw) q.text ≡ true
  to-among i k t q at at_state =
      state-among i t q.text at (or_right (bytes_eq q.text t.from.text) (is_among (texts t.to) q.text)
      (any_passes_from_place (bytes_eq q.text) (texts t.to) k q.text (at_map (λ m. m.text) t.to k q at_state) (same_self q.text)))

  -- equal numbers are those of equal names
  one-name : (names : List (List ℕ)) (x y : List ℕ) → is_among names x ≡ true → is_among names y ≡ true → number names x ≡ number names y → x ≡ y
  one-name names x y hx hy e = same_Some x y (sym (number-name names x hx) ∙ (ap (slice_get names) e ∙ number-name names y hy))

  not-later : (i j : ℕ) (s t : Transition) → slice_get raw.transitions i ≡ Some s → slice_get raw.transitions j ≡ Some t → s.from.text ≡ t.from.text → s.terminal.text ≡ t.terminal.text → i < j → ⊥
  not-later i j s t at_i at_j from terminal less =
      clean.lines t.from.line (inr (inr (inr (inr (inl (record {
        place = j;
        item = t;
        at = at_j;
        holds = (
          refl,
          any-before (same_left t) raw.transitions i j s at_i less
              (λ k. (ap (bytes_eq t.from.text) from ∙ same_self t.from.text) k && (ap (bytes_eq t.terminal.text) terminal ∙ same_self t.terminal.text) k),
        );
      }))))))

  deterministic : IsDeterministic (unsorted_of raw).automaton.transitions
  deterministic i j s t at_i at_j from terminal =
      let make = transition_of (state_names raw) (terminal_names raw) in
      let a = mapped make (slice_get raw.transitions i) s (sym (slice_get-map make raw.transitions i) ∙ at_i) in
      let b = mapped make (slice_get raw.transitions j) t (sym (slice_get-map make raw.transitions j) ∙ at_j) in
      let same_from : a.0.from.text ≡ b.0.from.text =
      one-name (state_names raw) a.0.from.text b.0.from.text (from-among i a.0 a.1.0) (from-among j b.0 b.1.0) (ap (λ u. u.from) a.1.1 ∙ (from ∙ sym (ap (λ u. u.from) b.1.1))) in
      let same_terminal : a.0.terminal.text ≡ b.0.terminal.text =
      one-name (terminal_names raw) a.0.terminal.text b.0.terminal.text (transition-terminal i a.0 a.1.0) (transition-terminal j b.0 b.1.0) (ap (λ u. u.terminal) a.1.1 ∙ (terminal ∙ sym (ap (λ u. u.terminal) b.1.1))) in
      elim (cases_lt i j) [
        | inl less ↦ absurd (not-later i j a.0 b.0 a.1.0 b.1.0 same_from same_terminal less)
        | inr at_least ↦ elim (cases_lt j i) [
          | inl less ↦ absurd (not-later j i b.0 a.0 b.1.0 a.1.0 (sym same_from) (sym same_terminal) less)
          | inr at_most ↦ omega arith
        ]
      ]

  has_state : 0 < length (state_names raw)
  has_state = go raw.transitions (not-empty raw.transitions inside.has_transition)
    where
      go : (ts : List Transition) → 0 < length ts → 0 < length (distinct (flat_map states_in ts))
      go [] h = absurd (omega arith)
      go (t ∷ ts) h = omega arith

  pub know_automaton : IsAutomaton (unsorted_of raw).automaton
  know_automaton =
      let make = transition_of (state_names raw) (terminal_names raw) in
      record {
        initial = has_state;
        from = all-map (λ t. t.from < length (state_names raw)) make raw.transitions (λ i t at. number-within (state_names raw) t.from.text (from-among i t at));
        to = all-map (λ t. All (λ q. q < length (state_names raw)) t.to) make raw.transitions
            (λ i t at. all-map (λ q. q < length (state_names raw)) (λ q. number (state_names raw) q.text) t.to (λ k q at_state. number-within (state_names raw) q.text (to-among i k t q at at_state)));
        deterministic = deterministic;
      }

  rules-same : map (scoped_rule (distinct (left_names raw)) (terminal_names raw)) raw.rules ≡ (unsorted_of raw).rules
  rules-same =
      map-same (scoped_rule (distinct (left_names raw)) (terminal_names raw)) (rule_of (left_names raw) (terminal_names raw)) raw.rules
      (λ i r at. λ j. record { params = length r.params; body = numbered (head_of (left-apart j) (params-apart i r at j) (terminal_names raw)) r.body })

  -- what is made of the tables
  pub made : (left terminals states : List (List ℕ)) (params : List (List (List ℕ))) (rank : List ℕ → Option ℕ) → left ≡ distinct (left_names raw)
      → params ≡ map (λ r. distinct (texts r.params)) raw.rules → terminals ≡ terminal_names raw → states ≡ state_names raw → ((x : List ℕ) → rank x ≡ rank_of raw.transitions x)
      → IsMadeOf (unsorted_of raw) left terminals states params rank raw
  made left terminals states params rank l p t s r = record {
    rules_are = (λ i. map (scoped_rule (l i) (t i)) raw.rules) ∙ rules-same;
    ranks_are = λ i. map (λ x. r x i) (t i);
    states_are = ap (λ ns. length ns) s;
    transitions_are = λ i. map (transition_of (s i) (t i)) raw.transitions;
    left_are = l ∙ left-apart;
    params_are = p ∙ map-same (λ r. distinct (texts r.params)) (λ r. texts r.params) raw.rules params-apart;
  }

pub left-few : (raw : File) → IsRaw raw → length (distinct (left_names raw)) ≤ 20000
left-few raw inside =
    omega (arith, distinct-le (left_names raw), length-map (left raw) (λ (n : RawName). n.text), length-map raw.rules (λ (r : Rule). r.name), inside.within.rules)

-- a file without faults stands for what was made of its numbers
pub made-is : (raw : File) (r : Resolved) → IsResolved raw r → IsFaultless raw → made_of r.tables r.numbered ≡ unsorted_of raw
made-is raw r is clean =
    let t = r.tables in
    let inside = is.numbered.inside in
    let m = made raw inside clean t.left t.terminals t.states t.params.items (length_of t.lengths) is.tables.left is.tables.params is.tables.terminals is.tables.states is.tables.lengths in
    let rules = is.numbered.rules ∙ ((λ i. map (scoped_rule (sym is.tables.left i) (sym is.tables.terminals i)) raw.rules) ∙ m.rules_are) in
    let transitions = is.numbered.transitions ∙ ((λ i. map (transition_of (sym is.tables.states i) (sym is.tables.terminals i)) raw.transitions) ∙ m.transitions_are) in
    λ i. record {
      rules = rules i;
      ranks = m.ranks_are i;
      automaton = record { states = m.states_are i; transitions = transitions i };
      names = record { rules = m.left_are i; params = m.params_are i; terminals = is.tables.terminals i; states = is.tables.states i };
    }
