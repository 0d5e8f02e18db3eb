-- The canonical file of a scheme is spelled by the pieces of the file that it was resolved from.
use Rattle.std.proofs.Common.{◌≡◌, refl, sym, ◌∙◌, ap, subst, ℕ, suc, ◌+◌, true, false, not, ◌&&◌, cond, List, [], ◌∷◌, ◌++◌, map, codes, slice_get, Some, None, unwrap_or, is_some, append_assoc, arith}
use Rattle.std.specs.List.{flat_map, enumerate_from, AllByRecursion}
use Rattle.std.specs.Option.{option_map_or}
use Rattle.std.specs.Str.{bytes_eq}
use Rattle.hs_scheme.specs.declared.term.Head.{Head}
use Rattle.hs_scheme.specs.declared.term.Head.TheVariants.{Var, Nt, Tm}
use Rattle.hs_scheme.specs.declared.term.Rule.{Rule as NumberedRule}
use Rattle.hs_scheme.specs.Tree.{Tree, Trees, node, none, more}
use Rattle.hs_scheme.specs.Names.{NamesData}
use Rattle.hs_reader.specs.declared.raw.RawName.{RawName}
use Rattle.hs_reader.specs.Raw.{Rule, Transition, File}
use Rattle.hs_reader.specs.Tokens.{Piece, blank, token, arrow, dot}
use Rattle.hs_reader.specs.Grammar.{begins_upper}
use Rattle.hs_reader.specs.Limits.{term_names, terms_names, IsRaw}
use Rattle.hs_resolve.specs.Names.{texts, is_among, number_of, number}
use Rattle.hs_resolve.specs.Numbering.{left_names, terminal_names, state_names, head_of, numbered, numbered_each, rule_of, transition_of, unsorted_of}
use Rattle.hs_resolve.specs.Answer.{IsFaultless}
use Rattle.hs_resolve.proofs.Lists.{at_map, is_some-position}
use Rattle.hs_resolve.proofs.Distinct.{same}
use Rattle.hs_resolve.proofs.Members.{all-same, all-append, position-at, number-name}
use Rattle.hs_resolve.proofs.Sound.{left-defined, body-terminal, transition-terminal, from-among, to-among}
use Rattle.hs_text.specs.Canonical.{name_at, params_at, head_text, opening, closing, term_text, args_text, params_text, rule_text, rules_text, states_text, transition_text, canonical}
use Rattle.hs_app.proofs.Pieces.{opened, closed, term_pieces, args_pieces, params_pieces, rule_pieces, rules_pieces, each_state, states_pieces, transition_pieces, transitions_pieces, end_pieces, middle_pieces, file_pieces, spelled}

module _ (ns : NamesData) (ps : List (List ℕ)) (head : RawName → Head) where
  -- the head of a name is written as the name
  abbrev IsWrittenAsNamed : RawName → Type 0
  IsWrittenAsNamed n = head_text ns ps (head n) ≡ n.text

  opening-spelled : (t : Tree RawName) (after : List Piece) → opening (numbered head t) ++ spelled after ≡ spelled (blank 32 ∷ opened t after)
  opening-spelled (node n none) after = refl
  opening-spelled (node n (more t ts)) after = refl

  closing-spelled : (t : Tree RawName) (after : List Piece) → closing (numbered head t) ++ spelled after ≡ spelled (closed t after)
  closing-spelled (node n none) after = refl
  closing-spelled (node n (more t ts)) after = refl

  mutual
    term-spelled : (t : Tree RawName) (after : List Piece) → AllByRecursion IsWrittenAsNamed (term_names t) → term_text ns ps (numbered head t) ++ spelled after ≡ spelled (term_pieces t after)
    term-spelled (node n args) after are =
        append_assoc (head_text ns ps (head n)) (args_text ns ps (numbered_each head args)) (spelled after)
        ∙ (λ i. are.0 i ++ args-spelled args after are.1 i)

    args-spelled : (ts : Trees RawName) (after : List Piece) → AllByRecursion IsWrittenAsNamed (terms_names ts) → args_text ns ps (numbered_each head ts) ++ spelled after ≡ spelled (args_pieces ts after)
    args-spelled none after are = refl
    args-spelled (more t ts) after are =
        let parts = all-append IsWrittenAsNamed (term_names t) (terms_names ts) are in
        let own = numbered head t in
        let rest = args_pieces ts after in
        append_assoc (opening own ++ (term_text ns ps own ++ closing own)) (args_text ns ps (numbered_each head ts)) (spelled after)
        ∙ (ap (λ r. (opening own ++ (term_text ns ps own ++ closing own)) ++ r) (args-spelled ts after parts.1)
        ∙ (append_assoc (opening own) (term_text ns ps own ++ closing own) (spelled rest)
        ∙ (ap (λ r. opening own ++ r) (append_assoc (term_text ns ps own) (closing own) (spelled rest)
        ∙ (ap (λ r. term_text ns ps own ++ r) (closing-spelled t rest) ∙ term-spelled t (closed t rest) parts.0))
        ∙ opening-spelled t (term_pieces t (closed t rest)))))

params-spelled : (qs : List RawName) (after : List Piece) → params_text (texts qs) ++ spelled after ≡ spelled (params_pieces qs after)
params-spelled [] after = refl
params-spelled (q ∷ qs) after =
    append_assoc (q.text ++ codes " ") (params_text (texts qs)) (spelled after)
    ∙ (append_assoc q.text (codes " ") (params_text (texts qs) ++ spelled after) ∙ ap (λ r. q.text ++ (codes " " ++ r)) (params-spelled qs after))

states-spelled : (ns : NamesData) (number : RawName → ℕ) (qs : List RawName) (after : List Piece) → AllByRecursion (λ q. name_at ns.states (number q) ≡ q.text) qs
    → states_text ns (map number qs) ++ spelled after ≡ spelled (states_pieces qs after)
states-spelled ns number [] after are = refl
states-spelled ns number (q ∷ qs) after are = each (q ∷ qs) are
  where
    each : (us : List RawName) → AllByRecursion (λ u. name_at ns.states (number u) ≡ u.text) us → flat_map (λ p. codes " " ++ name_at ns.states p) (map number us) ++ spelled after ≡ spelled (each_state us after)
    each [] h = refl
    each (u ∷ us) h =
        append_assoc (codes " " ++ name_at ns.states (number u)) (flat_map (λ p. codes " " ++ name_at ns.states p) (map number us)) (spelled after)
        ∙ (append_assoc (codes " ") (name_at ns.states (number u)) (flat_map (λ p. codes " " ++ name_at ns.states p) (map number us) ++ spelled after)
        ∙ (λ i. codes " " ++ (h.0 i ++ each us h.1 i)))

-- one item after another, each spelled by its own pieces
rules-from : (f : ℕ → NumberedRule → List ℕ) (make : Rule → NumberedRule) (k : ℕ) (rs : List Rule)
    → ((i : ℕ) (r : Rule) → slice_get rs i ≡ Some r → (after : List Piece) → f (k + i) (make r) ++ spelled after ≡ spelled (rule_pieces r after))
    → (after : List Piece) → flat_map (λ (p : ℕ × NumberedRule). f p.0 p.1) (enumerate_from k (map make rs)) ++ spelled after ≡ spelled (rules_pieces rs after)
rules-from f make k [] h after = refl
rules-from f make k (r ∷ rs) h after =
    let rest = flat_map (λ (p : ℕ × NumberedRule). f p.0 p.1) (enumerate_from (k + 1) (map make rs)) in
    let here : k + 0 ≡ k = omega arith in
    append_assoc (f k (make r)) rest (spelled after)
    ∙ (ap (λ t. f k (make r) ++ t) (rules-from f make (k + 1) rs (λ i s at more_pieces.
    let e : k + suc i ≡ k + 1 + i = omega arith in subst (λ n. f n (make s) ++ spelled more_pieces ≡ spelled (rule_pieces s more_pieces)) e (h (suc i) s at more_pieces)) after)
    ∙ subst (λ n. f n (make r) ++ spelled (rules_pieces rs after) ≡ spelled (rule_pieces r (rules_pieces rs after))) here (h 0 r refl (rules_pieces rs after)))

transitions-from : {A : Type 0} (f : A → List ℕ) (make : Transition → A) (ts : List Transition)
    → ((i : ℕ) (t : Transition) → slice_get ts i ≡ Some t → (after : List Piece) → f (make t) ++ spelled after ≡ spelled (transition_pieces t after))
    → (after : List Piece) → flat_map f (map make ts) ++ spelled after ≡ spelled (transitions_pieces ts after)
transitions-from f make [] h after = refl
transitions-from f make (t ∷ ts) h after =
    append_assoc (f (make t)) (flat_map f (map make ts)) (spelled after)
    ∙ (ap (λ r. f (make t) ++ r) (transitions-from f make ts (λ i u at. h (suc i) u at) after) ∙ h 0 t refl (transitions_pieces ts after))

name-of : (names : List (List ℕ)) (n : ℕ) (x : List ℕ) → slice_get names n ≡ Some x → name_at names n ≡ x
name-of names n x h = ap (λ o. unwrap_or o []) h

module _ (raw : File) (inside : IsRaw raw) (clean : IsFaultless raw) where
  head-named : (i k : ℕ) (r : Rule) (n : RawName) → slice_get raw.rules i ≡ Some r → slice_get (term_names r.body) k ≡ Some n
      → head_text (unsorted_of raw).names (texts r.params) (head_of (left_names raw) (texts r.params) (terminal_names raw) n) ≡ n.text
  head-named i k r n at at_name =
      let ns = (unsorted_of raw).names in
      let ps = texts r.params in
      elim (begins_upper n.text) as (λ b. begins_upper n.text ≡ b → head_text ns ps (cond b (Nt (number (left_names raw) n.text)) (option_map_or Var (number_of ps n.text) (Tm (number (terminal_names raw) n.text)))) ≡ n.text) [
        | true ↦ λ e. name-of (left_names raw) (number (left_names raw) n.text) n.text (number-name (left_names raw) n.text (left-defined raw inside clean i k r n at at_name e))
        | false ↦ λ e. elim (number_of ps n.text) as (λ o. number_of ps n.text ≡ o → head_text ns ps (option_map_or Var o (Tm (number (terminal_names raw) n.text))) ≡ n.text) [
          | Some j ↦ λ f. let found = position-at (bytes_eq n.text) ps j f in name-of ps j found.0 found.1.0 ∙ sym (same n.text found.0 found.1.1)
          | None ↦ λ f.
              let absent : is_among ps n.text ≡ false = sym (is_some-position (bytes_eq n.text) ps) ∙ ap is_some f in
              name-of (terminal_names raw) (number (terminal_names raw) n.text) n.text
              (number-name (terminal_names raw) n.text (body-terminal raw inside clean i k r n at at_name (λ j. not (e j) && not (absent j))))
        ] refl
      ] refl

  rule-spelled : (i : ℕ) (r : Rule) → slice_get raw.rules i ≡ Some r → (after : List Piece)
      → rule_text (unsorted_of raw).names i (params_at (unsorted_of raw).names.params i) (rule_of (left_names raw) (terminal_names raw) r) ++ spelled after ≡ spelled (rule_pieces r after)
  rule-spelled i r at after =
      let ns = (unsorted_of raw).names in
      let ps = texts r.params in
      let head = head_of (left_names raw) ps (terminal_names raw) in
      let end = token dot ∷ (blank 10 ∷ after) in
      let body = term_text ns ps (numbered head r.body) in
      let first : name_at ns.rules i ≡ r.name.text =
      name-of (left_names raw) i r.name.text (at_map (λ (n : RawName). n.text) (map (λ (s : Rule). s.name) raw.rules) i r.name (at_map (λ (s : Rule). s.name) raw.rules i r at)) in
      let params : params_at ns.params i ≡ ps = ap (λ o. unwrap_or o []) (at_map (λ (s : Rule). texts s.params) raw.rules i r at) in
      let written : (body ++ codes ".\n") ++ spelled after ≡ spelled (term_pieces r.body end) =
      append_assoc body (codes ".\n") (spelled after)
      ∙ term-spelled ns ps head r.body end (all-same (IsWrittenAsNamed ns ps head) (term_names r.body) (λ k n at_name. head-named i k r n at at_name)) in
      let rest = token arrow ∷ (blank 32 ∷ term_pieces r.body end) in
      ap (λ qs. rule_text ns i qs (rule_of (left_names raw) (terminal_names raw) r) ++ spelled after) params
      ∙ (append_assoc (name_at ns.rules i) (codes " " ++ (params_text ps ++ (codes "-> " ++ (body ++ codes ".\n")))) (spelled after)
      ∙ (λ j. first j ++ (codes " " ++ (append_assoc (params_text ps) (codes "-> " ++ (body ++ codes ".\n")) (spelled after)
      ∙ (ap (λ t. params_text ps ++ (codes "-> " ++ t)) written ∙ params-spelled r.params rest)) j)))

  transition-spelled : (i : ℕ) (t : Transition) → slice_get raw.transitions i ≡ Some t → (after : List Piece)
      → transition_text (unsorted_of raw).names (transition_of (state_names raw) (terminal_names raw) t) ++ spelled after ≡ spelled (transition_pieces t after)
  transition-spelled i t at after =
      let ns = (unsorted_of raw).names in
      let states = state_names raw in
      let terminals = terminal_names raw in
      let end = token dot ∷ (blank 10 ∷ after) in
      let from : name_at states (number states t.from.text) ≡ t.from.text = name-of states (number states t.from.text) t.from.text (number-name states t.from.text (from-among raw inside clean i t at)) in
      let terminal : name_at terminals (number terminals t.terminal.text) ≡ t.terminal.text =
      name-of terminals (number terminals t.terminal.text) t.terminal.text (number-name terminals t.terminal.text (transition-terminal raw inside clean i t at)) in
      let to = states_text ns (map (λ q. number states q.text) t.to) in
      let written : (to ++ codes ".\n") ++ spelled after ≡ spelled (states_pieces t.to end) =
      append_assoc to (codes ".\n") (spelled after)
      ∙ states-spelled ns (λ q. number states q.text) t.to end (all-same (λ q. name_at states (number states q.text) ≡ q.text) t.to
      (λ k q at_state. name-of states (number states q.text) q.text (number-name states q.text (to-among raw inside clean i k t q at at_state)))) in
      append_assoc (name_at states (number states t.from.text)) (codes " " ++ (name_at terminals (number terminals t.terminal.text) ++ (codes " ->" ++ (to ++ codes ".\n")))) (spelled after)
      ∙ (λ j. from j ++ (codes " " ++ (append_assoc (name_at terminals (number terminals t.terminal.text)) (codes " ->" ++ (to ++ codes ".\n")) (spelled after)
      ∙ (λ k. terminal k ++ (codes " ->" ++ written k))) j))

  pub written : canonical (unsorted_of raw) ≡ spelled (file_pieces raw)
  written =
      let ns = (unsorted_of raw).names in
      let make = rule_of (left_names raw) (terminal_names raw) in
      let rules = rules_text ns (map make raw.rules) in
      let transitions = transitions-from (transition_text ns) (transition_of (state_names raw) (terminal_names raw)) raw.transitions transition-spelled end_pieces in
      let middle = middle_pieces (transitions_pieces raw.transitions end_pieces) in
      let zero_n = λ (i : ℕ). let e : 0 + i ≡ i = omega arith in e in
      let each = rules-from (λ n s. rule_text ns n (params_at ns.params n) s) make 0 raw.rules
      (λ i r at after. subst (λ n. rule_text ns n (params_at ns.params n) (make r) ++ spelled after ≡ spelled (rule_pieces r after)) (sym (zero_n i)) (rule-spelled i r at after)) middle in
      ap (λ t. codes "%BEGING\n" ++ t) (ap (λ t. rules ++ (codes "%ENDG\n%BEGINA\n" ++ t)) transitions ∙ each)
