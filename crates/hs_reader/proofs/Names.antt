-- The names of a file are the words of its tokens.
use Rattle.std.proofs.Common.{◌+◌, ◌≡◌, ◌≢◌, ℕ, ◌≤◌, List, [], ◌∷◌, ◌++◌, length, map, refl, sym, ap, ◌∙◌, inl, inr, ◌⊎◌, append_assoc, length-append, arith}
use Rattle.std.specs.List.{AllByRecursion, flat_map}
use Rattle.std.proofs.lemmas.List.{append-nil}
use Rattle.hs_scheme.specs.Tree.{Tree, Trees, node, none, more}
use Rattle.hs_reader.specs.declared.raw.RawName.{RawName}
use Rattle.hs_reader.specs.Raw.{Rule, Transition, File}
use Rattle.hs_reader.specs.Tokens.{IsName, Token, word, rules_end, automaton_begin, automaton_end, arrow, dot, right, end_of_file, bad, Piece, blank, comment, token, token_bytes, piece_bytes, line_ends, IsCut, Placed, placed}
use Rattle.hs_reader.specs.Faults.{kinds}
use Rattle.hs_reader.specs.Grammar.{with_last, applied_to, IsAtom, IsTerm, name, enclosed, first, then, IsRule, IsTransition, Sequence, IsFile}
use Rattle.hs_reader.specs.Limits.{term_names, terms_names, rule_names, transition_names, names}

abbrev pub words : List Token → List RawName
words [] = []
words (word n ∷ ts) = n ∷ words ts
words (t ∷ ts) = words ts

pub words_append : (ts us : List Token) → words (ts ++ us) ≡ words ts ++ words us
words_append [] us = refl
words_append (word n ∷ ts) us = ap (λ (w : List RawName). n ∷ w) (words_append ts us)
words_append (t ∷ ts) us = words_append ts us

words_map : (ns : List RawName) → words (map word ns) ≡ ns
words_map [] = refl
words_map (n ∷ ns) = ap (λ (w : List RawName). n ∷ w) (words_map ns)

last_names : (ts : Trees RawName) (x : Tree RawName) → terms_names (with_last ts x) ≡ terms_names ts ++ term_names x
last_names none x = append-nil (term_names x)
last_names (more t ts) x = ap (λ (w : List RawName). term_names t ++ w) (last_names ts x) ∙ sym (append_assoc (term_names t) (terms_names ts) (term_names x))

applied_names : (t u : Tree RawName) → term_names (applied_to t u) ≡ term_names t ++ term_names u
applied_names (node head args) u = ap (λ (w : List RawName). head ∷ w) (last_names args u)

-- words before a sign that is no word
words_before : (ts : List Token) (t : Token) → words (t ∷ []) ≡ [] → words (ts ++ t ∷ []) ≡ words ts
words_before ts t h = words_append ts (t ∷ []) ∙ ap (λ (w : List RawName). words ts ++ w) h ∙ append-nil (words ts)

mutual
  atom_words : {ts : List Token} {t : Tree RawName} → IsAtom ts t → words ts ≡ term_names t
  atom_words (name n) = refl
  atom_words (enclosed ts t inner) = words_before ts right refl ∙ term_words inner

  pub term_words : {ts : List Token} {t : Tree RawName} → IsTerm ts t → words ts ≡ term_names t
  term_words (first ts t atom) = atom_words atom
  term_words (then ts us t u function argument) =
      words_append ts us ∙ ap (λ (w : List RawName). w ++ words us) (term_words function) ∙ ap (λ (w : List RawName). term_names t ++ w) (atom_words argument) ∙ sym (applied_names t u)

rule_words : (ts : List Token) (r : Rule) → IsRule ts r → words ts ≡ rule_names r
rule_words ts r is =
    ap words is.are ∙ ap (λ (w : List RawName). r.name ∷ w)
    (words_append (map word r.params) (arrow ∷ (is.body_tokens ++ dot ∷ []))
    ∙ ap (λ (w : List RawName). w ++ words (is.body_tokens ++ dot ∷ [])) (words_map r.params)
    ∙ ap (λ (w : List RawName). r.params ++ w) (words_before is.body_tokens dot refl ∙ term_words is.body))

transition_words : (ts : List Token) (t : Transition) → IsTransition ts t → words ts ≡ transition_names t
transition_words ts t is =
    ap words is.are ∙ ap (λ (w : List RawName). t.from ∷ (t.terminal ∷ w)) (words_before (map word t.to) dot refl ∙ words_map t.to)

sequence_words : {A : Type 0} (Is : List Token → A → Type 0) (f : A → List RawName) → ((ts : List Token) (x : A) → Is ts x → words ts ≡ f x) → (xs : List A) (ts : List Token) → Sequence Is ts xs → words ts ≡ flat_map f xs
sequence_words Is f each [] ts h = ap words h
sequence_words Is f each (x ∷ xs) ts h =
    ap words h.2 ∙ words_append h.0 h.1 ∙ ap (λ (w : List RawName). w ++ words h.1) (each h.0 x h.3) ∙ ap (λ (w : List RawName). f x ++ w) (sequence_words Is f each xs h.1 h.4)

pub file_words : (ts : List Token) (f : File) → IsFile ts f → words ts ≡ names f
file_words ts f is =
    ap words is.are ∙ words_append is.rule_tokens (rules_end ∷ (automaton_begin ∷ (is.transition_tokens ++ (automaton_end ∷ (end_of_file ∷ [])))))
    ∙ ap (λ (w : List RawName). w ++ words (is.transition_tokens ++ (automaton_end ∷ (end_of_file ∷ [])))) (sequence_words IsRule rule_names rule_words f.rules is.rule_tokens is.rules)
    ∙ ap (λ (w : List RawName). flat_map rule_names f.rules ++ w)
    (words_append is.transition_tokens (automaton_end ∷ (end_of_file ∷ [])) ∙ append-nil (words is.transition_tokens) ∙ sequence_words IsTransition transition_names transition_words f.transitions is.transition_tokens is.transitions)

-- ---- names that were cut

pub cut_names : (pieces : List Piece) (line : ℕ) (bytes : List ℕ) (last : Token) → IsCut line bytes pieces last → AllByRecursion IsName (words (kinds (placed line pieces last)))
cut_names [] line bytes (word n) cut = absurd cut
cut_names [] line bytes last cut = tt
cut_names (blank b ∷ pieces) line bytes last cut = cut_names pieces (line + line_ends (b ∷ [])) cut.0 last cut.2
cut_names (comment text ∷ pieces) line bytes last cut = cut_names pieces (line + line_ends (piece_bytes (comment text))) cut.0 last cut.2
cut_names (token (word n) ∷ pieces) line bytes last cut = (cut.1.whole.0, cut_names pieces (line + line_ends n.text) cut.0 last cut.2)
cut_names (token t ∷ pieces) line bytes last cut = cut_names pieces (line + line_ends (token_bytes t)) cut.0 last cut.2

some_length : (w : List ℕ) → w ≢ [] → 1 ≤ length w
some_length [] h = absurd (h refl)
some_length (b ∷ w) h = omega arith

pub cut_count : (pieces : List Piece) (line : ℕ) (bytes : List ℕ) (last : Token) → IsCut line bytes pieces last → length (words (kinds (placed line pieces last))) ≤ length bytes
cut_count [] line bytes (word n) cut = absurd cut
cut_count [] line bytes last cut = omega arith
cut_count (blank b ∷ pieces) line bytes last cut = omega (arith, cut_count pieces (line + line_ends (b ∷ [])) cut.0 last cut.2, ap length cut.1.spelled)
cut_count (comment text ∷ pieces) line bytes last cut = omega (arith, cut_count pieces (line + line_ends (piece_bytes (comment text))) cut.0 last cut.2, ap length cut.1.spelled, length-append (piece_bytes (comment text)) cut.0)
cut_count (token (word n) ∷ pieces) line bytes last cut = omega (arith, cut_count pieces (line + line_ends n.text) cut.0 last cut.2, some_length n.text cut.1.whole.0.0, ap length cut.1.spelled, length-append n.text cut.0)
cut_count (token t ∷ pieces) line bytes last cut = omega (arith, cut_count pieces (line + line_ends (token_bytes t)) cut.0 last cut.2, ap length cut.1.spelled, length-append (token_bytes t) cut.0)

-- ---- the last token

pub record HasLast (ts : List Placed) : Type 0 where
  pub front : List Placed
  pub last : Placed
  pub are : ts ≡ front ++ last ∷ []
  pub ends : (last.token ≡ end_of_file) ⊎ (last.token ≡ bad)

last_more : (p : Placed) (ts : List Placed) → HasLast ts → HasLast (p ∷ ts)
last_more p ts h = record { front = p ∷ h.front; last = h.last; are = ap (λ (w : List Placed). p ∷ w) h.are; ends = h.ends }

pub cut_last : (pieces : List Piece) (line : ℕ) (bytes : List ℕ) (last : Token) → IsCut line bytes pieces last → HasLast (placed line pieces last)
cut_last [] line bytes end_of_file cut = record { front = []; last = record { token = end_of_file; line = line }; are = refl; ends = inl refl }
cut_last [] line bytes bad cut = record { front = []; last = record { token = bad; line = line }; are = refl; ends = inr refl }
cut_last [] line bytes t cut = absurd cut
cut_last (blank b ∷ pieces) line bytes last cut = cut_last pieces (line + line_ends (b ∷ [])) cut.0 last cut.2
cut_last (comment text ∷ pieces) line bytes last cut = cut_last pieces (line + line_ends (piece_bytes (comment text))) cut.0 last cut.2
cut_last (token t ∷ pieces) line bytes last cut = last_more (record { token = t; line = line }) (placed (line + line_ends (token_bytes t)) pieces last) (cut_last pieces (line + line_ends (token_bytes t)) cut.0 last cut.2)
