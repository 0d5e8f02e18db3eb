-- The tokens of the canonical file are those of a file.
use Rattle.std.proofs.Common.{◌≡◌, refl, sym, ◌∙◌, ap, subst, ℕ, ◌+◌, List, [], ◌∷◌, ◌++◌, map, append_assoc}
use Rattle.std.specs.List.{flat_map, AllByRecursion}
use Rattle.std.proofs.lemmas.List.{append-nil}
use Rattle.hs_scheme.specs.Tree.{Tree, Trees, node, none, more, join}
use Rattle.hs_reader.specs.declared.raw.RawName.{RawName}
use Rattle.hs_reader.specs.Raw.{Rule, Transition, File}
use Rattle.hs_reader.specs.Tokens.{Token, word, rules_begin, rules_end, automaton_begin, arrow, dot, left, right, end_of_file, Placed, Piece, blank, comment, token, token_bytes, line_ends, placed}
use Rattle.hs_reader.specs.Grammar.{IsUpper, IsLower, with_last, IsAtom, name, enclosed, IsTerm, first, then, IsRule, IsTransition, Sequence, IsFile}
use Rattle.hs_reader.specs.Limits.{IsRaw}
use Rattle.hs_app.proofs.Pieces.{opened, closed, term_pieces, args_pieces, params_pieces, rule_pieces, rules_pieces, each_state, states_pieces, transition_pieces, transitions_pieces, end_pieces, middle_pieces, file_pieces}

abbrev tokens_of : List Piece → List Token
tokens_of [] = end_of_file ∷ []
tokens_of (blank b ∷ ps) = tokens_of ps
tokens_of (comment text ∷ ps) = tokens_of ps
tokens_of (token t ∷ ps) = t ∷ tokens_of ps

kinds-placed : (line : ℕ) (ps : List Piece) → map (λ (p : Placed). p.token) (placed line ps end_of_file) ≡ tokens_of ps
kinds-placed line [] = refl
kinds-placed line (blank b ∷ ps) = kinds-placed _ ps
kinds-placed line (comment text ∷ ps) = kinds-placed _ ps
kinds-placed line (token t ∷ ps) = ap (λ ts. t ∷ ts) (kinds-placed (line + line_ends (token_bytes t)) ps)

-- in parentheses where there are arguments
abbrev in_place : Tree RawName → List Token → List Token
in_place (node n none) ts = ts
in_place (node n (more u us)) ts = left ∷ (ts ++ right ∷ [])

abbrev mutual
  term_tokens : Tree RawName → List Token
  term_tokens (node n args) = word n ∷ args_tokens args

  args_tokens : Trees RawName → List Token
  args_tokens none = []
  args_tokens (more t ts) = in_place t (term_tokens t) ++ args_tokens ts

mutual
  tokens-term : (t : Tree RawName) (after : List Piece) → tokens_of (term_pieces t after) ≡ term_tokens t ++ tokens_of after
  tokens-term (node n args) after = ap (λ ts. word n ∷ ts) (tokens-args args after)

  tokens-args : (ts : Trees RawName) (after : List Piece) → tokens_of (args_pieces ts after) ≡ args_tokens ts ++ tokens_of after
  tokens-args none after = refl
  tokens-args (more t ts) after =
      placed-in t (args_pieces ts after) (λ rest. tokens-term t rest)
      ∙ (ap (λ us. in_place t (term_tokens t) ++ us) (tokens-args ts after) ∙ sym (append_assoc (in_place t (term_tokens t)) (args_tokens ts) (tokens_of after)))

  placed-in : (t : Tree RawName) (after : List Piece) → ((rest : List Piece) → tokens_of (term_pieces t rest) ≡ term_tokens t ++ tokens_of rest)
      → tokens_of (opened t (term_pieces t (closed t after))) ≡ in_place t (term_tokens t) ++ tokens_of after
  placed-in (node n none) after h = h after
  placed-in (node n (more u us)) after h =
      ap (λ ts. left ∷ ts) (h (token right ∷ after) ∙ sym (append_assoc (term_tokens (node n (more u us))) (right ∷ []) (tokens_of after)))

join-none : (ts : Trees RawName) → join ts none ≡ ts
join-none none = refl
join-none (more t ts) = ap (more t) (join-none ts)

join-last : (done : Trees RawName) (u : Tree RawName) (us : Trees RawName) → join (with_last done u) us ≡ join done (more u us)
join-last none u us = refl
join-last (more t ts) u us = ap (more t) (join-last ts u us)

atom-from : (m : RawName) (inner : Trees RawName) → IsTerm (term_tokens (node m inner)) (node m inner) → IsAtom (in_place (node m inner) (term_tokens (node m inner))) (node m inner)
atom-from m none h = name m
atom-from m (more u us) h = enclosed (term_tokens (node m (more u us))) (node m (more u us)) h

-- a term takes one argument after another
grown : (args : Trees RawName) (done : Trees RawName) (n : RawName) (ts : List Token) → IsTerm ts (node n done) → IsTerm (ts ++ args_tokens args) (node n (join done args))
grown none done n ts h = subst (λ us. IsTerm us (node n (join done none))) (sym (append-nil ts)) (subst (λ d. IsTerm ts (node n d)) (sym (join-none done)) h)
grown (more (node m inner) us) done n ts h =
    let inside : IsTerm (term_tokens (node m inner)) (node m inner) = grown inner none m (word m ∷ []) (first (word m ∷ []) (node m none) (name m)) in
    let own = in_place (node m inner) (term_tokens (node m inner)) in
    let next = grown us (with_last done (node m inner)) n (ts ++ own) (then ts own (node n done) (node m inner) h (atom-from m inner inside)) in
    subst (λ vs. IsTerm vs (node n (join done (more (node m inner) us)))) (append_assoc ts own (args_tokens us))
    (subst (λ d. IsTerm ((ts ++ own) ++ args_tokens us) (node n d)) (join-last done (node m inner) us) next)

term-parsed : (t : Tree RawName) → IsTerm (term_tokens t) t
term-parsed (node n args) = grown args none n (word n ∷ []) (first (word n ∷ []) (node n none) (name n))

tokens-params : (ps : List RawName) (after : List Piece) → tokens_of (params_pieces ps after) ≡ map word ps ++ tokens_of after
tokens-params [] after = refl
tokens-params (p ∷ ps) after = ap (λ ts. word p ∷ ts) (tokens-params ps after)

abbrev rule_tokens : Rule → List Token
rule_tokens r = (word r.name ∷ map word r.params) ++ arrow ∷ (term_tokens r.body ++ dot ∷ [])

tokens-rule : (r : Rule) (after : List Piece) → tokens_of (rule_pieces r after) ≡ rule_tokens r ++ tokens_of after
tokens-rule r after =
    ap (λ ts. word r.name ∷ ts) (tokens-params r.params (token arrow ∷ (blank 32 ∷ term_pieces r.body (token dot ∷ (blank 10 ∷ after))))
    ∙ (ap (λ ts. map word r.params ++ arrow ∷ ts) (tokens-term r.body (token dot ∷ (blank 10 ∷ after)) ∙ sym (append_assoc (term_tokens r.body) (dot ∷ []) (tokens_of after)))
    ∙ sym (append_assoc (map word r.params) (arrow ∷ (term_tokens r.body ++ dot ∷ [])) (tokens_of after))))

tokens-rules : (rs : List Rule) (after : List Piece) → tokens_of (rules_pieces rs after) ≡ flat_map rule_tokens rs ++ tokens_of after
tokens-rules [] after = refl
tokens-rules (r ∷ rs) after =
    tokens-rule r (rules_pieces rs after) ∙ (ap (λ ts. rule_tokens r ++ ts) (tokens-rules rs after) ∙ sym (append_assoc (rule_tokens r) (flat_map rule_tokens rs) (tokens_of after)))

rules-parsed : (rs : List Rule) → AllByRecursion (λ r. IsUpper r.name) rs → AllByRecursion (λ r. AllByRecursion IsLower r.params) rs → Sequence IsRule (flat_map rule_tokens rs) rs
rules-parsed [] upper lower = refl
rules-parsed (r ∷ rs) upper lower =
    (rule_tokens r, flat_map rule_tokens rs, refl, record { name = upper.0; params = lower.0; body_tokens = term_tokens r.body; body = term-parsed r.body; are = refl }, rules-parsed rs upper.1 lower.1)

tokens-each : (qs : List RawName) (after : List Piece) → tokens_of (each_state qs after) ≡ map word qs ++ tokens_of after
tokens-each [] after = refl
tokens-each (q ∷ qs) after = ap (λ ts. word q ∷ ts) (tokens-each qs after)

tokens-states : (qs : List RawName) (after : List Piece) → tokens_of (states_pieces qs after) ≡ map word qs ++ tokens_of after
tokens-states [] after = refl
tokens-states (q ∷ qs) after = tokens-each (q ∷ qs) after

abbrev transition_tokens : Transition → List Token
transition_tokens t = word t.from ∷ (word t.terminal ∷ (arrow ∷ (map word t.to ++ dot ∷ [])))

tokens-transition : (t : Transition) (after : List Piece) → tokens_of (transition_pieces t after) ≡ transition_tokens t ++ tokens_of after
tokens-transition t after =
    ap (λ ts. word t.from ∷ (word t.terminal ∷ (arrow ∷ ts))) (tokens-states t.to (token dot ∷ (blank 10 ∷ after)) ∙ sym (append_assoc (map word t.to) (dot ∷ []) (tokens_of after)))

tokens-transitions : (us : List Transition) (after : List Piece) → tokens_of (transitions_pieces us after) ≡ flat_map transition_tokens us ++ tokens_of after
tokens-transitions [] after = refl
tokens-transitions (t ∷ us) after =
    tokens-transition t (transitions_pieces us after)
    ∙ (ap (λ ts. transition_tokens t ++ ts) (tokens-transitions us after) ∙ sym (append_assoc (transition_tokens t) (flat_map transition_tokens us) (tokens_of after)))

transitions-parsed : (us : List Transition) → AllByRecursion (λ t. IsLower t.terminal) us → Sequence IsTransition (flat_map transition_tokens us) us
transitions-parsed [] lower = refl
transitions-parsed (t ∷ us) lower = (transition_tokens t, flat_map transition_tokens us, refl, record { terminal = lower.0; are = refl }, transitions-parsed us lower.1)

pub file-parsed : (line : ℕ) (f : File) → IsRaw f → IsFile (map (λ (p : Placed). p.token) (placed line (file_pieces f) end_of_file)) f
file-parsed line f inside = record {
  has_rule = inside.has_rule;
  has_transition = inside.has_transition;
  rule_tokens = flat_map rule_tokens f.rules;
  rules = rules-parsed f.rules inside.rule_names_upper inside.parameters_lower;
  transition_tokens = flat_map transition_tokens f.transitions;
  transitions = transitions-parsed f.transitions inside.terminals_lower;
  are = kinds-placed line (file_pieces f)
      ∙ ap (λ ts. rules_begin ∷ ts) (tokens-rules f.rules (middle_pieces (transitions_pieces f.transitions end_pieces))
      ∙ ap (λ ts. flat_map rule_tokens f.rules ++ rules_end ∷ (automaton_begin ∷ ts)) (tokens-transitions f.transitions end_pieces));
}
