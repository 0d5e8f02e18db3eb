-- The pieces of the canonical file, each followed by the pieces behind it.
--     file_pieces     the pieces of a file
--     spelled         their bytes
--     AllWhole        each takes its whole run of name bytes, and knows its line
use Rattle.std.proofs.Common.{◌≡◌, refl, sym, ◌∙◌, ap, subst, ℕ, suc, ◌+◌, List, [], ◌∷◌, ◌++◌, length, map, add-zero, arith}
use Rattle.std.specs.List.{flat_map, AllByRecursion}
use Rattle.hs_scheme.specs.Tree.{Tree, Trees, node, none, more}
use Rattle.hs_reader.specs.declared.raw.RawName.{RawName}
use Rattle.hs_reader.specs.Raw.{Rule, Transition, File}
use Rattle.hs_reader.specs.Tokens.{word, rules_begin, rules_end, automaton_begin, automaton_end, arrow, dot, left, right, end_of_file, Piece, blank, token, piece_bytes, line_ends, EndsRun, IsName, IsWhole, IsCut}
use Rattle.hs_reader.specs.Limits.{term_names, terms_names, rule_names, transition_names, names}
use Rattle.hs_reader.proofs.Lexing.{name_lines}
use Rattle.hs_resolve.proofs.Members.{all-append}
use Rattle.hs_app.proofs.Relined.{reline, reline_tree, reline_trees, reline_rule, reline_transition, lined, relined}

-- the parentheses round an argument that has arguments
abbrev pub opened : Tree RawName → List Piece → List Piece
opened (node n none) after = after
opened (node n (more t ts)) after = token left ∷ after

abbrev pub closed : Tree RawName → List Piece → List Piece
closed (node n none) after = after
closed (node n (more t ts)) after = token right ∷ after

abbrev mutual
  pub term_pieces : Tree RawName → List Piece → List Piece
  term_pieces (node n args) after = token (word n) ∷ args_pieces args after

  pub args_pieces : Trees RawName → List Piece → List Piece
  args_pieces none after = after
  args_pieces (more t ts) after = blank 32 ∷ opened t (term_pieces t (closed t (args_pieces ts after)))

abbrev pub params_pieces : List RawName → List Piece → List Piece
params_pieces [] after = after
params_pieces (p ∷ ps) after = token (word p) ∷ (blank 32 ∷ params_pieces ps after)

abbrev pub rule_pieces : Rule → List Piece → List Piece
rule_pieces r after =
    token (word r.name) ∷ (blank 32 ∷ params_pieces r.params (token arrow ∷ (blank 32 ∷ term_pieces r.body (token dot ∷ (blank 10 ∷ after)))))

abbrev pub rules_pieces : List Rule → List Piece → List Piece
rules_pieces [] after = after
rules_pieces (r ∷ rs) after = rule_pieces r (rules_pieces rs after)

abbrev pub each_state : List RawName → List Piece → List Piece
each_state [] after = after
each_state (q ∷ qs) after = blank 32 ∷ (token (word q) ∷ each_state qs after)

abbrev pub states_pieces : List RawName → List Piece → List Piece
states_pieces [] after = blank 32 ∷ after
states_pieces (q ∷ qs) after = each_state (q ∷ qs) after

abbrev pub transition_pieces : Transition → List Piece → List Piece
transition_pieces t after =
    token (word t.from) ∷ (blank 32 ∷ (token (word t.terminal) ∷ (blank 32 ∷ (token arrow ∷ states_pieces t.to (token dot ∷ (blank 10 ∷ after))))))

abbrev pub transitions_pieces : List Transition → List Piece → List Piece
transitions_pieces [] after = after
transitions_pieces (t ∷ ts) after = transition_pieces t (transitions_pieces ts after)

abbrev pub end_pieces : List Piece
end_pieces = token automaton_end ∷ (blank 10 ∷ [])

abbrev pub middle_pieces : List Piece → List Piece
middle_pieces after = token rules_end ∷ (blank 10 ∷ (token automaton_begin ∷ (blank 10 ∷ after)))

abbrev pub file_pieces : File → List Piece
file_pieces f = token rules_begin ∷ (blank 10 ∷ rules_pieces f.rules (middle_pieces (transitions_pieces f.transitions end_pieces)))

abbrev pub spelled : List Piece → List ℕ
spelled [] = []
spelled (p ∷ ps) = piece_bytes p ++ spelled ps

abbrev pub AllWhole : ℕ → List Piece → Type 0
AllWhole line [] = Unit {0}
AllWhole line (p ∷ ps) = IsWhole p line (spelled ps) × AllWhole (line + line_ends (piece_bytes p)) ps

-- whole pieces are a cut of their bytes
pub cut-of : (line : ℕ) (ps : List Piece) → AllWhole line ps → IsCut line (spelled ps) ps end_of_file
cut-of line [] h = refl
cut-of line (p ∷ ps) h = (spelled ps, record { spelled = refl; whole = h.0 }, cut-of (line + line_ends (piece_bytes p)) ps h.1)

-- a piece without LF
on-line : (line : ℕ) (p : Piece) (ps : List Piece) → IsWhole p line (spelled ps) → line_ends (piece_bytes p) ≡ 0 → AllWhole line ps → AllWhole line (p ∷ ps)
on-line line p ps w e h = (w, subst (λ n. AllWhole n ps) (sym (ap (λ k. line + k) e ∙ add-zero line)) h)

word-whole : (line : ℕ) (n : RawName) (ps : List Piece) → IsName n → EndsRun (spelled ps) → AllWhole line ps → AllWhole line (token (word (reline line n)) ∷ ps)
word-whole line n ps name ends h = on-line line (token (word (reline line n))) ps (name, ends, refl) (name_lines n.text name.1) h

blank-whole : (line : ℕ) (ps : List Piece) → AllWhole line ps → AllWhole line (blank 32 ∷ ps)
blank-whole line ps h = on-line line (blank 32) ps refl refl h

line-feed : (line : ℕ) (ps : List Piece) → AllWhole (line + 1) ps → AllWhole line (blank 10 ∷ ps)
line-feed line ps h = (refl, h)

args-ends : (ts : Trees RawName) (after : List Piece) → EndsRun (spelled after) → EndsRun (spelled (args_pieces ts after))
args-ends none after h = h
args-ends (more t ts) after h = refl

closed-ends : (t : Tree RawName) (after : List Piece) → EndsRun (spelled after) → EndsRun (spelled (closed t after))
closed-ends (node n none) after h = h
closed-ends (node n (more t ts)) after h = refl

closed-whole : (line : ℕ) (t : Tree RawName) (after : List Piece) → AllWhole line after → AllWhole line (closed t after)
closed-whole line (node n none) after h = h
closed-whole line (node n (more t ts)) after h = on-line line (token right) after tt refl h

opened-whole : (line : ℕ) (t : Tree RawName) (after : List Piece) → AllWhole line after → AllWhole line (opened t after)
opened-whole line (node n none) after h = h
opened-whole line (node n (more t ts)) after h = on-line line (token left) after tt refl h

mutual
  term-whole : (line : ℕ) (t : Tree RawName) (after : List Piece) → AllByRecursion IsName (term_names t) → EndsRun (spelled after) → AllWhole line after → AllWhole line (term_pieces (reline_tree line t) after)
  term-whole line (node n args) after are ends h =
      word-whole line n (args_pieces (reline_trees line args) after) are.0 (args-ends (reline_trees line args) after ends) (args-whole line args after are.1 ends h)

  args-whole : (line : ℕ) (ts : Trees RawName) (after : List Piece) → AllByRecursion IsName (terms_names ts) → EndsRun (spelled after) → AllWhole line after → AllWhole line (args_pieces (reline_trees line ts) after)
  args-whole line none after are ends h = h
  args-whole line (more t ts) after are ends h =
      let parts = all-append IsName (term_names t) (terms_names ts) are in
      let rest = args_pieces (reline_trees line ts) after in
      let own = reline_tree line t in
      blank-whole line (opened own (term_pieces own (closed own rest)))
      (opened-whole line own (term_pieces own (closed own rest))
      (term-whole line t (closed own rest) parts.0 (closed-ends own rest (args-ends (reline_trees line ts) after ends))
      (closed-whole line own rest (args-whole line ts after parts.1 ends h))))

params-whole : (line : ℕ) (ps : List RawName) (after : List Piece) → AllByRecursion IsName ps → AllWhole line after → AllWhole line (params_pieces (map (reline line) ps) after)
params-whole line [] after are h = h
params-whole line (p ∷ ps) after are h =
    word-whole line p (blank 32 ∷ params_pieces (map (reline line) ps) after) are.0 refl (blank-whole line (params_pieces (map (reline line) ps) after) (params-whole line ps after are.1 h))

rule-whole : (line : ℕ) (r : Rule) (after : List Piece) → AllByRecursion IsName (rule_names r) → AllWhole (line + 1) after → AllWhole line (rule_pieces (reline_rule line r) after)
rule-whole line r after are h =
    let parts = all-append IsName r.params (term_names r.body) are.1 in
    let own = reline_rule line r in
    let end = token dot ∷ (blank 10 ∷ after) in
    let body = term_pieces own.body end in
    word-whole line r.name (blank 32 ∷ params_pieces own.params (token arrow ∷ (blank 32 ∷ body))) are.0 refl
    (blank-whole line (params_pieces own.params (token arrow ∷ (blank 32 ∷ body)))
    (params-whole line r.params (token arrow ∷ (blank 32 ∷ body)) parts.0
    (on-line line (token arrow) (blank 32 ∷ body) tt refl
    (blank-whole line body
    (term-whole line r.body end parts.1 refl
    (on-line line (token dot) (blank 10 ∷ after) tt refl (line-feed line after h)))))))

rules-whole : (line : ℕ) (rs : List Rule) (after : List Piece) → AllByRecursion IsName (flat_map rule_names rs) → AllWhole (line + length rs) after → AllWhole line (rules_pieces (lined reline_rule line rs) after)
rules-whole line [] after are h = let e : line + 0 ≡ line = omega arith in subst (λ n. AllWhole n after) e h
rules-whole line (r ∷ rs) after are h =
    let parts = all-append IsName (rule_names r) (flat_map rule_names rs) are in
    let e : line + suc (length rs) ≡ line + 1 + length rs = omega arith in
    rule-whole line r (rules_pieces (lined reline_rule (line + 1) rs) after) parts.0 (rules-whole (line + 1) rs after parts.1 (subst (λ n. AllWhole n after) e h))

states-ends : (qs : List RawName) (after : List Piece) → EndsRun (spelled after) → EndsRun (spelled (each_state qs after))
states-ends [] after h = h
states-ends (q ∷ qs) after h = refl

each-whole : (line : ℕ) (qs : List RawName) (after : List Piece) → AllByRecursion IsName qs → EndsRun (spelled after) → AllWhole line after → AllWhole line (each_state (map (reline line) qs) after)
each-whole line [] after are ends h = h
each-whole line (q ∷ qs) after are ends h =
    let rest = each_state (map (reline line) qs) after in
    blank-whole line (token (word (reline line q)) ∷ rest) (word-whole line q rest are.0 (states-ends (map (reline line) qs) after ends) (each-whole line qs after are.1 ends h))

states-whole : (line : ℕ) (qs : List RawName) (after : List Piece) → AllByRecursion IsName qs → EndsRun (spelled after) → AllWhole line after → AllWhole line (states_pieces (map (reline line) qs) after)
states-whole line [] after are ends h = blank-whole line after h
states-whole line (q ∷ qs) after are ends h = each-whole line (q ∷ qs) after are ends h

transition-whole : (line : ℕ) (t : Transition) (after : List Piece) → AllByRecursion IsName (transition_names t) → AllWhole (line + 1) after → AllWhole line (transition_pieces (reline_transition line t) after)
transition-whole line t after are h =
    let own = reline_transition line t in
    let end = token dot ∷ (blank 10 ∷ after) in
    let right_side = states_pieces own.to end in
    word-whole line t.from (blank 32 ∷ (token (word own.terminal) ∷ (blank 32 ∷ (token arrow ∷ right_side)))) are.0 refl
    (blank-whole line (token (word own.terminal) ∷ (blank 32 ∷ (token arrow ∷ right_side)))
    (word-whole line t.terminal (blank 32 ∷ (token arrow ∷ right_side)) are.1.0 refl
    (blank-whole line (token arrow ∷ right_side)
    (on-line line (token arrow) right_side tt refl
    (states-whole line t.to end are.1.1 refl
    (on-line line (token dot) (blank 10 ∷ after) tt refl (line-feed line after h)))))))

transitions-whole : (line : ℕ) (ts : List Transition) (after : List Piece) → AllByRecursion IsName (flat_map transition_names ts) → AllWhole (line + length ts) after
    → AllWhole line (transitions_pieces (lined reline_transition line ts) after)
transitions-whole line [] after are h = let e : line + 0 ≡ line = omega arith in subst (λ n. AllWhole n after) e h
transitions-whole line (t ∷ ts) after are h =
    let parts = all-append IsName (transition_names t) (flat_map transition_names ts) are in
    let e : line + suc (length ts) ≡ line + 1 + length ts = omega arith in
    transition-whole line t (transitions_pieces (lined reline_transition (line + 1) ts) after) parts.0 (transitions-whole (line + 1) ts after parts.1 (subst (λ n. AllWhole n after) e h))

end-whole : (line : ℕ) → AllWhole line end_pieces
end-whole line = on-line line (token automaton_end) (blank 10 ∷ []) refl refl (line-feed line [] tt)

middle-whole : (line : ℕ) (after : List Piece) → AllWhole (line + 1 + 1) after → AllWhole line (middle_pieces after)
middle-whole line after h =
    on-line line (token rules_end) (blank 10 ∷ (token automaton_begin ∷ (blank 10 ∷ after))) refl refl
    (line-feed line (token automaton_begin ∷ (blank 10 ∷ after))
    (on-line (line + 1) (token automaton_begin) (blank 10 ∷ after) refl refl (line-feed (line + 1) after h)))

pub file-whole : (raw : File) → AllByRecursion IsName (names raw) → AllWhole 1 (file_pieces (relined raw))
file-whole raw are =
    let parts = all-append IsName (flat_map rule_names raw.rules) (flat_map transition_names raw.transitions) are in
    let transitions = transitions_pieces (relined raw).transitions end_pieces in
    let e : length raw.rules + 4 ≡ 2 + length raw.rules + 1 + 1 = omega arith in
    on-line 1 (token rules_begin) (blank 10 ∷ rules_pieces (relined raw).rules (middle_pieces transitions)) refl refl
    (line-feed 1 (rules_pieces (relined raw).rules (middle_pieces transitions))
    (rules-whole 2 raw.rules (middle_pieces transitions) parts.0
    (middle-whole (2 + length raw.rules) transitions
    (subst (λ n. AllWhole n transitions) e (transitions-whole (length raw.rules + 4) raw.transitions end_pieces parts.1 (end-whole (length raw.rules + 4 + length raw.transitions)))))))
