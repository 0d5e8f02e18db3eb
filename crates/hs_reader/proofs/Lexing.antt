-- Every list of bytes has one cutting, and it is the one that is read.
use Rattle.std.proofs.Common.{◌≡◌, ◌≢◌, ℕ, zero, suc, ◌+◌, ◌<◌, Bool, true, false, cond, eqb, List, [], ◌∷◌, ◌++◌, length, Option, Some, None, refl, sym, ap, subst, ◌∙◌, inl, inr, append_assoc, arith}
use Rattle.std.specs.Prelude.{codes}
use Rattle.std.specs.List.{list_all}
use Rattle.std.proofs.lemmas.Bool.{eqb-true, and_parts}
use Rattle.std.proofs.lemmas.Bool.Decides.{nat_tests}
use Rattle.hs_reader.specs.Tokens.{is_blank, is_name_byte, Token, Placed, word, rules_begin, rules_end, automaton_begin, automaton_end, arrow, dot, left, right, end_of_file, bad, Piece, blank, comment, token, token_bytes, piece_bytes, line_ends, IsWholeToken, BeginsWith, IsLast, IsCut, placed, Lexes}
use Rattle.hs_reader.specs.Reading.{front, line_behind, comment_rest, slash_rest, gap_rest, place, from_token, from_gap, tokens_within, tokens}
use Rattle.hs_reader.proofs.Cutting.{chosen, gap_shorter, front_shorter, tokens_behind, tokens_front}
use Rattle.hs_reader.proofs.Pieces.{line_ends-append, line_behind_is, NoEnd, IsComment, comment_is, comment_read, front_is, IsTokenRead, front_read}

-- ---- a gap is a blank or a comment

pub record IsGap (line : ℕ) (bytes : List ℕ) (x : ℕ × List ℕ) : Type 0 where
  pub piece : Piece
  pub begins : BeginsWith line bytes piece x.1
  pub line_is : x.0 ≡ line + line_ends (piece_bytes piece)
  pub skips : (pieces : List Piece) (last : Token) → placed line (piece ∷ pieces) last ≡ placed (line + line_ends (piece_bytes piece)) pieces last

comment_line : (line : ℕ) (text : List ℕ) → line + line_ends text ≡ line + line_ends (piece_bytes (comment text))
comment_line line text = omega (arith, line_ends-append text (codes "*/"))

comment_spelled : (text rest : List ℕ) → 47 ∷ (42 ∷ (text ++ (codes "*/" ++ rest))) ≡ piece_bytes (comment text) ++ rest
comment_spelled text rest = ap (λ (w : List ℕ). 47 ∷ (42 ∷ w)) (sym (append_assoc text (codes "*/") rest))

slash_is : (line : ℕ) (bytes : List ℕ) (x : ℕ × List ℕ) → slash_rest line bytes ≡ Some x → IsGap line (47 ∷ bytes) x
slash_is line [] x e = absurd cc
slash_is line (b ∷ bytes) x e = go (eqb b 42) refl e
  where
    made : b ≡ 42 → IsComment line bytes x → IsGap line (47 ∷ (b ∷ bytes)) x
    made h c = record {
      piece = comment c.text;
      begins = record { spelled = ap (λ (k : ℕ). 47 ∷ (k ∷ bytes)) h ∙ ap (λ (w : List ℕ). 47 ∷ (42 ∷ w)) c.bytes_are ∙ comment_spelled c.text x.1; whole = c.no_end };
      line_is = c.line_is ∙ comment_line line c.text;
      skips = λ pieces last. refl;
    }

    go : (t : Bool) → eqb b 42 ≡ t → cond t (comment_rest line bytes) None ≡ Some x → IsGap line (47 ∷ (b ∷ bytes)) x
    go true h e = made (eqb-true b 42 h) (comment_is line bytes x e)
    go false h e = absurd cc

pub gap_is : (line : ℕ) (bytes : List ℕ) (x : ℕ × List ℕ) → gap_rest line bytes ≡ Some x → IsGap line bytes x
gap_is line [] x e = absurd cc
gap_is line (b ∷ bytes) x e = go (is_blank b) (eqb b 47) refl refl e
  where
    a_blank : is_blank b ≡ true → (line_behind line b, bytes) ≡ x → IsGap line (b ∷ bytes) x
    a_blank h same = subst (IsGap line (b ∷ bytes)) same (record { piece = blank b; begins = record { spelled = refl; whole = h }; line_is = line_behind_is line b; skips = λ pieces last. refl })

    go : (t u : Bool) → is_blank b ≡ t → eqb b 47 ≡ u → cond t (Some (line_behind line b, bytes)) (cond u (slash_rest line bytes) None) ≡ Some x → IsGap line (b ∷ bytes) x
    go true u h k e = a_blank h cc
    go false true h k e = subst (λ (w : ℕ). IsGap line (w ∷ bytes) x) (sym (eqb-true b 47 k)) (slash_is line bytes x e)
    go false false h k e = absurd cc

-- ---- what begins is read

pub blank_gap : (line b : ℕ) (rest : List ℕ) → is_blank b ≡ true → gap_rest line (b ∷ rest) ≡ Some (line_behind line b, rest)
blank_gap line b rest h = chosen (is_blank b) (Some (line_behind line b, rest)) (cond (eqb b 47) (slash_rest line rest) None) h

pub comment_gap : (line : ℕ) (text rest : List ℕ) → NoEnd text → gap_rest line (piece_bytes (comment text) ++ rest) ≡ Some (line + line_ends text, rest)
comment_gap line text rest h = ap (gap_rest line) (sym (comment_spelled text rest)) ∙ comment_read line text rest h

no_token : (t : Token) (line : ℕ) (rest : List ℕ) → t ≡ bad → IsWholeToken t line rest → ⊥
no_token t line rest e h = subst (λ (w : Token). IsWholeToken w line rest) e h

no_piece : (piece : Piece) (line : ℕ) (bytes rest : List ℕ) → gap_rest line bytes ≡ None → (front line bytes).0 ≡ bad → BeginsWith line bytes piece rest → ⊥
no_piece (blank b) line bytes rest gap stops begins = let some = ap (gap_rest line) begins.spelled ∙ blank_gap line b rest begins.whole in cc
no_piece (comment text) line bytes rest gap stops begins = let some = ap (gap_rest line) begins.spelled ∙ comment_gap line text rest begins.whole in cc
no_piece (token t) line bytes rest gap stops begins =
    let f = front_is t line rest begins.whole in
    let same : (front line bytes).0 ≡ t = ap (λ (w : List ℕ). (front line w).0) begins.spelled ∙ ap (λ (x : Token × List ℕ). x.0) f.front in
    no_token t line rest (sym same ∙ stops) begins.whole

-- no token has a line's end in it
pub name_lines : (w : List ℕ) → list_all is_name_byte w ≡ true → line_ends w ≡ 0
name_lines [] h = refl
name_lines (b ∷ w) h =
    let both = and_parts (is_name_byte b) (list_all is_name_byte w) h in
    let no_end : eqb b 10 ≡ false = no_line b both.0 in
    ap (λ (t : Bool). cond t 1 0 + line_ends w) no_end ∙ omega (arith, name_lines w both.1)
  where
    no_line : (b : ℕ) → is_name_byte b ≡ true → eqb b 10 ≡ false
    no_line b h = grind (arith, nat_tests)

pub token_lines : (t : Token) (line : ℕ) (rest : List ℕ) → IsWholeToken t line rest → line + line_ends (token_bytes t) ≡ line
token_lines (word n) line rest h = omega (arith, name_lines n.text h.0.1)
token_lines t line rest h = omega arith

-- ---- every list of bytes is cut

pub record IsCutting (line : ℕ) (bytes : List ℕ) (ts : List Placed) : Type 0 where
  pub pieces : List Piece
  pub last : Token
  pub cut : IsCut line bytes pieces last
  pub are : ts ≡ placed line pieces last

after_gap : (line : ℕ) (bytes : List ℕ) (x : ℕ × List ℕ) (ts : List Placed) → IsGap line bytes x → IsCutting x.0 x.1 ts → IsCutting line bytes ts
after_gap line bytes x ts g c = record {
  pieces = g.piece ∷ c.pieces;
  last = c.last;
  cut = (x.1, g.begins, subst (λ (k : ℕ). IsCut k x.1 c.pieces c.last) g.line_is c.cut);
  are = c.are ∙ ap (λ (k : ℕ). placed k c.pieces c.last) g.line_is ∙ sym (g.skips c.pieces c.last);
}

after_token : (t : Token) (line : ℕ) (bytes rest : List ℕ) (ts : List Placed) → BeginsWith line bytes (token t) rest → IsCutting line rest ts → IsCutting line bytes (place line t ∷ ts)
after_token t line bytes rest ts begins c =
    let same = sym (token_lines t line rest begins.whole) in
    record {
      pieces = token t ∷ c.pieces;
      last = c.last;
      cut = (rest, begins, subst (λ (k : ℕ). IsCut k rest c.pieces c.last) same c.cut);
      are = ap (λ (us : List Placed). place line t ∷ us) (c.are ∙ ap (λ (k : ℕ). placed k c.pieces c.last) same);
    }

stands : (t : Token) (line : ℕ) (bytes rest : List ℕ) → (t ≡ bad → ⊥) → IsTokenRead line bytes (t, rest) → BeginsWith line bytes (token t) rest
stands t line bytes rest good (inl e) = absurd (good e)
stands t line bytes rest good (inr begins) = begins

front_cutting : (t : Token) (f : ℕ → List ℕ → List Placed) (line b : ℕ) (bytes rest : List ℕ) → (t ≡ bad → (piece : Piece) (after : List ℕ) → BeginsWith line (b ∷ bytes) piece after → ⊥) → IsCutting line rest (f line rest) → IsTokenRead line (b ∷ bytes) (t, rest) → IsCutting line (b ∷ bytes) (from_token f line (t, rest))
front_cutting bad f line b bytes rest stop later here = record { pieces = []; last = bad; cut = ((λ e. cc), stop refl); are = refl }
front_cutting end_of_file f line b bytes rest stop later here = absurd (stands end_of_file line (b ∷ bytes) rest (λ h. cc) here).whole
front_cutting (word n) f line b bytes rest stop later here = after_token (word n) line (b ∷ bytes) rest (f line rest) (stands (word n) line (b ∷ bytes) rest (λ h. cc) here) later
front_cutting rules_begin f line b bytes rest stop later here = after_token rules_begin line (b ∷ bytes) rest (f line rest) (stands rules_begin line (b ∷ bytes) rest (λ h. cc) here) later
front_cutting rules_end f line b bytes rest stop later here = after_token rules_end line (b ∷ bytes) rest (f line rest) (stands rules_end line (b ∷ bytes) rest (λ h. cc) here) later
front_cutting automaton_begin f line b bytes rest stop later here = after_token automaton_begin line (b ∷ bytes) rest (f line rest) (stands automaton_begin line (b ∷ bytes) rest (λ h. cc) here) later
front_cutting automaton_end f line b bytes rest stop later here = after_token automaton_end line (b ∷ bytes) rest (f line rest) (stands automaton_end line (b ∷ bytes) rest (λ h. cc) here) later
front_cutting arrow f line b bytes rest stop later here = after_token arrow line (b ∷ bytes) rest (f line rest) (stands arrow line (b ∷ bytes) rest (λ h. cc) here) later
front_cutting dot f line b bytes rest stop later here = after_token dot line (b ∷ bytes) rest (f line rest) (stands dot line (b ∷ bytes) rest (λ h. cc) here) later
front_cutting left f line b bytes rest stop later here = after_token left line (b ∷ bytes) rest (f line rest) (stands left line (b ∷ bytes) rest (λ h. cc) here) later
front_cutting right f line b bytes rest stop later here = after_token right line (b ∷ bytes) rest (f line rest) (stands right line (b ∷ bytes) rest (λ h. cc) here) later

gap_cutting : (f : ℕ → List ℕ → List Placed) (line : ℕ) (bytes : List ℕ) (o : Option (ℕ × List ℕ)) → gap_rest line bytes ≡ o → ((at : ℕ) (rest : List ℕ) → length rest < length bytes → IsCutting at rest (f at rest)) → IsCutting line bytes (from_gap f line bytes o)
unfolding front
gap_cutting f line bytes (Some x) e later = after_gap line bytes x (f x.0 x.1) (gap_is line bytes x e) (later x.0 x.1 (gap_shorter line bytes x e))
gap_cutting f line [] None e later = record { pieces = []; last = end_of_file; cut = refl; are = refl }
gap_cutting f line (b ∷ bytes) None e later =
    front_cutting (front line (b ∷ bytes)).0 f line b bytes (front line (b ∷ bytes)).1 (λ h piece after begins. no_piece piece line (b ∷ bytes) after e h begins)
    (later line (front line (b ∷ bytes)).1 (omega (arith, front_shorter line b bytes))) (front_read line b bytes)

within_cutting : (n line : ℕ) (bytes : List ℕ) → length bytes < n → IsCutting line bytes (tokens_within n line bytes)
unfolding tokens_within
within_cutting zero line bytes lt = absurd (omega arith)
within_cutting (suc n) line bytes lt = gap_cutting (tokens_within n) line bytes (gap_rest line bytes) refl (λ at rest shorter. within_cutting n at rest (omega arith))

pub tokens_cut : (line : ℕ) (bytes : List ℕ) → IsCutting line bytes (tokens line bytes)
unfolding tokens
tokens_cut line bytes = within_cutting (length bytes + 1) line bytes (omega arith)

-- ---- every cutting is the one that is read

token_first : (t : Token) (line : ℕ) (rest : List ℕ) → IsWholeToken t line rest → from_token tokens line (t, rest) ≡ place line t ∷ tokens line rest
token_first (word n) line rest h = refl
token_first end_of_file line rest h = absurd h
token_first bad line rest h = absurd h
token_first t line rest h = refl

bad_last : (line : ℕ) (bytes : List ℕ) (o : Option (ℕ × List ℕ)) → gap_rest line bytes ≡ o → bytes ≢ [] → ((piece : Piece) (rest : List ℕ) → BeginsWith line bytes piece rest → ⊥) → tokens line bytes ≡ place line bad ∷ []
bad_last line bytes (Some x) e some stop = let g = gap_is line bytes x e in absurd (stop g.piece x.1 g.begins)
bad_last line [] None e some stop = absurd (some refl)
bad_last line (b ∷ bytes) None e some stop = tokens_front line (b ∷ bytes) e ∙ is_bad (front line (b ∷ bytes)) (front_read line b bytes)
  where
    is_bad : (x : Token × List ℕ) → IsTokenRead line (b ∷ bytes) x → from_token tokens line x ≡ place line bad ∷ []
    is_bad x (inl h) = ap (λ (t : Token). from_token tokens line (t, x.1)) h
    is_bad x (inr begins) = absurd (stop (token x.0) x.1 begins)

last_is_read : (last : Token) (line : ℕ) (bytes : List ℕ) → IsLast last line bytes → tokens line bytes ≡ place line last ∷ []
unfolding front
last_is_read end_of_file line bytes h = ap (tokens line) h ∙ tokens_front line [] refl
last_is_read bad line bytes h = bad_last line bytes (gap_rest line bytes) refl h.0 h.1
last_is_read t line bytes h = absurd h

pub cut_is_read : (pieces : List Piece) (line : ℕ) (bytes : List ℕ) (last : Token) → IsCut line bytes pieces last → tokens line bytes ≡ placed line pieces last
cut_is_read [] line bytes last cut = last_is_read last line bytes cut
cut_is_read (blank b ∷ pieces) line bytes last cut =
    ap (tokens line) cut.1.spelled ∙ tokens_behind line (b ∷ cut.0) (line_behind line b, cut.0) (blank_gap line b cut.0 cut.1.whole)
    ∙ ap (λ (k : ℕ). tokens k cut.0) (line_behind_is line b) ∙ cut_is_read pieces (line + line_ends (b ∷ [])) cut.0 last cut.2
cut_is_read (comment text ∷ pieces) line bytes last cut =
    ap (tokens line) cut.1.spelled ∙ tokens_behind line (piece_bytes (comment text) ++ cut.0) (line + line_ends text, cut.0) (comment_gap line text cut.0 cut.1.whole)
    ∙ ap (λ (k : ℕ). tokens k cut.0) (comment_line line text) ∙ cut_is_read pieces (line + line_ends (piece_bytes (comment text))) cut.0 last cut.2
cut_is_read (token t ∷ pieces) line bytes last cut =
    let f = front_is t line cut.0 cut.1.whole in
    ap (tokens line) cut.1.spelled ∙ tokens_front line (token_bytes t ++ cut.0) f.no_gap ∙ ap (from_token tokens line) f.front
    ∙ token_first t line cut.0 cut.1.whole ∙ ap (λ (us : List Placed). place line t ∷ us)
    (ap (λ (k : ℕ). tokens k cut.0) (sym (token_lines t line cut.0 cut.1.whole)) ∙ cut_is_read pieces (line + line_ends (token_bytes t)) cut.0 last cut.2)

-- ---- the cutting of the bytes

pub tokens_lex : (bytes : List ℕ) → Lexes bytes (tokens 1 bytes)
tokens_lex bytes = let c = tokens_cut 1 bytes in record { pieces = c.pieces; last = c.last; cut = c.cut; are = c.are }

pub lexes_tokens : (bytes : List ℕ) (ts : List Placed) → Lexes bytes ts → ts ≡ tokens 1 bytes
lexes_tokens bytes ts l = l.are ∙ sym (cut_is_read l.pieces 1 bytes l.last l.cut)
