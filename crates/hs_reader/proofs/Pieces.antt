-- What stands at the front of bytes is a piece, and the cutting into pieces is the one that is read.
use Rattle.std.proofs.Common.{◌≡◌, ◌≢◌, ℕ, ◌+◌, Bool, true, false, ◌&&◌, cond, eqb, List, [], ◌∷◌, ◌++◌, length, take, drop, Some, None, refl, sym, ap, subst, ◌∙◌, inl, inr, ◌⊎◌, arith}
use Rattle.std.specs.Prelude.{codes}
use Rattle.std.specs.Str.{bytes_eq}
use Rattle.std.specs.List.{list_all, prefix_len}
use Rattle.std.proofs.lemmas.Bool.{eqb-true, and_parts}
use Rattle.std.proofs.lemmas.Bool.Decides.{nat_tests}
use Rattle.std.proofs.lemmas.Slice.Eq.{bytes_eq-Decides}
use Rattle.std.proofs.lemmas.List.{take-append-drop, take_at, drop_at}
use Rattle.hs_reader.specs.Tokens.{is_blank, is_name_byte, Token, word, rules_begin, rules_end, automaton_begin, automaton_end, arrow, dot, left, right, end_of_file, bad, token, token_bytes, line_ends, IsWholeToken, BeginsWith}
use Rattle.hs_reader.specs.Reading.{marker, arrow_front, sign_front, run_front, as_word, front, line_behind, starts_with, comment_rest, slash_rest, gap_rest}
use Rattle.hs_reader.proofs.Runs.{prefix_yes, run_passes, run_ends, run_whole}
use Rattle.hs_reader.proofs.Cutting.{chosen, not_chosen}

-- ---- lines

pub line_ends-append : (a b : List ℕ) → line_ends (a ++ b) ≡ line_ends a + line_ends b
line_ends-append [] b = omega arith
line_ends-append (x ∷ a) b = omega (arith, line_ends-append a b)

pub line_behind_is : (line b : ℕ) → line_behind line b ≡ line + line_ends (b ∷ [])
line_behind_is line b = go (eqb b 10)
  where
    go : (t : Bool) → cond t (line + 1) line ≡ line + (cond t 1 0 + 0)
    go true = omega arith
    go false = omega arith

-- ---- comments

-- there is no `*/` in the text
abbrev pub NoEnd : List ℕ → Type 0
NoEnd text = (before after : List ℕ) → text ≡ before ++ (codes "*/" ++ after) → ⊥

pub record IsComment (line : ℕ) (bytes : List ℕ) (x : ℕ × List ℕ) : Type 0 where
  pub text : List ℕ
  pub bytes_are : bytes ≡ text ++ (codes "*/" ++ x.1)
  pub no_end : NoEnd text
  pub line_is : x.0 ≡ line + line_ends text

starts_is : (b : ℕ) (bytes : List ℕ) → starts_with b bytes ≡ true → bytes ≡ b ∷ drop 1 bytes
starts_is b [] h = absurd cc
starts_is b (c ∷ bytes) h = ap (λ (k : ℕ). k ∷ bytes) (eqb-true c b h)

no_end_nil : NoEnd []
no_end_nil [] after e = absurd cc
no_end_nil (x ∷ before) after e = absurd cc

-- a text with one byte more has no end, where none begins at that byte
no_end_cons : (b : ℕ) (text rest : List ℕ) → NoEnd text → (eqb b 42 && starts_with 47 (text ++ (42 ∷ (47 ∷ rest)))) ≡ false → NoEnd (b ∷ text)
no_end_cons b text rest h here [] after e =
    let head : b ≡ 42 = cc in
    let tail : text ≡ 47 ∷ after = cc in
    let test : (eqb b 42 && starts_with 47 (text ++ (42 ∷ (47 ∷ rest)))) ≡ true = ap (λ (k : ℕ). eqb k 42 && starts_with 47 (text ++ (42 ∷ (47 ∷ rest)))) head ∙ ap (λ (w : List ℕ). eqb 42 42 && starts_with 47 (w ++ (42 ∷ (47 ∷ rest)))) tail in
    absurd cc
no_end_cons b text rest h here (x ∷ before) after e = h before after cc

pub comment_is : (line : ℕ) (bytes : List ℕ) (x : ℕ × List ℕ) → comment_rest line bytes ≡ Some x → IsComment line bytes x
unfolding comment_rest
comment_is line [] x e = absurd cc
comment_is line (b ∷ bytes) x e = go (eqb b 42 && starts_with 47 bytes) refl (comment_is (line_behind line b) bytes x) e
  where
    ends : (eqb b 42 && starts_with 47 bytes) ≡ true → (line, drop 1 bytes) ≡ x → IsComment line (b ∷ bytes) x
    ends h same =
        let both = and_parts (eqb b 42) (starts_with 47 bytes) h in
        subst (IsComment line (b ∷ bytes)) same (record {
          text = [];
          bytes_are = ap (λ (k : ℕ). k ∷ bytes) (eqb-true b 42 both.0) ∙ ap (λ (w : List ℕ). 42 ∷ w) (starts_is 47 bytes both.1);
          no_end = no_end_nil;
          line_is = omega arith;
        })

    later : (eqb b 42 && starts_with 47 bytes) ≡ false → IsComment (line_behind line b) bytes x → IsComment line (b ∷ bytes) x
    later h c = record {
      text = b ∷ c.text;
      bytes_are = ap (λ (w : List ℕ). b ∷ w) c.bytes_are;
      no_end = no_end_cons b c.text x.1 c.no_end (ap (λ (w : List ℕ). eqb b 42 && starts_with 47 w) (sym c.bytes_are) ∙ h);
      line_is = omega (arith, c.line_is, line_behind_is line b);
    }

    go : (t : Bool) → (eqb b 42 && starts_with 47 bytes) ≡ t → (comment_rest (line_behind line b) bytes ≡ Some x → IsComment (line_behind line b) bytes x) → cond t (Some (line, drop 1 bytes)) (comment_rest (line_behind line b) bytes) ≡ Some x → IsComment line (b ∷ bytes) x
    go true h rec e = ends h cc
    go false h rec e = later h (rec e)

-- a byte of a text without an end doesn't begin one
inner_byte : (b : ℕ) (text rest : List ℕ) → NoEnd (b ∷ text) → (eqb b 42 && starts_with 47 (text ++ (42 ∷ (47 ∷ rest)))) ≡ false
inner_byte b text rest h = go (eqb b 42) (starts_with 47 (text ++ (42 ∷ (47 ∷ rest)))) refl refl
  where
    begins : (w : List ℕ) → starts_with 47 (w ++ (42 ∷ (47 ∷ rest))) ≡ true → w ≡ 47 ∷ drop 1 w
    begins [] e = absurd cc
    begins (c ∷ w) e = ap (λ (k : ℕ). k ∷ w) (eqb-true c 47 e)

    go : (t u : Bool) → eqb b 42 ≡ t → starts_with 47 (text ++ (42 ∷ (47 ∷ rest))) ≡ u → (t && u) ≡ false
    go false u p q = refl
    go true false p q = refl
    go true true p q = absurd (h [] (drop 1 text) (ap (λ (k : ℕ). k ∷ text) (eqb-true b 42 p) ∙ ap (λ (w : List ℕ). 42 ∷ w) (begins text q)))

no_end_rest : (b : ℕ) (text : List ℕ) → NoEnd (b ∷ text) → NoEnd text
no_end_rest b text h before after e = h (b ∷ before) after (ap (λ (w : List ℕ). b ∷ w) e)

pub comment_read : (line : ℕ) (text rest : List ℕ) → NoEnd text → comment_rest line (text ++ (42 ∷ (47 ∷ rest))) ≡ Some (line + line_ends text, rest)
unfolding comment_rest
comment_read line [] rest h = ap (λ (k : ℕ). Some (k, rest)) (omega arith)
comment_read line (b ∷ text) rest h =
    not_chosen (eqb b 42 && starts_with 47 (text ++ (42 ∷ (47 ∷ rest)))) (Some (line, drop 1 (text ++ (42 ∷ (47 ∷ rest))))) (comment_rest (line_behind line b) (text ++ (42 ∷ (47 ∷ rest)))) (inner_byte b text rest h)
    ∙ comment_read (line_behind line b) text rest (no_end_rest b text h)
    ∙ ap (λ (k : ℕ). Some (k, rest)) (omega (arith, line_behind_is line b))

-- ---- tokens

not_blank : (b : ℕ) → is_name_byte b ≡ true → is_blank b ≡ false
not_blank b h = grind (arith, nat_tests)

not_slash : (b : ℕ) → is_name_byte b ≡ true → eqb b 47 ≡ false
not_slash b h = grind (arith, nat_tests)

-- the token is what is read at its front
pub record IsFront (t : Token) (line : ℕ) (rest : List ℕ) : Type 0 where
  pub front : front line (token_bytes t ++ rest) ≡ (t, rest)
  pub no_gap : gap_rest line (token_bytes t ++ rest) ≡ None

marked : (run rest : List ℕ) (n : ℕ) → prefix_len is_name_byte (run ++ rest) ≡ n → length run ≡ n → run_front marker (run ++ rest) ≡ (marker run, rest)
marked run rest n e len = rw (e, take_at run rest n len, drop_at run rest n len) refl

word_front : (line : ℕ) (w rest : List ℕ) → w ≢ [] → list_all is_name_byte w ≡ true → prefix_len is_name_byte rest ≡ 0 → (front line (w ++ rest) ≡ (as_word line w, rest)) × (gap_rest line (w ++ rest) ≡ None)
unfolding front
word_front line [] rest some all none = absurd (some refl)
word_front line (b ∷ bs) rest some all none =
    let is_name : is_name_byte b ≡ true = (and_parts (is_name_byte b) (list_all is_name_byte bs) all).0 in
    let len : prefix_len is_name_byte ((b ∷ bs) ++ rest) ≡ length (b ∷ bs) = run_whole is_name_byte (b ∷ bs) rest all none in (
      chosen (is_name_byte b) (run_front (as_word line) ((b ∷ bs) ++ rest)) (cond (eqb b 37) (run_front marker (bs ++ rest)) (sign_front b (bs ++ rest))) is_name
          ∙ ap (λ (k : ℕ). (as_word line (take k ((b ∷ bs) ++ rest)), drop k ((b ∷ bs) ++ rest))) len
          ∙ rw (take_at (b ∷ bs) rest (length (b ∷ bs)) refl, drop_at (b ∷ bs) rest (length (b ∷ bs)) refl) refl,
      not_chosen (is_blank b) (Some (line_behind line b, bs ++ rest)) (cond (eqb b 47) (slash_rest line (bs ++ rest)) None) (not_blank b is_name)
          ∙ not_chosen (eqb b 47) (slash_rest line (bs ++ rest)) None (not_slash b is_name),
    )

pub front_is : (t : Token) (line : ℕ) (rest : List ℕ) → IsWholeToken t line rest → IsFront t line rest
unfolding front
front_is (word n) line rest h =
    let w = word_front line n.text rest h.0.0 h.0.1 h.1 in
    record { front = w.0 ∙ ap (λ (k : ℕ). (word (record { text = n.text; line = k }), rest)) (sym h.2); no_gap = w.1 }
front_is rules_begin line rest h = record { front = marked (codes "BEGING") rest 6 (run_whole is_name_byte (codes "BEGING") rest refl h) refl; no_gap = refl }
front_is rules_end line rest h = record { front = marked (codes "ENDG") rest 4 (run_whole is_name_byte (codes "ENDG") rest refl h) refl; no_gap = refl }
front_is automaton_begin line rest h = record { front = marked (codes "BEGINA") rest 6 (run_whole is_name_byte (codes "BEGINA") rest refl h) refl; no_gap = refl }
front_is automaton_end line rest h = record { front = marked (codes "ENDA") rest 4 (run_whole is_name_byte (codes "ENDA") rest refl h) refl; no_gap = refl }
front_is arrow line rest h = record { front = refl; no_gap = refl }
front_is dot line rest h = record { front = refl; no_gap = refl }
front_is left line rest h = record { front = refl; no_gap = refl }
front_is right line rest h = record { front = refl; no_gap = refl }
front_is end_of_file line rest h = absurd h
front_is bad line rest h = absurd h

-- what is read is bad, or stands there
abbrev pub IsTokenRead : ℕ → List ℕ → Token × List ℕ → Type 0
IsTokenRead line bytes x = (x.0 ≡ bad) ⊎ BeginsWith line bytes (token x.0) x.1

read_if : (line : ℕ) (bytes : List ℕ) (t : Bool) (x y : Token × List ℕ) → (t ≡ true → IsTokenRead line bytes x) → (t ≡ false → IsTokenRead line bytes y) → IsTokenRead line bytes (cond t x y)
read_if line bytes true x y p q = p refl
read_if line bytes false x y p q = q refl

arrow_read : (line : ℕ) (bytes : List ℕ) → IsTokenRead line (45 ∷ bytes) (arrow_front bytes)
arrow_read line [] = inl refl
arrow_read line (c ∷ bytes) = read_if line (45 ∷ (c ∷ bytes)) (eqb c 62) (arrow, bytes) (bad, c ∷ bytes)
    (λ h. inr (record { spelled = ap (λ (k : ℕ). 45 ∷ (k ∷ bytes)) (eqb-true c 62 h); whole = tt })) (λ _. inl refl)

sign_read : (line b : ℕ) (bytes : List ℕ) → IsTokenRead line (b ∷ bytes) (sign_front b bytes)
sign_read line b bytes =
    read_if line (b ∷ bytes) (eqb b 46) (dot, bytes) (cond (eqb b 40) (left, bytes) (cond (eqb b 41) (right, bytes) (cond (eqb b 45) (arrow_front bytes) (bad, bytes))))
    (λ h. inr (record { spelled = ap (λ (k : ℕ). k ∷ bytes) (eqb-true b 46 h); whole = tt })) (λ _.
    read_if line (b ∷ bytes) (eqb b 40) (left, bytes) (cond (eqb b 41) (right, bytes) (cond (eqb b 45) (arrow_front bytes) (bad, bytes)))
    (λ h. inr (record { spelled = ap (λ (k : ℕ). k ∷ bytes) (eqb-true b 40 h); whole = tt })) (λ _.
    read_if line (b ∷ bytes) (eqb b 41) (right, bytes) (cond (eqb b 45) (arrow_front bytes) (bad, bytes))
    (λ h. inr (record { spelled = ap (λ (k : ℕ). k ∷ bytes) (eqb-true b 41 h); whole = tt })) (λ _.
    read_if line (b ∷ bytes) (eqb b 45) (arrow_front bytes) (bad, bytes)
    (λ h. subst (λ (k : ℕ). IsTokenRead line (k ∷ bytes) (arrow_front bytes)) (sym (eqb-true b 45 h)) (arrow_read line bytes)) (λ _. inl refl))))

marker_read : (line : ℕ) (run rest : List ℕ) → prefix_len is_name_byte rest ≡ 0 → IsTokenRead line (37 ∷ (run ++ rest)) (marker run, rest)
marker_read line run rest none =
    go (bytes_eq run (codes "BEGING")) (bytes_eq run (codes "ENDG")) (bytes_eq run (codes "BEGINA")) (bytes_eq run (codes "ENDA"))
    (λ h. (bytes_eq-Decides run (codes "BEGING")).0 h) (λ h. (bytes_eq-Decides run (codes "ENDG")).0 h)
    (λ h. (bytes_eq-Decides run (codes "BEGINA")).0 h) (λ h. (bytes_eq-Decides run (codes "ENDA")).0 h)
  where
    is : (text : List ℕ) → run ≡ text → 37 ∷ (run ++ rest) ≡ 37 ∷ (text ++ rest)
    is text e = ap (λ (w : List ℕ). 37 ∷ (w ++ rest)) e

    go : (p q r s : Bool) → (p ≡ true → run ≡ codes "BEGING") → (q ≡ true → run ≡ codes "ENDG") → (r ≡ true → run ≡ codes "BEGINA") → (s ≡ true → run ≡ codes "ENDA") → IsTokenRead line (37 ∷ (run ++ rest)) (cond p rules_begin (cond q rules_end (cond r automaton_begin (cond s automaton_end bad))), rest)
    go true q r s hp hq hr hs = inr (record { spelled = is (codes "BEGING") (hp refl); whole = none })
    go false true r s hp hq hr hs = inr (record { spelled = is (codes "ENDG") (hq refl); whole = none })
    go false false true s hp hq hr hs = inr (record { spelled = is (codes "BEGINA") (hr refl); whole = none })
    go false false false true hp hq hr hs = inr (record { spelled = is (codes "ENDA") (hs refl); whole = none })
    go false false false false hp hq hr hs = inl refl

name_read : (line b : ℕ) (bytes : List ℕ) → is_name_byte b ≡ true → IsTokenRead line (b ∷ bytes) (run_front (as_word line) (b ∷ bytes))
name_read line b bytes h = inr (record {
  spelled = sym (take-append-drop (prefix_len is_name_byte (b ∷ bytes)) (b ∷ bytes));
  whole = ((some, run_passes is_name_byte (b ∷ bytes)), run_ends is_name_byte (b ∷ bytes), refl);
})
  where
    some : take (prefix_len is_name_byte (b ∷ bytes)) (b ∷ bytes) ≢ []
    some e = let k = prefix_yes is_name_byte b bytes h in let f : b ∷ take (prefix_len is_name_byte bytes) bytes ≡ [] = rw k at e in cc

pub front_read : (line b : ℕ) (bytes : List ℕ) → IsTokenRead line (b ∷ bytes) (front line (b ∷ bytes))
unfolding front
front_read line b bytes =
    read_if line (b ∷ bytes) (is_name_byte b) (run_front (as_word line) (b ∷ bytes)) (cond (eqb b 37) (run_front marker bytes) (sign_front b bytes))
    (name_read line b bytes) (λ _.
    read_if line (b ∷ bytes) (eqb b 37) (run_front marker bytes) (sign_front b bytes)
    (λ h. subst (λ (w : List ℕ). IsTokenRead line w (run_front marker bytes)) (ap (λ (w : List ℕ). 37 ∷ w) (take-append-drop (prefix_len is_name_byte bytes) bytes) ∙ ap (λ (k : ℕ). k ∷ bytes) (sym (eqb-true b 37 h)))
    (marker_read line (take (prefix_len is_name_byte bytes) bytes) (drop (prefix_len is_name_byte bytes) bytes) (run_ends is_name_byte bytes)))
    (λ _. sign_read line b bytes))
