-- The tokens of bytes are those from the front on.
use Rattle.std.proofs.Common.{◌≡◌, ℕ, zero, suc, ◌+◌, ◌-◌, ◌<◌, ◌≤◌, Bool, true, false, ◌&&◌, cond, eqb, List, [], ◌∷◌, length, take, drop, get_or, Option, Some, None, refl, sym, ap, subst, ◌∙◌, arith, add-one}
use Rattle.std.proofs.Math.Seq.{take-length}
use Rattle.std.proofs.lemmas.List.{length-drop}
use Rattle.std.specs.List.{prefix_len}
use Rattle.hs_reader.specs.Tokens.{is_blank, is_name_byte, Token, Placed, word, rules_begin, rules_end, automaton_begin, automaton_end, arrow, dot, left, right, end_of_file, bad}
use Rattle.hs_reader.specs.Reading.{marker, arrow_front, sign_front, run_front, as_word, front, line_behind, starts_with, comment_rest, slash_rest, gap_rest, place, from_token, from_gap, tokens_within, tokens}
use Rattle.hs_reader.specs.ReadingStages.{Shortens}

-- ---- what is read is shorter

if_shorter : (t : Bool) (x y : Token × List ℕ) (n : ℕ) → length x.1 ≤ n → length y.1 ≤ n → length (cond t x y).1 ≤ n
if_shorter true x y n p q = p
if_shorter false x y n p q = q

arrow_shorter : (bytes : List ℕ) → length (arrow_front bytes).1 ≤ length bytes
arrow_shorter [] = omega arith
arrow_shorter (b ∷ bytes) = if_shorter (eqb b 62) (arrow, bytes) (bad, b ∷ bytes) (suc (length bytes)) (omega arith) (omega arith)

sign_shorter : (b : ℕ) (bytes : List ℕ) → length (sign_front b bytes).1 ≤ length bytes
sign_shorter b bytes =
    let same : length bytes ≤ length bytes = omega arith in
    if_shorter (eqb b 46) (dot, bytes) (cond (eqb b 40) (left, bytes) (cond (eqb b 41) (right, bytes) (cond (eqb b 45) (arrow_front bytes) (bad, bytes)))) (length bytes) same
    (if_shorter (eqb b 40) (left, bytes) (cond (eqb b 41) (right, bytes) (cond (eqb b 45) (arrow_front bytes) (bad, bytes))) (length bytes) same
    (if_shorter (eqb b 41) (right, bytes) (cond (eqb b 45) (arrow_front bytes) (bad, bytes)) (length bytes) same
    (if_shorter (eqb b 45) (arrow_front bytes) (bad, bytes) (length bytes) (arrow_shorter bytes) same)))

run_shorter : (f : List ℕ → Token) (bytes : List ℕ) → length (run_front f bytes).1 ≤ length bytes
run_shorter f bytes = omega (arith, length-drop (prefix_len is_name_byte bytes) bytes)

-- a name that begins with a name byte has at least that byte
name_shorter : (f : List ℕ → Token) (b : ℕ) (bytes : List ℕ) → is_name_byte b ≡ true → length (run_front f (b ∷ bytes)).1 ≤ length bytes
name_shorter f b bytes h =
    let n : prefix_len is_name_byte (b ∷ bytes) ≡ 1 + prefix_len is_name_byte bytes = rw h refl in
    omega (arith, length-drop (prefix_len is_name_byte (b ∷ bytes)) (b ∷ bytes))

pub front_shorter : (line b : ℕ) (bytes : List ℕ) → length (front line (b ∷ bytes)).1 ≤ length bytes
unfolding front
front_shorter line b bytes = go (is_name_byte b) refl
  where
    behind : length (cond (eqb b 37) (run_front marker bytes) (sign_front b bytes)).1 ≤ length bytes
    behind = if_shorter (eqb b 37) (run_front marker bytes) (sign_front b bytes) (length bytes) (run_shorter marker bytes) (sign_shorter b bytes)

    go : (t : Bool) → is_name_byte b ≡ t → length (cond t (run_front (as_word line) (b ∷ bytes)) (cond (eqb b 37) (run_front marker bytes) (sign_front b bytes))).1 ≤ length bytes
    go true e = name_shorter (as_word line) b bytes e
    go false e = behind

pub front_within : (line : ℕ) (bytes : List ℕ) → length (front line bytes).1 ≤ length bytes
unfolding front
front_within line [] = omega arith
front_within line (b ∷ bytes) = omega (arith, front_shorter line b bytes)

shortens_by : (t : Token) (m n : ℕ) → m < n → Shortens t m n
shortens_by (word w) m n h = h
shortens_by end_of_file m n h = tt
shortens_by t m n h = h

pub front_shortens : (line : ℕ) (bytes : List ℕ) (x : Token × List ℕ) (n : ℕ) → x ≡ front line bytes → length bytes ≤ n → Shortens x.0 (length x.1) n
unfolding front
front_shortens line [] x n e le = subst (λ (y : Token × List ℕ). Shortens y.0 (length y.1) n) (sym e) tt
front_shortens line (b ∷ bytes) x n e le = subst (λ (y : Token × List ℕ). Shortens y.0 (length y.1) n) (sym e) (shortens_by (front line (b ∷ bytes)).0 (length (front line (b ∷ bytes)).1) n (omega (arith, front_shorter line b bytes)))

comment_shorter : (line : ℕ) (bytes : List ℕ) (x : ℕ × List ℕ) → comment_rest line bytes ≡ Some x → length x.1 ≤ length bytes
unfolding comment_rest
comment_shorter line [] x e = absurd cc
comment_shorter line (b ∷ bytes) x e = go (eqb b 42 && starts_with 47 bytes) (comment_shorter (line_behind line b) bytes x) e
  where
    go : (t : Bool) → (comment_rest (line_behind line b) bytes ≡ Some x → length x.1 ≤ length bytes) → cond t (Some (line, drop 1 bytes)) (comment_rest (line_behind line b) bytes) ≡ Some x → length x.1 ≤ length (b ∷ bytes)
    go true later e = let same : (line, drop 1 bytes) ≡ x = cc in omega (arith, length-drop 1 bytes, ap (λ (y : ℕ × List ℕ). length y.1) same)
    go false later e = omega (arith, later e)

slash_shorter : (line : ℕ) (bytes : List ℕ) (x : ℕ × List ℕ) → slash_rest line bytes ≡ Some x → length x.1 ≤ length bytes
slash_shorter line [] x e = absurd cc
slash_shorter line (b ∷ bytes) x e = go (eqb b 42) e
  where
    go : (t : Bool) → cond t (comment_rest line bytes) None ≡ Some x → length x.1 ≤ length (b ∷ bytes)
    go true e = omega (arith, comment_shorter line bytes x e)
    go false e = absurd cc

pub gap_shorter : (line : ℕ) (bytes : List ℕ) (x : ℕ × List ℕ) → gap_rest line bytes ≡ Some x → length x.1 < length bytes
gap_shorter line [] x e = absurd cc
gap_shorter line (b ∷ bytes) x e = go (is_blank b) (eqb b 47) e
  where
    go : (t u : Bool) → cond t (Some (line_behind line b, bytes)) (cond u (slash_rest line bytes) None) ≡ Some x → length x.1 < length (b ∷ bytes)
    go true u e = let same : (line_behind line b, bytes) ≡ x = cc in omega (arith, ap (λ (y : ℕ × List ℕ). length y.1) same)
    go false true e = omega (arith, slash_shorter line bytes x e)
    go false false e = absurd cc

-- ---- the bound on the number of tokens doesn't matter

same_from_token : (f g : ℕ → List ℕ → List Placed) (line : ℕ) (t : Token) (rest : List ℕ) → f line rest ≡ g line rest → from_token f line (t, rest) ≡ from_token g line (t, rest)
same_from_token f g line end_of_file rest h = refl
same_from_token f g line bad rest h = refl
same_from_token f g line (word n) rest h = ap (λ (ts : List Placed). place line (word n) ∷ ts) h
same_from_token f g line rules_begin rest h = ap (λ (ts : List Placed). place line rules_begin ∷ ts) h
same_from_token f g line rules_end rest h = ap (λ (ts : List Placed). place line rules_end ∷ ts) h
same_from_token f g line automaton_begin rest h = ap (λ (ts : List Placed). place line automaton_begin ∷ ts) h
same_from_token f g line automaton_end rest h = ap (λ (ts : List Placed). place line automaton_end ∷ ts) h
same_from_token f g line arrow rest h = ap (λ (ts : List Placed). place line arrow ∷ ts) h
same_from_token f g line dot rest h = ap (λ (ts : List Placed). place line dot ∷ ts) h
same_from_token f g line left rest h = ap (λ (ts : List Placed). place line left ∷ ts) h
same_from_token f g line right rest h = ap (λ (ts : List Placed). place line right ∷ ts) h

abbrev SameOnShorter : (ℕ → List ℕ → List Placed) → (ℕ → List ℕ → List Placed) → ℕ → Type 0
SameOnShorter f g n = (line : ℕ) (rest : List ℕ) → length rest < n → f line rest ≡ g line rest

same_front : (f g : ℕ → List ℕ → List Placed) (line : ℕ) (bytes : List ℕ) → SameOnShorter f g (length bytes) → from_token f line (front line bytes) ≡ from_token g line (front line bytes)
unfolding front
same_front f g line [] h = refl
same_front f g line (b ∷ bytes) h = same_from_token f g line (front line (b ∷ bytes)).0 (front line (b ∷ bytes)).1 (h line (front line (b ∷ bytes)).1 (omega (arith, front_shorter line b bytes)))

same_from_gap : (f g : ℕ → List ℕ → List Placed) (line : ℕ) (bytes : List ℕ) (o : Option (ℕ × List ℕ)) → gap_rest line bytes ≡ o → SameOnShorter f g (length bytes) → from_gap f line bytes o ≡ from_gap g line bytes o
same_from_gap f g line bytes None e h = same_front f g line bytes h
same_from_gap f g line bytes (Some x) e h = h x.0 x.1 (gap_shorter line bytes x e)

same_within : (n m line : ℕ) (bytes : List ℕ) → length bytes < n → length bytes < m → tokens_within n line bytes ≡ tokens_within m line bytes
unfolding tokens_within
same_within zero m line bytes p q = absurd (omega arith)
same_within (suc n) zero line bytes p q = absurd (omega arith)
same_within (suc n) (suc m) line bytes p q =
    same_from_gap (tokens_within n) (tokens_within m) line bytes (gap_rest line bytes) refl (λ at rest lt. same_within n m at rest (omega arith) (omega arith))

pub tokens_step : (line : ℕ) (bytes : List ℕ) → tokens line bytes ≡ from_gap tokens line bytes (gap_rest line bytes)
unfolding tokens tokens_within
tokens_step line bytes =
    rw (add-one (length bytes)) (same_from_gap (tokens_within (length bytes)) (λ at rest. tokens_within (length rest + 1) at rest) line bytes (gap_rest line bytes) refl
    (λ at rest lt. same_within (length bytes) (length rest + 1) at rest lt (omega arith)))

pub tokens_behind : (line : ℕ) (bytes : List ℕ) (x : ℕ × List ℕ) → gap_rest line bytes ≡ Some x → tokens line bytes ≡ tokens x.0 x.1
tokens_behind line bytes x e = tokens_step line bytes ∙ ap (from_gap tokens line bytes) e

pub tokens_front : (line : ℕ) (bytes : List ℕ) → gap_rest line bytes ≡ None → tokens line bytes ≡ from_token tokens line (front line bytes)
tokens_front line bytes e = tokens_step line bytes ∙ ap (from_gap tokens line bytes) e

-- ---- the code's slices

pub at_front : (bytes : List ℕ) → 1 ≤ length bytes → bytes ≡ get_or bytes 0 0 ∷ take (length bytes - 1) (drop 1 bytes)
at_front [] h = absurd (omega arith)
at_front (b ∷ bytes) h = let n : suc (length bytes) - 1 ≡ length bytes = omega arith in rw (n, take-length bytes) refl

pub reads_sign : (line : ℕ) (bytes : List ℕ) (x : Token × List ℕ) → 1 ≤ length bytes → is_name_byte (get_or bytes 0 0) ≡ false → eqb (get_or bytes 0 0) 37 ≡ false → x ≡ sign_front (get_or bytes 0 0) (take (length bytes - 1) (drop 1 bytes)) → x ≡ front line bytes
unfolding front
reads_sign line bytes x h no_name no_marker e =
    e ∙ sym (ap (front line) (at_front bytes h) ∙ rw (no_name, no_marker) refl)

pub chosen : {A : Type 0} (t : Bool) (x y : A) → t ≡ true → cond t x y ≡ x
chosen true x y h = refl
chosen false x y h = absurd cc

pub not_chosen : {A : Type 0} (t : Bool) (x y : A) → t ≡ false → cond t x y ≡ y
not_chosen true x y h = absurd cc
not_chosen false x y h = refl

-- a comment goes on behind a byte, or ends there
pub comment_on : (line : ℕ) (bytes : List ℕ) → 1 ≤ length bytes → (eqb (get_or bytes 0 0) 42 && starts_with 47 (take (length bytes - 1) (drop 1 bytes))) ≡ false → comment_rest line bytes ≡ comment_rest (line_behind line (get_or bytes 0 0)) (take (length bytes - 1) (drop 1 bytes))
unfolding comment_rest
comment_on line bytes h off =
    let behind : List ℕ = take (length bytes - 1) (drop 1 bytes) in
    ap (comment_rest line) (at_front bytes h)
    ∙ not_chosen (eqb (get_or bytes 0 0) 42 && starts_with 47 behind) (Some (line, drop 1 behind)) (comment_rest (line_behind line (get_or bytes 0 0)) behind) off

pub comment_off : (line : ℕ) (bytes : List ℕ) → 1 ≤ length bytes → (eqb (get_or bytes 0 0) 42 && starts_with 47 (take (length bytes - 1) (drop 1 bytes))) ≡ true → comment_rest line bytes ≡ Some (line, drop 1 (take (length bytes - 1) (drop 1 bytes)))
unfolding comment_rest
comment_off line bytes h on =
    let behind : List ℕ = take (length bytes - 1) (drop 1 bytes) in
    ap (comment_rest line) (at_front bytes h)
    ∙ chosen (eqb (get_or bytes 0 0) 42 && starts_with 47 behind) (Some (line, drop 1 behind)) (comment_rest (line_behind line (get_or bytes 0 0)) behind) on

pub comment_none : (line : ℕ) (bytes : List ℕ) → length bytes ≡ 0 → comment_rest line bytes ≡ None
unfolding comment_rest
comment_none line [] h = refl
comment_none line (b ∷ bytes) h = absurd (omega arith)

pub line_bound : (line b : ℕ) → line_behind line b ≤ line + 1
line_bound line b = go (eqb b 10)
  where
    go : (t : Bool) → cond t (line + 1) line ≤ line + 1
    go true = omega arith
    go false = omega arith
