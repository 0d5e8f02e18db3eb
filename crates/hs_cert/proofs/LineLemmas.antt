-- Lines of a text.
use Rattle.std.proofs.Common.{◌≡◌, ◌≢◌, refl, sym, ◌∙◌, ap, subst, ℕ, suc, ◌+◌, ◌-◌, ◌<◌, ◌≤◌, Bool, true, false, not, ◌==◌, List, [], ◌∷◌, ◌++◌, length, codes, take, drop, cond, All, append_assoc, arith}
use Rattle.std.specs.List.{list_all, prefix_len}
use Rattle.std.proofs.lemmas.Bool.{and_parts, eqb-true}
use Rattle.std.proofs.Math.Seq.{take-length}
use Rattle.std.proofs.lemmas.List.{append-nil}
use Rattle.std.proofs.lemmas.List.Concat.{flat_map-append}
use Rattle.hs_reader.proofs.Runs.{run_passes, run_ends}
use Rattle.hs_cert.specs.Certificate.{ended, IsInLine, IsLine, IsThere}
use Rattle.hs_cert.specs.Front.{text_of, Cut}
use Rattle.hs_cert.proofs.Fronts.{first, behind_first, all_behind}
use Rattle.hs_cert.proofs.Environments.{all_push, all_front}

abbrev pub is_inner : ℕ → Bool
is_inner b = not (b == 10)

no_end : (b : ℕ) → b ≡ 10 → is_inner b ≡ true → ⊥
no_end b e h = let f : is_inner 10 ≡ true = subst (λ c. is_inner c ≡ true) e h in let g : false ≡ true = f in cc

-- the first line of a text is the only one
pub same_line : (a b r s : List ℕ) → IsInLine a → IsInLine b → ended a ++ r ≡ ended b ++ s → (a ≡ b) × (r ≡ s)
same_line [] [] r s ia ib e = (refl, ap behind_first e)
same_line [] (c ∷ b) r s ia ib e = absurd (no_end c (sym (ap first e)) (and_parts (is_inner c) (list_all is_inner b) ib).0)
same_line (c ∷ a) [] r s ia ib e = absurd (no_end c (ap first e) (and_parts (is_inner c) (list_all is_inner a) ia).0)
same_line (c ∷ a) (d ∷ b) r s ia ib e =
    let p = same_line a b r s (and_parts (is_inner c) (list_all is_inner a) ia).1 (and_parts (is_inner d) (list_all is_inner b) ib).1 (ap behind_first e) in
    (λ i. ap first e i ∷ p.0 i, p.1)

pub cut_push : (bytes : List ℕ) (lines : List (List ℕ)) (rest line behind : List ℕ) → Cut bytes lines rest → IsInLine line → rest ≡ ended line ++ behind → Cut bytes (lines ++ line ∷ []) behind
cut_push bytes lines rest line behind c inside e =
    record {
      are =
          c.are ∙ (ap (λ (x : List ℕ). text_of lines ++ x) e ∙ (sym (append_assoc (text_of lines) (ended line) behind)
          ∙ ap (λ (x : List ℕ). x ++ behind) (sym (flat_map-append ended lines (line ∷ []) ∙ ap (λ (x : List ℕ). text_of lines ++ x) (append-nil (ended line))))));
      clear = all_push IsInLine lines line c.clear inside;
    }

-- lines at the front alone
pub cut_front : (bytes : List ℕ) (xs ys : List (List ℕ)) (rest : List ℕ) → Cut bytes (xs ++ ys) rest → Cut bytes xs (text_of ys ++ rest)
cut_front bytes xs ys rest c =
    record {
      are = c.are ∙ (ap (λ (x : List ℕ). x ++ rest) (flat_map-append ended xs ys) ∙ append_assoc (text_of xs) (text_of ys) rest);
      clear = all_front IsInLine xs ys c.clear;
    }

-- a text is cut in one way
pub same_cut : (xs ys : List (List ℕ)) (r s : List ℕ) → All IsInLine xs → All IsInLine ys → length xs ≡ length ys → text_of xs ++ r ≡ text_of ys ++ s → (xs ≡ ys) × (r ≡ s)
same_cut [] [] r s cx cy long e = (refl, e)
same_cut [] (y ∷ ys) r s cx cy long e = absurd (omega (arith, long))
same_cut (x ∷ xs) [] r s cx cy long e = absurd (omega (arith, long))
same_cut (x ∷ xs) (y ∷ ys) r s cx cy long e =
    let p = same_line x y (text_of xs ++ r) (text_of ys ++ s) (cx 0 [] (omega arith)) (cy 0 [] (omega arith)) (sym (append_assoc (ended x) (text_of xs) r) ∙ (e ∙ append_assoc (ended y) (text_of ys) s)) in
    let q = same_cut xs ys r s (all_behind IsInLine x xs cx) (all_behind IsInLine y ys cy) (omega (arith, long)) p.1 in
    (λ i. p.0 i ∷ q.0 i, q.1)

-- behind as many lines and more there is nothing
pub nothing_behind : (xs ys : List (List ℕ)) (s : List ℕ) → All IsInLine xs → All IsInLine ys → length xs ≤ length ys → text_of xs ≡ text_of ys ++ s → s ≡ []
nothing_behind [] [] s cx cy long e = sym e
nothing_behind [] (y ∷ ys) s cx cy long e = absurd (empty y (text_of ys) s e)
  where
    empty : (y r s : List ℕ) → [] ≡ (ended y ++ r) ++ s → ⊥
    empty [] r s e = let f : 0 ≡ suc (length (r ++ s)) = ap length e in omega (arith, f)
    empty (b ∷ y) r s e = let f : 0 ≡ suc (length ((ended y ++ r) ++ s)) = ap length e in omega (arith, f)
nothing_behind (x ∷ xs) [] s cx cy long e = absurd (omega (arith, long))
nothing_behind (x ∷ xs) (y ∷ ys) s cx cy long e =
    let p = same_line x y (text_of xs) (text_of ys ++ s) (cx 0 [] (omega arith)) (cy 0 [] (omega arith)) (e ∙ append_assoc (ended y) (text_of ys) s) in
    nothing_behind xs ys s (all_behind IsInLine x xs cx) (all_behind IsInLine y ys cy) (omega (arith, long)) p.1

-- a line that was read, by its number
pub line_at : (bytes : List ℕ) (before : List (List ℕ)) (line : List ℕ) (behind : List (List ℕ)) (rest : List ℕ) → Cut bytes (before ++ line ∷ behind) rest → IsLine bytes (length before) line
line_at bytes before line behind rest c =
    record {
      before = before;
      behind = text_of behind ++ rest;
      are =
          c.are ∙ (ap (λ (x : List ℕ). x ++ rest) (flat_map-append ended before (line ∷ behind))
          ∙ (append_assoc (text_of before) (ended line ++ text_of behind) rest ∙ ap (λ (x : List ℕ). text_of before ++ x) (append_assoc (ended line) (text_of behind) rest)));
      long = refl;
      clear = all_front IsInLine before (line ∷ behind) c.clear;
      inside = own before c.clear;
    }
  where
    own : (xs : List (List ℕ)) → All IsInLine (xs ++ line ∷ behind) → IsInLine line
    own [] h = h 0 [] (omega arith)
    own (x ∷ xs) h = own xs (all_behind IsInLine x (xs ++ line ∷ behind) h)

-- one text stands on a line
pub same_text : (bytes : List ℕ) (k : ℕ) (a b : List ℕ) → IsLine bytes k a → IsLine bytes k b → a ≡ b
same_text bytes k a b f g =
    let p = same_cut f.before g.before (ended a ++ f.behind) (ended b ++ g.behind) f.clear g.clear (f.long ∙ sym g.long) (sym f.are ∙ g.are) in
    (same_line a b f.behind g.behind f.inside g.inside p.1).0

-- what is left begins with the line of the next number
pub next_line : (bytes : List ℕ) (lines : List (List ℕ)) (rest : List ℕ) (k : ℕ) (a : List ℕ) → Cut bytes lines rest → length lines ≡ k → IsLine bytes k a → (behind : List ℕ) × (rest ≡ ended a ++ behind)
next_line bytes lines rest k a c long f =
    let p = same_cut lines f.before rest (ended a ++ f.behind) c.clear f.clear (long ∙ sym f.long) (sym c.are ∙ f.are) in (f.behind, p.1)

pub there_left : (bytes : List ℕ) (lines : List (List ℕ)) (rest : List ℕ) → Cut bytes lines rest → rest ≢ [] → IsThere bytes (length lines)
there_left bytes lines rest c some = record { before = lines; behind = rest; are = c.are; long = refl; clear = c.clear; some = some }

-- ---- the line at the front of a text

is_end : (b : ℕ) → is_inner b ≡ false → b ≡ 10
is_end b h = go (b == 10) refl h
  where
    go : (t : Bool) → (b == 10) ≡ t → not t ≡ false → b ≡ 10
    go true e f = eqb-true b 10 e
    go false e f = absurd (cc)

cut_at : (bytes rest : List ℕ) → prefix_len is_inner bytes ≡ 0 → 1 ≤ length bytes → rest ≡ drop 1 bytes → bytes ≡ codes "\n" ++ rest
cut_at [] rest stops some e = absurd (omega (arith, some))
cut_at (b ∷ bytes) rest stops some e = λ i. go (is_inner b) refl stops i ∷ sym e i
  where
    go : (t : Bool) → is_inner b ≡ t → cond t (1 + prefix_len is_inner bytes) 0 ≡ 0 → b ≡ 10
    go true h f = absurd (omega (arith, f))
    go false h f = is_end b h

module _ (bytes line behind : List ℕ) (n : ℕ) (run : n ≡ prefix_len is_inner bytes) (front : line ≡ take n bytes) (back : behind ≡ drop n bytes) (whole : bytes ≡ line ++ behind) where
  pub front_inside : IsInLine line
  front_inside = subst (λ (x : List ℕ). list_all is_inner x ≡ true) (sym (front ∙ ap (λ k. take k bytes) run)) (run_passes is_inner bytes)

  pub front_line : (rest : List ℕ) → 1 ≤ length behind → rest ≡ drop 1 behind → bytes ≡ ended line ++ rest
  front_line rest some e =
      let stops : prefix_len is_inner behind ≡ 0 = subst (λ (x : List ℕ). prefix_len is_inner x ≡ 0) (sym (back ∙ ap (λ k. drop k bytes) run)) (run_ends is_inner bytes) in
      whole ∙ (ap (λ (x : List ℕ). line ++ x) (cut_at behind rest stops some e) ∙ sym (append_assoc line (codes "\n") rest))

  pub no_line : behind ≡ [] → (other rest : List ℕ) → bytes ≡ ended other ++ rest → ⊥
  no_line empty other rest e = go other (subst (λ (x : List ℕ). list_all is_inner x ≡ true) (sym (whole ∙ (ap (λ (x : List ℕ). line ++ x) empty ∙ append-nil line)) ∙ e) front_inside)
    where
      go : (other : List ℕ) → list_all is_inner (ended other ++ rest) ≡ true → ⊥
      go [] h = let f : false ≡ true = h in cc
      go (b ∷ other) h = go other (and_parts (is_inner b) (list_all is_inner (ended other ++ rest)) h).1

pub empty_of : (xs : List ℕ) → length xs < 1 → xs ≡ []
empty_of [] h = refl
empty_of (x ∷ xs) h = absurd (omega (arith, h))

pub rest_of : (xs : List ℕ) → take (length xs - 1) (drop 1 xs) ≡ drop 1 xs
rest_of [] = take-length []
rest_of (x ∷ xs) = let e : length (x ∷ xs) - 1 ≡ length xs = omega arith in ap (λ n. take n xs) e ∙ take-length xs
