-- The first three lines.
use Rattle.std.proofs.Common.{◌≡◌, refl, ◌∙◌, ap, subst, ℕ, zero, suc, ◌<◌, ◌≤◌, List, [], ◌∷◌, ◌++◌, codes, decimal, arith}
use Rattle.hs_scheme.specs.Problem.{ProblemData}
use Rattle.hs_cert.specs.declared.heading.Form.{Form}
use Rattle.hs_cert.specs.declared.heading.Form.TheVariants.{Full, Compact}
use Rattle.hs_cert.specs.Certificate.{ended, IsInLine, verdict_line, count_line, number_line, IsWithin, SaysCount, IsRight, IsFirstFaulty}
use Rattle.hs_cert.specs.Front.{Cut, HasHead}
use Rattle.hs_cert.proofs.LineLemmas.{cut_push, line_at, next_line}
use Rattle.hs_cert.proofs.Right.{one_count}

-- ---- one line

-- a line that says a number in neither form
pub no_count : (line : List ℕ) → ((n : ℕ) → n ≤ 1000000 → line ≡ codes "entries " ++ decimal n → ⊥) → ((n : ℕ) → n ≤ 1000000 → line ≡ codes "compact " ++ decimal n → ⊥)
    → (form : Form) (n : ℕ) → n ≤ 1000000 → line ≡ count_line form n → ⊥
no_count line one other Full n few e = one n few e
no_count line one other Compact n few e = other n few e

-- ---- the lines so far

cut_none : (bytes : List ℕ) → Cut bytes [] bytes
cut_none bytes = record { are = refl; clear = λ k d lt. absurd (omega (arith, lt)) }

cut_first : (bytes rest : List ℕ) → bytes ≡ ended verdict_line ++ rest → Cut bytes (verdict_line ∷ []) rest
cut_first bytes rest e = cut_push bytes [] bytes verdict_line rest (cut_none bytes) refl e

module _ (p : ProblemData) (bytes : List ℕ) where
  pub second_line : (rest : List ℕ) → bytes ≡ ended verdict_line ++ rest
      → ((form : Form) (n : ℕ) (behind : List ℕ) → n ≤ 1000000 → IsInLine (count_line form n) → rest ≡ ended (count_line form n) ++ behind → ⊥) → IsFirstFaulty p bytes 2
  second_line rest e nothing =
      let cut = cut_first bytes rest e in
      record {
        place = 1;
        counted = refl;
        faulty = λ right.
            let left = next_line bytes (verdict_line ∷ []) rest 1 (count_line right.0 right.1) cut refl right.2.line in
            nothing right.0 right.1 left.0 right.2.few right.2.line.inside left.1;
        first = λ k lt. first k lt cut;
      }
    where
      first : (k : ℕ) → k < 1 → Cut bytes (verdict_line ∷ []) rest → IsRight p bytes k
      first zero lt cut = line_at bytes [] verdict_line [] rest cut
      first (suc k) lt cut = absurd (omega (arith, lt))

module _ (bytes : List ℕ) (form : Form) (n : ℕ) (one two : List ℕ) (e : bytes ≡ ended verdict_line ++ one) (f : one ≡ ended (count_line form n) ++ two) (inside : IsInLine (count_line form n)) (few : n ≤ 1000000) where
  cut_second : Cut bytes (verdict_line ∷ (count_line form n ∷ [])) two
  cut_second = cut_push bytes (verdict_line ∷ []) one (count_line form n) two (cut_first bytes one e) inside f

  says_count : SaysCount bytes form n
  says_count = record { line = line_at bytes (verdict_line ∷ []) (count_line form n) [] two cut_second; few = few }

  pub third_line : (p : ProblemData) → ((m : ℕ) (behind : List ℕ) → IsWithin form m → IsInLine (number_line form m) → two ≡ ended (number_line form m) ++ behind → ⊥) → IsFirstFaulty p bytes 3
  third_line p nothing =
      record {
        place = 2;
        counted = refl;
        faulty = λ right.
            let h = right.0 in
            let left = next_line bytes (verdict_line ∷ (count_line form n ∷ [])) two 2 (number_line h.form h.number) cut_second refl right.1.line in
            let same : h.form ≡ form = (one_count bytes h.form form h.entries n right.1.count says_count).0 in
            nothing h.number left.0 (subst (λ g. IsWithin g h.number) same right.1.within) (subst (λ g. IsInLine (number_line g h.number)) same right.1.line.inside)
            (left.1 ∙ ap (λ g. ended (number_line g h.number) ++ left.0) same);
        first = λ k lt. first k lt;
      }
    where
      first : (k : ℕ) → k < 2 → IsRight p bytes k
      first zero lt = line_at bytes [] verdict_line (count_line form n ∷ []) two cut_second
      first (suc zero) lt = (form, n, says_count)
      first (suc (suc k)) lt = absurd (omega (arith, lt))

  pub headed : (m : ℕ) (rest : List ℕ) → two ≡ ended (number_line form m) ++ rest → IsInLine (number_line form m) → IsWithin form m → HasHead bytes (record { form = form; entries = n; number = m }) rest
  headed m rest g clear fits =
      record { cut = cut_push bytes (verdict_line ∷ (count_line form n ∷ [])) two (number_line form m) rest cut_second clear g; few = few; fits = fits }
