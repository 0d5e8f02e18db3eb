-- The definition at small texts: the lines of entries of a scheme with the rules S and F x and the states q0 and q1, and a report of
-- another verdict.
use Rattle.std.specs.Prelude.{◌≡◌, refl, ℕ, List, [], ◌∷◌, ◌++◌, length, codes}
use Rattle.std.specs.List.{flat_map}
use Rattle.std.proofs.Common.{ap, arith}
use Rattle.std.proofs.lemmas.Fmt.{decimal_digit}
use Rattle.hs_scheme.specs.Names.{NamesData}
use Rattle.hs_scheme.specs.Problem.{ProblemData}
use Rattle.hs_table.specs.Types.{state, arrow}
use Rattle.hs_text.specs.Report.{entry_text}
use Rattle.hs_cert.specs.Certificate.{nesting, IsFirstFaulty, ended, verdict_line}

abbrev pub names : NamesData
names = record {
  rules = codes "S" ∷ (codes "F" ∷ []);
  params = [] ∷ ((codes "x" ∷ []) ∷ []);
  terminals = codes "br" ∷ (codes "a" ∷ (codes "b" ∷ (codes "c" ∷ [])));
  states = codes "q0" ∷ (codes "q1" ∷ []);
}

-- at the body of S, and at point 2, in the rule of F
pub start_line : entry_text names 0 (record { point = 0; env = []; ty = state 1 }) ≡ codes "0 S [] q1"
start_line = ap (λ d. (d ++ codes " S ") ++ codes "[] q1") (decimal_digit 0 (omega arith))

pub point_line : entry_text names 1 (record { point = 2; env = [] ∷ []; ty = state 1 }) ≡ codes "2 F [x:{}] q1"
point_line = ap (λ d. (d ++ codes " F ") ++ codes "[x:{}] q1") (decimal_digit 2 (omega arith))

pub arrow_line : entry_text names 1 (record { point = 2; env = (state 0 ∷ (arrow [] (state 1) ∷ [])) ∷ []; ty = arrow (state 0 ∷ []) (state 1) }) ≡ codes "2 F [x:{q0,{} -> q1}] {q0} -> q1"
arrow_line = ap (λ d. (d ++ codes " F ") ++ codes "[x:{q0,{} -> q1}] {q0} -> q1") (decimal_digit 2 (omega arith))

pub state_nested : nesting (state 0) ≡ 1
state_nested = refl

pub arrow_nested : nesting (arrow (state 0 ∷ []) (state 1)) ≡ 2
arrow_nested = refl

-- a report of another verdict is refused for its first line
abbrev first_or : ℕ → List ℕ → ℕ
first_or d [] = d
first_or d (b ∷ bytes) = b

pub rejected_refused : (p : ProblemData) (rest : List ℕ) → IsFirstFaulty p (codes "rejected" ++ rest) 1
rejected_refused p rest = record { place = 0; counted = refl; faulty = λ l. not_first l.before l.behind l.long l.are; first = λ k lt. absurd (omega (arith, lt)) }
  where
    not_first : (before : List (List ℕ)) (behind : List ℕ) → length before ≡ 0 → codes "rejected" ++ rest ≡ flat_map ended before ++ (ended verdict_line ++ behind) → ⊥
    not_first [] behind long e = let f : 114 ≡ 97 = ap (first_or 0) e in omega (arith, f)
    not_first (line ∷ before) behind long e = omega (arith, long)
