-- A generated file is short.
use Rattle.std.proofs.Common.{◌≡◌, refl, sym, ap, subst, ℕ, zero, suc, ◌+◌, ◌*◌, ◌-◌, ◌^◌, ◌<◌, ◌≤◌, List, [], ◌∷◌, ◌++◌, length, get_or, All, arith, length-append}
use Rattle.std.specs.Prelude.{codes, decimal}
use Rattle.std.specs.List.{flat_map, range_with_len}
use Rattle.std.proofs.lemmas.List.Elements.{All-head, All-tail}
use Rattle.std.proofs.lemmas.List.FromFn.{get_or-range_with_len, length-range_with_len}
use Rattle.std.proofs.lemmas.Fmt.{length-decimal-le}
use Rattle.hs_gen.specs.Cycle.{state_name, branch_line, step_line, end_line, inner_lines, last_lines, rule_lines, cycle_file_text}

-- pieces of a bounded length side by side
flat_short : {X : Type 0} (f : X → List ℕ) (c : ℕ) (xs : List X) → All (λ x. length (f x) ≤ c) xs → length (flat_map f xs) ≤ c * length xs
flat_short f c [] h = omega arith
flat_short f c (x ∷ xs) h =
    let first = All-head (λ y. length (f y) ≤ c) x xs h in
    let rest = flat_short f c xs (All-tail (λ y. length (f y) ≤ c) x xs h) in
    omega (arith, length-append (f x) (flat_map f xs), first, rest)

name_short : (i : ℕ) → i < 1000 → length (state_name i) ≤ 4
name_short i h = omega (arith, length-append (codes "s") (decimal i), length-decimal-le 3 i (omega arith) h (omega (arith, h)))

pieces : (a b c d e f : List ℕ) → length (a ++ (b ++ (c ++ (d ++ (e ++ f))))) ≡ length a + length b + length c + length d + length e + length f
pieces a b c d e f =
    omega (arith, length-append a (b ++ (c ++ (d ++ (e ++ f)))), length-append b (c ++ (d ++ (e ++ f))), length-append c (d ++ (e ++ f)), length-append d (e ++ f), length-append e f)

branch_short : (i : ℕ) → i < 1000 → length (branch_line i) ≤ 30
branch_short i h =
    let n = state_name i in
    omega (arith, pieces n (codes " br -> ") n (codes " ") n (codes ".\n"), name_short i h)

step_short : (i j : ℕ) → i < 1000 → j < 1000 → length (step_line i j) ≤ 20
step_short i j h k =
    omega (arith, length-append (state_name i) (codes " a -> " ++ (state_name j ++ codes ".\n")), length-append (codes " a -> ") (state_name j ++ codes ".\n"), length-append (state_name j) (codes ".\n"), name_short i h, name_short j k)

end_short : (i : ℕ) → i < 1000 → length (end_line i) ≤ 20
end_short i h = omega (arith, length-append (state_name i) (codes " c -> .\n"), name_short i h)

inner_short : (i : ℕ) → i < 999 → length (inner_lines i) ≤ 70
inner_short i h =
    omega (
      arith,
      length-append (branch_line i) (step_line i (i + 1) ++ end_line i),
      length-append (step_line i (i + 1)) (end_line i),
      branch_short i (omega (arith, h)),
      step_short i (i + 1) (omega (arith, h)) (omega (arith, h)),
      end_short i (omega (arith, h)),
    )

last_short : (i : ℕ) → i < 1000 → length (last_lines i) ≤ 70
last_short i h = omega (arith, length-append (branch_line i) (step_line i 0), branch_short i h, step_short i 0 h (omega arith))

all_inner : (n : ℕ) → n < 999 → All (λ i. length (inner_lines i) ≤ 70) (range_with_len 0 n)
all_inner n h k d below =
    let within : k < n = omega (arith, below, length-range_with_len 0 n) in
    let is : get_or (range_with_len 0 n) k d ≡ k = omega (arith, get_or-range_with_len 0 n k d within) in
    subst (λ (i : ℕ). length (inner_lines i) ≤ 70) (sym is) (inner_short k (omega (arith, within, h)))

rules_short : length rule_lines ≤ 100
rules_short = omega arith

pub cycle_short : (k : ℕ) → 1 ≤ k → k ≤ 300 → length (cycle_file_text k) ≤ 65536
cycle_short k least most =
    let n : ℕ = k - 1 in
    let small : n < 300 = omega (arith, least, most) in
    let inner : List ℕ = flat_map inner_lines (range_with_len 0 n) in
    let last : List ℕ = last_lines n in
    let of_inner : length inner ≤ 70 * length (range_with_len 0 n) = flat_short inner_lines 70 (range_with_len 0 n) (all_inner n (omega (arith, small))) in
    let of_last : length last ≤ 70 = last_short n (omega (arith, small)) in
    let many : length (range_with_len 0 n) ≡ n = length-range_with_len 0 n in
    omega (
      arith,
      length-append rule_lines (codes "%BEGINA\n" ++ (inner ++ (last ++ codes "%ENDA\n"))),
      length-append (codes "%BEGINA\n") (inner ++ (last ++ codes "%ENDA\n")),
      length-append inner (last ++ codes "%ENDA\n"),
      length-append last (codes "%ENDA\n"),
      rules_short,
      of_inner,
      of_last,
      many,
      small,
    )
