-- Numbers in decimal, and the place of an entry.
use Rattle.std.proofs.Common.{◌≡◌, refl, sym, ◌∙◌, ap, ℕ, zero, suc, ◌<◌, ◌≤◌, ◌^◌, Bool, true, false, ◌||◌, ◌&&◌, ◌==◌, nat_le, List, [], ◌∷◌, ◌++◌, length, codes, decimal, Option, Some, None, IfSome, IfNone, Result, Ok, Err, arith}
use Rattle.std.specs.List.{list_all}
use Rattle.std.specs.Char.{digit_value}
use Rattle.std.specs.Str.Parse.{AllDigits}
use Rattle.std.proofs.lemmas.Fmt.{decimal_is_IsNumeral, decimal_injective}
use Rattle.std.proofs.lemmas.Str.Parse.{digit_from_value}
use Rattle.std.proofs.lemmas.Bool.{le-leb}
use Rattle.std.proofs.lemmas.List.{append_cancel_left}
use Rattle.hs_scheme.specs.flow.Points.{point_at}
use Rattle.hs_scheme.specs.Problem.{ProblemData}
use Rattle.hs_reader.specs.Tokens.{is_name_byte, EndsRun}
use Rattle.hs_text.specs.Canonical.{name_at}
use Rattle.hs_cert.specs.declared.fault.Misread.{Misread}
use Rattle.hs_cert.specs.declared.fault.Misread.TheVariants.{Faulty, OutOfMemory}
use Rattle.hs_cert.specs.Front.{IsPlaceFront}
use Rattle.hs_cert.proofs.Fronts.{run_split}

-- what holds of an answer, along an implication
pub some_map : {X : Type 0} (o : Option X) (P Q : X → Type 0) → ((x : X) → P x → Q x) → IfSome o P → IfSome o Q
some_map None P Q f h = tt
some_map (Some x) P Q f h = f x h

pub none_map : {X : Type 0} (o : Option X) (P Q : Type 0) → (P → Q) → IfNone o P → IfNone o Q
none_map None P Q f h = f h
none_map (Some x) P Q f h = tt

pub ok_same : {E : Type 0} (a b : ℕ) → ◌≡◌ {A = Result ℕ E} (Ok a) (Ok b) → a ≡ b
ok_same {E} a b e = ap value e
  where
    value : Result ℕ E → ℕ
    value (Ok n) = n
    value (Err x) = 0

pub not_ok : {E : Type 0} (x : E) (b : ℕ) → ◌≡◌ {A = Result ℕ E} (Err x) (Ok b) → ⊥
not_ok x b e = cc

third : (u l d a b c e : Bool) → d ≡ true → u || l || d || a || b || c || e ≡ true
third true l d a b c e h = refl
third false true d a b c e h = refl
third false false true a b c e h = refl
third false false false a b c e h = absurd (cc)

digit_name : (c : ℕ) → digit_value c < 10 → is_name_byte c ≡ true
digit_name c h =
    let r = digit_from_value c h in
    let low : nat_le 48 c ≡ true = le-leb 48 c (omega (arith, r)) in
    let high : nat_le c 57 ≡ true = le-leb c 57 (omega (arith, r)) in
    third (nat_le 65 c && nat_le c 90) (nat_le 97 c && nat_le c 122) (nat_le 48 c && nat_le c 57) (c == 95) (c == 39) (c == 36) (c == 35) (λ i. low i && high i)

digits_names : (ds : List ℕ) → AllDigits 10 ds → list_all is_name_byte ds ≡ true
digits_names [] d = refl
digits_names (c ∷ cs) d = λ i. digit_name c d.0 i && digits_names cs d.1 i

-- a number is a whole run of name bytes
pub decimal_names : (n : ℕ) → n < 2 ^ 64 → list_all is_name_byte (decimal n) ≡ true
decimal_names n small = digits_names (decimal n) (decimal_is_IsNumeral n small).0.1

below : (n points : ℕ) → points ≤ 500000 → n < points → n < 2 ^ 64
below n points few within = omega (arith, few, within)

module _ (p : ProblemData) (few : length p.points.points ≤ 500000) where
  abbrev rule_name : ℕ → List ℕ
  rule_name point = name_at p.sorted.names.rules (point_at p.points point).rule

  -- what a place is behind a run of name bytes
  pub record Placed (n point : ℕ) (behind rest : List ℕ) : Type 0 where
    pub same : n ≡ point
    pub spelled : behind ≡ codes " " ++ (rule_name n ++ (codes " [" ++ rest))

  run_of : (bytes run behind : List ℕ) (point : ℕ) (rest : List ℕ) → bytes ≡ run ++ behind → list_all is_name_byte run ≡ true → EndsRun behind → IsPlaceFront p bytes point rest
      → (run ≡ decimal point) × (behind ≡ codes " " ++ (rule_name point ++ (codes " [" ++ rest)))
  run_of bytes run behind point rest whole all ends h =
      run_split run (decimal point) behind (codes " " ++ (rule_name point ++ (codes " [" ++ rest))) all (decimal_names point (below point (length p.points.points) few h.within)) ends refl (sym whole ∙ h.spelled)

  pub placed : (bytes run behind : List ℕ) (n point : ℕ) (rest : List ℕ) → bytes ≡ run ++ behind → list_all is_name_byte run ≡ true → EndsRun behind → run ≡ decimal n → n < 2 ^ 64
      → IsPlaceFront p bytes point rest → Placed n point behind rest
  placed bytes run behind n point rest whole all ends is small h =
      let r = run_of bytes run behind point rest whole all ends h in
      let same : n ≡ point = decimal_injective n point small (below point (length p.points.points) few h.within) (sym is ∙ r.0) in
      record { same = same; spelled = r.1 ∙ ap (λ m. codes " " ++ (rule_name m ++ (codes " [" ++ rest))) (sym same) }

  pub no_number : (bytes run behind : List ℕ) → bytes ≡ run ++ behind → list_all is_name_byte run ≡ true → EndsRun behind → ((n : ℕ) → n < 2 ^ 64 → run ≡ decimal n → ⊥)
      → (point : ℕ) (rest : List ℕ) → IsPlaceFront p bytes point rest → ⊥
  no_number bytes run behind whole all ends nothing point rest h =
      nothing point (below point (length p.points.points) few h.within) (run_of bytes run behind point rest whole all ends h).0

  pub no_point : (bytes run behind : List ℕ) (n : ℕ) → bytes ≡ run ++ behind → list_all is_name_byte run ≡ true → EndsRun behind → run ≡ decimal n → n < 2 ^ 64 → length p.points.points ≤ n
      → (point : ℕ) (rest : List ℕ) → IsPlaceFront p bytes point rest → ⊥
  no_point bytes run behind n whole all ends is small past point rest h =
      let r = placed bytes run behind n point rest whole all ends is small h in omega (arith, past, h.within, r.same)

  pub same_place : (bytes one other : List ℕ) (a b : ℕ) → IsPlaceFront p bytes a one → IsPlaceFront p bytes b other → (a ≡ b) × (one ≡ other)
  same_place bytes one other a b f g =
      let r = placed bytes (decimal a) (codes " " ++ (rule_name a ++ (codes " [" ++ one))) a b other f.spelled (decimal_names a (below a (length p.points.points) few f.within)) refl refl (below a (length p.points.points) few f.within) g in
      let behind_sign : rule_name a ++ (codes " [" ++ one) ≡ rule_name a ++ (codes " [" ++ other) = append_cancel_left (codes " ") (rule_name a ++ (codes " [" ++ one)) (rule_name a ++ (codes " [" ++ other)) r.spelled in
      (r.same, append_cancel_left (codes " [") one other (append_cancel_left (rule_name a) (codes " [" ++ one) (codes " [" ++ other) behind_sign))

-- the fault of a callee, handed on by `?`
pub faulty_of : {T U : Type 0} (r : Result T Misread) (e f : Misread) → r ≡ Err e → e ≡ f → r ≡ Err Faulty → ◌≡◌ {A = Result U Misread} (Err f) (Err Faulty)
faulty_of {T} r e f is same h = ap (λ x. Err x) (sym same ∙ (sym (ap fault is) ∙ ap fault h))
  where
    fault : Result T Misread → Misread
    fault (Ok x) = OutOfMemory
    fault (Err x) = x

pub positive : (n : ℕ) → (n ≡ 0 → ⊥) → 0 < n
positive zero h = absurd (h refl)
positive (suc n) h = omega arith

-- ---- what stands against every place

module _ (p : ProblemData) (few : length p.points.points ≤ 500000) (bytes run behind : List ℕ) (n : ℕ) (whole : bytes ≡ run ++ behind) (all : list_all is_name_byte run ≡ true) (ends : EndsRun behind) (is : run ≡ decimal n) (small : n < 2 ^ 64) where
  here : (point : ℕ) (rest : List ℕ) → IsPlaceFront p bytes point rest → Placed p few n point behind rest
  here point rest h = placed p few bytes run behind n point rest whole all ends is small h

  pub no_sign : ((rest : List ℕ) → behind ≡ codes " " ++ rest → ⊥) → (point : ℕ) (rest : List ℕ) → IsPlaceFront p bytes point rest → ⊥
  no_sign nothing point rest h = nothing _ (here point rest h).spelled

  module _ (one name : List ℕ) (sign : behind ≡ codes " " ++ one) (named : name ≡ name_at p.sorted.names.rules (point_at p.points n).rule) where
    named_there : (point : ℕ) (rest : List ℕ) → IsPlaceFront p bytes point rest → one ≡ name ++ (codes " [" ++ rest)
    named_there point rest h =
        append_cancel_left (codes " ") one (name_at p.sorted.names.rules (point_at p.points n).rule ++ (codes " [" ++ rest)) (sym sign ∙ (here point rest h).spelled)
        ∙ ap (λ (x : List ℕ). x ++ (codes " [" ++ rest)) (sym named)

    pub no_name : ((rest : List ℕ) → one ≡ name ++ rest → ⊥) → (point : ℕ) (rest : List ℕ) → IsPlaceFront p bytes point rest → ⊥
    no_name nothing point rest h = nothing _ (named_there point rest h)

    pub no_mark : (two : List ℕ) → one ≡ name ++ two → ((rest : List ℕ) → two ≡ codes " [" ++ rest → ⊥) → (point : ℕ) (rest : List ℕ) → IsPlaceFront p bytes point rest → ⊥
    no_mark two own nothing point rest h = nothing rest (append_cancel_left name two (codes " [" ++ rest) (sym own ∙ named_there point rest h))
