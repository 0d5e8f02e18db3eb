-- The bits of a set.
use Rattle.std.proofs.Common.{◌≡◌, refl, sym, ◌∙◌, ap, subst, ℕ, zero, suc, ◌+◌, ◌*◌, ◌/◌, ◌%◌, ◌^◌, ◌<◌, ◌≤◌, Bool, true, false, nat_eq, List, [], ◌∷◌, ◌++◌, length, get_or, set, take, bit_or, max, length-append, Contains, ◌⊎◌, inl, inr, ◌↔◌, arith}
use Rattle.std.specs.Int.{bit_at}
use Rattle.std.proofs.lemmas.Bool.{eqb-true, eq-eqb}
use Rattle.std.proofs.lemmas.List.{get_or-set_same, get_or-set_other, get_or_default, take_all}
use Rattle.std.proofs.lemmas.List.Elements.{Contains-append_left, Contains-push}
use Rattle.std.proofs.lemmas.Nat.{one_shl}
use Rattle.std.proofs.lemmas.Nat.Bits.{bit_at-lt, bit_at-zero, bit_at_or, bit_at-pow_same, bit_at-pow_other}
use Rattle.hs_scheme.proofs.Lists.{none_in}
use Rattle.hs_table_laws.proofs.Members.{taken_next, pushed_cases}
use Rattle.hs_reads.specs.Bits.{HasBit, AreBitsOf, word_at}

-- the number of a bit, by its word and its place there
parts_same : (q n : ℕ) → q / 64 ≡ n / 64 → q % 64 ≡ n % 64 → q ≡ n
parts_same q n word place = omega (arith, word, place)

max_one : (a : ℕ) → a < 2 → max a 1 ≡ 1
max_one a lt = omega (arith, lt)

max_zero : (a : ℕ) → max a 0 ≡ a
max_zero a = omega arith

-- one more word without bits
pub word_more : (words : List ℕ) (k : ℕ) → word_at (words ++ 0 ∷ []) k ≡ word_at words k
word_more [] zero = refl
word_more [] (suc k) = refl
word_more (w ∷ words) zero = refl
word_more (w ∷ words) (suc k) = word_more words k

-- one more bit in a word
module _ (w i k : ℕ) where
  or_same : i ≡ k → bit_at (bit_or w (2 ^ k)) i ≡ 1
  or_same e = bit_at_or w (2 ^ k) i ∙ (ap (λ b. max (bit_at w i) b) (ap (λ j. bit_at (2 ^ k) j) e ∙ bit_at-pow_same k) ∙ max_one (bit_at w i) (bit_at-lt w i))

  or_other : (i ≡ k → ⊥) → bit_at (bit_or w (2 ^ k)) i ≡ bit_at w i
  or_other never = bit_at_or w (2 ^ k) i ∙ (ap (λ b. max (bit_at w i) b) (bit_at-pow_other k i never) ∙ max_zero (bit_at w i))

module _ (words : List ℕ) (n : ℕ) (lt : n / 64 < length words) where
  abbrev with_bit : List ℕ
  with_bit = set words (n / 64) (bit_or (word_at words (n / 64)) (2 ^ (n % 64)))

  pub bit_set : (q : ℕ) → HasBit with_bit q ↔ (HasBit words q ⊎ (q ≡ n))
  bit_set q = by (nat_eq (q / 64) (n / 64)) refl
    where
      in_word : q / 64 ≡ n / 64 → (b : Bool) → nat_eq (q % 64) (n % 64) ≡ b → HasBit with_bit q ↔ (HasBit words q ⊎ (q ≡ n))
      in_word word true e =
          let place = eqb-true (q % 64) (n % 64) e in
          let is : bit_at (word_at with_bit (q / 64)) (q % 64) ≡ 1 =
          ap (λ k. bit_at (word_at with_bit k) (q % 64)) word ∙ (ap (λ w. bit_at w (q % 64)) (get_or-set_same words (n / 64) (bit_or (word_at words (n / 64)) (2 ^ (n % 64))) 0 lt) ∙ or_same (word_at words (n / 64)) (q % 64) (n % 64) place) in
          (λ _. inr (parts_same q n word place), λ _. is)
      in_word word false e =
          let never : q % 64 ≡ n % 64 → ⊥ = λ same. let yes = eq-eqb (q % 64) (n % 64) same in absurd (cc) in
          let is : bit_at (word_at with_bit (q / 64)) (q % 64) ≡ bit_at (word_at words (q / 64)) (q % 64) =
          ap (λ k. bit_at (word_at with_bit k) (q % 64)) word ∙ (ap (λ w. bit_at w (q % 64)) (get_or-set_same words (n / 64) (bit_or (word_at words (n / 64)) (2 ^ (n % 64))) 0 lt)
          ∙ (or_other (word_at words (n / 64)) (q % 64) (n % 64) never ∙ ap (λ k. bit_at (word_at words k) (q % 64)) (sym word))) in (
            λ h. inl (sym is ∙ h),
            λ h. elim h [
              | inl was ↦ is ∙ was
              | inr same ↦ absurd (never (ap (λ k. k % 64) same))
            ],
          )

      by : (b : Bool) → nat_eq (q / 64) (n / 64) ≡ b → HasBit with_bit q ↔ (HasBit words q ⊎ (q ≡ n))
      by true e = in_word (eqb-true (q / 64) (n / 64) e) (nat_eq (q % 64) (n % 64)) refl
      by false e =
          let never : q / 64 ≡ n / 64 → ⊥ = λ same. let yes = eq-eqb (q / 64) (n / 64) same in absurd (cc) in
          let is : bit_at (word_at with_bit (q / 64)) (q % 64) ≡ bit_at (word_at words (q / 64)) (q % 64) =
          ap (λ w. bit_at w (q % 64)) (get_or-set_other words (n / 64) (q / 64) (bit_or (word_at words (n / 64)) (2 ^ (n % 64))) 0 never) in (
            λ h. inl (sym is ∙ h),
            λ h. elim h [
              | inl was ↦ is ∙ was
              | inr same ↦ absurd (never (ap (λ k. k / 64) same))
            ],
          )

-- as it is set, after words without bits were put behind the others
pub bit_added : (old words : List ℕ) (n w : ℕ) → n / 64 < length words → ((k : ℕ) → word_at words k ≡ word_at old k) → w ≡ get_or words (n / 64) w
    → (q : ℕ) → HasBit (set words (n / 64) (bit_or w (1 * 2 ^ (n % 64) % 2 ^ 64))) q ↔ (HasBit old q ⊎ (q ≡ n))
bit_added old words n w lt same is q =
    let low : n % 64 < 64 = omega arith in
    let shifted : 1 * 2 ^ (n % 64) % 2 ^ 64 ≡ 2 ^ (n % 64) = one_shl (n % 64) 64 low in
    let word : w ≡ word_at words (n / 64) = is ∙ get_or_default words (n / 64) w 0 lt in
    let made : set words (n / 64) (bit_or w (1 * 2 ^ (n % 64) % 2 ^ 64)) ≡ with_bit words n lt = λ i. set words (n / 64) (bit_or (word i) (shifted i)) in
    let bit : bit_at (word_at words (q / 64)) (q % 64) ≡ bit_at (word_at old (q / 64)) (q % 64) = ap (λ v. bit_at v (q % 64)) (same (q / 64)) in
    let h = bit_set words n lt q in
    subst (λ (ws : List ℕ). HasBit ws q ↔ (HasBit old q ⊎ (q ≡ n))) (sym made) (
      λ b. elim (h.0 b) [
        | inl was ↦ inl (sym bit ∙ was)
        | inr e ↦ inr e
      ],
      λ b. h.1 (elim b [
        | inl was ↦ inl (bit ∙ was)
        | inr e ↦ inr e
      ]),
    )

-- ---- one after another

pub bits_none : (words states : List ℕ) (q : ℕ) → HasBit words q ↔ (HasBit words q ⊎ Contains (take 0 states) q)
bits_none words states q = (
  λ h. inl h,
  λ h. elim h [
    | inl was ↦ was
    | inr m ↦ absurd (none_in q m)
  ],
)

pub bits_more : (first old new states : List ℕ) (k x : ℕ) → k < length states → x ≡ get_or states k x → ((q : ℕ) → HasBit old q ↔ (HasBit first q ⊎ Contains (take k states) q))
    → ((q : ℕ) → HasBit new q ↔ (HasBit old q ⊎ (q ≡ x))) → (q : ℕ) → HasBit new q ↔ (HasBit first q ⊎ Contains (take (k + 1) states) q)
bits_more first old new states k x lt is so_far added q = (
  λ h. elim ((added q).0 h) [
    | inl was ↦ elim ((so_far q).0 was) [
      | inl at_first ↦ inl at_first
      | inr m ↦ inr (subst (λ (xs : List ℕ). Contains xs q) (sym (taken_next states k x lt is)) (Contains-append_left (take k states) (x ∷ []) q m))
    ]
    | inr same ↦ inr (subst (λ (xs : List ℕ). Contains xs q) (sym (taken_next states k x lt is)) (subst (λ z. Contains (take k states ++ x ∷ []) z) (sym same) (Contains-push (take k states) x)))
  ],
  λ h. (added q).1 (elim h [
    | inl at_first ↦ inl ((so_far q).1 (inl at_first))
    | inr m ↦ elim (pushed_cases (take k states) x q (subst (λ (xs : List ℕ). Contains xs q) (taken_next states k x lt is) m)) [
      | inl was ↦ inl ((so_far q).1 (inr was))
      | inr same ↦ inr same
    ]
  ]),
)

pub bits_all : (first words states : List ℕ) (k : ℕ) → length states ≤ k → ((q : ℕ) → HasBit words q ↔ (HasBit first q ⊎ Contains (take k states) q)) → (q : ℕ) → HasBit words q ↔ (HasBit first q ⊎ Contains states q)
bits_all first words states k past so_far = subst (λ (xs : List ℕ). (q : ℕ) → HasBit words q ↔ (HasBit first q ⊎ Contains xs q)) (take_all k states past) so_far

-- ---- the bits of a set of states

pub few_bits : (states words : List ℕ) (s : ℕ) → length states < 64 → AreBitsOf (states ++ s ∷ []) words
few_bits states words s few many = absurd (omega (arith, few, many, length-append states (s ∷ [])))

pub next_bits : (states old new : List ℕ) (s : ℕ) → ((q : ℕ) → Contains states q ↔ HasBit old q) → ((q : ℕ) → HasBit new q ↔ (HasBit old q ⊎ (q ≡ s))) → AreBitsOf (states ++ s ∷ []) new
next_bits states old new s are added many q = (
  λ m. (added q).1 (elim (pushed_cases states s q m) [
    | inl was ↦ inl ((are q).0 was)
    | inr same ↦ inr same
  ]),
  λ h. elim ((added q).0 h) [
    | inl was ↦ Contains-append_left states (s ∷ []) q ((are q).1 was)
    | inr same ↦ subst (λ z. Contains (states ++ s ∷ []) z) (sym same) (Contains-push states s)
  ],
)

no_bits : (words : List ℕ) (q : ℕ) → words ≡ [] → HasBit words q → ⊥
no_bits words q empty h =
    let bit : bit_at (word_at [] (q / 64)) (q % 64) ≡ 1 = subst (λ (ws : List ℕ). HasBit ws q) empty h in
    let none : bit_at 0 (q % 64) ≡ 0 = bit_at-zero (q % 64) in
    omega (arith, bit, none)

pub first_bits : (states first words : List ℕ) → first ≡ [] → ((q : ℕ) → HasBit words q ↔ (HasBit first q ⊎ Contains states q)) → (q : ℕ) → Contains states q ↔ HasBit words q
first_bits states first words empty are q = (
  λ m. (are q).1 (inr m),
  λ h. elim ((are q).0 h) [
    | inl was ↦ absurd (no_bits first q empty was)
    | inr m ↦ m
  ],
)

pub same_bits : (states old new : List ℕ) → AreBitsOf states old → ((q : ℕ) → HasBit new q ↔ HasBit old q) → AreBitsOf states new
same_bits states old new are same many q = (λ m. (same q).1 ((are many q).0 m), λ h. (are many q).1 ((same q).0 h))
