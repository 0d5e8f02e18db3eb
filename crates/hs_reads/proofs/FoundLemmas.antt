-- Pairs that are found: one more, and one fewer that waits.
use Rattle.std.proofs.Common.{◌≡◌, ◌≢◌, refl, sym, ◌∙◌, ap, subst, ℕ, suc, ◌+◌, ◌<◌, ◌≤◌, List, [], ◌∷◌, ◌++◌, length, length-append, All, AllPairs, Option, Some, None, IfNone, Contains, ◌⊎◌, inl, inr, arith}
use Rattle.std.proofs.lemmas.List.Elements.{All-weaker, All-contains_itself, Contains-append_left, Contains-append_right, Contains-append_cases, Contains-push}
use Rattle.std.proofs.lemmas.List.Kept.{AllPairs-cons}
use Rattle.hs_scheme.specs.Problem.{ProblemData}
use Rattle.hs_scheme.proofs.Lists.{none_in, here, later, uncons}
use Rattle.hs_table_laws.proofs.Members.{pushed_cases}
use Rattle.hs_weak.specs.Reads.{IsClosedReads}
use Rattle.hs_reads.specs.Growing.{AddsOnly, AreTooMany}
use Rattle.hs_reads.specs.Pairs.{HasStart, Demands}
use Rattle.hs_reads.specs.ByPoint.{IsOneMore}
use Rattle.hs_reads.specs.Found.{FoundData, AreFound, Gains}
use Rattle.hs_reads.proofs.PairLemmas.{closed_by}

abbrev AreApart : List (ℕ × ℕ) → Type 0
AreApart pairs = AllPairs (λ (a b : ℕ × ℕ). a ≢ b) pairs

all_by : {X : Type 0} (P : X → Type 0) (xs : List X) → ((x : X) → Contains xs x → P x) → All P xs
all_by P xs each = All-weaker (Contains xs) P each xs (All-contains_itself xs)

-- the first of them differs from each other
first_apart : (x : ℕ × ℕ) (pairs : List (ℕ × ℕ)) → AreApart (x ∷ pairs) → (y : ℕ × ℕ) → Contains pairs y → x ≢ y
first_apart x pairs apart y m = subst (λ (z : ℕ × ℕ). x ≢ z) m.2 (apart 0 (suc m.0) y (omega arith) (omega (arith, m.1)))

others_apart : (x : ℕ × ℕ) (pairs : List (ℕ × ℕ)) → AreApart (x ∷ pairs) → AreApart pairs
others_apart x pairs apart i j d lt within = apart (suc i) (suc j) d (omega (arith, lt)) (omega (arith, within))

between_apart : (before behind : List (ℕ × ℕ)) (x : ℕ × ℕ) → AreApart (before ++ behind) → (Contains (before ++ behind) x → ⊥) → AreApart (before ++ x ∷ behind)
between_apart [] behind x apart never = AllPairs-cons (λ (a b : ℕ × ℕ). a ≢ b) x behind (all_by (λ (y : ℕ × ℕ). x ≢ y) behind (λ y m e. never (subst (λ (z : ℕ × ℕ). Contains behind z) (sym e) m))) apart
between_apart (y ∷ before) behind x apart never =
    AllPairs-cons (λ (a b : ℕ × ℕ). a ≢ b) y (before ++ x ∷ behind) (all_by (λ (z : ℕ × ℕ). y ≢ z) (before ++ x ∷ behind) other)
    (between_apart before behind x (others_apart y (before ++ behind) apart) (λ m. never (later y x (before ++ behind) m)))
  where
    other : (z : ℕ × ℕ) → Contains (before ++ x ∷ behind) z → y ≢ z
    other z m = elim (Contains-append_cases before (x ∷ behind) z m) [
      | inl left ↦ first_apart y (before ++ behind) apart z (Contains-append_left before behind z left)
      | inr right ↦ elim (uncons x z behind right) [
        | inl is ↦ λ e. never (subst (λ (w : ℕ × ℕ). Contains (y ∷ before ++ behind) w) (e ∙ is) (here y (before ++ behind)))
        | inr rest ↦ first_apart y (before ++ behind) apart z (Contains-append_right before behind z rest)
      ]
    ]

-- one more
module _ (x : ℕ × ℕ) (old new : List (ℕ × ℕ)) (more : IsOneMore x old new) where
  pub more_there : Contains new x
  more_there = subst (λ (xs : List (ℕ × ℕ)). Contains xs x) (sym more.new_is) (Contains-append_right more.before (x ∷ more.behind) x (here x more.behind))

  pub more_kept : (y : ℕ × ℕ) → Contains old y → Contains new y
  more_kept y m = subst (λ (xs : List (ℕ × ℕ)). Contains xs y) (sym more.new_is) (elim (Contains-append_cases more.before more.behind y (subst (λ (xs : List (ℕ × ℕ)). Contains xs y) more.old_is m)) [
    | inl left ↦ Contains-append_left more.before (x ∷ more.behind) y left
    | inr right ↦ Contains-append_right more.before (x ∷ more.behind) y (later x y more.behind right)
  ])

  pub more_only : AddsOnly (λ y. y ≡ x) old new
  more_only y m = elim (Contains-append_cases more.before (x ∷ more.behind) y (subst (λ (xs : List (ℕ × ℕ)). Contains xs y) more.new_is m)) [
    | inl left ↦ inl (subst (λ (xs : List (ℕ × ℕ)). Contains xs y) (sym more.old_is) (Contains-append_left more.before more.behind y left))
    | inr right ↦ elim (uncons x y more.behind right) [
      | inl is ↦ inr is
      | inr rest ↦ inl (subst (λ (xs : List (ℕ × ℕ)). Contains xs y) (sym more.old_is) (Contains-append_right more.before more.behind y rest))
    ]
  ]

  pub more_long : length new ≡ length old + 1
  more_long =
      let a = ap (λ (xs : List (ℕ × ℕ)). length xs) more.old_is ∙ length-append more.before more.behind in
      let b = ap (λ (xs : List (ℕ × ℕ)). length xs) more.new_is ∙ length-append more.before (x ∷ more.behind) in
      omega (arith, a, b)

  pub more_apart : AreApart old → (Contains old x → ⊥) → AreApart new
  more_apart apart never =
      subst (λ (xs : List (ℕ × ℕ)). AreApart xs) (sym more.new_is)
      (between_apart more.before more.behind x (subst (λ (xs : List (ℕ × ℕ)). AreApart xs) more.old_is apart) (λ m. never (subst (λ (xs : List (ℕ × ℕ)). Contains xs x) (sym more.old_is) m)))

  pub more_found : (old_waiting new_waiting : List (ℕ × ℕ)) (count : ℕ) → AreFound old old_waiting count → (Contains old x → ⊥) → new_waiting ≡ old_waiting ++ x ∷ [] → AreFound new new_waiting (count + 1)
  more_found old_waiting new_waiting count are never pushed = record {
    distinct = more_apart are.distinct never;
    long = omega (arith, more_long, are.long);
    there = λ y m. elim (pushed_cases old_waiting x y (subst (λ (xs : List (ℕ × ℕ)). Contains xs y) pushed m)) [
      | inl was ↦ more_kept y (are.there y was)
      | inr is ↦ subst (λ (z : ℕ × ℕ). Contains new z) (sym is) more_there
    ];
  }

  pub more_gains : (old_waiting new_waiting : List (ℕ × ℕ)) → length new ≤ 4000000 → new_waiting ≡ old_waiting ++ x ∷ []
      → Gains (record { pairs = old; waiting = old_waiting }) (record { pairs = new; waiting = new_waiting })
  more_gains old_waiting new_waiting few pushed = record {
    kept = more_kept;
    few = λ _. few;
    waits = λ y m. elim (more_only y m) [
      | inl was ↦ inl was
      | inr is ↦ inr (subst (λ (xs : List (ℕ × ℕ)). Contains xs y) (sym pushed) (subst (λ (z : ℕ × ℕ). Contains (old_waiting ++ x ∷ []) z) (sym is) (Contains-push old_waiting x)))
    ];
    still = λ y m. subst (λ (xs : List (ℕ × ℕ)). Contains xs y) (sym pushed) (Contains-append_left old_waiting (x ∷ []) y m);
    taken = let a = ap (λ (xs : List (ℕ × ℕ)). length xs) pushed ∙ length-append old_waiting (x ∷ []) in omega (arith, a, more_long);
  }

pub gains_same : (found : FoundData) → Gains found found
gains_same found = record { kept = λ x m. m; few = λ h. h; waits = λ x m. inl m; still = λ x m. m; taken = omega arith }

abbrev pub found_of : List (ℕ × ℕ) → List (ℕ × ℕ) → FoundData
found_of pairs waiting = record { pairs = pairs; waiting = waiting }

pub found_same : (pairs waiting new_pairs new_waiting : List (ℕ × ℕ)) (count : ℕ) → new_pairs ≡ pairs → new_waiting ≡ waiting → AreFound pairs waiting count → AreFound new_pairs new_waiting count
found_same pairs waiting new_pairs new_waiting count p w are =
    subst (λ (xs : List (ℕ × ℕ)). AreFound xs new_waiting count) (sym p) (subst (λ (xs : List (ℕ × ℕ)). AreFound pairs xs count) (sym w) are)

pub too_many : (pairs waiting : List (ℕ × ℕ)) (count : ℕ) → AreFound pairs waiting count → 4000000 < count → AreTooMany pairs
too_many pairs waiting count are lt = record { distinct = are.distinct; many = omega (arith, are.long, lt) }

-- what is seen at first, by what stands inside
module _ (pairs waiting : List (ℕ × ℕ)) (old : FoundData) (view : found_of pairs waiting ≡ old) where
  pub gains_equal : (new_pairs new_waiting : List (ℕ × ℕ)) → new_pairs ≡ pairs → new_waiting ≡ waiting → Gains old (found_of new_pairs new_waiting)
  gains_equal new_pairs new_waiting p w =
      let same : found_of new_pairs new_waiting ≡ old = (λ i. found_of (p i) (w i)) ∙ view in
      subst (λ (f : FoundData). Gains f (found_of new_pairs new_waiting)) same (gains_same (found_of new_pairs new_waiting))

  pub adds_equal : (P : ℕ × ℕ → Type 0) (new_pairs : List (ℕ × ℕ)) → new_pairs ≡ pairs → AddsOnly P old.pairs new_pairs
  adds_equal P new_pairs p x m = inl (subst (λ (xs : List (ℕ × ℕ)). Contains xs x) (p ∙ ap (λ (f : FoundData). f.pairs) view) m)

  pub there_equal : (x : ℕ × ℕ) (new_pairs : List (ℕ × ℕ)) → new_pairs ≡ pairs → Contains pairs x → Contains new_pairs x
  there_equal x new_pairs p m = subst (λ (xs : List (ℕ × ℕ)). Contains xs x) (sym p) m

  pub gains_more : (x : ℕ × ℕ) (new_pairs reserved new_waiting : List (ℕ × ℕ)) → IsOneMore x pairs new_pairs → reserved ≡ waiting → new_waiting ≡ reserved ++ x ∷ [] → length new_pairs ≤ 4000000
      → Gains old (found_of new_pairs new_waiting)
  gains_more x new_pairs reserved new_waiting more same pushed few =
      subst (λ (f : FoundData). Gains f (found_of new_pairs new_waiting)) view
      (more_gains x pairs new_pairs more waiting new_waiting few (pushed ∙ ap (λ (xs : List (ℕ × ℕ)). xs ++ x ∷ []) same))

  pub adds_one : (x : ℕ × ℕ) (new_pairs : List (ℕ × ℕ)) → IsOneMore x pairs new_pairs → AddsOnly (λ y. y ≡ x) old.pairs new_pairs
  adds_one x new_pairs more y m = elim (more_only x pairs new_pairs more y m) [
    | inl was ↦ inl (subst (λ (xs : List (ℕ × ℕ)). Contains xs y) (ap (λ (f : FoundData). f.pairs) view) was)
    | inr is ↦ inr is
  ]

pub gains_then : (a b c : FoundData) → Gains a b → Gains b c → Gains a c
gains_then a b c g h = record {
  kept = λ x m. h.kept x (g.kept x m);
  few = λ f. h.few (g.few f);
  waits = λ x m. elim (h.waits x m) [
    | inl was ↦ elim (g.waits x was) [
      | inl old ↦ inl old
      | inr new ↦ inr (h.still x new)
    ]
    | inr new ↦ inr new
  ];
  still = λ x m. h.still x (g.still x m);
  taken = omega (arith, g.taken, h.taken);
}

pub start_stays : (p : ProblemData) (old new : FoundData) → Gains old new → HasStart p old.pairs → HasStart p new.pairs
start_stays p old new g start body e = g.kept (body, 0) (start body e)

-- ---- the worklist

-- each pair waits, or what it demands is there
abbrev pub AreTaken : ProblemData → FoundData → Type 0
AreTaken p found = (x : ℕ × ℕ) → Contains found.pairs x → Contains found.waiting x ⊎ Demands p x found.pairs

module _ (p : ProblemData) (old mid new : FoundData) (x : ℕ × ℕ) (same : mid.pairs ≡ old.pairs) (taken : old.waiting ≡ mid.waiting ++ x ∷ []) (gains : Gains mid new) where
  pub one_taken : AreTaken p old → Demands p x new.pairs → AreTaken p new
  one_taken so_far now y m = elim (gains.waits y m) [
    | inl was ↦ elim (so_far y (subst (λ (xs : List (ℕ × ℕ)). Contains xs y) same was)) [
      | inl waits ↦ elim (pushed_cases mid.waiting x y (subst (λ (xs : List (ℕ × ℕ)). Contains xs y) taken waits)) [
        | inl still ↦ inl (gains.still y still)
        | inr is ↦ inr (subst (λ (z : ℕ × ℕ). Demands p z new.pairs) (sym is) now)
      ]
      | inr done ↦ inr (λ point q read. gains.kept (point, q) (subst (λ (xs : List (ℕ × ℕ)). Contains xs (point, q)) (sym same) (done point q read)))
    ]
    | inr waits ↦ inl waits
  ]

pub none_left : {X P : Type 0} (o : Option X) → ((x : X) → o ≡ Some x → ⊥) → IfNone o P → P
none_left None never h = h
none_left (Some x) never h = absurd (never x refl)

pub all_taken : (p : ProblemData) (found : FoundData) → HasStart p found.pairs → AreTaken p found → found.waiting ≡ [] → IsClosedReads p found.pairs
all_taken p found start taken none =
    closed_by p found.pairs start (λ w q m. elim (taken (w, q) m) [
      | inl waits ↦ absurd (none_in (w, q) (subst (λ (xs : List (ℕ × ℕ)). Contains xs (w, q)) none waits))
      | inr done ↦ done
    ])
