-- The bytes of a file come to one problem or one refusal.
use Rattle.std.proofs.Common.{◌≡◌, refl, sym, ◌∙◌, ap, subst, ℕ, ◌<◌, ◌≤◌, List, length, Result, Ok, Err, ◌⊎◌, inl, inr, arith}
use Rattle.hs_scheme.specs.sorting.Unsorted.{UnsortedData}
use Rattle.hs_scheme.specs.sorting.Sorted.{SortedData}
use Rattle.hs_scheme.specs.Problem.{ProblemData}
use Rattle.hs_front.specs.declared.refusal.Refusal.{Refusal}
use Rattle.hs_front.specs.declared.refusal.Refusal.TheVariants.{Usage, Source, FileTooLong, Syntax, Limit, Names, IllSorted, NotFirstOrder, SortTooLarge, RuleTooLong, PointLimit, FlowLimit, EntryLimit, Sink, OutOfMemory}
use Rattle.hs_front.specs.Files.{max_bytes}
use Rattle.hs_front.specs.Problems.{IsSortedFormOf, OfSortedFile, IsProblemOf, HasManyPoints, HasMuchFlow}
use Rattle.hs_front.specs.Faults.{IsSortable, IsFileFault}
use Rattle.hs_front.specs.Yields.{Yields}
use Rattle.hs_front.proofs.Layers.{Layered, of_sound, of_fault, meet}
use Rattle.hs_front.proofs.OneProblem.{one_form, problem_is, few_points, little_flow, one_limit}

abbrev Answer : Type 0
Answer = Result ProblemData Refusal

-- what comes of a sorted form
abbrev AtForm : SortedData → Answer → Type 0
AtForm s x =
    ((p : ProblemData) × ((x ≡ Ok p) × IsProblemOf s p)) ⊎ (((x ≡ Err PointLimit) × HasManyPoints s) ⊎ ((x ≡ Err FlowLimit) × HasMuchFlow s))

one_at_form : (s : SortedData) (x y : Answer) → AtForm s x → AtForm s y → x ≡ y
one_at_form s x y (inl (p, (e, is))) (inl (q, (f, other))) = e ∙ (ap (λ (r : ProblemData). Ok r) (problem_is s s p q refl is other) ∙ sym f)
one_at_form s x y (inl (p, (e, is))) (inr (inl (f, many))) = absurd (few_points s p is many)
one_at_form s x y (inl (p, (e, is))) (inr (inr (f, much))) = absurd (little_flow s p is much)
one_at_form s x y (inr (inl (e, many))) (inl (q, (f, other))) = absurd (few_points s q other many)
one_at_form s x y (inr (inl (e, many))) (inr (inl (f, also))) = e ∙ sym f
one_at_form s x y (inr (inl (e, many))) (inr (inr (f, much))) = absurd (one_limit s many much)
one_at_form s x y (inr (inr (e, much))) (inl (q, (f, other))) = absurd (little_flow s q other much)
one_at_form s x y (inr (inr (e, much))) (inr (inl (f, many))) = absurd (one_limit s many much)
one_at_form s x y (inr (inr (e, much))) (inr (inr (f, also))) = e ∙ sym f

-- what comes of a scheme
record AtScheme (x : Answer) (u : UnsortedData) : Type 0 where
  form : SortedData
  of : IsSortedFormOf u form
  at : AtForm form x

one_at_scheme : (x y : Answer) (u : UnsortedData) → AtScheme x u → AtScheme y u → x ≡ y
one_at_scheme x y u a b = one_at_form b.form x y (subst (λ (s : SortedData). AtForm s x) (one_form u a.form b.form a.of b.of) a.at) b.at

abbrev Layers : Answer → List ℕ → Type 0
Layers x bytes = Layered (λ r. x ≡ Err r) (λ u. AtScheme x u) bytes

module _ (x : Answer) (bytes : List ℕ) where
  at_form : (P : SortedData → Type 0) (h : OfSortedFile bytes P) → AtForm h.form x → Layers x bytes
  at_form P h at =
      let sound : IsSortable bytes h.of.scheme = record { of_bytes = h.of.of_bytes; sorted = h.form; inferred = h.of.form.inferred } in
      of_sound (λ r. x ≡ Err r) (λ u. AtScheme x u) bytes h.of.scheme sound (record { form = h.form; of = h.of.form; at = at })

-- the file is too long, or not, and then there are the layers
abbrev Lies : List ℕ → Answer → Type 0
Lies bytes x = ((max_bytes < length bytes) × (x ≡ Err FileTooLong)) ⊎ ((length bytes ≤ max_bytes) × Layers x bytes)

fault_lies : (bytes : List ℕ) (r : Refusal) → (r ≡ OutOfMemory → ⊥) → length bytes ≤ max_bytes → IsFileFault bytes r → Lies bytes (Err r)
fault_lies bytes r other short h =
    elim (of_fault (λ s. Err r ≡ Err s) (λ u. AtScheme (Err r) u) bytes r h refl) [
      | inl wants ↦ absurd (other wants)
      | inr l ↦ inr (short, l)
    ]

lies : (bytes : List ℕ) (x : Answer) → Yields bytes x → Lies bytes x
lies bytes (Ok p) h = inr (h.0, at_form (Ok p) bytes (λ s. IsProblemOf s p) h.1 (inl (p, (refl, h.1.holds))))
lies bytes (Err FileTooLong) h = inl (h, refl)
lies bytes (Err PointLimit) h = inr (h.0, at_form (Err PointLimit) bytes HasManyPoints h.1 (inr (inl (refl, h.1.holds))))
lies bytes (Err FlowLimit) h = inr (h.0, at_form (Err FlowLimit) bytes HasMuchFlow h.1 (inr (inr (refl, h.1.holds))))
lies bytes (Err OutOfMemory) h = absurd h
lies bytes (Err (Syntax line)) h = fault_lies bytes (Syntax line) (λ e. (cc)) h.0 h.1
lies bytes (Err (Limit which)) h = fault_lies bytes (Limit which) (λ e. (cc)) h.0 h.1
lies bytes (Err (Names fault)) h = fault_lies bytes (Names fault) (λ e. (cc)) h.0 h.1
lies bytes (Err (IllSorted rule)) h = fault_lies bytes (IllSorted rule) (λ e. (cc)) h.0 h.1
lies bytes (Err (NotFirstOrder terminal)) h = fault_lies bytes (NotFirstOrder terminal) (λ e. (cc)) h.0 h.1
lies bytes (Err (SortTooLarge rule)) h = fault_lies bytes (SortTooLarge rule) (λ e. (cc)) h.0 h.1
lies bytes (Err (RuleTooLong rule)) h = fault_lies bytes (RuleTooLong rule) (λ e. (cc)) h.0 h.1
lies bytes (Err Usage) h = absurd h.1
lies bytes (Err Source) h = absurd h.1
lies bytes (Err EntryLimit) h = absurd h.1
lies bytes (Err Sink) h = absurd h.1

pub one_yield : (bytes : List ℕ) (x y : Answer) → Yields bytes x → Yields bytes y → x ≡ y
one_yield bytes x y h k =
    elim (lies bytes x h) [
      | inl (long, e) ↦ elim (lies bytes y k) [
        | inl (also, f) ↦ e ∙ sym f
        | inr (short, m) ↦ absurd (omega (arith, long, short))
      ]
      | inr (short, l) ↦ elim (lies bytes y k) [
        | inl (long, f) ↦ absurd (omega (arith, long, short))
        | inr (also, m) ↦
            meet (λ r. x ≡ Err r) (λ r. y ≡ Err r) (λ u. AtScheme x u) (λ u. AtScheme y u) (x ≡ y) (λ r e f. e ∙ sym f) (λ u a b. one_at_scheme x y u a b) bytes l m
      ]
    ]

-- ---- from the call

pub fault_yields : (bytes : List ℕ) (r : Refusal) → length bytes ≤ max_bytes → IsFileFault bytes r → (r ≡ OutOfMemory) ⊎ Yields bytes (Err r)
fault_yields bytes OutOfMemory short h = inl refl
fault_yields bytes FileTooLong short h = absurd h
fault_yields bytes PointLimit short h = absurd h
fault_yields bytes FlowLimit short h = absurd h
fault_yields bytes (Syntax line) short h = inr (short, h)
fault_yields bytes (Limit which) short h = inr (short, h)
fault_yields bytes (Names fault) short h = inr (short, h)
fault_yields bytes (IllSorted rule) short h = inr (short, h)
fault_yields bytes (NotFirstOrder terminal) short h = inr (short, h)
fault_yields bytes (SortTooLarge rule) short h = inr (short, h)
fault_yields bytes (RuleTooLong rule) short h = inr (short, h)
fault_yields bytes Usage short h = absurd h
fault_yields bytes Source short h = absurd h
fault_yields bytes EntryLimit short h = absurd h
fault_yields bytes Sink short h = absurd h
