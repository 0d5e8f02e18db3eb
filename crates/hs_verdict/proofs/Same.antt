-- A naming is unique.
use Rattle.std.proofs.Common.{◌≡◌, sym, ◌∙◌, ap, ℕ, zero, suc, List, [], ◌∷◌, Some, None, arith, inl, inr}
use Rattle.std.proofs.Common.{subst as along}
use Rattle.std.proofs.lemmas.Bool.{cases_order}
use Rattle.hs_scheme.specs.Problem.{ProblemData}
use Rattle.hs_scheme.specs.acceptance.Steps.{Path}
use Rattle.hs_table.specs.declared.support.HeadBy.{HeadBy}
use Rattle.hs_table.specs.declared.support.HeadBy.TheVariants.{Terminal, Rule, Param}
use Rattle.hs_table.specs.Entries.{EntryData}
use Rattle.hs_table.specs.Follows.{Support}
use Rattle.hs_verdict.specs.Evidence.{Evidence, Packs, evidence, no_packs}
use Rattle.hs_verdict.specs.Naming.{support_at, Move, Named, IsFirstStart, NamesPath}

abbrev Same : ℕ → ℕ → Path → Path → Type 0
Same a b p r = (a ≡ b) × (p ≡ r)

abbrev To : Type 1
To = Evidence → Packs → ℕ → Path → Type 0

move_same : (go to : To) → ((e : Evidence) (stack : Packs) (a b : ℕ) (p r : Path) → go e stack a p → to e stack b r → Same a b p r)
    → (by : HeadBy) (terminal : ℕ) (own : ℕ → ℕ → Evidence) (stack : Packs) (a b : ℕ) (p r : Path) → Move go by terminal own stack a p → Move to by terminal own stack b r → Same a b p r
move_same go to h (Terminal q None) terminal own stack a b p r (e, f) (e2, f2) = (e ∙ sym e2, f ∙ sym f2)
move_same go to h (Terminal q (Some c)) terminal own stack zero b p r m k = absurd m
move_same go to h (Terminal q (Some c)) terminal own stack (suc a) b [] r m k = absurd m
move_same go to h (Terminal q (Some c)) terminal own stack (suc a) zero (d ∷ p) r m k = absurd k
move_same go to h (Terminal q (Some c)) terminal own stack (suc a) (suc b) (d ∷ p) [] m k = absurd k
move_same go to h (Terminal q (Some c)) terminal own stack (suc a) (suc b) (d ∷ p) (d2 ∷ r) (e, m) (e2, k) =
    let s = h _ _ a b p r m k in (ap suc s.0, ap (λ x. x ∷ p) (e ∙ sym e2) ∙ ap (λ x. d2 ∷ x) s.1)
move_same go to h (Rule x) terminal own stack zero b p r m k = absurd m
move_same go to h (Rule x) terminal own stack (suc a) zero p r m k = absurd k
move_same go to h (Rule x) terminal own stack (suc a) (suc b) p r m k = let s = h _ _ a b p r m k in (ap suc s.0, s.1)
move_same go to h (Param x m) terminal own stack a b p r i k = h _ _ a b p r i k

module _ (p : ProblemData) (T : List EntryData) (supports : List Support) where
  pub named_same : (m n : ℕ) (e : Evidence) (stack : Packs) (a b : ℕ) (one other : Path) → Named p T supports m e stack a one → Named p T supports n e stack b other → Same a b one other
  named_same zero n e stack a b one other h k = absurd h
  named_same (suc m) zero e stack a b one other h k = absurd k
  named_same (suc m) (suc n) (evidence place own) stack a b one other h k =
      move_same (Named p T supports m) (Named p T supports n) (λ f t x y q w u v. named_same m n f t x y q w u v) (support_at supports place).head _ _ _ a b one other h k

  first_same : (i j : ℕ) → IsFirstStart p T i → IsFirstStart p T j → i ≡ j
  first_same i j f g = elim (cases_order i j) [
    | inl e ↦ e
    | inr other ↦ elim other [
      | inl less ↦ absurd (g.is_first i f.entry less f.at f.is_start)
      | inr greater ↦ absurd (f.is_first j g.entry greater g.at g.is_start)
    ]
  ]

  pub naming_same : (m n : ℕ) (one other : Path) → NamesPath p T supports m one → NamesPath p T supports n other → Same m n one other
  naming_same m n one other x y =
      let e : x.place ≡ y.place = first_same x.place y.place x.start y.start in
      let s = named_same x.moves y.moves (evidence y.place no_packs) no_packs x.steps y.steps one other
      (along (λ i. Named p T supports x.moves (evidence i no_packs) no_packs x.steps one) e x.named) y.named in
      (omega (arith, x.counted, y.counted, s.0), s.1)
