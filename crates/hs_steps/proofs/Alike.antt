-- Two lists of rules that replace alike the nonterminals in front of the terms on the way.
use Rattle.std.proofs.Common.{◌≡◌, sym, ◌∙◌, ℕ, zero, suc, false, List, inl, inr, add-one}
use Rattle.hs_scheme.specs.declared.term.Head.{Head}
use Rattle.hs_scheme.specs.declared.term.Head.TheVariants.{Var, Nt, Tm}
use Rattle.hs_scheme.specs.declared.term.Rule.{Rule}
use Rattle.hs_scheme.specs.acceptance.Transition.{TransitionData}
use Rattle.hs_scheme.specs.Tree.{Tree, Trees, node, children}
use Rattle.hs_scheme.specs.acceptance.Cut.{cut, unfolded}
use Rattle.hs_scheme.specs.acceptance.Run.{run}
use Rattle.hs_scheme.specs.acceptance.Steps.{Path, StepsTo, Along}
use Rattle.hs_steps.proofs.Refusal.{stuck_refused, step_refused, refused_only}

module _ (rules others : List Rule) (ts : List TransitionData) (Holds : Tree Head → Type 0)
    (alike : (f : ℕ) (us : Trees Head) → Holds (node (Nt f) us) → unfolded rules f (children us) ≡ unfolded others f (children us))
    (kept : (q p : ℕ) (t u : Tree Head) (label : Path) → StepsTo rules ts q t label p u → Holds t → Holds u) where
  step_over : (q p : ℕ) (t u : Tree Head) (label : Path) → Holds t → StepsTo rules ts q t label p u → StepsTo others ts q t label p u
  step_over q p (node (Var j) us) u label h s = s
  step_over q p (node (Nt f) us) u label h (silent, is, goes) = (silent, is, sym (alike f us h) ∙ goes)
  step_over q p (node (Tm a) us) u label h s = s

  step_back : (q p : ℕ) (t u : Tree Head) (label : Path) → Holds t → StepsTo others ts q t label p u → StepsTo rules ts q t label p u
  step_back q p (node (Var j) us) u label h s = s
  step_back q p (node (Nt f) us) u label h (silent, is, goes) = (silent, is, alike f us h ∙ goes)
  step_back q p (node (Tm a) us) u label h s = s

  module _ (P : ℕ → Tree Head → Type 0) where
    pub along_over : (n q : ℕ) (t : Tree Head) (path : Path) → Holds t → Along rules ts P n q t path → Along others ts P n q t path
    along_over zero q t path h a = a
    along_over (suc n) q t path h l = record {
      label = l.label;
      rest = l.rest;
      state = l.state;
      term = l.term;
      whole = l.whole;
      step = step_over q l.state t l.term l.label h l.step;
      holds = along_over n l.state l.term l.rest (kept q l.state t l.term l.label l.step h) l.holds;
    }

    pub along_back : (n q : ℕ) (t : Tree Head) (path : Path) → Holds t → Along others ts P n q t path → Along rules ts P n q t path
    along_back zero q t path h a = a
    along_back (suc n) q t path h l = let s = step_back q l.state t l.term l.label h l.step in record {
      label = l.label;
      rest = l.rest;
      state = l.state;
      term = l.term;
      whole = l.whole;
      step = s;
      holds = along_back n l.state l.term l.rest (kept q l.state t l.term l.label s h) l.holds;
    }

  pub refused_over : (n q : ℕ) (t : Tree Head) → Holds t → run ts q (cut rules n t) ≡ false → run ts q (cut others n t) ≡ false
  refused_over zero q t h r = r
  refused_over (suc n) q t h r = elim (refused_only rules ts n q t (rw add-one r)) [
    | inl stuck ↦ rw add-one at (stuck_refused others ts n q t stuck)
    | inr (path, l) ↦
        rw add-one at (step_refused others ts n q l.state t l.term l.label (step_over q l.state t l.term l.label h l.step)
        (refused_over n l.state l.term (kept q l.state t l.term l.label l.step h) l.holds))
  ]

  pub refused_back : (n q : ℕ) (t : Tree Head) → Holds t → run ts q (cut others n t) ≡ false → run ts q (cut rules n t) ≡ false
  refused_back zero q t h r = r
  refused_back (suc n) q t h r = elim (refused_only others ts n q t (rw add-one r)) [
    | inl stuck ↦ rw add-one at (stuck_refused rules ts n q t stuck)
    | inr (path, l) ↦
        let s = step_back q l.state t l.term l.label h l.step in
        rw add-one at (step_refused rules ts n q l.state t l.term l.label s (refused_back n l.state l.term (kept q l.state t l.term l.label s h) l.holds))
  ]
