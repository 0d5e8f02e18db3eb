-- The steps along child numbers as a function, so that they are determined, and what they end with.
use Rattle.std.proofs.Common.{◌≡◌, refl, sym, ◌∙◌, ap, add-one, ℕ, zero, suc, ◌≤◌, List, [], ◌∷◌, ◌++◌, append_assoc, take, drop, slice_get, Option, Some, None, option_map, arith}
use Rattle.std.proofs.Common.{subst as along}
use Rattle.std.specs.Option.{option_and_then}
use Rattle.std.proofs.lemmas.List.{map-append, take-append-drop}
use Rattle.std.proofs.lemmas.Option.{same_Some}
use Rattle.hs_scheme.specs.declared.term.Head.{Head}
use Rattle.hs_scheme.specs.declared.term.Head.TheVariants.{Var, Nt, Tm}
use Rattle.hs_scheme.specs.declared.term.Rule.{Rule}
use Rattle.hs_scheme.specs.acceptance.Transition.{TransitionData}
use Rattle.hs_scheme.specs.acceptance.Automaton.{next}
use Rattle.hs_scheme.specs.Tree.{Tree, Trees, node, children}
use Rattle.hs_scheme.specs.acceptance.Cut.{unfolded}
use Rattle.hs_scheme.specs.acceptance.Steps.{Path, StepsTo, Reaches, ReachesByChildren, child_numbers}

-- a state, a term and the child numbers that are left
pub record Config : Type 0 where
  pub state : ℕ
  pub term : Tree Head
  pub left : List ℕ

abbrev pub config : ℕ → Tree Head → List ℕ → Config
config q t cs = record { state = q; term = t; left = cs }

abbrev both : Option ℕ → Option (Tree Head) → List ℕ → Option Config
both None u cs = None
both (Some p) None cs = None
both (Some p) (Some u) cs = Some (config p u cs)

module _ (rules : List Rule) (ts : List TransitionData) where
  abbrev pub goes : ℕ → Tree Head → List ℕ → Option Config
  goes q (node (Var j) us) cs = None
  goes q (node (Nt f) us) cs = option_map (λ u. config q u cs) (unfolded rules f (children us))
  goes q (node (Tm a) us) [] = None
  goes q (node (Tm a) us) (zero ∷ cs) = None
  goes q (node (Tm a) us) (suc i ∷ cs) = both (option_and_then (λ qs. slice_get qs i) (next ts q a)) (slice_get (children us) i) cs

  abbrev pub after : ℕ → Config → Option Config
  after zero c = Some c
  after (suc n) c = option_and_then (after n) (goes c.state c.term c.left)

  step_goes : (q p : ℕ) (t u : Tree Head) (label : Path) (rest : List ℕ) → StepsTo rules ts q t label p u → goes q t (child_numbers label ++ rest) ≡ Some (config p u rest)
  step_goes q p (node (Var j) us) u label rest s = absurd s
  step_goes q p (node (Nt f) us) u label rest (silent, is, goes_to) =
      (λ i. option_map (λ v. config q v (child_numbers (silent i) ++ rest)) (goes_to i)) ∙ ap (λ r. Some (config r u rest)) (sym is)
  step_goes q p (node (Tm a) us) u label rest (qs, e, child) =
      ap (λ l. goes q (node (Tm a) us) (child_numbers l ++ rest)) child.labelled
      ∙ (ap (λ c. goes q (node (Tm a) us) (c ∷ rest)) (add-one child.place)
      ∙ ((λ i. both (option_and_then (λ (ps : List ℕ). slice_get ps child.place) (e i)) (child.term i) rest) ∙ ap (λ o. both o (Some u) rest) child.state))

  reaches_after : (n q p : ℕ) (t u : Tree Head) (path : Path) (rest : List ℕ) → Reaches rules ts n q t path p u → after n (config q t (child_numbers path ++ rest)) ≡ Some (config p u rest)
  reaches_after zero q p t u path rest (e, (is, are)) = λ i. Some (config (is i) (are i) (child_numbers (e i) ++ rest))
  reaches_after (suc n) q p t u path rest l =
      let whole : child_numbers path ++ rest ≡ child_numbers l.label ++ (child_numbers l.rest ++ rest) =
      ap (λ x. child_numbers x ++ rest) l.whole ∙ (ap (λ x. x ++ rest) (map-append (λ (x : ℕ × ℕ). x.1) l.label l.rest) ∙ append_assoc (child_numbers l.label) (child_numbers l.rest) rest) in
      ap (λ cs. option_and_then (after n) (goes q t cs)) whole
      ∙ (ap (option_and_then (after n)) (step_goes q l.state t l.term l.label (child_numbers l.rest ++ rest) l.step) ∙ reaches_after n l.state p l.term u l.rest rest l.holds)

  -- along the first numbers of a path
  pub walked : (n q p at : ℕ) (t u : Tree Head) (path : List ℕ) → ReachesByChildren rules ts n q t (take at path) p u → after n (config q t path) ≡ Some (config p u (drop at path))
  walked n q p at t u path (labels, numbers, reaches) =
      ap (λ cs. after n (config q t cs)) (sym (ap (λ cs. cs ++ drop at path) numbers ∙ take-append-drop at path))
      ∙ reaches_after n q p t u labels (drop at path) reaches

  through : (o : Option Config) (n : ℕ) (e : Config) → option_and_then (after n) o ≡ Some e → (c : Config) × (o ≡ Some c) × (after n c ≡ Some e)
  through None n e h = absurd (cc)
  through (Some c) n e h = (c, refl, h)

  -- where there is no step, nothing else comes later
  pub last : (m n : ℕ) (c d e : Config) → after m c ≡ Some d → goes d.state d.term d.left ≡ None → after n c ≡ Some e → m ≤ n → (m ≡ n) × (d ≡ e)
  last zero zero c d e h final k le = (refl, same_Some d e (sym h ∙ k))
  last zero (suc n) c d e h final k le =
      let same : c ≡ d = same_Some c d h in
      let here : goes c.state c.term c.left ≡ None = ap (λ (x : Config). goes x.state x.term x.left) same ∙ final in
      let there = through (goes c.state c.term c.left) n e k in
      absurd (none_some there.0 (sym here ∙ there.1))
    where
      none_some : (x : Config) → None ≡ Some x → ⊥
      none_some x f = (cc)
  last (suc m) zero c d e h final k le = absurd (omega arith)
  last (suc m) (suc n) c d e h final k le =
      let first = through (goes c.state c.term c.left) m d h in
      let second = through (goes c.state c.term c.left) n e k in
      let same : first.0 ≡ second.0 = same_Some first.0 second.0 (sym first.1 ∙ second.1) in
      let r = last m n first.0 d e first.2 final (along (λ (x : Config). after n x ≡ Some e) (sym same) second.2) (omega arith) in
      (ap suc r.0, r.1)

  -- no step from a terminal without transition, at the end of the path, or at the number of no child
  pub stops_without_transition : (q a : ℕ) (us : Trees Head) (cs : List ℕ) → next ts q a ≡ None → goes q (node (Tm a) us) cs ≡ None
  stops_without_transition q a us [] e = refl
  stops_without_transition q a us (zero ∷ cs) e = refl
  stops_without_transition q a us (suc i ∷ cs) e = ap (λ o. both (option_and_then (λ (ps : List ℕ). slice_get ps i) o) (slice_get (children us) i) cs) e

  pub stops_without_child : (q a i : ℕ) (us : Trees Head) (qs cs : List ℕ) → next ts q a ≡ Some qs → slice_get qs i ≡ None → goes q (node (Tm a) us) (suc i ∷ cs) ≡ None
  stops_without_child q a i us qs cs e past =
      ap (λ o. both (option_and_then (λ (ps : List ℕ). slice_get ps i) o) (slice_get (children us) i) cs) e ∙ ap (λ o. both o (slice_get (children us) i) cs) past

  -- nor where there is no terminal in front and no step
  pub stops_without_step : (q : ℕ) (t : Tree Head) (cs : List ℕ) → ((a : ℕ) (us : Trees Head) → t ≡ node (Tm a) us → ⊥) → ((p : ℕ) (u : Tree Head) (label : Path) → StepsTo rules ts q t label p u → ⊥)
      → goes q t cs ≡ None
  stops_without_step q (node (Var j) us) cs no_terminal no_step = refl
  stops_without_step q (node (Tm a) us) cs no_terminal no_step = absurd (no_terminal a us refl)
  stops_without_step q (node (Nt f) us) cs no_terminal no_step =
      ap (option_map (λ u. config q u cs)) (none_there (unfolded rules f (children us)) (λ u e. no_step q u [] (refl, refl, e)))
    where
      none_there : (o : Option (Tree Head)) → ((u : Tree Head) → o ≡ Some u → ⊥) → o ≡ None
      none_there None h = refl
      none_there (Some u) h = absurd (h u refl)
