-- Steps along a path: they are determined by its child numbers, and can be put at its end.
use Rattle.std.proofs.Common.{◌≡◌, refl, sym, ◌∙◌, ap, add-one, ℕ, zero, suc, ◌+◌, List, [], ◌∷◌, ◌++◌, append-nil, append_assoc, slice_get, Some, arith}
use Rattle.std.proofs.Common.{subst as along}
use Rattle.std.proofs.lemmas.Option.{same_Some}
use Rattle.hs_scheme.specs.declared.term.Head.{Head}
use Rattle.hs_scheme.specs.declared.term.Head.TheVariants.{Var, Nt, Tm}
use Rattle.hs_scheme.specs.declared.term.Rule.{Rule}
use Rattle.hs_scheme.specs.acceptance.Transition.{TransitionData}
use Rattle.hs_scheme.specs.Tree.{Tree, Trees, node, children}
use Rattle.hs_scheme.specs.acceptance.Automaton.{next}
use Rattle.hs_scheme.specs.acceptance.Cut.{unfolded}
use Rattle.hs_scheme.specs.acceptance.Steps.{Path, StepsTo, IsChild, LeadsTo, Along, Reaches, HasNoTransition, Fails, child_numbers}

same_cons : (a b : ℕ) (as_ bs : List ℕ) → a ∷ as_ ≡ b ∷ bs → (a ≡ b) × (as_ ≡ bs)
same_cons a b as_ bs e = (cc, cc)

same_number : (i j : ℕ) → i + 1 ≡ j + 1 → i ≡ j
same_number i j e = omega arith

module _ (rules : List Rule) (ts : List TransitionData) where
  -- two steps whose paths have equal child numbers
  record AreSame (label other : Path) (p r : ℕ) (u v : Tree Head) (rest remaining : Path) : Type 0 where
    pub labels : label ≡ other
    pub states : p ≡ r
    pub terms : u ≡ v
    pub numbers : child_numbers rest ≡ child_numbers remaining

  same_child : (a : ℕ) (qs ss : List ℕ) (us : List (Tree Head)) (label other : Path) (p r : ℕ) (u v : Tree Head) (rest remaining : Path) → qs ≡ ss → IsChild a qs us label p u → IsChild a ss us other r v
      → child_numbers (label ++ rest) ≡ child_numbers (other ++ remaining) → AreSame label other p r u v rest remaining
  same_child a qs ss us label other p r u v rest remaining e c d numbers =
      let first : child_numbers (label ++ rest) ≡ (c.place + 1) ∷ child_numbers rest = ap (λ l. child_numbers (l ++ rest)) c.labelled in
      let second : child_numbers (other ++ remaining) ≡ (d.place + 1) ∷ child_numbers remaining = ap (λ l. child_numbers (l ++ remaining)) d.labelled in
      let both : (c.place + 1) ∷ child_numbers rest ≡ (d.place + 1) ∷ child_numbers remaining = sym first ∙ (numbers ∙ second) in
      let split = same_cons (c.place + 1) (d.place + 1) (child_numbers rest) (child_numbers remaining) both in
      let place : c.place ≡ d.place = same_number c.place d.place split.0 in
      record {
        labels = c.labelled ∙ (ap (λ i. (a, i + 1) ∷ []) place ∙ sym d.labelled);
        states = same_Some p r (sym c.state ∙ ((λ i. slice_get (e i) (place i)) ∙ d.state));
        terms = same_Some u v (sym c.term ∙ (ap (λ i. slice_get us i) place ∙ d.term));
        numbers = split.1;
      }

  same_step : (q : ℕ) (t : Tree Head) (label other : Path) (p r : ℕ) (u v : Tree Head) (rest remaining : Path) → StepsTo rules ts q t label p u → StepsTo rules ts q t other r v
      → child_numbers (label ++ rest) ≡ child_numbers (other ++ remaining) → AreSame label other p r u v rest remaining
  same_step q (node (Var j) us) label other p r u v rest remaining s z numbers = absurd s
  same_step q (node (Nt f) us) label other p r u v rest remaining (silent, is, goes) (silent', is', goes') numbers = record {
    labels = silent ∙ sym silent';
    states = is ∙ sym is';
    terms = same_Some u v (sym goes ∙ goes');
    numbers = sym (ap (λ l. child_numbers (l ++ rest)) silent) ∙ (numbers ∙ ap (λ l. child_numbers (l ++ remaining)) silent');
  }
  same_step q (node (Tm a) us) label other p r u v rest remaining (qs, e, c) (ss, f, d) numbers =
      same_child a qs ss (children us) label other p r u v rest remaining (same_Some qs ss (sym e ∙ f)) c d numbers

  -- two first steps of paths with equal child numbers
  same_front : (P Q : ℕ → Tree Head → Path → Type 0) (q : ℕ) (t : Tree Head) (path other : Path) → child_numbers path ≡ child_numbers other
      → (l : LeadsTo rules ts P q t path) (k : LeadsTo rules ts Q q t other) → AreSame l.label k.label l.state k.state l.term k.term l.rest k.rest
  same_front P Q q t path other numbers l k =
      same_step q t l.label k.label l.state k.state l.term k.term l.rest k.rest l.step k.step (sym (ap child_numbers l.whole) ∙ (numbers ∙ ap child_numbers k.whole))

  abbrev AreOne : (path other : Path) (p r : ℕ) (u v : Tree Head) → Type 0
  AreOne path other p r u v = (path ≡ other) × (p ≡ r) × (u ≡ v)

  pub same_end : (n q p r : ℕ) (t u v : Tree Head) (path other : Path) → child_numbers path ≡ child_numbers other → Reaches rules ts n q t path p u → Reaches rules ts n q t other r v
      → AreOne path other p r u v
  same_end zero q p r t u v path other numbers (e, (is, are)) (e', (is', are')) = (e ∙ sym e', sym is ∙ is', sym are ∙ are')
  same_end (suc n) q p r t u v path other numbers l k =
      let same = same_front _ _ q t path other numbers l k in
      let rest = same_end n l.state p r l.term u v l.rest k.rest same.numbers l.holds
      (along (λ (x : Tree Head). Reaches rules ts n l.state x k.rest r v) (sym same.terms) (along (λ y. Reaches rules ts n y k.term k.rest r v) (sym same.states) k.holds)) in
      (l.whole ∙ ((λ i. same.labels i ++ rest.0 i) ∙ sym k.whole), rest.1, rest.2)

  no_more_steps : (q p : ℕ) (t u : Tree Head) (label : Path) → HasNoTransition ts q t → StepsTo rules ts q t label p u → ⊥
  no_more_steps q p (node (Var j) us) u label h s = h
  no_more_steps q p (node (Nt f) us) u label h s = h
  no_more_steps q p (node (Tm a) us) u label h (qs, e, c) = absurd (cc)

  pub same_failure : (m n q : ℕ) (t : Tree Head) (path other : Path) → child_numbers path ≡ child_numbers other → Fails rules ts m q t path → Fails rules ts n q t other → (m ≡ n) × (path ≡ other)
  same_failure zero zero q t path other numbers (e, h) (e', h') = (refl, e ∙ sym e')
  same_failure zero (suc n) q t path other numbers (e, h) k = absurd (no_more_steps q k.state t k.term k.label h k.step)
  same_failure (suc m) zero q t path other numbers l (e, h) = absurd (no_more_steps q l.state t l.term l.label h l.step)
  same_failure (suc m) (suc n) q t path other numbers l k =
      let same = same_front _ _ q t path other numbers l k in
      let rest = same_failure m n l.state l.term l.rest k.rest same.numbers l.holds
      (along (λ (x : Tree Head). Fails rules ts n l.state x k.rest) (sym same.terms) (along (λ y. Fails rules ts n y k.term k.rest) (sym same.states) k.holds)) in
      (ap suc rest.0, l.whole ∙ ((λ i. same.labels i ++ rest.1 i) ∙ sym k.whole))

  -- failing is reaching a terminal without transition
  abbrev Ends : ℕ → ℕ → Tree Head → Path → Type 0
  Ends n q t path = (p : ℕ) × (u : Tree Head) × Reaches rules ts n q t path p u × HasNoTransition ts p u

  pub fails_ends : (n q : ℕ) (t : Tree Head) (path : Path) → Fails rules ts n q t path → Ends n q t path
  fails_ends zero q t path (e, h) = (q, t, (e, (refl, refl)), h)
  fails_ends (suc n) q t path l =
      let r = fails_ends n l.state l.term l.rest l.holds in
      (r.0, r.1, record { label = l.label; rest = l.rest; state = l.state; term = l.term; whole = l.whole; step = l.step; holds = r.2 }, r.3)

  pub ends_fails : (n q : ℕ) (t : Tree Head) (path : Path) → Ends n q t path → Fails rules ts n q t path
  ends_fails zero q t path (p, u, (e, (is, are)), h) = (e, along (λ (x : Tree Head). HasNoTransition ts q x) (sym are) (along (λ y. HasNoTransition ts y u) (sym is) h))
  ends_fails (suc n) q t path (p, u, l, h) =
      record { label = l.label; rest = l.rest; state = l.state; term = l.term; whole = l.whole; step = l.step; holds = ends_fails n l.state l.term l.rest (p, u, l.holds, h) }

  -- a further step at the end
  then : (n q p r : ℕ) (t u v : Tree Head) (path label : Path) → Reaches rules ts n q t path p u → StepsTo rules ts p u label r v → Reaches rules ts (suc n) q t (path ++ label) r v
  then zero q p r t u v path label (e, (is, are)) s = record {
    label = label;
    rest = [];
    state = r;
    term = v;
    whole = ap (λ l. l ++ label) e ∙ sym (append-nil label);
    step = along (λ (x : Tree Head). StepsTo rules ts q x label r v) (sym are) (along (λ y. StepsTo rules ts y u label r v) (sym is) s);
    holds = (refl, (refl, refl));
  }
  then (suc n) q p r t u v path label l s = record {
    label = l.label;
    rest = l.rest ++ label;
    state = l.state;
    term = l.term;
    whole = ap (λ x. x ++ label) l.whole ∙ append_assoc l.label l.rest label;
    step = l.step;
    holds = then n l.state p r l.term u v l.rest label l.holds s;
  }

  pub one_more : (n q p r : ℕ) (t u v : Tree Head) (path label : Path) → Reaches rules ts n q t path p u → StepsTo rules ts p u label r v → Reaches rules ts (n + 1) q t (path ++ label) r v
  one_more n q p r t u v path label a s = rw add-one (then n q p r t u v path label a s)

  -- a first step: the replacement of the nonterminal in front, or the descent from the terminal there
  module _ (P : ℕ → Tree Head → Type 0) where
    pub after_replacement : (n q f : ℕ) (us : Trees Head) (u : Tree Head) (path : Path) → unfolded rules f (children us) ≡ Some u → Along rules ts P n q u path → Along rules ts P (suc n) q (node (Nt f) us) path
    after_replacement n q f us u path goes a = record { label = []; rest = path; state = q; term = u; whole = refl; step = (refl, refl, goes); holds = a }

    pub after_descent : (n q p b i : ℕ) (qs : List ℕ) (us : Trees Head) (u : Tree Head) (path : Path) → next ts q b ≡ Some qs → slice_get qs i ≡ Some p → slice_get (children us) i ≡ Some u
        → Along rules ts P n p u path → Along rules ts P (suc n) q (node (Tm b) us) ((b, i + 1) ∷ path)
    after_descent n q p b i qs us u path e at_state at_term a = record {
      label = (b, i + 1) ∷ [];
      rest = path;
      state = p;
      term = u;
      whole = refl;
      step = (qs, e, record { place = i; labelled = refl; state = at_state; term = at_term });
      holds = a;
    }

  pub replaced_fails : (n q f : ℕ) (us : Trees Head) (u : Tree Head) (path : Path) → unfolded rules f (children us) ≡ Some u → Fails rules ts n q u path → Fails rules ts (n + 1) q (node (Nt f) us) path
  replaced_fails n q f us u path goes a = rw add-one (after_replacement (HasNoTransition ts) n q f us u path goes a)

  pub child_fails : (n q p b i : ℕ) (qs : List ℕ) (us : Trees Head) (u : Tree Head) (path : Path) → next ts q b ≡ Some qs → slice_get qs i ≡ Some p → slice_get (children us) i ≡ Some u
      → Fails rules ts n p u path → Fails rules ts (n + 1) q (node (Tm b) us) ((b, i + 1) ∷ path)
  child_fails n q p b i qs us u path e at_state at_term a =
      let more_steps : suc n ≡ n + 1 = omega arith in
      along (λ k. Fails rules ts k q (node (Tm b) us) ((b, i + 1) ∷ path)) more_steps (after_descent (HasNoTransition ts) n q p b i qs us u path e at_state at_term a)
