-- Rules under new names make the same steps, but for nonterminals that another one stands for.
use Rattle.std.proofs.Common.{◌≡◌, refl, sym, ◌∙◌, ap, subst, ℕ, zero, suc, List, [], ◌++◌, slice_get, option_map, Option, Some, None, ◌⊎◌, inl, inr}
use Rattle.std.proofs.lemmas.Option.{slice_get-map, same_Some}
use Rattle.hs_scheme.specs.declared.term.Head.{Head}
use Rattle.hs_scheme.specs.declared.term.Head.TheVariants.{Var, Nt, Tm}
use Rattle.hs_scheme.specs.declared.term.Rule.{Rule}
use Rattle.hs_scheme.specs.acceptance.Transition.{TransitionData}
use Rattle.hs_scheme.specs.Tree.{Tree, Trees, node, children}
use Rattle.hs_scheme.specs.acceptance.Cut.{body_with, unfolded}
use Rattle.hs_scheme.specs.acceptance.Steps.{Path, IsChild, HasNoTransition, Fails}
use Rattle.hs_steps.proofs.Terms.{unfolding_of}
use Rattle.hs_passes.specs.Selection.{renamed, renamed_all, renamed_rule}
use Rattle.hs_passes.proofs.Renaming.{NamesIn, NamesAllIn, names-body, names-children, names-at, children-renamed, renamed-body_with}

-- what an image under a map comes from
pub record Before {A B : Type 0} (f : A → B) (o : Option A) (y : B) : Type 0 where
  pub item : A
  pub at : o ≡ Some item
  pub is : f item ≡ y

pub before : {A B : Type 0} (f : A → B) (o : Option A) (y : B) → option_map f o ≡ Some y → Before f o y
before f None y e = absurd (cc)
before f (Some x) y e = record { item = x; at = refl; is = same_Some (f x) y e }

module _ (rules others : List Rule) (to : ℕ → ℕ) where
  abbrev pub Alike : ℕ → Type 0
  Alike f = slice_get others (to f) ≡ option_map (renamed_rule to) (slice_get rules f)

  -- the nonterminal f is replaced by g, which has the same new name
  pub record Alias (K : ℕ → Type 0) (f : ℕ) : Type 0 where
    pub target : ℕ
    pub kept : K target
    pub same : to target ≡ to f
    pub alike : Alike target
    pub goes : (us : Trees Head) (u : Tree Head) → unfolded rules f (children us) ≡ Some u → u ≡ node (Nt target) us
    pub comes : (us : Trees Head) (u : Tree Head) → unfolded rules target (children us) ≡ Some u → unfolded rules f (children us) ≡ Some (node (Nt target) us)

  unfolded_alike : (f : ℕ) (us : Trees Head) → Alike f → unfolded others (to f) (children (renamed_all to us)) ≡ option_map (renamed to) (unfolded rules f (children us))
  unfolded_alike f us alike =
      (λ i. body_with (alike i) (children-renamed to us i)) ∙ renamed-body_with to (slice_get rules f) (children us)

  module _ (K : ℕ → Type 0) (bodies : (f : ℕ) (r : Rule) → K f → slice_get rules f ≡ Some r → NamesIn K r.body) (each : (f : ℕ) → K f → Alike f ⊎ Alias K f)
      (ts : List TransitionData) where
    kept_unfolded : (f : ℕ) (us : Trees Head) (u : Tree Head) → K f → NamesAllIn K us → unfolded rules f (children us) ≡ Some u → NamesIn K u
    kept_unfolded f us u k p e =
        let un = unfolding_of rules f (children us) u e in
        subst (NamesIn K) un.is (names-body K un.rule (children us) (bodies f un.rule k un.at) (names-children K us p))

    over_end : (q : ℕ) (t : Tree Head) → HasNoTransition ts q t → HasNoTransition ts q (renamed to t)
    over_end q (node (Var j) us) h = h
    over_end q (node (Nt f) us) h = h
    over_end q (node (Tm a) us) h = h

    back_end : (q : ℕ) (t : Tree Head) → HasNoTransition ts q (renamed to t) → HasNoTransition ts q t
    back_end q (node (Var j) us) h = h
    back_end q (node (Nt f) us) h = h
    back_end q (node (Tm a) us) h = h

    over_child : (a : ℕ) (qs : List ℕ) (us : Trees Head) (label : Path) (p : ℕ) (u : Tree Head) → IsChild a qs (children us) label p u → IsChild a qs (children (renamed_all to us)) label p (renamed to u)
    over_child a qs us label p u c = record {
      place = c.place;
      labelled = c.labelled;
      state = c.state;
      term = ap (λ vs. slice_get vs c.place) (children-renamed to us) ∙ (slice_get-map (renamed to) (children us) c.place ∙ ap (option_map (renamed to)) c.term);
    }

    child_before : (a : ℕ) (qs : List ℕ) (us : Trees Head) (label : Path) (p : ℕ) (v : Tree Head) (c : IsChild a qs (children (renamed_all to us)) label p v) → Before (renamed to) (slice_get (children us) c.place) v
    child_before a qs us label p v c =
        before (renamed to) (slice_get (children us) c.place) v
        (sym (slice_get-map (renamed to) (children us) c.place) ∙ (ap (λ vs. slice_get vs c.place) (sym (children-renamed to us)) ∙ c.term))

    -- a path along which the one comes to such an end, the other comes too
    abbrev FailsSometime : List Rule → ℕ → Tree Head → Path → Type 0
    FailsSometime rs q t path = (n : ℕ) × Fails rs ts n q t path

    step_on : (rs : List Rule) (f : ℕ) (us : Trees Head) (u : Tree Head) (q : ℕ) (path : Path) → unfolded rs f (children us) ≡ Some u → FailsSometime rs q u path → FailsSometime rs q (node (Nt f) us) path
    step_on rs f us u q path e (m, h) = (suc m, record { label = []; rest = path; state = q; term = u; whole = refl; step = (refl, refl, e); holds = h })

    -- what a silent step has for a path and a state
    unlabelled : (rs : List Rule) (t : Tree Head) (label rest path : Path) (p q : ℕ) → label ≡ [] → p ≡ q → path ≡ label ++ rest → FailsSometime rs p t rest → FailsSometime rs q t path
    unlabelled rs t label rest path p q silent is whole h =
        subst (λ (r : ℕ). FailsSometime rs r t path) is (subst (FailsSometime rs p t) (sym (whole ∙ ap (λ l. l ++ rest) silent)) h)

    pub over : (n q : ℕ) (t : Tree Head) (path : Path) → NamesIn K t → Fails rules ts n q t path → FailsSometime others q (renamed to t) path
    over zero q t path k (e, h) = (0, (e, over_end q t h))
    over (suc n) q (node (Var j) us) path k l = absurd l.step
    over (suc n) q (node (Nt f) us) path k l =
        let below = over n l.state l.term l.rest (kept_unfolded f us l.term k.0 k.1 l.step.2) l.holds in
        elim (each f k.0) [
          | inl alike ↦
              step_on others (to f) (renamed_all to us) (renamed to l.term) q path (unfolded_alike f us alike ∙ ap (option_map (renamed to)) l.step.2)
              (unlabelled others (renamed to l.term) l.label l.rest path l.state q l.step.0 l.step.1 l.whole below)
          | inr alias ↦
              unlabelled others (node (Nt (to f)) (renamed_all to us)) l.label l.rest path l.state q l.step.0 l.step.1 l.whole
              (subst (λ (v : Tree Head). FailsSometime others l.state v l.rest)
              (ap (renamed to) (alias.goes us l.term l.step.2) ∙ ap (λ g. node (Nt g) (renamed_all to us)) alias.same) below)
        ]
    over (suc n) q (node (Tm a) us) path k l =
        let c = l.step.2 in
        let below = over n l.state l.term l.rest (names-at K (children us) c.place l.term (names-children K us k.1) c.term) l.holds in (
          suc below.0,
          record {
            label = l.label;
            rest = l.rest;
            state = l.state;
            term = renamed to l.term;
            whole = l.whole;
            step = (l.step.0, l.step.1, over_child a l.step.0 us l.label l.state l.term c);
            holds = below.1;
          },
        )

    pub back : (n q : ℕ) (t : Tree Head) (path : Path) → NamesIn K t → Fails others ts n q (renamed to t) path → FailsSometime rules q t path
    back zero q t path k (e, h) = (0, (e, back_end q t h))
    back (suc n) q (node (Var j) us) path k l = absurd l.step
    back (suc n) q (node (Nt f) us) path k l =
        elim (each f k.0) [
          | inl alike ↦
              let b = before (renamed to) (unfolded rules f (children us)) l.term (sym (unfolded_alike f us alike) ∙ l.step.2) in
              let below = back n l.state b.item l.rest (kept_unfolded f us b.item k.0 k.1 b.at) (subst (λ (v : Tree Head). Fails others ts n l.state v l.rest) (sym b.is) l.holds) in
              step_on rules f us b.item q path b.at (unlabelled rules b.item l.label l.rest path l.state q l.step.0 l.step.1 l.whole below)
          | inr alias ↦
              let g = alias.target in
              let b = before (renamed to) (unfolded rules g (children us)) l.term
              (sym (unfolded_alike g us alias.alike) ∙ (ap (λ h. unfolded others h (children (renamed_all to us))) alias.same ∙ l.step.2)) in
              let below = back n l.state b.item l.rest (kept_unfolded g us b.item alias.kept k.1 b.at) (subst (λ (v : Tree Head). Fails others ts n l.state v l.rest) (sym b.is) l.holds) in
              step_on rules f us (node (Nt g) us) q path (alias.comes us b.item b.at)
              (step_on rules g us b.item q path b.at (unlabelled rules b.item l.label l.rest path l.state q l.step.0 l.step.1 l.whole below))
        ]
    back (suc n) q (node (Tm a) us) path k l =
        let c = l.step.2 in
        let b = child_before a l.step.0 us l.label l.state l.term c in
        let below = back n l.state b.item l.rest (names-at K (children us) c.place b.item (names-children K us k.1) b.at) (subst (λ (v : Tree Head). Fails others ts n l.state v l.rest) (sym b.is) l.holds) in (
          suc below.0,
          record {
            label = l.label;
            rest = l.rest;
            state = l.state;
            term = b.item;
            whole = l.whole;
            step = (l.step.0, l.step.1, record { place = c.place; labelled = c.labelled; state = c.state; term = b.at });
            holds = below.1;
          },
        )
