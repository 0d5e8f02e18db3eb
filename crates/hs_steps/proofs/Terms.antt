-- Rows of arguments, and replacements in applied terms.
use Rattle.std.proofs.Common.{◌≡◌, refl, sym, ◌∙◌, ap, ℕ, zero, suc, ◌+◌, ◌<◌, ◌≤◌, List, [], ◌∷◌, length, take, drop, get_or, slice_get, Option, Some, None, unwrap_or, true, false, cond, nat_le, arith}
use Rattle.std.proofs.lemmas.Option.{slice_get-get_or, same_Some}
use Rattle.std.proofs.lemmas.Bool.{leb-true, le-leb}
use Rattle.std.proofs.Math.Seq.{drop-cons}
use Rattle.std.proofs.lemmas.List.{take_all, drop_all}
use Rattle.hs_scheme.specs.declared.term.Head.{Head}
use Rattle.hs_scheme.specs.declared.term.Head.TheVariants.{Var, Nt, Tm}
use Rattle.hs_scheme.specs.declared.term.Rule.{Rule}
use Rattle.hs_scheme.specs.Tree.{Tree, Trees, node, none, more, join, forest}
use Rattle.hs_scheme.specs.acceptance.Replacement.{subst, substs, replaced, applied}
use Rattle.hs_scheme.specs.acceptance.Cut.{body_of, body_with, unfolded}
use Rattle.hs_scheme.specs.Scheme.{HeadInRange, TermInRange, TermsInRange}
use Rattle.hs_scheme.specs.sorting.Lengthening.{parameters}

pub join-none : {A : Type 0} (us : Trees A) → join us none ≡ us
join-none none = refl
join-none (more u us) = ap (more u) (join-none us)

join_assoc : {A : Type 0} (us vs ws : Trees A) → join (join us vs) ws ≡ join us (join vs ws)
join_assoc none vs ws = refl
join_assoc (more u us) vs ws = ap (more u) (join_assoc us vs ws)

pub applied-none : (t : Tree Head) → applied t none ≡ t
applied-none (node h us) = ap (node h) (join-none us)

pub applied-applied : (t : Tree Head) (us vs : Trees Head) → applied (applied t us) vs ≡ applied t (join us vs)
applied-applied (node h ts) us vs = ap (node h) (join_assoc ts us vs)

substs-join : (us vs : Trees Head) (ts : List (Tree Head)) → substs (join us vs) ts ≡ join (substs us ts) (substs vs ts)
substs-join none vs ts = refl
substs-join (more u us) vs ts = ap (more (subst u ts)) (substs-join us vs ts)

-- a replacement goes into the further arguments too
pub subst-applied : (t : Tree Head) (vs : Trees Head) (ts : List (Tree Head)) → subst (applied t vs) ts ≡ applied (subst t ts) (substs vs ts)
subst-applied (node h us) vs ts =
    ap (applied (replaced h ts)) (substs-join us vs ts) ∙ sym (applied-applied (replaced h ts) (substs us ts) (substs vs ts))

slice_get-take : {A : Type 0} (n j : ℕ) (xs : List A) → j < n → slice_get (take n xs) j ≡ slice_get xs j
slice_get-take zero j xs lt = absurd (omega arith)
slice_get-take (suc n) j [] lt = refl
slice_get-take (suc n) zero (x ∷ xs) lt = refl
slice_get-take (suc n) (suc j) (x ∷ xs) lt = slice_get-take n j xs (omega arith)

-- only the terms for its parameters matter to a term
module _ (params rules terminals : ℕ) (ts : List (Tree Head)) where
  replaced_first : (h : Head) → HeadInRange params rules terminals h → replaced h (take params ts) ≡ replaced h ts
  replaced_first (Var j) lt = ap (λ o. unwrap_or o (node (Var j) none)) (slice_get-take params j ts lt)
  replaced_first (Nt f) lt = refl
  replaced_first (Tm a) lt = refl

  mutual
    pub subst_first : (t : Tree Head) → TermInRange params rules terminals t → subst t (take params ts) ≡ subst t ts
    subst_first (node h us) r = λ i. applied (replaced_first h r.0 i) (substs_first us r.2 i)

    substs_first : (us : Trees Head) → TermsInRange params rules terminals us → substs us (take params ts) ≡ substs us ts
    substs_first none r = refl
    substs_first (more u us) r = λ i. more (subst_first u r.0 i) (substs_first us r.1 i)

-- parameters from the first on stand for the terms from there on
pub substs-parameters : (first d : ℕ) (ts : List (Tree Head)) → first + d ≡ length ts → substs (parameters first d) ts ≡ forest (drop first ts)
substs-parameters first zero ts e = sym (ap forest (drop_all first ts (omega arith)))
substs-parameters first (suc d) ts e =
    let lt : first < length ts = omega arith in
    let none_there : Tree Head = node (Var first) none in
    let on : suc first ≡ first + 1 = omega arith in
    let at : slice_get ts first ≡ Some (get_or ts first none_there) = slice_get-get_or ts first none_there lt in
    let here : subst none_there ts ≡ get_or ts first none_there =
    applied-none (replaced (Var first) ts) ∙ ap (λ o. unwrap_or o none_there) at in
    (λ i. more (here i) (substs-parameters (first + 1) d ts (omega arith) i))
    ∙ sym (ap forest (drop-cons ts first none_there lt ∙ ap (λ n. get_or ts first none_there ∷ drop n ts) on))

-- how a nonterminal comes to be replaced
pub record Unfolding (rules : List Rule) (f : ℕ) (ts : List (Tree Head)) (u : Tree Head) : Type 0 where
  pub rule : Rule
  pub at : slice_get rules f ≡ Some rule
  pub enough : rule.params ≤ length ts
  pub is : body_of rule ts ≡ u

pub unfolding_of : (rules : List Rule) (f : ℕ) (ts : List (Tree Head)) (u : Tree Head) → unfolded rules f ts ≡ Some u → Unfolding rules f ts u
unfolding_of rules f ts u e = by_rule (slice_get rules f) refl e
  where
    by_rule : (o : Option Rule) → slice_get rules f ≡ o → body_with o ts ≡ Some u → Unfolding rules f ts u
    by_rule None at h = absurd (cc)
    by_rule (Some r) at h = elim (nat_le r.params (length ts)) as (λ b. nat_le r.params (length ts) ≡ b → cond b (Some (body_of r ts)) None ≡ Some u → Unfolding rules f ts u) [
      | true ↦ λ le g. record { rule = r; at = at; enough = leb-true r.params (length ts) le; is = same_Some (body_of r ts) u g }
      | false ↦ λ le g. absurd (cc)
    ] refl h

pub unfolds : (rules : List Rule) (f : ℕ) (r : Rule) (ts : List (Tree Head)) → slice_get rules f ≡ Some r → r.params ≤ length ts → unfolded rules f ts ≡ Some (body_of r ts)
unfolds rules f r ts at le =
    ap (λ o. body_with o ts) at ∙ ap (λ b. cond b (Some (body_of r ts)) None) (le-leb r.params (length ts) le)

-- with as many terms as parameters, none is left over
pub unfolds_full : (rules : List Rule) (f : ℕ) (r : Rule) (ts : List (Tree Head)) → slice_get rules f ≡ Some r → length ts ≡ r.params → unfolded rules f ts ≡ Some (subst r.body ts)
unfolds_full rules f r ts at e =
    unfolds rules f r ts at (omega arith)
    ∙ ap (λ u. Some u) ((λ i. applied (subst r.body (take_all r.params ts (omega arith) i)) (forest (drop_all r.params ts (omega arith) i))) ∙ applied-none (subst r.body ts))
