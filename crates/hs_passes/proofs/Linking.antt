-- Links that are followed, shortened and set.
use Rattle.std.proofs.Common.{◌≡◌, refl, sym, ◌∙◌, ap, subst, ℕ, zero, suc, ◌+◌, ◌-◌, ◌<◌, ◌≤◌, Bool, true, false, cond, List, length, ◌⊎◌, inl, inr, length-set, slice_get, Option, Some, arith}
use Rattle.std.specs.Prelude.{nat_eq, nat_lt, slice_index}
use Rattle.std.proofs.Math.ListN.{set}
use Rattle.std.proofs.lemmas.Bool.{eq-eqb, ltb-true, ltb-false}
use Rattle.std.proofs.lemmas.List.{get_or-set_same, get_or-set_other}
use Rattle.std.proofs.lemmas.Option.{slice_get_past}
use Rattle.hs_scheme.specs.declared.term.Rule.{Rule}
use Rattle.hs_scheme.proofs.Lists.{not_equal}
use Rattle.hs_passes.specs.Scan.{stood, target_of, scanned}
use Rattle.hs_passes.specs.Links.{AreLinks, Follow}

-- below, equal or above
order : (a b : ℕ) → (a < b) ⊎ ((a ≡ b) ⊎ (b < a))
order a b = by (nat_lt a b) refl (nat_lt b a) refl
  where
    by : (x : Bool) → nat_lt a b ≡ x → (y : Bool) → nat_lt b a ≡ y → (a < b) ⊎ ((a ≡ b) ⊎ (b < a))
    by true e y d = inl (ltb-true a b e)
    by false e true d = inr (inr (ltb-true b a d))
    by false e false d = let p = ltb-false a b e in let q = ltb-false b a d in inr (inl (omega (arith, p, q)))

-- a link set at one number
module _ (links : List ℕ) (at v : ℕ) (lt : at < length links) where
  abbrev changed : List ℕ
  changed = set links at v

  at_changed : slice_index changed at ≡ v
  at_changed = get_or-set_same links at v 0 lt

  elsewhere : (h : ℕ) → (h ≡ at → ⊥) → slice_index changed h ≡ slice_index links h
  elsewhere h ne = get_or-set_other links at h v 0 ne

  is_at : (h : ℕ) → (h ≡ at) ⊎ (h ≡ at → ⊥)
  is_at h = elim (order h at) [ inl l ↦ inr (λ e. absurd (omega (arith, e, l))) | inr q ↦ elim q [ inl e ↦ inl e | inr l ↦ inr (λ e. absurd (omega (arith, e, l))) ] ]

  within : (h : ℕ) → h < length changed → h < length links
  within h l = subst (λ n. h < n) (length-set links at v) l

  -- where what is set is in range and, if it lies back, links to itself, and nothing else links back to here
  pub links_changed : AreLinks links → v < length links → (v < at → (v ≡ at → ⊥) → slice_index links v ≡ v)
      → ((h : ℕ) → h < length links → (h ≡ at → ⊥) → slice_index links h ≡ at → at < h → ⊥) → AreLinks changed
  links_changed are in_range root apart = record {
    in_range = λ h l. subst (λ n. slice_index changed h < n) (sym (length-set links at v)) (elim (is_at h) [
      | inl e ↦ subst (λ n. n < length links) (sym (ap (slice_index changed) e ∙ at_changed)) in_range
      | inr ne ↦ subst (λ n. n < length links) (sym (elsewhere h ne)) (are.in_range h (within h l))
    ]);
    back = λ h l lies. elim (is_at h) [
      | inl e ↦
          let to : slice_index changed h ≡ v = ap (slice_index changed) e ∙ at_changed in
          let low : v < at = omega (arith, lies, to, e) in
          let ne : v ≡ at → ⊥ = λ q. absurd (omega (arith, q, low)) in
          ap (slice_index changed) to ∙ (elsewhere v ne ∙ (root low ne ∙ sym to))
      | inr ne ↦
          let to : slice_index changed h ≡ slice_index links h = elsewhere h ne in
          let low : slice_index links h < h = omega (arith, lies, to) in
          elim (is_at (slice_index links h)) [
            | inl e ↦ absurd (apart h (within h l) ne e (omega (arith, low, e)))
            | inr other ↦ ap (slice_index changed) to ∙ (elsewhere (slice_index links h) other ∙ (are.back h (within h l) low ∙ sym to))
          ]
    ];
  }

-- one step along the links
module _ (links : List ℕ) (are : AreLinks links) (at : ℕ) (lt : at < length links) (ne : slice_index links at ≡ at → ⊥) where
  abbrev next : ℕ
  next = slice_index links at

  abbrev after : ℕ
  after = slice_index links next

  pub next_in_range : next < length links
  next_in_range = are.in_range at lt

  pub after_in_range : after < length links
  after_in_range = are.in_range next next_in_range

  -- two links further there is a number that links to itself, or one behind
  further : (slice_index links after ≡ after) ⊎ (at < after)
  further = elim (order next at) [
    | inl l ↦ let e : after ≡ next = are.back at lt l in inl (ap (slice_index links) e ∙ refl)
    | inr q ↦ elim q [
      | inl e ↦ absurd (ne e)
      | inr l ↦ elim (order after next) [
        | inl b ↦ inl (are.back next next_in_range b)
        | inr p ↦ elim p [
          | inl e ↦ inr (omega (arith, l, e))
          | inr f ↦ inr (omega (arith, l, f))
        ]
      ]
    ]
  ]

  after_other : after ≡ at → ⊥
  after_other e = elim further [
    | inl own ↦ ne (sym (ap (slice_index links) e) ∙ (own ∙ e))
    | inr l ↦ absurd (omega (arith, e, l))
  ]

  pub step_links : AreLinks (set links at after)
  step_links = links_changed links at after lt are after_in_range
      (λ low other. elim further [ inl own ↦ own | inr l ↦ absurd (omega (arith, low, l)) ])
      (λ h l other e lies. absurd (ne (sym (ap (slice_index links) e) ∙ (are.back h l (omega (arith, e, lies)) ∙ e))))

  pub step_same : (rep : ℕ → ℕ) → Follow rep links → rep after ≡ rep at
  step_same rep fol = fol.same next next_in_range ∙ fol.same at lt

  pub step_follow : (rep : ℕ → ℕ) → Follow rep links → Follow rep (set links at after)
  step_follow rep fol = record {
    own = λ h l e. elim (is_at links at after lt h) [
      | inl q ↦ absurd (after_other (sym (ap (slice_index (set links at after)) q ∙ at_changed links at after lt) ∙ (e ∙ q)))
      | inr q ↦ fol.own h (within links at after lt h l) (sym (elsewhere links at after lt h q) ∙ e)
    ];
    linked = λ h l e.
        let was : slice_index links h ≡ h = fol.linked h (within links at after lt h l) e in
        elsewhere links at after lt h (λ q. ne (sym (ap (slice_index links) q) ∙ (was ∙ q))) ∙ was;
    same = λ h l. elim (is_at links at after lt h) [
      | inl q ↦ ap rep (ap (slice_index (set links at after)) q ∙ at_changed links at after lt) ∙ (step_same rep fol ∙ ap rep (sym q))
      | inr q ↦ ap rep (elsewhere links at after lt h q) ∙ fol.same h (within links at after lt h l)
    ];
  }

  pub step_in_range : after < length (set links at after)
  step_in_range = subst (λ n. after < n) (sym (length-set links at after)) after_in_range

  pub step_roots : (h : ℕ) → slice_index links h ≡ h → slice_index (set links at after) h ≡ h
  step_roots h e = elsewhere links at after lt h (λ q. ne (sym (ap (slice_index links) q) ∙ (e ∙ q))) ∙ e

  abbrev pub remaining : List ℕ → ℕ → ℕ
  remaining ls h = cond (nat_eq (slice_index ls h) h) 0 (length ls + 1 - h)

  pub step_smaller : remaining (set links at after) after < remaining links at
  step_smaller =
      let here : remaining links at ≡ length links + 1 - at = ap (λ b. cond b 0 (length links + 1 - at)) (not_equal next at ne) in
      let there : slice_index (set links at after) after ≡ slice_index links after = elsewhere links at after lt after after_other in
      let long = length-set links at after in
      elim further [
        | inl own ↦
            let root : remaining (set links at after) after ≡ 0 = ap (λ b. cond b 0 (length (set links at after) + 1 - after)) (eq-eqb (slice_index (set links at after) after) after (there ∙ own)) in
            omega (arith, here, root, lt)
        | inr l ↦
            let most : remaining (set links at after) after ≤ length (set links at after) + 1 - after = at_most (nat_eq (slice_index (set links at after) after) after) (length (set links at after) + 1 - after) in
            omega (arith, here, most, long, l, lt, after_in_range)
      ]
    where
      at_most : (b : Bool) (n : ℕ) → cond b 0 n ≤ n
      at_most true n = omega arith
      at_most false n = omega arith

-- one more number, which links to itself as all behind it do, gets the link of its target's root
module _ (links : List ℕ) (f g r : ℕ) (f_in : f < length links) (g_in : g < length links) (r_in : r < length links) (own_f : slice_index links f ≡ f) (own_r : slice_index links r ≡ r)
    (ahead : (h : ℕ) → f < h → h < length links → slice_index links h ≡ h) (other : r ≡ f → ⊥) where
  pub fold_links : AreLinks links → AreLinks (set links f r)
  fold_links are = links_changed links f r f_in are r_in (λ low ne. own_r)
      (λ h l ne e lies. absurd (ne (sym (ahead h lies l) ∙ e)))

  pub fold_ahead : (h : ℕ) → f < h → h < length (set links f r) → slice_index (set links f r) h ≡ h
  fold_ahead h lies l = elsewhere links f r f_in h (λ e. absurd (omega (arith, e, lies))) ∙ ahead h lies (within links f r f_in h l)

  module _ (rep : ℕ → ℕ) (fol : Follow rep links) (is : r ≡ rep g) where
    abbrev then : ℕ → ℕ
    then h = stood rep f (Some g) h

    then_is : (h : ℕ) → then h ≡ cond (nat_eq (rep h) f) (rep g) (rep h)
    then_is h = ap (λ b. cond b (rep h) (cond (nat_eq (rep h) f) (rep g) (rep h))) (not_equal (rep g) f (λ e. other (is ∙ e)))

    then_other : (h : ℕ) → (rep h ≡ f → ⊥) → then h ≡ rep h
    then_other h ne = then_is h ∙ ap (λ b. cond b (rep g) (rep h)) (not_equal (rep h) f ne)

    then_own : (h : ℕ) → rep h ≡ f → then h ≡ rep g
    then_own h e = then_is h ∙ ap (λ b. cond b (rep g) (rep h)) (eq-eqb (rep h) f e)

    rep_f : rep f ≡ f
    rep_f = fol.own f f_in own_f

    rep_r : rep r ≡ r
    rep_r = fol.own r r_in own_r

    pub fold_follow : Follow (λ h. stood rep f (Some g) h) (set links f r)
    fold_follow = record {
      own = λ h l e. elim (is_at links f r f_in h) [
        | inl q ↦ absurd (other (sym (ap (slice_index (set links f r)) q ∙ at_changed links f r f_in) ∙ (e ∙ q)))
        | inr q ↦
            let was : slice_index links h ≡ h = sym (elsewhere links f r f_in h q) ∙ e in
            let rep_h = fol.own h (within links f r f_in h l) was in
            then_other h (λ d. q (sym rep_h ∙ d)) ∙ rep_h
      ];
      linked = λ h l e. by h l (order (rep h) f) e;
      same = λ h l. elim (is_at links f r f_in h) [
        | inl q ↦
            ap then (ap (slice_index (set links f r)) q ∙ at_changed links f r f_in)
            ∙ (then_other r (λ d. other (sym rep_r ∙ d)) ∙ (rep_r ∙ (is ∙ sym (then_own h (ap rep q ∙ rep_f)))))
        | inr q ↦
            let to = fol.same h (within links f r f_in h l) in
            ap then (elsewhere links f r f_in h q) ∙ (then_is (slice_index links h) ∙ ((λ i. cond (nat_eq (to i) f) (rep g) (to i)) ∙ sym (then_is h)))
      ];
    }
      where
        stays_put : (h : ℕ) → h < length (set links f r) → (rep h ≡ f → ⊥) → then h ≡ h → slice_index (set links f r) h ≡ h
        stays_put h l ne e =
            let rep_h : rep h ≡ h = sym (then_other h ne) ∙ e in
            elsewhere links f r f_in h (λ q. ne (rep_h ∙ q)) ∙ fol.linked h (within links f r f_in h l) rep_h

        by : (h : ℕ) → h < length (set links f r) → ((rep h < f) ⊎ ((rep h ≡ f) ⊎ (f < rep h))) → then h ≡ h → slice_index (set links f r) h ≡ h
        by h l (inl lt) e = stays_put h l (λ d. absurd (omega (arith, d, lt))) e
        by h l (inr (inr lt)) e = stays_put h l (λ d. absurd (omega (arith, d, lt))) e
        by h l (inr (inl d)) e =
            let h_is : h ≡ r = sym e ∙ (then_own h d ∙ sym is) in
            absurd (other (sym rep_r ∙ (sym (ap rep h_is) ∙ d)))

-- where the target's root is the number itself, nothing changes
pub same_follow : (rep : ℕ → ℕ) (links : List ℕ) (f g : ℕ) → rep g ≡ f → Follow rep links → Follow (λ h. stood rep f (Some g) h) links
same_follow rep links f g e fol = subst (λ (p : ℕ → ℕ). Follow p links) (λ i h. cond (sym (eq-eqb (rep g) f e) i) (rep h) (cond (nat_eq (rep h) f) (rep g) (rep h))) fol

-- the next rule's step of a scan
pub scanned_next : (rules : List Rule) (i : ℕ) (o : Option ℕ) → 0 < i → target_of i (slice_get rules i) ≡ o → (λ h. stood (scanned rules (i - 1)) i o h) ≡ scanned rules (i + 1 - 1)
scanned_next rules zero o lt e = absurd (omega arith)
scanned_next rules (suc k) o lt e =
    let p : suc k - 1 ≡ k = omega arith in
    let q : suc k ≡ suc k + 1 - 1 = omega arith in
    (λ j h. stood (scanned rules (p j)) (suc k) (sym e j) h) ∙ ap (scanned rules) q

-- behind the last rule nothing more is scanned
pub scanned_end : (rules : List Rule) (i : ℕ) → length rules ≤ i → 0 < i → scanned rules (i - 1) ≡ scanned rules i
scanned_end rules zero le lt = absurd (omega arith)
scanned_end rules (suc k) le lt =
    let p : suc k - 1 ≡ k = omega arith in
    ap (scanned rules) p ∙ λ j h. stood (scanned rules k) (suc k) (ap (target_of (suc k)) (sym (slice_get_past rules (suc k) le)) j) h

pub own_follow : (rules : List Rule) (links : List ℕ) → ((h : ℕ) → h < length links → slice_index links h ≡ h) → Follow (scanned rules 0) links
own_follow rules links own = record { own = λ h l e. refl; linked = λ h l e. own h l; same = λ h l. own h l }

pub own_are_links : (links : List ℕ) → ((h : ℕ) → h < length links → slice_index links h ≡ h) → AreLinks links
own_are_links links own = record {
  in_range = λ h l. omega (arith, own h l, l);
  back = λ h l lies. absurd (omega (arith, own h l, lies));
}
