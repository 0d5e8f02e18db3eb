-- Dropping one unused parameter after another comes to the greatest set of needed ones.
use Rattle.std.proofs.Common.{◌≡◌, refl, sym, ◌∙◌, ap, subst, ℕ, zero, suc, ◌<◌, ◌≤◌, Bool, true, false, cond, List, [], ◌∷◌, slice_get, Option, Some, None, option_map, arith}
use Rattle.std.specs.Prelude.{◌&&◌, not, nat_eq, sum_by}
use Rattle.std.proofs.lemmas.Bool.{and_from, eq-eqb, eqb-true, and_parts, not-false}
use Rattle.std.proofs.lemmas.Option.{same_Some}
use Rattle.std.specs.Cmp.{both_ways}
use Rattle.hs_scheme.specs.declared.term.Rule.{Rule}
use Rattle.hs_scheme.specs.sorting.Sorted.{SortedData}
use Rattle.hs_passes.specs.Selection.{place}
use Rattle.hs_passes.specs.Weight.{params_of}
use Rattle.hs_passes.specs.Leaving.{Keep, rule_left, with_parameters}
use Rattle.hs_passes.specs.Unused.{needs, is_needed, first_below, here_or_later, first_parameter, first_unused, without_parameter, dropped_by, dropped, without_unused}
use Rattle.hs_passes.specs.Needing.{live, is_live, KeepsOnlyLive, IsAbove, IsGreatest}
use Rattle.hs_passes.proofs.Choosing.{place-lt, place-eq}
use Rattle.hs_passes.proofs.Places.{kept_place}
use Rattle.hs_passes.proofs.Remaining.{all, left-all, then, left-twice, at_number}
use Rattle.hs_passes.proofs.Fitting.{Fits}
use Rattle.hs_passes.proofs.LeftSorted.{left_fewer}
use Rattle.hs_passes.proofs.Simulation.{before}
use Rattle.hs_passes.proofs.Needs.{of_one, of_some-by_number, of_some-same, live-mono, is_live-mono, fits_of, needs-left}

-- what the search for a number finds
record Below (test : ℕ → Bool) (n k : ℕ) : Type 0 where
  pub within : k < n
  pub holds : test k ≡ true

found_below : (test : ℕ → Bool) (n k : ℕ) → first_below test n ≡ Some k → Below test n k
found_below test zero k e = absurd (cc)
found_below test (suc n) k e = by (found_below (λ i. test (suc i)) n) (test 0) refl e
  where
    later : ((j : ℕ) → first_below (λ i. test (suc i)) n ≡ Some j → Below (λ i. test (suc i)) n j) → (o : Option ℕ) → first_below (λ j. test (suc j)) n ≡ o → option_map (λ j. suc j) o ≡ Some k → Below test (suc n) k
    later rest None d e = absurd (cc)
    later rest (Some j) d e =
        let h = rest j d in
        let is : suc j ≡ k = same_Some (suc j) k e in
        subst (Below test (suc n)) is (record { within = omega (arith, h.within); holds = h.holds })

    by : ((j : ℕ) → first_below (λ i. test (suc i)) n ≡ Some j → Below (λ i. test (suc i)) n j) → (b : Bool) → test 0 ≡ b → cond b (Some 0) (option_map (λ j. suc j) (first_below (λ j. test (suc j)) n)) ≡ Some k → Below test (suc n) k
    by rest true d e = let is : 0 ≡ k = same_Some 0 k e in subst (Below test (suc n)) is (record { within = omega arith; holds = d })
    by rest false d e = later rest (first_below (λ j. test (suc j)) n) refl e

none_below : (test : ℕ → Bool) (n : ℕ) → first_below test n ≡ None → (k : ℕ) → k < n → test k ≡ false
none_below test zero e k lt = absurd (omega arith)
none_below test (suc n) e k lt = by (none_below (λ j. test (suc j)) n) (test 0) refl e k lt
  where
    later : (o : Option ℕ) → first_below (λ j. test (suc j)) n ≡ o → option_map (λ j. suc j) o ≡ None → first_below (λ j. test (suc j)) n ≡ None
    later None d e = d
    later (Some j) d e = absurd (cc)

    by : (first_below (λ j. test (suc j)) n ≡ None → (k : ℕ) → k < n → test (suc k) ≡ false) → (b : Bool) → test 0 ≡ b
        → cond b (Some 0) (option_map (λ j. suc j) (first_below (λ j. test (suc j)) n)) ≡ None → (k : ℕ) → k < suc n → test k ≡ false
    by rest true d e k lt = absurd (cc)
    by rest false d e zero lt = d
    by rest false d e (suc k) lt = rest (later (first_below (λ j. test (suc j)) n) refl e) k (omega arith)

-- the parameter is one of a rule, and passes the test
pub record PassesTest (test : ℕ → ℕ → Bool) (rules : List Rule) (p : ℕ × ℕ) : Type 0 where
  pub rule : Rule
  pub at : slice_get rules p.0 ≡ Some rule
  pub within : p.1 < rule.params
  pub holds : test p.0 p.1 ≡ true

pub found_parameter : (test : ℕ → ℕ → Bool) (rules : List Rule) (p : ℕ × ℕ) → first_parameter test rules ≡ Some p → PassesTest test rules p
found_parameter test [] p e = absurd (cc)
found_parameter test (r ∷ rules) p e = by (found_parameter (λ f. test (suc f)) rules) (first_below (test 0) r.params) refl e
  where
    later : ((q : ℕ × ℕ) → first_parameter (λ f. test (suc f)) rules ≡ Some q → PassesTest (λ f. test (suc f)) rules q) → (o : Option (ℕ × ℕ)) → first_parameter (λ f. test (suc f)) rules ≡ o → option_map (λ q. (suc q.0, q.1)) o ≡ Some p → PassesTest test (r ∷ rules) p
    later rest None d e = absurd (cc)
    later rest (Some q) d e =
        let h = rest q d in
        let is : (suc q.0, q.1) ≡ p = same_Some (suc q.0, q.1) p e in
        subst (PassesTest test (r ∷ rules)) is (record { rule = h.rule; at = h.at; within = h.within; holds = h.holds })

    by : ((q : ℕ × ℕ) → first_parameter (λ f. test (suc f)) rules ≡ Some q → PassesTest (λ f. test (suc f)) rules q) → (o : Option ℕ) → first_below (test 0) r.params ≡ o → here_or_later o (first_parameter (λ f. test (suc f)) rules) ≡ Some p → PassesTest test (r ∷ rules) p
    by rest None d e = later rest (first_parameter (λ f. test (suc f)) rules) refl e
    by rest (Some k) d e =
        let h = found_below (test 0) r.params k d in
        let is : (0, k) ≡ p = same_Some (0, k) p e in
        subst (PassesTest test (r ∷ rules)) is (record { rule = r; at = refl; within = h.within; holds = h.holds })

pub no_parameter : (test : ℕ → ℕ → Bool) (rules : List Rule) → first_parameter test rules ≡ None → (f j : ℕ) (r : Rule) → slice_get rules f ≡ Some r → j < r.params → test f j ≡ false
no_parameter test [] e f j r at lt = absurd (cc)
no_parameter test (q ∷ rules) e f j r at lt = by (λ d h there. no_parameter (λ i. test (suc i)) rules d h j r there lt) (first_below (test 0) q.params) refl e f at
  where
    later : (o : Option (ℕ × ℕ)) → first_parameter (λ f. test (suc f)) rules ≡ o → option_map {U = ℕ × ℕ} (λ p. (suc p.0, p.1)) o ≡ None → first_parameter (λ f. test (suc f)) rules ≡ None
    later None d e = d
    later (Some p) d e = absurd (cc)

    by : (first_parameter (λ f. test (suc f)) rules ≡ None → (h : ℕ) → slice_get rules h ≡ Some r → test (suc h) j ≡ false)
        → (o : Option ℕ) → first_below (test 0) q.params ≡ o → here_or_later o (first_parameter (λ f. test (suc f)) rules) ≡ None → (f : ℕ) → slice_get (q ∷ rules) f ≡ Some r → test f j ≡ false
    by rest (Some k) d e f at = absurd (cc)
    by rest None d e zero at =
        let is : q ≡ r = same_Some q r at in
        none_below (test 0) q.params d j (subst (λ (x : Rule). j < x.params) (sym is) lt)
    by rest None d e (suc f) at = rest (later (first_parameter (λ f. test (suc f)) rules) refl e) f at

not_true : (b : Bool) → not b ≡ true → b ≡ true → ⊥
not_true true e d = absurd (cc)
not_true false e d = absurd (cc)

module _ (s : SortedData) where
  abbrev rules : List Rule
  rules = s.scheme.rules

  -- all that is needed stays, and none of a set of needed ones went
  pub record Reached (keep : Keep) : Type 0 where
    pub above : IsAbove rules keep
    pub kept : (g f j : ℕ) (r : Rule) → slice_get rules g ≡ Some r → live keep g f j r.body ≡ true → keep f j ≡ true

  pub reached_fits : (keep : Keep) → Reached keep → (f : ℕ) (r : Rule) → slice_get rules f ≡ Some r → Fits keep (keep f) r.body
  reached_fits keep h f r at = fits_of keep f r.body (λ g j e. h.kept f g j r at e)

  abbrev new : Keep → List Rule
  new keep = (with_parameters keep s).scheme.rules

  needed-left : (keep : Keep) → Reached keep → (f j : ℕ) → keep f j ≡ true → is_needed (new keep) f (place (keep f) j) ≡ is_live keep rules f j
  needed-left keep h f j on =
      of_some-by_number (λ g r. needs g f (place (keep f) j) r.body) (λ g. rule_left keep (keep g)) rules
      ∙ of_some-same (λ g r. needs g f (place (keep f) j) (rule_left keep (keep g) r).body) (λ g r. live keep g f j r.body) rules
      (λ g r at. needs-left keep f j on g r.body (reached_fits keep h g r at))

  -- a parameter of what is left was one before
  record Was (keep : Keep) (f k : ℕ) (r : Rule) : Type 0 where
    pub param : ℕ
    pub rule : Rule
    pub at : slice_get rules f ≡ Some rule
    pub within : param < rule.params
    pub on : keep f param ≡ true
    pub is : place (keep f) param ≡ k

  was : (keep : Keep) (f k : ℕ) (r : Rule) → slice_get (new keep) f ≡ Some r → k < r.params → Was keep f k r
  was keep f k r at lt =
      let b = before (rule_left keep (keep f)) (slice_get rules f) r (sym (at_number (λ g. rule_left keep (keep g)) rules f) ∙ at) in
      let p = kept_place (keep f) b.item.params k (subst (λ (q : Rule). k < q.params) (sym b.is) lt) in
      record { param = p.number; rule = b.item; at = b.at; within = p.within; on = p.on; is = p.is }

  module _ (keep : Keep) (h : Reached keep) (p : ℕ × ℕ) (found : PassesTest (λ f j. not (is_needed (new keep) f j)) (new keep) p) where
    abbrev gone : Keep
    gone g k = not (nat_eq g p.0 && nat_eq k p.1)

    abbrev next : Keep
    next = then keep gone

    its : Was keep p.0 p.1 found.rule
    its = was keep p.0 p.1 found.rule found.at found.within

    unneeded : is_live keep rules p.0 its.param ≡ true → ⊥
    unneeded e =
        not_true (is_needed (new keep) p.0 p.1) found.holds
        (subst (λ k. is_needed (new keep) p.0 k ≡ true) its.is (needed-left keep h p.0 its.param its.on ∙ e))

    -- another parameter stays
    still : (g k : ℕ) → keep g k ≡ true → ((g ≡ p.0) × (k ≡ its.param) → ⊥) → next g k ≡ true
    still g k on other = and_from (keep g k) (gone g (place (keep g) k)) on (by (nat_eq g p.0) refl (nat_eq (place (keep g) k) p.1) refl)
      where
        by : (a : Bool) → nat_eq g p.0 ≡ a → (b : Bool) → nat_eq (place (keep g) k) p.1 ≡ b → not (a && b) ≡ true
        by false d b e = refl
        by true d false e = refl
        by true d true e =
            let same : g ≡ p.0 = eqb-true g p.0 d in
            let on_here : keep p.0 k ≡ true = subst (λ f. keep f k ≡ true) same on in
            let at_its : place (keep p.0) k ≡ place (keep p.0) its.param = ap (λ f. place (keep f) k) (sym same) ∙ (eqb-true (place (keep g) k) p.1 e ∙ sym its.is) in
            let k_is : k ≡ its.param = eqb-true k its.param (sym (place-eq (keep p.0) k its.param on_here its.on) ∙ eq-eqb (place (keep p.0) k) (place (keep p.0) its.param) at_its) in
            absurd (other (same, k_is))

    less : (g k : ℕ) → next g k ≡ true → keep g k ≡ true
    less g k e = (and_parts (keep g k) (gone g (place (keep g) k)) e).0

    pub next_reached : Reached next
    next_reached = record {
      above = λ other supported g k e.
          still g k (h.above other supported g k e) (λ same.
          unneeded (is_live-mono other keep (h.above other supported) rules p.0 its.param
          (supported p.0 its.param its.rule its.at its.within (subst (λ f. other f its.param ≡ true) same.0 (subst (λ i. other g i ≡ true) same.1 e)))));
      kept = λ g f j r at e.
          let live_before = live-mono next keep less g f j r.body e in
          still f j (h.kept g f j r at live_before) (λ same.
          unneeded (of_one (λ i q. live keep i p.0 its.param q.body) rules g r at
          (subst (λ i. live keep g i its.param r.body ≡ true) same.0 (subst (λ i. live keep g f i r.body ≡ true) same.1 live_before))));
    }

    pub next_is : with_parameters next s ≡ without_parameter p.0 p.1 (with_parameters keep s)
    next_is = sym (left-twice keep gone s)

    gone_there : gone p.0 p.1 ≡ false
    gone_there = ap not (and_from (nat_eq p.0 p.0) (nat_eq p.1 p.1) (eq-eqb p.0 p.0 refl) (eq-eqb p.1 p.1 refl))

    pub next_fewer : sum_by params_of (new next) < sum_by params_of (new keep)
    next_fewer =
        subst (λ (t : SortedData). sum_by params_of t.scheme.rules < sum_by params_of (new keep)) (sym next_is)
        (left_fewer gone (with_parameters keep s) p.0 p.1 found.rule found.at found.within gone_there)

  -- where the dropping ends
  pub record End (n : ℕ) (keep : Keep) : Type 0 where
    pub last : Keep
    pub reached : Reached last
    pub supported : KeepsOnlyLive rules last
    pub none_left : first_unused (new last) ≡ None
    pub is : dropped n (with_parameters keep s) ≡ with_parameters last s

  at_end : (keep : Keep) → Reached keep → first_unused (new keep) ≡ None → KeepsOnlyLive rules keep
  at_end keep h e f j r at lt on =
      let there : slice_get (new keep) f ≡ Some (rule_left keep (keep f) r) = at_number (λ g. rule_left keep (keep g)) rules f ∙ ap (option_map (rule_left keep (keep f))) at in
      sym (needed-left keep h f j on)
      ∙ not-false (is_needed (new keep) f (place (keep f) j))
      (no_parameter (λ g k. not (is_needed (new keep) g k)) (new keep) e f (place (keep f) j) (rule_left keep (keep f) r) there (place-lt (keep f) j r.params on lt))

  stop : (n : ℕ) (keep : Keep) → Reached keep → first_unused (new keep) ≡ None → End n keep
  stop n keep h e = record { last = keep; reached = h; supported = at_end keep h e; none_left = e; is = by n }
    where
      by : (m : ℕ) → dropped m (with_parameters keep s) ≡ with_parameters keep s
      by zero = refl
      by (suc m) = ap (λ o. dropped_by o (dropped m) (with_parameters keep s)) e

  go : (n : ℕ) (keep : Keep) → Reached keep → sum_by params_of (new keep) ≤ n → End n keep
  go zero keep h le = by (first_unused (new keep)) refl
    where
      by : (o : Option (ℕ × ℕ)) → first_unused (new keep) ≡ o → End zero keep
      by None e = stop zero keep h e
      by (Some p) e =
          let found = found_parameter (λ f j. not (is_needed (new keep) f j)) (new keep) p e in
          absurd (omega (arith, next_fewer keep h p found, le))
  go (suc n) keep h le = by (first_unused (new keep)) refl (go n)
    where
      by : (o : Option (ℕ × ℕ)) → first_unused (new keep) ≡ o → ((other : Keep) → Reached other → sum_by params_of (new other) ≤ n → End n other) → End (suc n) keep
      by None e below = stop (suc n) keep h e
      by (Some p) e below =
          let found = found_parameter (λ f j. not (is_needed (new keep) f j)) (new keep) p e in
          let end = below (next keep h p found) (next_reached keep h p found) (omega (arith, next_fewer keep h p found, le)) in
          record {
            last = end.last;
            reached = end.reached;
            supported = end.supported;
            none_left = end.none_left;
            is = ap (λ o. dropped_by o (dropped n) (with_parameters keep s)) e ∙ (ap (dropped n) (sym (next_is keep h p found)) ∙ end.is);
          }

  all_reached : Reached all
  all_reached = record { above = λ other supported f j e. refl; kept = λ g f j r at e. refl }

  pub end : End (sum_by params_of rules) all
  end = go (sum_by params_of rules) all all_reached (omega (arith, ap (λ (t : SortedData). sum_by params_of t.scheme.rules) (left-all s)))

  pub image_is : without_unused s ≡ with_parameters end.last s
  unfolding without_unused
  image_is = ap (dropped (sum_by params_of rules)) (sym (left-all s)) ∙ end.is

  pub nothing_left : first_unused (without_unused s).scheme.rules ≡ None
  nothing_left = ap (λ (t : SortedData). first_unused t.scheme.rules) image_is ∙ end.none_left

  module _ (keep : Keep) (greatest : IsGreatest rules keep) where
    same_last : (f j : ℕ) → end.last f j ≡ keep f j
    same_last f j = both_ways (end.last f j) (keep f j) (greatest.above end.last end.supported f j) (end.reached.above keep greatest.supported f j)

    pub last_is : end.last ≡ keep
    last_is = λ i f j. same_last f j i

    pub stays_is : without_unused s ≡ with_parameters keep s
    stays_is = image_is ∙ ap (λ (k : Keep). with_parameters k s) last_is

    pub greatest_reached : Reached keep
    greatest_reached = subst Reached last_is end.reached
