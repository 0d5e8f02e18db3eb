-- Lists of points that grow by one point at a time.
use Rattle.std.proofs.Common.{◌≡◌, ◌≢◌, refl, sym, ◌∙◌, ap, subst, ℕ, zero, suc, ◌+◌, ◌-◌, ◌<◌, ◌≤◌, Bool, true, false, nat_eq, ◌&&◌, List, [], ◌∷◌, ◌++◌, length, get_or, take, slice_get, Some, length-append, arith, ◌⊎◌, inl, inr, Contains, ◌↔◌, cond, filter}
use Rattle.std.specs.List.Sorted.{IsStrictlyIncreasing}
use Rattle.std.proofs.lemmas.Bool.{eqb-true, eq-eqb, cases_lt, and_parts}
use Rattle.std.proofs.lemmas.Option.{slice_get_within, same_Some}
use Rattle.std.proofs.lemmas.List.{take_more, get_or_append_left, get_or_push, get_or_default}
use Rattle.std.proofs.lemmas.List.Elements.{All-append, All-cons, Contains-append_left, Contains-append_right, Contains-append_cases}
use Rattle.hs_scheme.specs.declared.flow.FlowPair.{FlowPair}
use Rattle.hs_scheme.specs.declared.term.Head.{Head}
use Rattle.hs_scheme.specs.flow.Points.{PointData, PointsData, point_at}
use Rattle.hs_scheme.specs.flow.Dependents.{HeadReads, IsDependent}
use Rattle.hs_scheme.proofs.Lists.{slice_get-read, none_in, only, here as first_in, later}
use Rattle.hs_flow.specs.Dependents.{RisesToPoint, AddsPoint, HasPoint, HasDependents, list_of}
use Rattle.std.proofs.lemmas.Option.{slice_get-get_or}

-- the point at the end of an ascending list, of which it isn't the last yet
rises_push : (point : ℕ) (xs : List ℕ) → ((x : ℕ) → slice_get xs (length xs - 1) ≡ Some x → x ≡ point → ⊥) → RisesToPoint point xs → RisesToPoint point (xs ++ point ∷ [])
rises_push point xs apart r = record {
  ascending = λ k lt. elim (cases_lt (k + 1) (length xs)) [
    | inl less ↦
        let a : get_or (xs ++ point ∷ []) k 0 ≡ get_or xs k 0 = get_or_append_left xs (point ∷ []) 0 k (omega arith) in
        let b : get_or (xs ++ point ∷ []) (k + 1) 0 ≡ get_or xs (k + 1) 0 = get_or_append_left xs (point ∷ []) 0 (k + 1) less in
        omega (arith, a, b, r.ascending k less)
    | inr more ↦
        let long : length xs ≡ k + 1 = omega (arith, length-append xs (point ∷ [])) in
        let a : get_or (xs ++ point ∷ []) k 0 ≡ get_or xs k 0 = get_or_append_left xs (point ∷ []) 0 k (omega arith) in
        let b : get_or (xs ++ point ∷ []) (k + 1) 0 ≡ point = get_or_push xs point 0 (k + 1) long in
        let last : length xs - 1 ≡ k = omega arith in
        let at : slice_get xs (length xs - 1) ≡ Some (get_or xs k 0) = ap (slice_get xs) last ∙ slice_get-read xs k (get_or xs k 0) (omega arith) (get_or_default xs k (get_or xs k 0) 0 (omega arith)) in
        let other : get_or xs k 0 ≢ point = apart (get_or xs k 0) at in
        omega (arith, a, b, r.below k 0 (omega arith), other)
  ];
  below = All-append (λ x. x ≤ point) xs (point ∷ []) r.below (All-cons (λ x. x ≤ point) point [] (omega arith) (λ k d lt. absurd (omega arith)));
}

-- the point goes into the list of one number
module _ (old new : List (List ℕ)) (number point : ℕ) (long : length new ≡ length old) (is : (k : ℕ) → list_of new k ≡ cond (nat_eq k number) (list_of old k ++ point ∷ []) (list_of old k)) where
  abbrev grown : Bool → ℕ → List ℕ
  grown b p = cond b (list_of old p ++ point ∷ []) (list_of old p)

  pushed_only : (p d : ℕ) (b : Bool) → nat_eq p number ≡ b → Contains (grown b p) d → Contains (list_of old p) d ⊎ ((d ≡ point) × (p ≡ number))
  pushed_only p d true here h = elim (Contains-append_cases (list_of old p) (point ∷ []) d h) [ inl was ↦ inl was | inr last ↦ inr (only point d last, eqb-true p number here) ]
  pushed_only p d false elsewhere h = inl h

  pushed_all : (p d : ℕ) (b : Bool) → nat_eq p number ≡ b → Contains (list_of old p) d ⊎ ((d ≡ point) × (p ≡ number)) → Contains (grown b p) d
  pushed_all p d true here (inl was) = Contains-append_left (list_of old p) (point ∷ []) d was
  pushed_all p d true here (inr (same, at)) = subst (λ e. Contains (list_of old p ++ point ∷ []) e) (sym same) (Contains-append_right (list_of old p) (point ∷ []) point (first_in point []))
  pushed_all p d false elsewhere (inl was) = was
  pushed_all p d false elsewhere (inr (same, at)) = let yes = eq-eqb p number at in absurd (cc)

  pub pushed_adds : ((x : ℕ) → slice_get (list_of old number) (length (list_of old number) - 1) ≡ Some x → x ≡ point → ⊥) → AddsPoint (λ p. p ≡ number) point old new
  pushed_adds apart = record {
    exact = λ p d. (
      λ h. pushed_only p d (nat_eq p number) refl (subst (λ (xs : List ℕ). Contains xs d) (is p) h),
      λ h. subst (λ (xs : List ℕ). Contains xs d) (sym (is p)) (pushed_all p d (nat_eq p number) refl h),
    );
    rises = λ p r. subst (λ (xs : List ℕ). RisesToPoint point xs) (sym (is p)) (by p (nat_eq p number) refl r);
    len = long;
  }
    where
      by : (p : ℕ) (b : Bool) → nat_eq p number ≡ b → RisesToPoint point (list_of old p) → RisesToPoint point (grown b p)
      by p true here r = rises_push point (list_of old p) (subst (λ k. (x : ℕ) → slice_get (list_of old k) (length (list_of old k) - 1) ≡ Some x → x ≡ point → ⊥) (sym (eqb-true p number here)) apart) r
      by p false elsewhere r = r

-- the point is there already
pub adds_nothing : (lists : List (List ℕ)) (number point : ℕ) → Contains (list_of lists number) point → AddsPoint (λ p. p ≡ number) point lists lists
adds_nothing lists number point there = record {
  exact = λ p d. (
    λ h. inl h,
    λ h. elim h [ inl was ↦ was | inr (same, at) ↦ subst (λ e. Contains (list_of lists p) e) (sym same) (subst (λ k. Contains (list_of lists k) point) (sym at) there) ],
  );
  rises = λ p r. r;
  len = refl;
}

pub adds_then : (point : ℕ) (S T U : ℕ → Type 0) (a b c : List (List ℕ)) → ((p : ℕ) → (S p ⊎ T p) ↔ U p) → AddsPoint S point a b → AddsPoint T point b c → AddsPoint U point a c
adds_then point S T U a b c and_parts f g = record {
  exact = λ p d. (
    λ h. elim ((g.exact p d).0 h) [
      | inr late ↦ inr (late.0, (and_parts p).0 (inr late.1))
      | inl mid ↦ elim ((f.exact p d).0 mid) [ inl was ↦ inl was | inr early ↦ inr (early.0, (and_parts p).0 (inl early.1)) ]
    ],
    λ h. elim h [
      | inl was ↦ (g.exact p d).1 (inl ((f.exact p d).1 (inl was)))
      | inr new ↦ elim ((and_parts p).1 new.1) [ inl early ↦ (g.exact p d).1 (inl ((f.exact p d).1 (inr (new.0, early)))) | inr late ↦ (g.exact p d).1 (inr (new.0, late)) ]
    ],
  );
  rises = λ p r. g.rises p (f.rises p r);
  len = g.len ∙ f.len;
}

pub adds_same : (point : ℕ) (S T : ℕ → Type 0) (a b : List (List ℕ)) → ((p : ℕ) → S p ↔ T p) → AddsPoint S point a b → AddsPoint T point a b
adds_same point S T a b same f = record {
  exact = λ p d. (
    λ h. elim ((f.exact p d).0 h) [ inl was ↦ inl was | inr new ↦ inr (new.0, (same p).0 new.1) ],
    λ h. elim h [ inl was ↦ (f.exact p d).1 (inl was) | inr new ↦ (f.exact p d).1 (inr (new.0, (same p).1 new.1)) ],
  );
  rises = f.rises;
  len = f.len;
}

-- one more argument
pub argument_more : (args : List ℕ) (i : ℕ) → i < length args → (p : ℕ) → (Contains (take i args) p ⊎ (p ≡ get_or args i 0)) ↔ Contains (take (i + 1) args) p
argument_more args i lt p =
    let e : take (i + 1) args ≡ take i args ++ get_or args i 0 ∷ [] = take_more args i 0 lt in (
      λ h. subst (λ (xs : List ℕ). Contains xs p) (sym e) (elim h [
        | inl was ↦ Contains-append_left (take i args) (get_or args i 0 ∷ []) p was
        | inr new ↦ Contains-append_right (take i args) (get_or args i 0 ∷ []) p (subst (λ q. Contains (get_or args i 0 ∷ []) q) (sym new) (first_in (get_or args i 0) []))
      ]),
      λ h. elim (Contains-append_cases (take i args) (get_or args i 0 ∷ []) p (subst (λ (xs : List ℕ). Contains xs p) e h)) [ inl was ↦ inl was | inr last ↦ inr (only (get_or args i 0) p last) ],
    )

-- one more flow pair
pub flow_more : (flows : List FlowPair) (i : ℕ) (f : FlowPair) → i < length flows → f ≡ get_or flows i f → (p : ℕ) → (HasPoint (take i flows) p ⊎ (p ≡ f.point)) ↔ HasPoint (take (i + 1) flows) p
flow_more flows i f lt is p =
    let e : take (i + 1) flows ≡ take i flows ++ f ∷ [] = take_more flows i f lt ∙ ap (λ g. take i flows ++ g ∷ []) (sym is) in (
      λ h. subst (λ (xs : List FlowPair). HasPoint xs p) (sym e) (elim h [
        | inl was ↦ (was.0, (Contains-append_left (take i flows) (f ∷ []) was.0 was.1.0, was.1.1))
        | inr new ↦ (f, (Contains-append_right (take i flows) (f ∷ []) f (first_in f []), sym new))
      ]),
      λ h. let g = subst (λ (xs : List FlowPair). HasPoint xs p) e h in elim (Contains-append_cases (take i flows) (f ∷ []) g.0 g.1.0) [
        | inl was ↦ inl (g.0, (was, g.1.1))
        | inr last ↦ inr (sym g.1.1 ∙ ap (λ (k : FlowPair). k.point) (only f g.0 last))
      ],
    )

module _ {X : Type 0} (m : X → Bool) where
  from_step : (y : X) (ys : List X) (x : X) → (Contains (filter m ys) x → Contains ys x × (m x ≡ true)) → (t : Bool) → m y ≡ t → Contains (cond t (y ∷ filter m ys) (filter m ys)) x → Contains (y ∷ ys) x × (m x ≡ true)
  from_step y ys x rest true e (zero, within, is) = ((0, omega arith, is), ap m (sym is) ∙ e)
  from_step y ys x rest true e (suc k, within, is) = let r = rest (k, omega arith, is) in (later y x ys r.0, r.1)
  from_step y ys x rest false e there = let r = rest there in (later y x ys r.0, r.1)

  pub filter_from : (xs : List X) (x : X) → Contains (filter m xs) x → Contains xs x × (m x ≡ true)
  filter_from [] x h = absurd (none_in x h)
  filter_from (y ∷ ys) x h = from_step y ys x (filter_from ys x) (m y) refl h

  to_step : (y : X) (ys : List X) (x : X) → (Contains ys x → Contains (filter m ys) x) → m x ≡ true → Contains (y ∷ ys) x → (t : Bool) → m y ≡ t → Contains (cond t (y ∷ filter m ys) (filter m ys)) x
  to_step y ys x rest e (zero, within, is) true f = (0, omega arith, is)
  to_step y ys x rest e (zero, within, is) false f = let g : m y ≡ true = ap m is ∙ e in absurd (cc)
  to_step y ys x rest e (suc k, within, is) true f = later y x (filter m ys) (rest (k, omega arith, is))
  to_step y ys x rest e (suc k, within, is) false f = rest (k, omega arith, is)

  filter_to : (xs : List X) (x : X) → Contains xs x → m x ≡ true → Contains (filter m xs) x
  filter_to [] x h e = absurd (none_in x h)
  filter_to (y ∷ ys) x h e = to_step y ys x (λ k. filter_to ys x k e) e h (m y) refl

-- the points of the pairs of a parameter
pub flow_reads : (flows : List FlowPair) (rule param p : ℕ) → HasPoint (filter (λ f. nat_eq f.rule rule && nat_eq f.param param) flows) p ↔ Contains flows (record { rule = rule; param = param; point = p })
flow_reads flows rule param p = (
  λ h.
      let r = filter_from (λ (f : FlowPair). nat_eq f.rule rule && nat_eq f.param param) flows h.0 h.1.0 in
      let t = and_parts (nat_eq h.0.rule rule) (nat_eq h.0.param param) r.1 in
      subst (λ (f : FlowPair). Contains flows f) (λ i. record { rule = eqb-true h.0.rule rule t.0 i; param = eqb-true h.0.param param t.1 i; point = h.1.1 i }) r.0,
  λ h. (
    record { rule = rule; param = param; point = p },
    (filter_to (λ (f : FlowPair). nat_eq f.rule rule && nat_eq f.param param) flows (record { rule = rule; param = param; point = p }) h (rw (eq-eqb rule rule refl, eq-eqb param param refl)), refl),
  ),
)

pub body_reads : (bodies : List ℕ) (base body p : ℕ) → slice_get bodies base ≡ Some body → (p ≡ body) ↔ (slice_get bodies base ≡ Some p)
body_reads bodies base body p at = (λ h. at ∙ ap (λ q. Some q) (sym h), λ h. same_Some p body (sym h ∙ at))

-- what a point reads, as its parts say
pub point_reads : (points : PointsData) (flows : List FlowPair) (d rule : ℕ) (head : Head) (args : List ℕ)
    → d < length points.points → args ≡ (point_at points d).args → rule ≡ (point_at points d).rule → head ≡ (point_at points d).head
    → (p : ℕ) → (Contains args p ⊎ HeadReads points.bodies flows rule head p) ↔ IsDependent points flows p d
point_reads points flows d rule head args lt their_args their_rule their_head p =
    let of = point_at points d in
    let at : slice_get points.points d ≡ Some of = slice_get-get_or points.points d _ lt in
    let same_rule : of.rule ≡ rule = sym their_rule in
    let same_head : of.head ≡ head = sym their_head in (
      λ e. record {
        of = of;
        at = at;
        reads = elim e [
          | inl arg ↦ inl (subst (λ (xs : List ℕ). Contains xs p) their_args arg)
          | inr by_head ↦ inr (subst (λ q. HeadReads points.bodies flows q of.head p) (sym same_rule) (subst (λ (k : Head). HeadReads points.bodies flows rule k p) (sym same_head) by_head))
        ];
      },
      λ e. let of_same : e.of ≡ of = same_Some e.of of (sym e.at ∙ at) in elim e.reads [
        | inl arg ↦ inl (subst (λ (xs : List ℕ). Contains xs p) (ap (λ (o : PointData). o.args) of_same ∙ sym their_args) arg)
        | inr by_head ↦ inr (subst (λ q. HeadReads points.bodies flows q head p) (ap (λ (o : PointData). o.rule) of_same ∙ same_rule)
            (subst (λ (k : Head). HeadReads points.bodies flows e.of.rule k p) (ap (λ (o : PointData). o.head) of_same ∙ same_head) by_head))
      ],
    )

-- the lists, with the points so far and then all of them
pub dependents_more : (points : PointsData) (flows : List FlowPair) (n : ℕ) (old new : List (List ℕ)) → AddsPoint (λ p. IsDependent points flows p n) n old new
    → ((p d : ℕ) → Contains (list_of old p) d ↔ ((d < n) × IsDependent points flows p d)) → (p d : ℕ) → Contains (list_of new p) d ↔ ((d < n + 1) × IsDependent points flows p d)
dependents_more points flows n old new adds so_far p d = (
  λ h. elim ((adds.exact p d).0 h) [
    | inl was ↦ let w = (so_far p d).0 was in (omega (arith, w.0), w.1)
    | inr now ↦ (omega (arith, now.0), subst (λ e. IsDependent points flows p e) (sym now.0) now.1)
  ],
  λ h. (adds.exact p d).1 (elim (cases_lt d n) [
    | inl less ↦ inl ((so_far p d).1 (less, h.1))
    | inr more ↦ let same : d ≡ n = omega (arith, h.0) in inr (same, subst (λ e. IsDependent points flows p e) same h.1)
  ]),
)

pub rises_more : (points : PointsData) (flows : List FlowPair) (n : ℕ) (old new : List (List ℕ)) → AddsPoint (λ p. IsDependent points flows p n) n old new
    → ((p d : ℕ) → Contains (list_of old p) d ↔ ((d < n) × IsDependent points flows p d)) → ((p : ℕ) → IsStrictlyIncreasing (list_of old p)) → (p : ℕ) → IsStrictlyIncreasing (list_of new p)
rises_more points flows n old new adds so_far up p = (adds.rises p (record {
  ascending = up p;
  below = λ k d lt.
      let r = (so_far p (get_or (list_of old p) k d)).0 (k, lt, get_or_default (list_of old p) k (get_or (list_of old p) k d) d lt) in
      omega (arith, r.0);
})).ascending

pub has_dependents : (points : PointsData) (flows : List FlowPair) (n : ℕ) (lists : List (List ℕ)) → length lists ≡ length points.points → length points.points ≤ n
    → ((p d : ℕ) → Contains (list_of lists p) d ↔ ((d < n) × IsDependent points flows p d)) → ((p : ℕ) → IsStrictlyIncreasing (list_of lists p)) → HasDependents points flows lists
has_dependents points flows n lists long all exact up = record {
  each = long;
  ascending = up;
  exact = λ p d. (λ h. ((exact p d).0 h).1, λ h. (exact p d).1 (omega (arith, slice_get_within points.points d h.of h.at), h));
}
