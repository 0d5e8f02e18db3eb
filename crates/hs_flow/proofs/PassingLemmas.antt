-- What is passed on is demanded, what is demanded is passed on, and nothing is passed on twice.
use Rattle.std.proofs.Common.{◌≡◌, refl, sym, ◌∙◌, ap, subst, ℕ, ◌<◌, ◌⊎◌, List, length, slice_get, Some, arith, inl, inr, Contains, ◌↔◌, AllPairs, ◌≢◌}
use Rattle.std.proofs.lemmas.Option.{slice_get_within, slice_get-get_or, get_or_from_slice_get, same_Some}
use Rattle.hs_scheme.specs.declared.term.Rule.{Rule}
use Rattle.hs_scheme.specs.declared.term.Head.{Head}
use Rattle.hs_scheme.specs.declared.term.Head.TheVariants.{Var, Nt, Tm}
use Rattle.hs_scheme.specs.declared.flow.HeadPair.{HeadPair}
use Rattle.hs_scheme.specs.declared.flow.Pair.{Pair}
use Rattle.hs_scheme.specs.declared.flow.Pair.TheVariants.{OfFlow, OfHead}
use Rattle.hs_scheme.specs.flow.Points.{PointData, PointsData, points_of, point_at, IsArgument}
use Rattle.hs_scheme.specs.flow.Flow.{IsBase, Passes, Demands}
use Rattle.hs_scheme.proofs.PlaceLemmas.{once}
use Rattle.hs_flow.specs.declared.bases.Base.{Base}
use Rattle.hs_flow.specs.Users.{UserMap, users_of, IsUser}
use Rattle.hs_flow.specs.Passing.{PassedBy, PassedAtFirst, PassedFor, MayBecome}
use Rattle.hs_flow.specs.Pairs.{PairsData, IsAddable, ArePairs}

-- a point passes on what its arguments, read from the points, say
module _ (rules : List Rule) (points : PointsData) (are : points ≡ points_of rules) (base given p : ℕ) (args : List ℕ) (lt : p < length points.points) (read : args ≡ (point_at points p).args) where
  here : (d : PointData) × ((slice_get points.points p ≡ Some d) × (d.args ≡ args))
  here = (point_at points p, (slice_get-get_or points.points p _ lt, sym read))

  pub passed_by : (q : Pair) → Passes rules p args base given q → PassedBy rules base given p q
  passed_by q h = record {
    of = here.0;
    at = ap (λ (ps : PointsData). slice_get ps.points p) (sym are) ∙ here.1.0;
    passes = subst (λ (us : List ℕ). Passes rules p us base given q) (sym here.1.1) h;
  }

  pub passes_of : (q : Pair) → PassedBy rules base given p q → Passes rules p args base given q
  passes_of q h =
      let same : h.of ≡ here.0 = same_Some h.of here.0 (sym h.at ∙ (ap (λ (ps : PointsData). slice_get ps.points p) (sym are) ∙ here.1.0)) in
      subst (λ (us : List ℕ). Passes rules p us base given q) (ap (λ (d : PointData). d.args) same ∙ here.1.1) h.passes

module _ (rules : List Rule) where
  its_place : (p i a : ℕ) (d : PointData) → slice_get (points_of rules).points p ≡ Some d → slice_get d.args i ≡ Some a → IsArgument (points_of rules) p i a
  its_place p i a d at arg = ap (λ (x : PointData). slice_get x.args i) (get_or_from_slice_get (points_of rules).points p d _ at) ∙ arg

  -- only one point passes a pair on, and where its head is one base only
  pub passed_once : (base given p other more r : ℕ) (q : Pair) → PassedBy rules base given p q → PassedBy rules other more r q → (p ≡ r) × ((base ≡ other) × (given ≡ more))
  passed_once base given p other more r (OfFlow f) a b =
      let s = once rules f.point p a.passes.0 r b.passes.0 (its_place p a.passes.0 f.point a.of a.at a.passes.1.0) (its_place r b.passes.0 f.point b.of b.at b.passes.1.0) in
      (s.0, (sym a.passes.1.1 ∙ b.passes.1.1, omega (arith, s.1, a.passes.1.2, b.passes.1.2)))
  passed_once base given p other more r (OfHead h) a b =
      let s = same_head _ _ (sym a.passes.0 ∙ b.passes.0) in
      let of : a.of ≡ b.of = same_Some a.of b.of (sym a.at ∙ (ap (λ k. slice_get (points_of rules).points k) s.0 ∙ b.at)) in
      (s.0, (s.1.0, omega (arith, s.1.1, ap (λ (d : PointData). length d.args) of)))
    where
      same_head : (h k : HeadPair) → h ≡ k → (h.point ≡ k.point) × ((h.rule ≡ k.rule) × (h.given ≡ k.given))
      same_head h k e = (ap (λ (x : HeadPair). x.point) e, (ap (λ (x : HeadPair). x.rule) e, ap (λ (x : HeadPair). x.given) e))

  same_of : (p r : ℕ) (d e : PointData) → slice_get (points_of rules).points p ≡ Some d → slice_get (points_of rules).points r ≡ Some e → p ≡ r → d ≡ e
  same_of p r d e at at_r same = same_Some d e (sym at ∙ (ap (λ k. slice_get (points_of rules).points k) same ∙ at_r))

  -- what is passed on is demanded
  pub demand_first : (found : List Pair) (q : Pair) → PassedAtFirst rules q → Demands rules found q
  demand_first found q f =
      let head : f.passed.of.head ≡ Nt f.base = ap (λ (d : PointData). d.head) (same_Some f.passed.of f.of (sym f.passed.at ∙ f.at)) ∙ f.head in
      record {
        point = f.point;
        of = f.passed.of;
        base = f.base;
        given = 0;
        at = f.passed.at;
        is_base = subst (λ (k : Head). IsBase found f.passed.of.rule k f.base 0) (sym head) (refl, refl);
        passes = f.passed.passes;
      }

  pub demand_for : (found : List Pair) (b : Base) (q : Pair) → MayBecome found b → PassedFor rules b q → Demands rules found q
  demand_for found b q may f =
      let of : f.is_user.of ≡ f.passed.of = same_Some f.is_user.of f.passed.of (sym f.is_user.at ∙ f.passed.at) in
      let rule_is : f.passed.of.rule ≡ b.rule = ap (λ (d : PointData). d.rule) (sym of) ∙ f.is_user.rule_is in
      let head_is : f.passed.of.head ≡ Var b.param = ap (λ (d : PointData). d.head) (sym of) ∙ f.is_user.head_is in
      record {
        point = f.user;
        of = f.passed.of;
        base = b.base;
        given = b.given;
        at = f.passed.at;
        is_base = subst (λ (k : Head). IsBase found f.passed.of.rule k b.base b.given) (sym head_is)
            (subst (λ r. IsBase found r (Var b.param) b.base b.given) (sym rule_is) (may.point, (may.flow, may.head)));
        passes = f.passed.passes;
      }

  -- and the other way round
  pub demand_cases : (found : List Pair) (q : Pair) → Demands rules found q → PassedAtFirst rules q ⊎ ((b : Base) × (MayBecome found b × PassedFor rules b q))
  demand_cases found q d = by d.of.head refl d.is_base
    where
      by : (k : Head) → d.of.head ≡ k → IsBase found d.of.rule k d.base d.given → PassedAtFirst rules q ⊎ ((b : Base) × (MayBecome found b × PassedFor rules b q))
      by (Nt f) e b = inl (record {
        point = d.point;
        of = d.of;
        base = d.base;
        at = d.at;
        head = e ∙ ap (λ g. Nt g) (sym b.0);
        passed = record { of = d.of; at = d.at; passes = subst (λ g. Passes rules d.point d.of.args d.base g q) b.1 d.passes };
      })
      by (Var x) e (u, (flows, heads)) = inr (
        record { rule = d.of.rule; param = x; base = d.base; given = d.given },
        (
          record { point = u; flow = flows; head = heads },
          record { user = d.point; is_user = record { of = d.of; at = d.at; rule_is = refl; head_is = e }; passed = record { of = d.of; at = d.at; passes = d.passes } },
        ),
      )
      by (Tm a) e b = absurd b

-- what can be added is demanded
pub addable_demanded : (a : PairsData) (q : Pair) → IsAddable a q → Demands a.rules a.found q
addable_demanded a q can = elim can.passed [ inl first ↦ demand_first a.rules a.found q first | inr (b, (had, (may, for))) ↦ demand_for a.rules a.found b q may for ]

no_parameter : (f x : ℕ) → Nt f ≡ Var x → ⊥
no_parameter f x e = (cc)

same_parameter : (x y : ℕ) → Var x ≡ Var y → x ≡ y
same_parameter x y e = (cc)

-- what a parameter's users pass on for a base that is new isn't found yet
module _ (rules : List Rule) (found : List Pair) (Known : Base → Type 0) (b : Base) (passed : (q : Pair) → Contains found q → PassedAtFirst rules q ⊎ ((c : Base) × (Known c × PassedFor rules c q))) (absent : Known b → ⊥) where
  not_first : (q : Pair) → PassedFor rules b q → PassedAtFirst rules q → ⊥
  not_first q h f =
      let once = passed_once rules f.base 0 f.point b.base b.given h.user q f.passed h.passed in
      let same = same_of rules f.point h.user f.of h.is_user.of f.at h.is_user.at once.0 in
      no_parameter f.base b.param (sym f.head ∙ (ap (λ (d : PointData). d.head) same ∙ h.is_user.head_is))

  not_other : (q : Pair) → PassedFor rules b q → (c : Base) → Known c → PassedFor rules c q → ⊥
  not_other q h c had f =
      let once = passed_once rules c.base c.given f.user b.base b.given h.user q f.passed h.passed in
      let same = same_of rules f.user h.user f.is_user.of h.is_user.of f.is_user.at h.is_user.at once.0 in
      let rule : c.rule ≡ b.rule = sym f.is_user.rule_is ∙ (ap (λ (d : PointData). d.rule) same ∙ h.is_user.rule_is) in
      let param : c.param ≡ b.param = same_parameter c.param b.param (sym f.is_user.head_is ∙ (ap (λ (d : PointData). d.head) same ∙ h.is_user.head_is)) in
      let is : c ≡ b = λ i. record { rule = rule i; param = param i; base = once.1.0 i; given = once.1.1 i } in
      absent (subst Known is had)

  pub base_fresh : (q : Pair) → PassedFor rules b q → Contains found q → ⊥
  base_fresh q h there = elim (passed q there) [ inl first ↦ not_first q h first | inr (c, (had, f)) ↦ not_other q h c had f ]

-- a point whose head was read
module _ {points : PointsData} {users : UserMap} {a old : PairsData} (view : a ≡ old) (are : ArePairs points users a) (p : ℕ) (head : Head) (lt : p < length points.points) (is_head : head ≡ (point_at points p).head) where
  here_at : (d : PointData) × ((slice_get (points_of old.rules).points p ≡ Some d) × (d.head ≡ head))
  here_at = (point_at points p, (ap (λ (ps : PointsData). slice_get ps.points p) (sym (are.points_are ∙ ap (λ (x : PairsData). points_of x.rules) view)) ∙ slice_get-get_or points.points p _ lt, sym is_head))

  pub first_at : (base : ℕ) → head ≡ Nt base → (q : Pair) → PassedBy old.rules base 0 p q → (f : PassedAtFirst old.rules q) × (f.point ≡ p)
  first_at base nt q h = (record { point = p; of = here_at.0; base = base; at = here_at.1.0; head = here_at.1.1 ∙ nt; passed = h }, refl)

  its_head : (q : Pair) (f : PassedAtFirst old.rules q) → f.point ≡ p → head ≡ Nt f.base
  its_head q f same = sym here_at.1.1 ∙ (ap (λ (d : PointData). d.head) (same_of old.rules p f.point here_at.0 f.of here_at.1.0 f.at (sym same)) ∙ f.head)

  pub first_of : (base : ℕ) → head ≡ Nt base → (q : Pair) (f : PassedAtFirst old.rules q) → f.point ≡ p → PassedBy old.rules base 0 p q
  first_of base nt q f same =
      let b : f.base ≡ base = same_rule f.base base (sym (its_head q f same) ∙ nt) in
      subst (λ k. PassedBy old.rules k 0 p q) b (subst (λ k. PassedBy old.rules f.base 0 k q) same f.passed)
    where
      same_rule : (f g : ℕ) → Nt f ≡ Nt g → f ≡ g
      same_rule f g e = (cc)

  pub not_at_first : ((base : ℕ) → head ≡ Nt base → ⊥) → (q : Pair) (f : PassedAtFirst old.rules q) → f.point ≡ p → ⊥
  not_at_first never q f same = never f.base (its_head q f same)

pub first_within : {points : PointsData} {users : UserMap} {a old : PairsData} → a ≡ old → ArePairs points users a → (q : Pair) (f : PassedAtFirst old.rules q) → f.point < length points.points
first_within {points} {users} {a} {old} view are q f =
    slice_get_within points.points f.point f.of (ap (λ (ps : PointsData). slice_get ps.points f.point) (are.points_are ∙ ap (λ (x : PairsData). points_of x.rules) view) ∙ f.at)

-- the users of a parameter that were read
module _ {points : PointsData} {users : UserMap} {a old : PairsData} (view : a ≡ old) (are : ArePairs points users a) (rule param : ℕ) (list : List ℕ) (is : list ≡ users_of users rule param) where
  pub its_users : (p : ℕ) → Contains list p ↔ IsUser (points_of old.rules).points rule param p
  its_users p = subst (λ (x : PairsData). Contains list p ↔ IsUser (points_of x.rules).points rule param p) view
      (subst (λ (ps : List ℕ). Contains ps p ↔ IsUser (points_of a.rules).points rule param p) (sym is) (are.users_are.exact rule param p))

  pub users_once : AllPairs (λ x y. x ≢ y) list
  users_once = subst (λ (ps : List ℕ). AllPairs (λ x y. x ≢ y) ps) (sym is) (are.users_are.once rule param)

  pub its_user_for : (base : Base) → base.rule ≡ rule → base.param ≡ param → (p : ℕ) (q : Pair) → Contains list p → PassedBy old.rules base.base base.given p q → PassedFor old.rules base q
  its_user_for base same_rule same_param p q there h = record {
    user = p;
    is_user = subst (λ r. IsUser (points_of old.rules).points r base.param p) (sym same_rule) (subst (λ x. IsUser (points_of old.rules).points rule x p) (sym same_param) ((its_users p).0 there));
    passed = h;
  }
