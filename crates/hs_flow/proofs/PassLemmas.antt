-- What a point passes on, argument by argument.
use Rattle.std.proofs.Common.{◌≡◌, refl, sym, ◌∙◌, ap, subst, ℕ, ◌+◌, ◌<◌, ◌≤◌, ◌⊎◌, List, length, get_or, slice_get, Some, arith, inl, inr, Contains}
use Rattle.std.proofs.lemmas.List.{get_or_default}
use Rattle.std.proofs.lemmas.Option.{slice_get_within, same_Some}
use Rattle.std.proofs.lemmas.Bool.{cases_lt}
use Rattle.hs_scheme.specs.declared.term.Rule.{Rule}
use Rattle.hs_scheme.specs.declared.flow.FlowPair.{FlowPair}
use Rattle.hs_scheme.specs.declared.flow.Pair.{Pair}
use Rattle.hs_scheme.specs.declared.flow.Pair.TheVariants.{OfFlow, OfHead}
use Rattle.hs_scheme.specs.flow.Flow.{Passes}
use Rattle.hs_scheme.specs.flow.Points.{PointsData, points_of, point_at}
use Rattle.hs_scheme.proofs.Lists.{slice_get-read}
use Rattle.hs_flow.specs.Users.{UserMap}
use Rattle.hs_flow.specs.Passing.{PassedBy}
use Rattle.hs_flow.specs.Pairs.{PairsData, IsAddable, ArePairs, FindsOnly}
use Rattle.hs_flow.proofs.PairLemmas.{finds_keep, finds_cases, addable_more}
use Rattle.hs_flow.proofs.PassingLemmas.{passed_by, passes_of}

-- the pair is of a parameter before this one
abbrev pub IsEarlier : ℕ → Pair → Type 0
IsEarlier param (OfFlow f) = f.param < param
IsEarlier param (OfHead h) = ⊥

-- a point passes pairs on to a rule that is there
pub rule_within : (rules : List Rule) (base given point : ℕ) (q : Pair) → PassedBy rules base given point q → base < length rules
rule_within rules base given point (OfFlow f) h = slice_get_within rules base h.passes.1.3.0 h.passes.1.3.1.0
rule_within rules base given point (OfHead k) h = slice_get_within rules base h.passes.1.0 h.passes.1.1.0

-- the parameter at which the arguments begin
pub none_given : (given : ℕ) → given ≡ given + 0
none_given given = omega arith

module _ (rules : List Rule) (point : ℕ) (args : List ℕ) (base given : ℕ) (rule : Rule) (at : slice_get rules base ≡ Some rule) where
  pub pass_flow : (i a : ℕ) (q : Pair) → slice_get args i ≡ Some a → given + i < rule.params → q ≡ OfFlow (record { rule = base; param = given + i; point = a }) → Passes rules point args base given q
  pass_flow i a q there lt is = subst (Passes rules point args base given) (sym is) (i, (there, refl, refl, (rule, (at, lt))))

  pub pass_head : (g : ℕ) (q : Pair) → g ≡ given + length args → g < rule.params → q ≡ OfHead (record { point = point; rule = base; given = g }) → Passes rules point args base given q
  pass_head g q same lt is =
      let less : given + length args < rule.params = omega arith in
      subst (Passes rules point args base given) (sym (is ∙ ap (λ n. OfHead (record { point = point; rule = base; given = n })) same)) (refl, (rule, (at, less)))

  module _ (keys : List Pair) (n : ℕ) (so_far : (i a : ℕ) → i < n → slice_get args i ≡ Some a → Contains keys (OfFlow (record { rule = base; param = given + i; point = a }))) where
    flow_there : (f : FlowPair) (i : ℕ) → i < n → slice_get args i ≡ Some f.point → f.rule ≡ base → f.param ≡ given + i → Contains keys (OfFlow f)
    flow_there f i lt there same_rule same_param =
        subst (λ (p : Pair). Contains keys p) (λ j. OfFlow (record { rule = sym same_rule j; param = sym same_param j; point = f.point })) (so_far i f.point lt there)

    -- the parameters end with those that were passed to
    pub passed_early : rule.params ≤ given + n → n ≤ length args → (q : Pair) → Passes rules point args base given q → Contains keys q
    passed_early end short (OfFlow f) (i, (there, same_rule, same_param, (other, (found, lt)))) =
        let same = ap (λ (r : Rule). r.params) (same_Some rule other (sym at ∙ found)) in flow_there f i (omega arith) there same_rule same_param
    passed_early end short (OfHead h) (is, (other, (found, lt))) =
        let same = ap (λ (r : Rule). r.params) (same_Some rule other (sym at ∙ found)) in absurd (omega arith)

    -- all arguments are passed on, and further ones are missing
    pub passed_all : (g : ℕ) → length args ≤ n → g ≡ given + length args → Contains keys (OfHead (record { point = point; rule = base; given = g })) → (q : Pair) → Passes rules point args base given q → Contains keys q
    passed_all g long same head (OfFlow f) (i, (there, same_rule, same_param, has)) = flow_there f i (omega (arith, slice_get_within args i f.point there)) there same_rule same_param
    passed_all g long same head (OfHead h) (is, has) =
        subst (λ (p : Pair). Contains keys p) (ap (λ m. OfHead (record { point = point; rule = base; given = m })) same ∙ ap (λ k. OfHead k) (sym is)) head

-- one more argument is passed on
module _ (args : List ℕ) (base given : ℕ) (mid new : PairsData) (n param a : ℕ) (there : slice_get args n ≡ Some a) (is : param ≡ given + n)
    (finds : FindsOnly (λ q. q ≡ OfFlow (record { rule = base; param = param; point = a })) mid new) where
  pub step_so_far : Contains new.found (OfFlow (record { rule = base; param = param; point = a }))
      → ((i b : ℕ) → i < n → slice_get args i ≡ Some b → Contains mid.found (OfFlow (record { rule = base; param = given + i; point = b })))
      → (i b : ℕ) → i < n + 1 → slice_get args i ≡ Some b → Contains new.found (OfFlow (record { rule = base; param = given + i; point = b }))
  step_so_far here so_far i b lt at_i = elim (cases_lt i n) [
    | inl less ↦ finds_keep (λ q. q ≡ OfFlow (record { rule = base; param = param; point = a })) mid new finds (OfFlow (record { rule = base; param = given + i; point = b })) (so_far i b less at_i)
    | inr more ↦
        let last : n ≡ i = omega arith in
        let same : a ≡ b = same_Some a b (sym there ∙ (ap (λ k. slice_get args k) last ∙ at_i)) in
        subst (λ (p : Pair). Contains new.found p) (λ j. OfFlow (record { rule = base; param = (is ∙ ap (λ k. given + k) last) j; point = same j })) here
  ]

later : (n : ℕ) (q : Pair) → IsEarlier n q → IsEarlier (n + 1) q
later n (OfFlow f) h = omega arith
later n (OfHead k) h = h

pub step_behind : (mid new : PairsData) (first : List Pair) (param a base : ℕ) → FindsOnly (λ q. q ≡ OfFlow (record { rule = base; param = param; point = a })) mid new
    → ((q : Pair) → Contains mid.found q → Contains first q ⊎ IsEarlier param q) → (q : Pair) → Contains new.found q → Contains first q ⊎ IsEarlier (param + 1) q
step_behind mid new first param a base finds behind q h = elim (finds_cases (λ p. p ≡ OfFlow (record { rule = base; param = param; point = a })) mid new finds q h) [
  | inl was ↦ elim (behind q was) [ inl before ↦ inl before | inr earlier ↦ inr (later param q earlier) ]
  | inr is ↦ inr (subst (IsEarlier (param + 1)) (sym is) (below param))
]
  where
    below : (n : ℕ) → n < n + 1
    below n = omega arith

-- what is passed on next isn't there: it wasn't at first, and what was passed on since is of earlier parameters
pub not_yet : (param : ℕ) (q : Pair) (first found : List Pair) → (Contains first q → ⊥) → (IsEarlier param q → ⊥) → ((p : Pair) → Contains found p → Contains first p ⊎ IsEarlier param p) → Contains found q → ⊥
not_yet param q first found absent late behind h = elim (behind q h) [ inl was ↦ absent was | inr earlier ↦ late earlier ]

pub not_earlier : (param base a : ℕ) → IsEarlier param (OfFlow (record { rule = base; param = param; point = a })) → ⊥
not_earlier param base a h = omega (arith, h)

pub slice_get-number : (xs : List ℕ) (k : ℕ) → k < length xs → slice_get xs k ≡ Some (get_or xs k 0)
slice_get-number xs k lt = slice_get-read xs k (get_or xs k 0) lt (get_or_default xs k (get_or xs k 0) 0 lt)

-- what a pass of a point stands on: its arguments and the rule were read
pub record Passing (rules : List Rule) (base given point : ℕ) (args : List ℕ) (rule : Rule) : Type 0 where
  pub by : (q : Pair) → Passes rules point args base given q → PassedBy rules base given point q
  pub of : (q : Pair) → PassedBy rules base given point q → Passes rules point args base given q
  pub at : slice_get rules base ≡ Some rule

pub passing : {points : PointsData} {users : UserMap} {a old : PairsData} → a ≡ old → ArePairs points users a → (base given point : ℕ) (args : List ℕ) (rule : Rule)
    → slice_get a.rules base ≡ Some rule → point < length (points_of old.rules).points → args ≡ (point_at points point).args → Passing old.rules base given point args rule
passing {points} {users} {a} {old} view are base given point args rule at lt read =
    let same : points ≡ points_of old.rules = are.points_are ∙ ap (λ (x : PairsData). points_of x.rules) view in
    let here : point < length points.points = subst (λ (ps : PointsData). point < length ps.points) (sym same) lt in
    record {
      by = passed_by old.rules points same base given point args here read;
      of = passes_of old.rules points same base given point args here read;
      at = subst (λ (x : PairsData). slice_get x.rules base ≡ Some rule) view at;
    }

module _ (rules : List Rule) (base given point : ℕ) (args : List ℕ) (rule : Rule) (w : Passing rules base given point args rule) where
  pub flow_by : (i a param : ℕ) → slice_get args i ≡ Some a → param ≡ given + i → param < rule.params → PassedBy rules base given point (OfFlow (record { rule = base; param = param; point = a }))
  flow_by i a param there is less =
      w.by (OfFlow (record { rule = base; param = param; point = a })) (pass_flow rules point args base given rule w.at i a (OfFlow (record { rule = base; param = param; point = a })) there (omega arith)
      (ap (λ m. OfFlow (record { rule = base; param = m; point = a })) is))

  pub head_by : (g : ℕ) → g ≡ given + length args → g < rule.params → PassedBy rules base given point (OfHead (record { point = point; rule = base; given = g }))
  head_by g is less = w.by (OfHead (record { point = point; rule = base; given = g })) (pass_head rules point args base given rule w.at g (OfHead (record { point = point; rule = base; given = g })) is less refl)

  pub early_by : (keys : List Pair) (n : ℕ) → ((i a : ℕ) → i < n → slice_get args i ≡ Some a → Contains keys (OfFlow (record { rule = base; param = given + i; point = a })))
      → rule.params ≤ given + n → n ≤ length args → (q : Pair) → PassedBy rules base given point q → Contains keys q
  early_by keys n so_far end short q h = passed_early rules point args base given rule w.at keys n so_far end short q (w.of q h)

  pub done_by : (keys : List Pair) (n g : ℕ) → ((i a : ℕ) → i < n → slice_get args i ≡ Some a → Contains keys (OfFlow (record { rule = base; param = given + i; point = a })))
      → length args ≤ n → g ≡ given + length args → Contains keys (OfHead (record { point = point; rule = base; given = g })) → (q : Pair) → PassedBy rules base given point q → Contains keys q
  done_by keys n g so_far long same there q h = passed_all rules point args base given rule w.at keys n so_far g long same there q (w.of q h)

-- what is passed on next can be added
module _ (old : PairsData) (base given point : ℕ) (args : List ℕ) (rule : Rule) (w : Passing old.rules base given point args rule) (can : (q : Pair) → PassedBy old.rules base given point q → IsAddable old q)
    (mid : PairsData) (finds : FindsOnly (PassedBy old.rules base given point) old mid) (param : ℕ) (behind : (q : Pair) → Contains mid.found q → Contains old.found q ⊎ IsEarlier param q) where
  pub flow_addable : (i a : ℕ) → slice_get args i ≡ Some a → param ≡ given + i → param < rule.params → IsAddable mid (OfFlow (record { rule = base; param = param; point = a }))
  flow_addable i a there is less =
      let c = can (OfFlow (record { rule = base; param = param; point = a })) (flow_by old.rules base given point args rule w i a param there is less) in
      addable_more (PassedBy old.rules base given point) old mid finds (OfFlow (record { rule = base; param = param; point = a })) c
      (not_yet param (OfFlow (record { rule = base; param = param; point = a })) old.found mid.found c.absent (not_earlier param base a) behind)

  pub head_addable : param ≡ given + length args → param < rule.params → IsAddable mid (OfHead (record { point = point; rule = base; given = param }))
  head_addable is less =
      let c = can (OfHead (record { point = point; rule = base; given = param })) (head_by old.rules base given point args rule w param is less) in
      addable_more (PassedBy old.rules base given point) old mid finds (OfHead (record { point = point; rule = base; given = param })) c
      (not_yet param (OfHead (record { point = point; rule = base; given = param })) old.found mid.found c.absent (λ e. e) behind)
