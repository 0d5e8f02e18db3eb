-- What pairs of a point and a state demand.
use Rattle.std.proofs.Common.{◌≡◌, sym, ap, subst, ℕ, zero, suc, ◌+◌, ◌<◌, List, [], ◌∷◌, length, length-append, slice_get, Some, All, Contains, inl, inr, arith}
use Rattle.std.proofs.lemmas.Bool.{cases_lt}
use Rattle.std.proofs.lemmas.Option.{same_Some}
use Rattle.std.proofs.lemmas.List.Elements.{All-contains, Contains-append_cases, Contains-append_left, Contains-append_right}
use Rattle.hs_scheme.specs.declared.term.Head.TheVariants.{Var, Nt, Tm}
use Rattle.hs_scheme.specs.declared.term.Rule.{Rule}
use Rattle.hs_scheme.specs.declared.flow.FlowPair.{FlowPair}
use Rattle.hs_scheme.specs.flow.Points.{PointData, PointsData, size, term_points, rules_points, bodies}
use Rattle.hs_scheme.specs.acceptance.Automaton.{next}
use Rattle.hs_scheme.specs.Problem.{ProblemData, FlowWithin}
use Rattle.hs_scheme.proofs.Lists.{none_in, here, later, uncons, only, Contains-at}
use Rattle.hs_scheme.proofs.PointLemmas.{length-term_points, at_least_one, args_within}
use Rattle.hs_table_laws.proofs.Shapes.{next_within}
use Rattle.hs_verdict.specs.Premises.{IsSortedProblem}
use Rattle.hs_weak.specs.Reads.{PointIs, FlowsTo, Becomes, reads_start, reads_body, reads_child, reads_flow, reads_later_child, IsClosedReads}
use Rattle.hs_reads.specs.Pairs.{HasStart, Demands, states_at, all_pairs}

-- what one pair demands, by the head of its point
module _ (p : ProblemData) (w q : ℕ) (pairs : List (ℕ × ℕ)) (start : HasStart p pairs)
    (body : (rule f b : ℕ) (args : List ℕ) → PointIs p w rule (Nt f) args → slice_get p.points.bodies f ≡ Some b → Contains pairs (b, q))
    (child : (rule a i u r : ℕ) (args qs : List ℕ) → PointIs p w rule (Tm a) args → next p.sorted.automaton.transitions q a ≡ Some qs → slice_get args i ≡ Some u → slice_get qs i ≡ Some r → Contains pairs (u, r))
    (flow : (rule x v : ℕ) (args : List ℕ) → PointIs p w rule (Var x) args → FlowsTo p rule x v → Contains pairs (v, q))
    (behind : (rule x v a g j u r : ℕ) (args qs : List ℕ) → PointIs p w rule (Var x) args → FlowsTo p rule x v → Becomes p v a g → next p.sorted.automaton.transitions q a ≡ Some qs
    → slice_get args j ≡ Some u → slice_get qs (g + j) ≡ Some r → Contains pairs (u, r)) where
  pub demands_by : Demands p (w, q) pairs
  demands_by point s (reads_start e) = start point e
  demands_by point s (reads_body {point = v} {rule = rule} {f = f} {q = t} {args = args} m at e) =
      let same = only (w, q) (v, t) m in
      let w_is : v ≡ w = ap (λ (k : ℕ × ℕ). k.0) same in
      let q_is : q ≡ t = sym (ap (λ (k : ℕ × ℕ). k.1) same) in
      subst (λ z. Contains pairs (point, z)) q_is (body rule f point args (subst (λ z. PointIs p z rule (Nt f) args) w_is at) e)
  demands_by point s (reads_child {point = v} {rule = rule} {a = a} {q = t} {args = args} {qs = qs} i m at moves at_u at_r) =
      let same = only (w, q) (v, t) m in
      let w_is : v ≡ w = ap (λ (k : ℕ × ℕ). k.0) same in
      let q_is : t ≡ q = ap (λ (k : ℕ × ℕ). k.1) same in
      child rule a i point s args qs (subst (λ z. PointIs p z rule (Tm a) args) w_is at) (subst (λ z. next p.sorted.automaton.transitions z a ≡ Some qs) q_is moves) at_u at_r
  demands_by point s (reads_flow {point = v} {rule = rule} {x = x} {q = t} {args = args} m at flows) =
      let same = only (w, q) (v, t) m in
      let w_is : v ≡ w = ap (λ (k : ℕ × ℕ). k.0) same in
      let q_is : q ≡ t = sym (ap (λ (k : ℕ × ℕ). k.1) same) in
      subst (λ z. Contains pairs (point, z)) q_is (flow rule x point args (subst (λ z. PointIs p z rule (Var x) args) w_is at) flows)
  demands_by point s (reads_later_child {point = v} {rule = rule} {x = x} {v = to} {a = a} {g = g} {q = t} {args = args} {qs = qs} j m at flows becomes moves at_u at_r) =
      let same = only (w, q) (v, t) m in
      let w_is : v ≡ w = ap (λ (k : ℕ × ℕ). k.0) same in
      let q_is : t ≡ q = ap (λ (k : ℕ × ℕ). k.1) same in
      behind rule x to a g j point s args qs (subst (λ z. PointIs p z rule (Var x) args) w_is at) flows becomes (subst (λ z. next p.sorted.automaton.transitions z a ≡ Some qs) q_is moves) at_u at_r

-- pairs that have what each of them demands are closed
pub closed_by : (p : ProblemData) (R : List (ℕ × ℕ)) → HasStart p R → ((w q : ℕ) → Contains R (w, q) → Demands p (w, q) R) → IsClosedReads p R
closed_by p R start each point s (reads_start e) = start point e
closed_by p R start each point s (reads_body {point = w} {q = q} m at e) = each w q m point s (reads_body (here (w, q) []) at e)
closed_by p R start each point s (reads_child {point = w} {q = q} i m at moves at_u at_r) = each w q m point s (reads_child i (here (w, q) []) at moves at_u at_r)
closed_by p R start each point s (reads_flow {point = w} {q = q} m at flows) = each w q m point s (reads_flow (here (w, q) []) at flows)
closed_by p R start each point s (reads_later_child {point = w} {q = q} j m at flows becomes moves at_u at_r) = each w q m point s (reads_later_child j (here (w, q) []) at flows becomes moves at_u at_r)

-- ---- all pairs

in_row : (point n q : ℕ) → q < n → Contains (states_at point n) (point, q)
in_row point zero q lt = absurd (omega (arith, lt))
in_row point (suc n) q lt = elim (cases_lt q n) [
  | inl less ↦ later (point, n) (point, q) (states_at point n) (in_row point n q less)
  | inr last ↦ let e : n ≡ q = omega (arith, lt, last) in subst (λ z. Contains (states_at point (suc n)) (point, z)) e (here (point, n) (states_at point n))
]

row_in : (point n w q : ℕ) → Contains (states_at point n) (w, q) → (w ≡ point) × (q < n)
row_in point zero w q m = absurd (none_in (w, q) m)
row_in point (suc n) w q m = elim (uncons (point, n) (w, q) (states_at point n) m) [
  | inl e ↦ let q_is : q ≡ n = ap (λ (k : ℕ × ℕ). k.1) e in (ap (λ (k : ℕ × ℕ). k.0) e, omega (arith, q_is))
  | inr rest ↦ let r = row_in point n w q rest in (r.0, omega (arith, r.1))
]

pub in_all : (m n point q : ℕ) → point < m → q < n → Contains (all_pairs m n) (point, q)
in_all zero n point q lt within = absurd (omega (arith, lt))
in_all (suc m) n point q lt within = elim (cases_lt point m) [
  | inl less ↦ Contains-append_right (states_at m n) (all_pairs m n) (point, q) (in_all m n point q less within)
  | inr last ↦ let e : m ≡ point = omega (arith, lt, last) in
      subst (λ z. Contains (all_pairs (suc m) n) (z, q)) e (Contains-append_left (states_at m n) (all_pairs m n) (m, q) (in_row m n q within))
]

pub all_in : (m n point q : ℕ) → Contains (all_pairs m n) (point, q) → (point < m) × (q < n)
all_in zero n point q c = absurd (none_in (point, q) c)
all_in (suc m) n point q c = elim (Contains-append_cases (states_at m n) (all_pairs m n) (point, q) c) [
  | inl row ↦ let r = row_in m n point q row in (omega (arith, r.0), r.1)
  | inr rest ↦ let r = all_in m n point q rest in (omega (arith, r.0), r.1)
]

bodies_low : (m n : ℕ) (rules : List Rule) (k b : ℕ) → slice_get (bodies n rules) k ≡ Some b → b < n + length (rules_points m n rules)
bodies_low m n [] k b e = absurd (cc)
bodies_low m n (r ∷ rules) zero b e =
    let b_is : n ≡ b = same_Some n b e in
    let long : length (rules_points m n (r ∷ rules)) ≡ length (term_points m n r.body) + length (rules_points (m + 1) (n + size r.body) rules) =
    length-append (term_points m n r.body) (rules_points (m + 1) (n + size r.body) rules) in
    omega (arith, b_is, long, length-term_points m n r.body, at_least_one r.body)
bodies_low m n (r ∷ rules) (suc k) b e =
    let long : length (rules_points m n (r ∷ rules)) ≡ length (term_points m n r.body) + length (rules_points (m + 1) (n + size r.body) rules) =
    length-append (term_points m n r.body) (rules_points (m + 1) (n + size r.body) rules) in
    omega (arith, long, length-term_points m n r.body, bodies_low (m + 1) (n + size r.body) rules k b e)

module _ (p : ProblemData) (is : IsSortedProblem p) where
  body_within : (f b : ℕ) → slice_get p.points.bodies f ≡ Some b → b < length p.points.points
  body_within = subst (λ (x : PointsData). (f b : ℕ) → slice_get x.bodies f ≡ Some b → b < length x.points) (sym is.problem.points)
      (λ f b e. omega (arith, bodies_low 0 0 p.sorted.scheme.rules f b e))

  all_args : All (λ (d : PointData). All (λ a. a < length p.points.points) d.args) p.points.points
  all_args = subst (λ (x : PointsData). All (λ (d : PointData). All (λ a. a < length x.points) d.args) x.points) (sym is.problem.points) (args_within p.sorted.scheme.rules)

  argument_within : (w i u : ℕ) (d : PointData) → slice_get p.points.points w ≡ Some d → slice_get d.args i ≡ Some u → u < length p.points.points
  argument_within w i u d at e =
      All-contains (λ a. a < length p.points.points) d.args u (All-contains (λ (d : PointData). All (λ a. a < length p.points.points) d.args) p.points.points d all_args (Contains-at p.points.points w d at)) (Contains-at d.args i u e)

  pub flow_within : (f : FlowPair) → Contains p.flow.pairs f → f.point < length p.points.points
  flow_within f m = (All-contains (FlowWithin p.sorted.scheme.rules (length p.points.points)) p.flow.pairs f is.problem.flows m).point

  pub all_closed : IsClosedReads p (all_pairs (length p.points.points) p.sorted.automaton.states)
  all_closed point s (reads_start e) = in_all (length p.points.points) p.sorted.automaton.states point 0 (body_within 0 point e) is.automaton.initial
  all_closed point s (reads_body {point = w} {f = f} {q = q} m at e) =
      in_all (length p.points.points) p.sorted.automaton.states point s (body_within f point e) (all_in (length p.points.points) p.sorted.automaton.states w s m).1
  all_closed point s (reads_child {point = w} {rule = rule} {a = a} {q = q} {args = args} {qs = qs} i m at moves at_u at_r) =
      in_all (length p.points.points) p.sorted.automaton.states point s (argument_within w i point (record { rule = rule; head = Tm a; args = args }) at at_u)
      (next_within p.sorted.automaton q a qs i s is.automaton.to moves at_r)
  all_closed point s (reads_flow {point = w} {rule = rule} {x = x} m at flows) =
      in_all (length p.points.points) p.sorted.automaton.states point s (flow_within (record { rule = rule; param = x; point = point }) flows)
      (all_in (length p.points.points) p.sorted.automaton.states w s m).1
  all_closed point s (reads_later_child {point = w} {rule = rule} {x = x} {a = a} {g = g} {q = q} {args = args} {qs = qs} j m at flows becomes moves at_u at_r) =
      in_all (length p.points.points) p.sorted.automaton.states point s (argument_within w j point (record { rule = rule; head = Var x; args = args }) at at_u)
      (next_within p.sorted.automaton q a qs (g + j) s is.automaton.to moves at_r)
