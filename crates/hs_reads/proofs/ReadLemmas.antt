-- What is read where a pair is, and nothing else.
use Rattle.std.proofs.Common.{◌≡◌, sym, ◌∙◌, subst, ℕ, ◌+◌, ◌<◌, ◌≤◌, List, [], ◌∷◌, length, slice_get, slice_index, Some, Contains, inl, inr, ◌↔◌, arith}
use Rattle.std.proofs.lemmas.Bool.{cases_lt}
use Rattle.std.proofs.lemmas.Option.{slice_get-get_or, same_Some}
use Rattle.hs_scheme.specs.declared.term.Head.{Head}
use Rattle.hs_scheme.specs.declared.term.Head.TheVariants.{Var, Nt, Tm}
use Rattle.hs_scheme.specs.flow.Points.{point_at}
use Rattle.hs_scheme.specs.acceptance.Automaton.{next}
use Rattle.hs_scheme.specs.Problem.{ProblemData}
use Rattle.hs_scheme.proofs.Lists.{none_in, here, only}
use Rattle.hs_weak.specs.Reads.{PointIs, FlowsTo, Read, reads_start, reads_body, reads_child, reads_flow, reads_later_child, IsClosedReads}
use Rattle.hs_reads.specs.declared.becoming.Becoming.{Becoming}
use Rattle.hs_reads.specs.Growing.{AddsOnly, AreTooMany}
use Rattle.hs_reads.specs.Own.{IsBecoming, AreMany, HasManyReads, AreAllPairs, AreReadsOf}
use Rattle.hs_reads.specs.Pairs.{all_pairs, IsDemandedBy, IsArgumentRead, IsReadBehind, AreNeeded}
use Rattle.hs_reads.proofs.GrowLemmas.{adds_all, not_many}
use Rattle.hs_reads.proofs.PairLemmas.{in_all, all_in}

-- what is demanded by fewer pairs
pub read_more : (p : ProblemData) (R S : List (ℕ × ℕ)) → ((x : ℕ × ℕ) → Contains R x → Contains S x) → (point q : ℕ) → Read p R point q → Read p S point q
read_more p R S sub point s (reads_start e) = reads_start e
read_more p R S sub point s (reads_body {point = w} {q = q} m at e) = reads_body (sub (w, q) m) at e
read_more p R S sub point s (reads_child {point = w} {q = q} i m at moves at_u at_r) = reads_child i (sub (w, q) m) at moves at_u at_r
read_more p R S sub point s (reads_flow {point = w} {q = q} m at flows) = reads_flow (sub (w, q) m) at flows
read_more p R S sub point s (reads_later_child {point = w} {q = q} j m at flows becomes moves at_u at_r) = reads_later_child j (sub (w, q) m) at flows becomes moves at_u at_r

-- ---- an argument with its state

pub argument_read : (us rs : List ℕ) (k u r : ℕ) → slice_get us k ≡ Some u → slice_get rs k ≡ Some r → (x : ℕ × ℕ) → x ≡ (u, r) → IsArgumentRead us rs x
argument_read us rs k u r at_u at_r x e = subst (λ (z : ℕ × ℕ). IsArgumentRead us rs z) (sym e) (record { place = k; arg = at_u; state = at_r })

pub children_more : (us rs : List ℕ) (k u r : ℕ) (old new : List (ℕ × ℕ)) → slice_get us k ≡ Some u → slice_get rs k ≡ Some r → ((x : ℕ × ℕ) → Contains old x → Contains new x) → Contains new (u, r)
    → ((i v s : ℕ) → i < k → slice_get us i ≡ Some v → slice_get rs i ≡ Some s → Contains old (v, s)) → (i v s : ℕ) → i < k + 1 → slice_get us i ≡ Some v → slice_get rs i ≡ Some s → Contains new (v, s)
children_more us rs k u r old new at_u at_r kept there so_far i v s lt at_v at_s = elim (cases_lt i k) [
  | inl less ↦ kept (v, s) (so_far i v s less at_v at_s)
  | inr last ↦ let i_is : k ≡ i = omega (arith, lt, last) in
      let v_is : u ≡ v = same_Some u v (sym (subst (λ n. slice_get us n ≡ Some u) i_is at_u) ∙ at_v) in
      let s_is : r ≡ s = same_Some r s (sym (subst (λ n. slice_get rs n ≡ Some r) i_is at_r) ∙ at_s) in
      subst (λ n. Contains new (n, s)) v_is (subst (λ n. Contains new (u, n)) s_is there)
]

-- ---- by the head of the point

pub point_is : (p : ProblemData) (w : ℕ) (h : Head) → w < length p.points.points → h ≡ (point_at p.points w).head → PointIs p w (point_at p.points w).rule h (point_at p.points w).args
point_is p w h lt is =
    subst (λ (g : Head). PointIs p w (point_at p.points w).rule g (point_at p.points w).args) (sym is)
    (slice_get-get_or p.points.points w (record { rule = 0; head = Tm 0; args = [] }) lt)

module _ (p : ProblemData) (w q : ℕ) (lt : w < length p.points.points) where
  pub body_read : (f b : ℕ) → Nt f ≡ (point_at p.points w).head → f < length p.points.bodies → b ≡ slice_index p.points.bodies f → (x : ℕ × ℕ) → x ≡ (b, q) → IsDemandedBy p (w, q) x
  body_read f b head within body x is =
      subst (λ (y : ℕ × ℕ). IsDemandedBy p (w, q) y) (sym is)
      (reads_body (here (w, q) []) (point_is p w (Nt f) lt head) (subst (λ n. slice_get p.points.bodies f ≡ Some n) (sym body) (slice_get-get_or p.points.bodies f 0 within)))

  pub child_read : (a : ℕ) (args states : List ℕ) → Tm a ≡ (point_at p.points w).head → args ≡ (point_at p.points w).args → Some states ≡ next p.sorted.automaton.transitions q a
      → (x : ℕ × ℕ) → IsArgumentRead args states x → IsDemandedBy p (w, q) x
  child_read a args states head are moves x r =
      reads_child r.place (here (w, q) []) (point_is p w (Tm a) lt head) (sym moves) (subst (λ (us : List ℕ). slice_get us r.place ≡ Some x.0) are r.arg) r.state

  pub flow_read : (x : ℕ) → Var x ≡ (point_at p.points w).head → (y : ℕ × ℕ) → FlowsTo p (point_at p.points w).rule x y.0 × (y.1 ≡ q) → IsDemandedBy p (w, q) y
  flow_read x head y h = subst (λ n. Read p ((w, q) ∷ []) y.0 n) (sym h.1) (reads_flow (here (w, q) []) (point_is p w (Var x) lt head) h.0)

  pub later_read : (x : ℕ) (list : List Becoming) (args : List ℕ) → Var x ≡ (point_at p.points w).head → args ≡ (point_at p.points w).args
      → ((b : Becoming) → Contains list b → IsBecoming p (record { rule = (point_at p.points w).rule; param = x; terminal = b.terminal; given = b.given }))
      → (y : ℕ × ℕ) → (b : Becoming) × (Contains list b × IsReadBehind p.sorted.automaton.transitions q b args y) → IsDemandedBy p (w, q) y
  later_read x list args head are known y (b, h) =
      let r = h.1 in
      let k = known b h.0 in
      reads_later_child r.place (here (w, q) []) (point_is p w (Var x) lt head) k.1.0 k.1.1 r.moves (subst (λ (us : List ℕ). slice_get us r.place ≡ Some y.0) are r.arg) r.state_is

-- ---- each closed list has it

pub none_needed : (p : ProblemData) (pairs : List (ℕ × ℕ)) → pairs ≡ [] → AreNeeded p pairs
none_needed p pairs is S closed x m = absurd (none_in x (subst (λ (xs : List (ℕ × ℕ)). Contains xs x) is m))

pub start_needed : (p : ProblemData) (old new : List (ℕ × ℕ)) → AreNeeded p old → AddsOnly (λ (x : ℕ × ℕ). (slice_get p.points.bodies 0 ≡ Some x.0) × (x.1 ≡ 0)) old new → AreNeeded p new
start_needed p old new so_far adds S closed =
    adds_all (Contains S) (λ (x : ℕ × ℕ). (slice_get p.points.bodies 0 ≡ Some x.0) × (x.1 ≡ 0)) old new adds (so_far S closed)
    (λ x h. subst (λ n. Contains S (x.0, n)) (sym h.1) (closed x.0 0 (reads_start h.0)))

pub demanded_needed : (p : ProblemData) (old new : List (ℕ × ℕ)) (pair : ℕ × ℕ) → AreNeeded p old → Contains old pair → AddsOnly (IsDemandedBy p pair) old new → AreNeeded p new
demanded_needed p old new pair so_far there adds S closed =
    adds_all (Contains S) (IsDemandedBy p pair) old new adds (so_far S closed)
    (λ x r. closed x.0 x.1 (read_more p (pair ∷ []) S (λ y m. subst (λ (z : ℕ × ℕ). Contains S z) (sym (only pair y m)) (so_far S closed pair there)) x.0 x.1 r))

-- ---- the answer

pub many_pairs : (p : ProblemData) (pairs : List (ℕ × ℕ)) → AreNeeded p pairs → AreTooMany pairs → HasManyReads p
many_pairs p pairs needed many = inl (record { these = pairs; distinct = many.distinct; each = λ x m S closed. needed S closed x m; many = many.many })

pub start_many : (p : ProblemData) (old new : List (ℕ × ℕ)) → old ≡ [] → AddsOnly (λ (x : ℕ × ℕ). (slice_get p.points.bodies 0 ≡ Some x.0) × (x.1 ≡ 0)) old new → AreTooMany new → HasManyReads p
start_many p old new none adds many = many_pairs p new (start_needed p old new (none_needed p old none) adds) many

pub not_many_reads : (p : ProblemData) (pairs : List (ℕ × ℕ)) → IsClosedReads p pairs → length pairs ≤ 4000000 → (AreMany (IsBecoming p) → ⊥) → HasManyReads p → ⊥
not_many_reads p pairs closed few never (inl many) = not_many (λ (x : ℕ × ℕ). (S : List (ℕ × ℕ)) → IsClosedReads p S → Contains S x) pairs few (λ x h. h pairs closed) many
not_many_reads p pairs closed few never (inr many) = never many

pub all_are : (p : ProblemData) (m n : ℕ) → m ≡ length p.points.points → n ≡ p.sorted.automaton.states → AreAllPairs p (all_pairs m n)
all_are p m n points states point q =
    subst (λ k. Contains (all_pairs m n) (point, q) ↔ ((point < k) × (q < p.sorted.automaton.states))) points
    (subst (λ k. Contains (all_pairs m n) (point, q) ↔ ((point < m) × (q < k))) states (λ c. all_in m n point q c, λ b. in_all m n point q b.0 b.1))

pub all_reads : (p : ProblemData) (R : List (ℕ × ℕ)) → HasManyReads p → AreAllPairs p R → AreReadsOf p R
all_reads p R many all = inl (many, all)

pub least_reads : (p : ProblemData) (R : List (ℕ × ℕ)) → IsClosedReads p R → AreNeeded p R → (HasManyReads p → ⊥) → AreReadsOf p R
least_reads p R closed needed few = inr (few, record { closed = closed; least = λ S is point q m. needed S is (point, q) m })

-- two answers have the same pairs
pub same_reads : (p : ProblemData) (R S : List (ℕ × ℕ)) → AreReadsOf p R → AreReadsOf p S → (x : ℕ × ℕ) → Contains R x → Contains S x
same_reads p R S (inl a) (inl b) x m = (b.1 x.0 x.1).1 ((a.1 x.0 x.1).0 m)
same_reads p R S (inl a) (inr b) x m = absurd (b.0 a.0)
same_reads p R S (inr a) (inl b) x m = absurd (a.0 b.0)
same_reads p R S (inr a) (inr b) x m = a.1.least S b.1.closed x.0 x.1 m
