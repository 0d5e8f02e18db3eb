-- Along a reduction the front point is read in the state, and so are the points of the stack, by the terminal that the front point becomes.
use Rattle.std.proofs.Common.{◌≡◌, refl, sym, ◌∙◌, ap, subst, ℕ, ◌+◌, List, [], ◌++◌, length, slice_get, Some, arith, Contains, inl, inr}
use Rattle.hs_scheme.specs.declared.term.Head.TheVariants.{Var, Nt, Tm}
use Rattle.hs_scheme.specs.acceptance.Transition.{TransitionData}
use Rattle.hs_scheme.specs.acceptance.Automaton.{next}
use Rattle.hs_scheme.specs.Tree.{Trees, node}
use Rattle.hs_scheme.specs.Problem.{ProblemData}
use Rattle.hs_scheme.proofs.Lists.{place-append}
use Rattle.hs_verdict.specs.Closures.{Closure, root, argument_closures}
use Rattle.hs_verdict.proofs.Lists.{place-map}
use Rattle.hs_weak.specs.Reads.{PointIs, FlowsTo, Becomes, by_terminal, by_parameter, reads_start, reads_body, reads_child, reads_flow, reads_later_child, IsClosedReads}
use Rattle.hs_weak_laws.proofs.NeverVoid.{length-argument_closures}

module _ (p : ProblemData) where
  abbrev ts : List TransitionData
  ts = p.sorted.automaton.transitions

  -- what a reduction reads: pairs of a point and a state that M holds of
  pub record IsReadBy (M : ℕ → ℕ → Type 0) : Type 0 where
    pub at_start : (b : ℕ) → slice_get p.points.bodies 0 ≡ Some b → M b 0
    pub at_body : (point rule f b q : ℕ) (args : List ℕ) → M point q → PointIs p point rule (Nt f) args → slice_get p.points.bodies f ≡ Some b → M b q
    pub at_child : (point rule a q i u r : ℕ) (args qs : List ℕ) → M point q → PointIs p point rule (Tm a) args → next ts q a ≡ Some qs → slice_get args i ≡ Some u → slice_get qs i ≡ Some r → M u r
    pub at_flow : (point rule x v q : ℕ) (args : List ℕ) → M point q → PointIs p point rule (Var x) args → FlowsTo p rule x v → M v q
    pub at_later : (point rule x v a g q j u r : ℕ) (args qs : List ℕ) → M point q → PointIs p point rule (Var x) args → FlowsTo p rule x v → Becomes p v a g → next ts q a ≡ Some qs
        → slice_get args j ≡ Some u → slice_get qs (g + j) ≡ Some r → M u r

  abbrev pub InList : List (ℕ × ℕ) → ℕ → ℕ → Type 0
  InList R point q = Contains R (point, q)

  pub closed_reads : (R : List (ℕ × ℕ)) → IsClosedReads p R → IsReadBy (InList R)
  closed_reads R closed = record {
    at_start = λ b e. closed b 0 (reads_start e);
    at_body = λ point rule f b q args m at e. closed b q (reads_body m at e);
    at_child = λ point rule a q i u r args qs m at moves e h. closed u r (reads_child i m at moves e h);
    at_flow = λ point rule x v q args m at flows. closed v q (reads_flow m at flows);
    at_later = λ point rule x v a g q j u r args qs m at flows becomes moves e h. closed u r (reads_later_child j m at flows becomes moves e h);
  }

  abbrev pub Any : ℕ → ℕ → Type 0
  Any point q = Unit {0}

  pub all_reads : IsReadBy Any
  all_reads = record {
    at_start = λ b e. tt;
    at_body = λ point rule f b q args m at e. tt;
    at_child = λ point rule a q i u r args qs m at moves e h. tt;
    at_flow = λ point rule x v q args m at flows. tt;
    at_later = λ point rule x v a g q j u r args qs m at flows becomes moves e h. tt;
  }

  module _ (M : ℕ → ℕ → Type 0) (reads : IsReadBy M) where
    pub record IsReadFront (c : Closure) (ds : List Closure) (q : ℕ) : Type 0 where
      pub front : M (root c) q
      pub stack : (a g i r : ℕ) (qs : List ℕ) (d : Closure) → Becomes p (root c) a g → next ts q a ≡ Some qs → slice_get ds i ≡ Some d → slice_get qs (g + i) ≡ Some r → M (root d) r

    pub read_parameter : (point : ℕ) (cs : Trees ℕ) (rule j : ℕ) (args : List ℕ) (ds : List Closure) (q : ℕ) → PointIs p point rule (Var j) args → IsReadFront (node point cs) ds q
        → (c : Closure) → FlowsTo p rule j (root c) → IsReadFront c (argument_closures args cs ++ ds) q
    read_parameter point cs rule j args ds q at read c flows = record {
      front = reads.at_flow point rule j (root c) q args read.front at flows;
      stack = λ a g i r qs d becomes moves e h. elim (place-append (argument_closures args cs) ds i d e) [
        | inl own ↦
            let m = place-map (λ b. node b cs) args i d own in
            subst (λ (x : Closure). M (root x) r) m.is (reads.at_later point rule j (root c) a g q i m.item r args qs read.front at flows becomes moves m.at h)
        | inr b ↦
            let long : length (argument_closures args cs) ≡ length args = length-argument_closures args cs in
            let same : g + i ≡ (g + length args) + b.place = omega (arith, b.is, long) in
            read.stack a (g + length args) b.place r qs d (by_parameter at flows becomes refl) moves b.at (sym (ap (λ k. slice_get qs k) same) ∙ h)
      ];
    }

    pub read_body : (point : ℕ) (cs : Trees ℕ) (rule f : ℕ) (args : List ℕ) (ds : List Closure) (q : ℕ) → PointIs p point rule (Nt f) args → IsReadFront (node point cs) ds q
        → (b : ℕ) (zs : Trees ℕ) → slice_get p.points.bodies f ≡ Some b → IsReadFront (node b zs) [] q
    read_body point cs rule f args ds q at read b zs e = record {
      front = reads.at_body point rule f b q args read.front at e;
      stack = λ a g i r qs d becomes moves none h. absurd (cc);
    }

    pub read_child : (point : ℕ) (cs : Trees ℕ) (rule a : ℕ) (args : List ℕ) (ds : List Closure) (q : ℕ) → PointIs p point rule (Tm a) args → IsReadFront (node point cs) ds q
        → (i r : ℕ) (qs : List ℕ) (c : Closure) → next ts q a ≡ Some qs → slice_get (argument_closures args cs ++ ds) i ≡ Some c → slice_get qs i ≡ Some r → IsReadFront c [] r
    read_child point cs rule a args ds q at read i r qs c moves e h = record {
      front = elim (place-append (argument_closures args cs) ds i c e) [
        | inl own ↦
            let m = place-map (λ b. node b cs) args i c own in
            subst (λ (x : Closure). M (root x) r) m.is (reads.at_child point rule a q i m.item r args qs read.front at moves m.at h)
        | inr b ↦
            let long : length (argument_closures args cs) ≡ length args = length-argument_closures args cs in
            let same : i ≡ length args + b.place = omega (arith, b.is, long) in
            read.stack a (length args) b.place r qs c (by_terminal at refl) moves b.at (sym (ap (λ k. slice_get qs k) same) ∙ h)
      ];
      stack = λ b g k s zs d becomes there none f. absurd (cc);
    }

    pub read_start : (b : ℕ) → slice_get p.points.bodies 0 ≡ Some b → (zs : Trees ℕ) → IsReadFront (node b zs) [] 0
    read_start b e zs = record {
      front = reads.at_start b e;
      stack = λ a g i r qs d becomes moves none h. absurd (cc);
    }
