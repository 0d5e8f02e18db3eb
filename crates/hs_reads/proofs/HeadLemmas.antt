-- What a pair demands, by what is read of its point.
use Rattle.std.proofs.Common.{◌≡◌, refl, sym, ◌∙◌, subst, ℕ, ◌+◌, ◌≤◌, List, length, filter, ◌&&◌, nat_eq, slice_get, slice_index, Some, Contains, Bool, true, arith}
use Rattle.std.proofs.lemmas.Bool.{eq-eqb, eqb-true}
use Rattle.std.proofs.lemmas.Option.{get_or_from_slice_get}
use Rattle.hs_scheme.specs.declared.term.Head.{Head}
use Rattle.hs_scheme.specs.declared.term.Head.TheVariants.{Var, Nt, Tm}
use Rattle.hs_scheme.specs.declared.flow.FlowPair.{FlowPair}
use Rattle.hs_scheme.specs.flow.Points.{PointsData, point_at}
use Rattle.hs_scheme.specs.acceptance.Automaton.{next}
use Rattle.hs_scheme.specs.Problem.{ProblemData}
use Rattle.hs_scheme.proofs.Lists.{filter_keeps}
use Rattle.hs_table_laws.proofs.Places.{within_from}
use Rattle.hs_weak.specs.Reads.{PointIs, FlowsTo, Becomes}
use Rattle.hs_reads.specs.Pairs.{HasStart, Demands}
use Rattle.hs_reads.proofs.BecomingLemmas.{parts_read, var_same, tm_same, nt_same}
use Rattle.hs_reads.proofs.PairLemmas.{demands_by}

module _ (p : ProblemData) (w q : ℕ) (pairs : List (ℕ × ℕ)) (start : HasStart p pairs) where
  -- there is no such point
  pub demands_past : length p.points.points ≤ w → Demands p (w, q) pairs
  demands_past past =
      demands_by p w q pairs start (λ rule f b args at e. absurd (no rule (Nt f) args at)) (λ rule a i u r args qs at moves at_u at_r. absurd (no rule (Tm a) args at))
      (λ rule x v args at flows. absurd (no rule (Var x) args at)) (λ rule x v a g j u r args qs at flows becomes moves at_u at_r. absurd (no rule (Var x) args at))
    where
      no : (rule : ℕ) (h : Head) (args : List ℕ) → PointIs p w rule h args → ⊥
      no rule h args at = omega (arith, past, within_from p.points.points w (record { rule = rule; head = h; args = args }) at)

  module _ (inside : PointsData) (same : inside ≡ p.points) where
    other : (own : Head) → own ≡ (point_at inside w).head → (rule : ℕ) (h : Head) (args : List ℕ) → PointIs p w rule h args → own ≡ h
    other own is rule h args at = is ∙ (parts_read p inside same w rule h args at).head_is

    pub demands_nt : (f : ℕ) → Nt f ≡ (point_at inside w).head → ((b : ℕ) → slice_get p.points.bodies f ≡ Some b → Contains pairs (b, q)) → Demands p (w, q) pairs
    demands_nt f is has =
        demands_by p w q pairs start
        (λ rule g b args at e. has b (subst (λ n. slice_get p.points.bodies n ≡ Some b) (sym (nt_same f g (other (Nt f) is rule (Nt g) args at))) e))
        (λ rule a i u r args qs at moves at_u at_r. let e = other (Nt f) is rule (Tm a) args at in absurd (cc))
        (λ rule x v args at flows. let e = other (Nt f) is rule (Var x) args at in absurd (cc))
        (λ rule x v a g j u r args qs at flows becomes moves at_u at_r. let e = other (Nt f) is rule (Var x) args at in absurd (cc))

    pub demands_tm : (a : ℕ) → Tm a ≡ (point_at inside w).head
        → ((i u r : ℕ) (qs : List ℕ) → next p.sorted.automaton.transitions q a ≡ Some qs → slice_get (point_at inside w).args i ≡ Some u → slice_get qs i ≡ Some r → Contains pairs (u, r)) → Demands p (w, q) pairs
    demands_tm a is has =
        demands_by p w q pairs start
        (λ rule g b args at e. let e = other (Tm a) is rule (Nt g) args at in absurd (cc))
        (λ rule b i u r args qs at moves at_u at_r.
        has i u r qs (subst (λ n. next p.sorted.automaton.transitions q n ≡ Some qs) (sym (tm_same a b (other (Tm a) is rule (Tm b) args at))) moves)
        (subst (λ (us : List ℕ). slice_get us i ≡ Some u) (sym (parts_read p inside same w rule (Tm b) args at).args_are) at_u) at_r)
        (λ rule x v args at flows. let e = other (Tm a) is rule (Var x) args at in absurd (cc))
        (λ rule x v b g j u r args qs at flows becomes moves at_u at_r. let e = other (Tm a) is rule (Var x) args at in absurd (cc))

    pub demands_var : (x : ℕ) → Var x ≡ (point_at inside w).head
        → ((v : ℕ) → FlowsTo p (point_at inside w).rule x v → Contains pairs (v, q))
        → ((v a g j u r : ℕ) (qs : List ℕ) → FlowsTo p (point_at inside w).rule x v → Becomes p v a g → next p.sorted.automaton.transitions q a ≡ Some qs
        → slice_get (point_at inside w).args j ≡ Some u → slice_get qs (g + j) ≡ Some r → Contains pairs (u, r)) → Demands p (w, q) pairs
    demands_var x is flow behind =
        demands_by p w q pairs start
        (λ rule g b args at e. let e = other (Var x) is rule (Nt g) args at in absurd (cc))
        (λ rule b i u r args qs at moves at_u at_r. let e = other (Var x) is rule (Tm b) args at in absurd (cc))
        (λ rule y v args at flows. flow v (own rule y args at v flows))
        (λ rule y v a g j u r args qs at flows becomes moves at_u at_r.
        behind v a g j u r qs (own rule y args at v flows) becomes moves (subst (λ (us : List ℕ). slice_get us j ≡ Some u) (sym (parts_read p inside same w rule (Var y) args at).args_are) at_u) at_r)
      where
        own : (rule y : ℕ) (args : List ℕ) → PointIs p w rule (Var y) args → (v : ℕ) → FlowsTo p rule y v → FlowsTo p (point_at inside w).rule x v
        own rule y args at v flows =
            subst (λ n. FlowsTo p n x v) (sym (parts_read p inside same w rule (Var y) args at).rule_is)
            (subst (λ n. FlowsTo p rule n v) (sym (var_same x y (other (Var x) is rule (Var y) args at))) flows)

-- a flow pair of the parameter is in its row
pub in_row : (flows : List FlowPair) (rule x v : ℕ) → Contains flows (record { rule = rule; param = x; point = v })
    → Contains (filter (λ (f : FlowPair). nat_eq f.rule rule && nat_eq f.param x) flows) (record { rule = rule; param = x; point = v })
in_row flows rule x v m =
    filter_keeps (λ (f : FlowPair). nat_eq f.rule rule && nat_eq f.param x) flows (record { rule = rule; param = x; point = v }) (rw (eq-eqb rule rule refl, eq-eqb x x refl)) m

-- nothing stands in an empty list
pub none_at : (xs : List ℕ) (j u : ℕ) (empty : Bool) → empty ≡ nat_eq (length xs) 0 → empty ≡ true → slice_get xs j ≡ Some u → ⊥
none_at xs j u empty is it at = let none : length xs ≡ 0 = eqb-true (length xs) 0 (sym is ∙ it) in omega (arith, none, within_from xs j u at)

-- the body that is read
pub body_is : (xs : List ℕ) (f b n : ℕ) → n ≡ slice_index xs f → slice_get xs f ≡ Some b → n ≡ b
body_is xs f b n is at = is ∙ get_or_from_slice_get xs f b 0 at
