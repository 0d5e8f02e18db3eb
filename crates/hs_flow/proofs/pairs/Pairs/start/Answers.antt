use Rattle.std.proofs.Common.{◌≡◌, sym, subst, ◌<◌, ◌≤◌, ◌+◌, List, length, Contains, inl, inr, arith}
use Rattle.std.proofs.lemmas.Bool.{cases_lt}
use Rattle.hs_scheme.specs.declared.term.Rule.{Rule}
use Rattle.hs_scheme.specs.declared.flow.Pair.{Pair}
use Rattle.hs_flow.specs.Passing.{PassedBy, PassedAtFirst}
use Rattle.hs_flow.specs.Pairs.{PairsData, FindsOnly}
use Rattle.hs_flow.proofs.PairLemmas.{finds_rules, finds_then, finds_keep, finds_cases}
use Rattle.hs_flow.proofs.PassingLemmas.{passed_once, first_at, first_of, not_at_first, first_within}
use Rattle.hs_flow.proofs.pairs.Pairs.start.Goals as goal
use Rattle.hs_flow.proofs.pairs.Pairs.start.Goals.{in-Nt+in_ok-pass, in_default}

pub pass-requires-clause-addable : goal.pass-requires-clause-addable
pass-requires-clause-addable c = λ q h.
    let rules = c.args.self.now.rules in let p = c.loop-point.point in
    let same : c.loop-point.self.rules ≡ rules = finds_rules (PassedAtFirst rules) c.args.self.now c.loop-point.self c.loop-point.invariant.finds in
    let by : PassedBy rules c.in-Nt.base 0 p q = subst (λ (rs : List Rule). PassedBy rs c.in-Nt.base 0 p q) same h in
    let first = first_at c.self.view_is c.self.invariant p c.head_of.result (omega arith) c.head_of.ensures.head c.in-Nt.base c.in-Nt.is q by in
    record {
      absent = λ there. let f = c.loop-point.invariant.behind q there in omega (arith, f.1, (passed_once rules f.0.base 0 f.0.point c.in-Nt.base 0 p q f.0.passed by).0);
      passed = inl (subst (λ (rs : List Rule). PassedAtFirst rs q) (sym same) first.0);
    }

pub returns-in_err-pass-clause-finds : goal.returns-in_err-pass-clause-finds
returns-in_err-pass-clause-finds c =
    let rules = c.args.self.now.rules in let p = c.loop-point.point in
    let same : c.loop-point.self.rules ≡ rules = finds_rules (PassedAtFirst rules) c.args.self.now c.loop-point.self c.loop-point.invariant.finds in
    finds_then (PassedAtFirst rules) (PassedBy c.loop-point.self.rules c.in-Nt.base 0 p) (PassedAtFirst rules) c.args.self.now c.loop-point.self c.pass.new.self (λ q h. h)
    (λ q h. (first_at c.self.view_is c.self.invariant p c.head_of.result (omega arith) c.head_of.ensures.head c.in-Nt.base c.in-Nt.is q (subst (λ (rs : List Rule). PassedBy rs c.in-Nt.base 0 p q) same h)).0)
    c.loop-point.invariant.finds c.pass.ensures.finds

pub loop-point-preserved : goal.loop-point-preserved
loop-point-preserved c =
    let rules = c.args.self.now.rules in let p = c.loop-point.point in let mid = c.loop-point.self in
    let within : p < length c.self.inside.points.now.points = omega arith in
    let same : mid.rules ≡ rules = finds_rules (PassedAtFirst rules) c.args.self.now mid c.loop-point.invariant.finds in
    elim c.match-head_of.branch [
      | in-Nt+in_ok-pass w ↦
          let new = w.pass.new.self in
          let by : (q : Pair) → PassedBy mid.rules w.in-Nt.base 0 p q → PassedBy rules w.in-Nt.base 0 p q = λ q h. subst (λ (rs : List Rule). PassedBy rs w.in-Nt.base 0 p q) same h in
          let first : (q : Pair) → PassedBy mid.rules w.in-Nt.base 0 p q → (f : PassedAtFirst rules q) × (f.point ≡ p) =
          λ q h. first_at c.self.view_is c.self.invariant p c.head_of.result within c.head_of.ensures.head w.in-Nt.base w.in-Nt.is q (by q h) in
          record {
            finds = subst (λ (x : PairsData). FindsOnly (PassedAtFirst rules) c.args.self.now x) (sym w.self-is)
                (finds_then (PassedAtFirst rules) (PassedBy mid.rules w.in-Nt.base 0 p) (PassedAtFirst rules) c.args.self.now mid new (λ q h. h) (λ q h. (first q h).0) c.loop-point.invariant.finds w.pass.ensures.finds);
            so_far = subst (λ (x : PairsData). (q : Pair) (f : PassedAtFirst rules q) → f.point < p + 1 → Contains x.found q) (sym w.self-is) (λ q f lt. elim (cases_lt f.point p) [
              | inl less ↦ finds_keep (PassedBy mid.rules w.in-Nt.base 0 p) mid new w.pass.ensures.finds q (c.loop-point.invariant.so_far q f less)
              | inr more ↦ w.in_ok-pass.ensures.all q (subst (λ (rs : List Rule). PassedBy rs w.in-Nt.base 0 p q) (sym same)
                  (first_of c.self.view_is c.self.invariant p c.head_of.result within c.head_of.ensures.head w.in-Nt.base w.in-Nt.is q f (omega arith)))
            ]);
            behind = subst (λ (x : PairsData). (q : Pair) → Contains x.found q → (f : PassedAtFirst rules q) × (f.point < p + 1)) (sym w.self-is)
                (λ q h. elim (finds_cases (PassedBy mid.rules w.in-Nt.base 0 p) mid new w.pass.ensures.finds q h) [
                  | inl was ↦ let f = c.loop-point.invariant.behind q was in (f.0, omega (arith, f.1))
                  | inr now ↦ let f = first q now in (f.0, omega (arith, f.1))
                ]);
            few = subst (λ (x : PairsData). length x.found ≤ x.max) (sym w.self-is) w.in_ok-pass.ensures.limit.within;
          }
      | in_default w ↦ record {
        finds = subst (λ (x : PairsData). FindsOnly (PassedAtFirst rules) c.args.self.now x) (sym w.self-is) c.loop-point.invariant.finds;
        so_far = subst (λ (x : PairsData). (q : Pair) (f : PassedAtFirst rules q) → f.point < p + 1 → Contains x.found q) (sym w.self-is) (λ q f lt. elim (cases_lt f.point p) [
          | inl less ↦ c.loop-point.invariant.so_far q f less
          | inr more ↦ absurd (not_at_first c.self.view_is c.self.invariant p c.head_of.result within c.head_of.ensures.head w.in_default.not-Nt q f (omega arith))
        ]);
        behind = subst (λ (x : PairsData). (q : Pair) → Contains x.found q → (f : PassedAtFirst rules q) × (f.point < p + 1)) (sym w.self-is)
            (λ q h. let f = c.loop-point.invariant.behind q h in (f.0, omega (arith, f.1)));
        few = subst (λ (x : PairsData). length x.found ≤ x.max) (sym w.self-is) c.loop-point.invariant.few;
      }
    ]

pub returns-clause-all : goal.returns-clause-all
returns-clause-all c = λ q f.
    let here : f.point < length c.self.inside.points.now.points = first_within c.self.view_is c.self.invariant q f in
    c.loop-point.invariant.so_far q f (omega arith)
