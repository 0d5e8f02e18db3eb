-- Terms of sort o from which a path fails, and the moves along it: a replacement leads to the closure of a body with the arguments as its
-- closures, a descent to the closure of an argument.
use Rattle.std.proofs.Common.{◌≡◌, sym, ◌∙◌, ap, subst, ℕ, zero, suc, List, [], length, map, slice_get, Some}
use Rattle.std.proofs.lemmas.List.{length-map}
use Rattle.hs_scheme.specs.declared.term.Head.{Head}
use Rattle.hs_scheme.specs.declared.term.Head.TheVariants.{Var, Nt, Tm}
use Rattle.hs_scheme.specs.declared.term.Rule.{Rule}
use Rattle.hs_scheme.specs.acceptance.Transition.{TransitionData}
use Rattle.hs_scheme.specs.acceptance.Automaton.{next}
use Rattle.hs_scheme.specs.Tree.{Tree, Trees, node, forest, children, children-forest}
use Rattle.hs_scheme.specs.acceptance.Cut.{unfolded}
use Rattle.hs_scheme.specs.sorting.Sorted.{known}
use Rattle.hs_scheme.specs.acceptance.Steps.{Path, StepsTo, IsChild, Fails}
use Rattle.hs_scheme.specs.TreeTerms.{IsTreeTerm}
use Rattle.hs_scheme.specs.flow.Points.{PointData, points_of}
use Rattle.hs_scheme.specs.Problem.{ProblemData}
use Rattle.hs_steps.proofs.Terms.{applied-none, Unfolding, unfolding_of}
use Rattle.hs_steps.proofs.Sorted.{step_sorted, as_many}
use Rattle.hs_verdict.specs.Premises.{IsSortedProblem}
use Rattle.hs_verdict.specs.Closures.{Closure, read, stands_for}
use Rattle.hs_verdict.proofs.Lists.{PreimageAt, place-map}
use Rattle.hs_verdict.proofs.TermLemmas.{AreTerms}
use Rattle.hs_verdict.proofs.Counts.{problem_sorts, sorted_by, nonterminal_count, full_body}
use Rattle.hs_verdict.proofs.Moves.{nonterminal_move}

-- some path fails from the term in this state after n steps
pub record Failing (p : ProblemData) (n q : ℕ) (t : Tree Head) : Type 0 where
  pub path : Path
  pub sorted : IsTreeTerm (problem_sorts p) t
  pub fails : Fails p.sorted.scheme.rules p.sorted.automaton.transitions n q t path

pub no_parameter : (p : ProblemData) (n q j : ℕ) (us : Trees Head) → Failing p n q (node (Var j) us) → ⊥
no_parameter p zero q j us f = f.fails.1
no_parameter p (suc n) q j us f = f.fails.step

module _ (p : ProblemData) (given : IsSortedProblem p) (term : ℕ → Tree Head) where
  abbrev rules : List Rule
  rules = p.sorted.scheme.rules

  abbrev ts : List TransitionData
  ts = p.sorted.automaton.transitions

  abbrev front : Head → List Closure → Tree Head
  front h zs = node h (forest (map (read term) zs))

  -- a term in front has one argument for each closure
  pub front_count : (zs : List Closure) → length (children (forest (map (read term) zs))) ≡ length zs
  front_count zs = ap length (children-forest (map (read term) zs)) ∙ length-map zs (read term)

  sorted_step : (q r : ℕ) (t u : Tree Head) (label : Path) → StepsTo rules ts q t label r u → IsTreeTerm (problem_sorts p) t → IsTreeTerm (problem_sorts p) u
  sorted_step = step_sorted rules (length p.sorted.scheme.ranks) (known p.sorted.scheme.ranks) ts (problem_sorts p) (sorted_by p given)

  -- from nonterminal f with the closures zs to its body, in m steps less one
  pub record ToBody (m q f : ℕ) (zs : List Closure) : Type 0 where
    pub rule : Rule
    pub at : slice_get rules f ≡ Some rule
    pub long : length zs ≡ rule.params
    pub body : ℕ
    pub of : PointData
    pub is_body : slice_get (points_of rules).bodies f ≡ Some body
    pub at_body : slice_get (points_of rules).points body ≡ Some of
    pub in_rule : of.rule ≡ f
    pub failing : Failing p m q (stands_for term (node body (forest zs)) [])

  pub to_body : AreTerms rules term → (m q f : ℕ) (zs : List Closure) → Failing p (suc m) q (front (Nt f) zs) → ToBody m q f zs
  to_body are m q f zs x =
      let us : List (Tree Head) = map (read term) zs in
      let u : Tree Head = x.fails.term in
      let un : Unfolding rules f us u = unfolding_of rules f us u (subst (λ (vs : List (Tree Head)). unfolded rules f vs ≡ Some u) (children-forest us) x.fails.step.2) in
      let body = are.bodies f un.rule un.at in
      let long : length zs ≡ un.rule.params = sym (front_count zs) ∙ nonterminal_count p given f un.rule (forest us) un.at x.sorted in
      let move : u ≡ stands_for term (node body.0 (forest zs)) [] = sym un.is ∙ (full_body un.rule us (length-map zs (read term) ∙ long) ∙ nonterminal_move term body.0 un.rule zs body.5) in
      record {
        rule = un.rule;
        at = un.at;
        long = long;
        body = body.0;
        of = body.1;
        is_body = body.2;
        at_body = body.3;
        in_rule = body.4;
        failing = subst (λ (t : Tree Head). Failing p m q t) move (record {
          path = x.fails.rest;
          sorted = sorted_step q x.fails.state (front (Nt f) zs) u x.fails.label x.fails.step x.sorted;
          fails = subst (λ (k : ℕ). Fails rules ts m k u x.fails.rest) x.fails.step.1 x.fails.holds;
        });
      }

  -- from terminal b with the closures zs to one of these
  pub record ToChild (m q b : ℕ) (zs : List Closure) : Type 0 where
    pub states : List ℕ
    pub place : ℕ
    pub state : ℕ
    pub closure : Closure
    pub moves : next ts q b ≡ Some states
    pub has_state : slice_get states place ≡ Some state
    pub has_closure : slice_get zs place ≡ Some closure
    pub long : length zs ≡ length states
    pub failing : Failing p m state (stands_for term closure [])

  pub to_child : (m q b : ℕ) (zs : List Closure) → Failing p (suc m) q (front (Tm b) zs) → ToChild m q b zs
  to_child m q b zs x =
      let us : List (Tree Head) = map (read term) zs in
      let u : Tree Head = x.fails.term in
      let qs : List ℕ = x.fails.step.0 in
      let there : next ts q b ≡ Some qs = x.fails.step.1 in
      let child : IsChild b qs (children (forest us)) x.fails.label x.fails.state u = x.fails.step.2 in
      let im : PreimageAt (read term) zs child.place u = place-map (read term) zs child.place u (subst (λ (vs : List (Tree Head)). slice_get vs child.place ≡ Some u) (children-forest us) child.term) in
      let move : u ≡ stands_for term im.item [] = sym im.is ∙ sym (applied-none (read term im.item)) in
      record {
        states = qs;
        place = child.place;
        state = x.fails.state;
        closure = im.item;
        moves = there;
        has_state = child.state;
        has_closure = im.at;
        long = sym (front_count zs) ∙ as_many rules (length p.sorted.scheme.ranks) (known p.sorted.scheme.ranks) ts (problem_sorts p) (sorted_by p given) q b qs (forest us) there x.sorted;
        failing = subst (λ (t : Tree Head). Failing p m x.fails.state t) move (record {
          path = x.fails.rest;
          sorted = sorted_step q x.fails.state (front (Tm b) zs) u x.fails.label x.fails.step x.sorted;
          fails = x.fails.holds;
        });
      }
