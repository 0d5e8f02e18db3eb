-- What a rule asks of its nonterminal's sort, by nodes for its parameters.
use Rattle.std.proofs.Common.{◌≡◌, refl, sym, ◌∙◌, ap, subst, ℕ, ◌+◌, ◌<◌, ◌≤◌, List, ◌++◌, length, replicate, Bool, true, false, arith}
use Rattle.hs_scheme.specs.declared.term.Head.{Head}
use Rattle.hs_scheme.specs.declared.term.Head.TheVariants.{Var, Nt, Tm}
use Rattle.hs_scheme.specs.declared.term.Rule.{Rule}
use Rattle.hs_scheme.specs.Scheme.{HeadInRange}
use Rattle.hs_scheme.specs.sorting.Sorting.{SortTree, HasSort}
use Rattle.hs_sorts.specs.declared.store.Shape.TheVariants.{Open}
use Rattle.hs_sorts.specs.declared.store.Node.{Node}
use Rattle.hs_sorts.specs.declared.store.Node.TheVariants.{Root}
use Rattle.hs_sorts.specs.Nodes.{Valuation, IsValuationOf, IsStore}
use Rattle.hs_sorts.specs.Constraints.{node_of, NodesBelow, Agree, AddsNode, Refutes, Claims, IsClaim, LeavesSort, HasSortAt, sorts_with, IsRuled, BodyWithin}
use Rattle.hs_sorts.proofs.Arrows.{arrows_same}
use Rattle.hs_sorts.proofs.NodeLemmas.{agree_trans, over, over_agrees, over_later, respects_fewer}
use Rattle.hs_sorts.proofs.Ranges.{has_in_range, term_below}
use Rattle.hs_sorts.proofs.Laying.{open_respected, row_long}

pub body_wider : (rules n m : ℕ) (rule : Rule) → n ≤ m → BodyWithin rules n rule → BodyWithin rules m rule
body_wider rules n m rule h b = record { terminals = b.terminals; room = omega (arith, b.room); body = b.body }

-- it depends on the first nodes alone
module _ (rules k f n : ℕ) (rule : Rule) (v w : Valuation) (below : f < n) (b : BodyWithin rules n rule) (same : Agree n v w) where
  sorts_same : (p : ℕ → SortTree) (h : Head) → HeadInRange rule.params rules b.terminals h → sorts_with rules p w h ≡ sorts_with rules p v h
  sorts_same p (Var j) l = refl
  sorts_same p (Nt g) l = same.at g (omega (arith, l, b.room))
  sorts_same p (Tm a) l = same.at (rules + a) (omega (arith, l, b.room))

  pub ruled_stable : IsRuled rules k f rule v → IsRuled rules k f rule w
  ruled_stable q = record {
    parameters = q.parameters;
    rest = q.rest;
    begins = same.at f below ∙ q.begins;
    body = λ l.
        has_in_range rule.params rules b.terminals (sorts_with rules q.parameters v) (sorts_with rules q.parameters w) (sorts_same q.parameters) rule.body q.rest b.body (q.body l);
  }

-- the parameters get open nodes at the end of the store
module _ (old : List Node) (is : IsStore old) (rules k f : ℕ) (rule : Rule) (below : f < length old) (b : BodyWithin rules (length old) rule)
    (wide : List Node) (first : ℕ) (first_is : first ≡ length old) (wide_is : wide ≡ old ++ replicate rule.params (Root Open)) where
  pub long : length wide ≡ length old + rule.params
  long = ap length wide_is ∙ row_long old rule.params

  head_below : (h : Head) → HeadInRange rule.params rules b.terminals h → node_of rules first h < length wide
  head_below (Var j) l = omega (arith, l, long, first_is)
  head_below (Nt g) l = omega (arith, l, long, b.room)
  head_below (Tm a) l = omega (arith, l, long, b.room)

  pub nodes_below : NodesBelow (node_of rules first) (length wide) rule.body
  nodes_below = term_below rule.params rules b.terminals (length wide) (node_of rules first) head_below rule.body b.body

  -- some sort is left behind those of the parameters' nodes, and the body has it
  abbrev pub Both : Valuation → Type 0
  Both v = (s : SortTree) × LeavesSort f first rule.params v s × HasSortAt (node_of rules first) rule.body v s

  module _ (v : Valuation) (was : IsValuationOf v old) (q : IsRuled rules k f rule v) where
    abbrev opened : Valuation
    opened = over (length old) v q.parameters

    agrees : Agree (length old) v opened
    agrees = over_agrees (length old) v q.parameters

    opened_at : (j : ℕ) → opened (first + j) ≡ q.parameters j
    opened_at j = ap (λ n. opened (n + j)) first_is ∙ over_later (length old) j v q.parameters

    opened_respects : IsValuationOf opened wide
    opened_respects = subst (IsValuationOf opened) (sym wide_is) (open_respected v old rule.params is opened agrees was)

    opened_leaves : LeavesSort f first rule.params opened q.rest
    opened_leaves = agrees.at f below ∙ (q.begins ∙ arrows_same rule.params q.parameters (λ j. opened (first + j)) q.rest (λ j l. sym (opened_at j)))

    opened_same : (h : Head) → HeadInRange rule.params rules b.terminals h → opened (node_of rules first h) ≡ sorts_with rules q.parameters v h
    opened_same (Var j) l = opened_at j
    opened_same (Nt g) l = agrees.at g (omega (arith, l, b.room))
    opened_same (Tm a) l = agrees.at (rules + a) (omega (arith, l, b.room))

    opened_both : f < k → Both opened
    opened_both l = (
      q.rest,
      opened_leaves,
      has_in_range rule.params rules b.terminals (sorts_with rules q.parameters v) (λ h. opened (node_of rules first h)) opened_same rule.body q.rest b.body (q.body l),
    )

  was_respected : (v : Valuation) → IsValuationOf v wide → IsValuationOf v old
  was_respected v r = respects_fewer old (replicate rule.params (Root Open)) v (subst (IsValuationOf v) wide_is r)

  sorts_are : (v : Valuation) (h : Head) → v (node_of rules first h) ≡ sorts_with rules (λ j. v (first + j)) v h
  sorts_are v (Var j) = refl
  sorts_are v (Nt g) = refl
  sorts_are v (Tm a) = refl

  pub none_left : Refutes wide (LeavesSort f first rule.params) → (v : Valuation) → IsValuationOf v old → IsRuled rules k f rule v → ⊥
  none_left never v r q = never (opened v r q) q.rest (opened_respects v r q) (opened_leaves v r q)

  -- the rule's body isn't asked for
  pub begun : (mid : List Node) (rest : ℕ) → k ≤ f → AddsNode wide mid rest (LeavesSort f first rule.params) → Claims old mid (IsRuled rules k f rule)
  begun mid rest past a = record {
    longer = omega (arith, long, a.longer);
    few = a.few;
    sound = λ v r.
        let p = a.sound v r in
        (was_respected v p.0, record { parameters = λ j. v (first + j); rest = v rest; begins = p.1; body = λ l. absurd (omega arith) });
    complete = λ v r q.
        let w = a.complete (opened v r q) q.rest (opened_respects v r q) (opened_leaves v r q) in
        record { valuation = w.valuation; agrees = agree_trans (length old) (length wide) v (opened v r q) w.valuation (omega (arith, long)) (agrees v r q) w.agrees; respects = w.respects };
  }

  -- it is asked for
  pub ruled : (new : List Node) (answer : Bool) → f < k → IsClaim wide new Both answer → IsClaim old new (IsRuled rules k f rule) answer
  ruled new true l c = record {
    longer = omega (arith, long, c.longer);
    few = c.few;
    sound = λ v r.
        let p = c.sound v r in (
          was_respected v p.0,
          record {
            parameters = λ j. v (first + j);
            rest = p.1.0;
            begins = p.1.1;
            body = λ _. subst (λ (e : Head → SortTree). HasSort e rule.body p.1.0) (λ i h. sorts_are v h i) p.1.2;
          },
        );
    complete = λ v r q.
        let w = c.complete (opened v r q) (opened_respects v r q) (opened_both v r q l) in
        record { valuation = w.valuation; agrees = agree_trans (length old) (length wide) v (opened v r q) w.valuation (omega (arith, long)) (agrees v r q) w.agrees; respects = w.respects };
  }
  ruled new false l c = λ v r q. c (opened v r q) (opened_respects v r q) (opened_both v r q l)
