-- The three moves of a closure with a stack, as equations of terms.
use Rattle.std.proofs.Common.{◌≡◌, refl, sym, ◌∙◌, ap, ℕ, zero, suc, List, [], ◌∷◌, ◌++◌, map, slice_get, Option, Some, None, unwrap_or}
use Rattle.std.proofs.lemmas.List.{map-append}
use Rattle.hs_scheme.specs.declared.term.Head.{Head}
use Rattle.hs_scheme.specs.declared.term.Head.TheVariants.{Var}
use Rattle.hs_scheme.specs.declared.term.Rule.{Rule}
use Rattle.hs_scheme.specs.Tree.{Tree, Trees, node, none, more, forest, children, join, forest-append}
use Rattle.hs_scheme.specs.acceptance.Replacement.{substs, replaced, applied}
use Rattle.hs_scheme.specs.acceptance.Replacement.{subst as replace}
use Rattle.hs_steps.proofs.Terms.{applied-none, applied-applied}
use Rattle.hs_verdict.specs.Closures.{Closure, argument_closures, read, reads, stands_for}

module _ (term : ℕ → Tree Head) where
  pub reads-forest : (cs : List Closure) → reads term (forest cs) ≡ map (read term) cs
  reads-forest [] = refl
  reads-forest (c ∷ cs) = ap (λ ts. read term c ∷ ts) (reads-forest cs)

  pub reads_at : (cs : Trees ℕ) (j : ℕ) (c : Closure) → slice_get (children cs) j ≡ Some c → slice_get (reads term cs) j ≡ Some (read term c)
  reads_at none j c e = absurd (cc)
  reads_at (more b cs) zero c e = let f : b ≡ c = cc in ap (λ x. Some (read term x)) f
  reads_at (more b cs) (suc j) c e = reads_at cs j c e

  pub reads_past : (cs : Trees ℕ) (j : ℕ) → slice_get (children cs) j ≡ None → slice_get (reads term cs) j ≡ None
  reads_past none j e = refl
  reads_past (more b cs) zero e = absurd (cc)
  reads_past (more b cs) (suc j) e = reads_past cs j e

  pub arguments_read : (cs : Trees ℕ) (args : List ℕ) → substs (forest (map term args)) (reads term cs) ≡ forest (map (read term) (argument_closures args cs))
  arguments_read cs [] = refl
  arguments_read cs (a ∷ args) = ap (more (replace (term a) (reads term cs))) (arguments_read cs args)

  -- the head as replaced, with all arguments
  pub stands : (point : ℕ) (h : Head) (args : List ℕ) (cs : Trees ℕ) (ds : List Closure) → term point ≡ node h (forest (map term args))
      → stands_for term (node point cs) ds ≡ applied (replaced h (reads term cs)) (forest (map (read term) (argument_closures args cs ++ ds)))
  stands point h args cs ds e =
      ap (λ t. applied (replace t (reads term cs)) (forest (map (read term) ds))) e
      ∙ (applied-applied (replaced h (reads term cs)) (substs (forest (map term args)) (reads term cs)) (forest (map (read term) ds))
      ∙ ap (applied (replaced h (reads term cs)))
      (ap (λ us. join us (forest (map (read term) ds))) (arguments_read cs args)
      ∙ (sym (forest-append (map (read term) (argument_closures args cs)) (map (read term) ds)) ∙ ap forest (sym (map-append (read term) (argument_closures args cs) ds)))))

  -- a parameter: its closure with the arguments before the stack
  pub parameter_move : (point j : ℕ) (args : List ℕ) (cs : Trees ℕ) (ds : List Closure) (c : Closure) → term point ≡ node (Var j) (forest (map term args))
      → slice_get (children cs) j ≡ Some c → stands_for term (node point cs) ds ≡ stands_for term c (argument_closures args cs ++ ds)
  parameter_move point j args cs ds c e at =
      stands point (Var j) args cs ds e
      ∙ ap (λ (o : Option (Tree Head)). applied (unwrap_or o (node (Var j) none)) (forest (map (read term) (argument_closures args cs ++ ds)))) (reads_at cs j c at)

  pub nonterminal_move : (b : ℕ) (r : Rule) (cs : List Closure) → term b ≡ r.body → replace r.body (map (read term) cs) ≡ stands_for term (node b (forest cs)) []
  nonterminal_move b r cs e =
      sym (applied-none (replace (term b) (reads term (forest cs))) ∙ (λ i. replace (e i) (reads-forest cs i)))
