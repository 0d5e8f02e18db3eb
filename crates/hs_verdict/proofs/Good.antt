-- Good configurations stay good under the three moves.
use Rattle.std.proofs.Common.{◌≡◌, refl, sym, ◌∙◌, ap, subst, ℕ, ◌+◌, ◌<◌, List, [], ◌++◌, length, slice_get, Some, arith, Contains, inl, inr}
use Rattle.std.proofs.lemmas.List.{length-map}
use Rattle.std.proofs.lemmas.Option.{same_Some}
use Rattle.hs_scheme.specs.declared.term.Head.{Head}
use Rattle.hs_scheme.specs.declared.term.Head.TheVariants.{Var, Nt}
use Rattle.hs_scheme.specs.declared.term.Rule.{Rule}
use Rattle.hs_scheme.specs.declared.flow.Pair.{Pair}
use Rattle.hs_scheme.specs.declared.flow.Pair.TheVariants.{OfFlow, OfHead}
use Rattle.hs_scheme.specs.Tree.{Tree, Trees, node, forest, children, children-forest}
use Rattle.hs_scheme.specs.flow.Points.{PointData, points_of}
use Rattle.hs_scheme.specs.flow.Flow.{HasParameter, IsBase, IsClosed}
use Rattle.hs_scheme.proofs.Lists.{place-append}
use Rattle.hs_verdict.specs.Closures.{Closure, root, argument_closures}
use Rattle.hs_verdict.specs.Typed.{Flows, flows, Fits, IsGood}
use Rattle.hs_table_laws.proofs.Places.{within_from}
use Rattle.hs_verdict.proofs.TermLemmas.{AreTerms, IsPoint}
use Rattle.hs_verdict.proofs.Lists.{place-map}

module _ (rules : List Rule) (found : List Pair) (term : ℕ → Tree Head) (closed : IsClosed rules found) (are : AreTerms rules term) where
  abbrev Param : ℕ → ℕ → ℕ → Type 0
  Param f x point = Contains found (OfFlow (record { rule = f; param = x; point = point }))

  -- the arguments of a point and the stack flow to the parameters of what its head may become
  pub spread : (point : ℕ) (d : PointData) (cs : Trees ℕ) (ds : List Closure) → slice_get (points_of rules).points point ≡ Some d → Fits rules found point ds
      → (f g : ℕ) → IsBase found d.rule d.head f g → (i : ℕ) (x : Closure) → slice_get (argument_closures d.args cs ++ ds) i ≡ Some x → HasParameter rules f (g + i) → Param f (g + i) (root x)
  spread point d cs ds at fits f g base i x e (r, (is, lt)) = elim (place-append (argument_closures d.args cs) ds i x e) [
    | inl own ↦
        let m = place-map (λ a. node a cs) d.args i x own in
        subst (λ (y : Closure). Param f (g + i) (root y)) m.is (closed (OfFlow (record { rule = f; param = g + i; point = m.item })) (record {
          point = point;
          of = d;
          base = f;
          given = g;
          at = at;
          is_base = base;
          passes = (i, (m.at, refl, refl, (r, (is, lt))));
        }))
    | inr b ↦
        let long : length (argument_closures d.args cs) ≡ length d.args = length-map d.args (λ a. node a cs) in
        let same : (g + length d.args) + b.place ≡ g + i = omega (arith, b.is, long) in
        let lt' : g + length d.args < r.params = omega (arith, b.is, long) in
        let lt'' : (g + length d.args) + b.place < r.params = omega (arith, same) in
        subst (λ (k : ℕ). Param f k (root x)) same (fits f (g + length d.args) b.place x
        (closed (OfHead (record { point = point; rule = f; given = g + length d.args })) (record {
          point = point;
          of = d;
          base = f;
          given = g;
          at = at;
          is_base = base;
          passes = (refl, (r, (is, lt')));
        }))
        b.at (r, (is, lt'')))
  ]

  -- the closures of a point's arguments flow
  own_flows : (point : ℕ) (cs : Trees ℕ) (d : PointData) → slice_get (points_of rules).points point ≡ Some d → Flows rules found (node point cs) → (i a : ℕ) → slice_get d.args i ≡ Some a → Flows rules found (node a cs)
  own_flows point cs d at (flows d' at' pairs subs) i a e =
      let r = are.arguments point d i a at e in
      let same : d' ≡ d = same_Some d' d (sym at' ∙ at) in
      flows r.0 r.1 (λ j c h. subst (λ (k : ℕ). Param k j (root c)) (ap (λ (q : PointData). q.rule) same ∙ sym r.2) (pairs j c h)) subs

  pub all_flow : (point : ℕ) (cs : Trees ℕ) (d : PointData) (ds : List Closure) → slice_get (points_of rules).points point ≡ Some d → IsGood rules found (node point cs) ds
      → (i : ℕ) (x : Closure) → slice_get (argument_closures d.args cs ++ ds) i ≡ Some x → Flows rules found x
  all_flow point cs d ds at good i x e = elim (place-append (argument_closures d.args cs) ds i x e) [
    | inl own ↦ let m = place-map (λ a. node a cs) d.args i x own in subst (λ (y : Closure). Flows rules found y) m.is (own_flows point cs d at good.front i m.item m.at)
    | inr b ↦ good.stack b.place x b.at
  ]

  -- the flow pair and the flowing of the closure for a parameter
  pub param_pair : (point : ℕ) (cs : Trees ℕ) (d : PointData) → slice_get (points_of rules).points point ≡ Some d → Flows rules found (node point cs)
      → (j : ℕ) (c : Closure) → slice_get (children cs) j ≡ Some c → Param d.rule j (root c) × Flows rules found c
  param_pair point cs d at (flows d' at' pairs subs) j c e =
      (subst (λ (q : PointData). Param q.rule j (root c)) (same_Some d' d (sym at' ∙ at)) (pairs j c e), subs j c e)

  pub good_parameter : (point : ℕ) (cs : Trees ℕ) (rule j : ℕ) (args : List ℕ) (ds : List Closure) → IsPoint rules point rule (Var j) args → IsGood rules found (node point cs) ds
      → (c : Closure) → slice_get (children cs) j ≡ Some c → IsGood rules found c (argument_closures args cs ++ ds)
  good_parameter point cs rule j args ds at good c e =
      let d : PointData = record { rule = rule; head = Var j; args = args } in
      let b = param_pair point cs d at good.front j c e in
      record {
        front = b.1;
        stack = all_flow point cs d ds at good;
        fits = λ f g i x h s m. spread point d cs ds at good.fits f g (root c, (b.0, h)) i x s m;
      }

  pub good_body : (point : ℕ) (cs : Trees ℕ) (rule f : ℕ) (args : List ℕ) (ds : List Closure) → IsPoint rules point rule (Nt f) args → IsGood rules found (node point cs) ds
      → (b : ℕ) (of : PointData) (r : Rule) → slice_get (points_of rules).points b ≡ Some of → of.rule ≡ f → slice_get rules f ≡ Some r → length (argument_closures args cs ++ ds) ≡ r.params
      → IsGood rules found (node b (forest (argument_closures args cs ++ ds))) []
  good_body point cs rule f args ds at good b of r at_b is_f is long =
      let d : PointData = record { rule = rule; head = Nt f; args = args } in
      let xs : List Closure = argument_closures args cs ++ ds in
      let plain : (j : ℕ) (c : Closure) → slice_get (children (forest xs)) j ≡ Some c → slice_get xs j ≡ Some c = λ j c e. subst (λ (ys : List Closure). slice_get ys j ≡ Some c) (children-forest xs) e in
      let pairs : (j : ℕ) (c : Closure) → slice_get (children (forest xs)) j ≡ Some c → Param of.rule j (root c) = λ j c e. own_pair j c (plain j c e) in
      record { front = flows of at_b pairs (λ j c e. all_flow point cs d ds at good j c (plain j c e)); stack = λ i x e. absurd (cc); fits = λ f' g i x h e m. absurd (cc) }
    where
      own_pair : (j : ℕ) (c : Closure) → slice_get (argument_closures args cs ++ ds) j ≡ Some c → Param of.rule j (root c)
      own_pair j c e =
          let lt : 0 + j < r.params = omega (arith, long, within_from (argument_closures args cs ++ ds) j c e) in
          let zero_more : 0 + j ≡ j = omega arith in
          subst (λ (k : ℕ). Param k j (root c)) (sym is_f)
          (subst (λ (k : ℕ). Param f k (root c)) zero_more (spread point (record { rule = rule; head = Nt f; args = args }) cs ds at good.fits f 0 (refl, refl) j c e (r, (is, lt))))

  pub good_child : (x : Closure) → Flows rules found x → IsGood rules found x []
  good_child x h = record { front = h; stack = λ i y e. absurd (cc); fits = λ f g i y k e m. absurd (cc) }
