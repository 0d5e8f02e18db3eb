-- Along a reduction the closure in front is built, and the stack is made of pieces for whatever the front point may become.
use Rattle.std.proofs.Common.{◌≡◌, refl, sym, ◌∙◌, ap, subst, ℕ, zero, suc, ◌+◌, ◌≤◌, ◌<◌, List, [], ◌∷◌, ◌++◌, length, slice_get, Option, Some, None, arith, Contains, ◌⊎◌, inl, inr, length-append}
use Rattle.std.specs.Option.{option_map_or}
use Rattle.std.proofs.lemmas.Option.{same_Some}
use Rattle.hs_scheme.specs.declared.term.Head.{Head}
use Rattle.hs_scheme.specs.declared.term.Head.TheVariants.{Var, Nt}
use Rattle.hs_scheme.specs.declared.term.Rule.{Rule}
use Rattle.hs_scheme.specs.declared.flow.Pair.{Pair}
use Rattle.hs_scheme.specs.declared.flow.Pair.TheVariants.{OfFlow, OfHead}
use Rattle.hs_scheme.specs.Tree.{Tree, Trees, node, forest, children, children-forest}
use Rattle.hs_scheme.specs.flow.Points.{PointData, PointsData, points_of}
use Rattle.hs_scheme.specs.flow.Flow.{HasParameter, IsBase, pairs_of}
use Rattle.hs_scheme.specs.Problem.{ProblemData}
use Rattle.hs_scheme.proofs.Lists.{place-append}
use Rattle.hs_table.specs.Entries.{params_of}
use Rattle.hs_verdict.specs.Premises.{IsSortedProblem, HasClosedFlow}
use Rattle.hs_verdict.specs.Closures.{Closure, root, argument_closures}
use Rattle.hs_verdict.proofs.Lists.{place-map}
use Rattle.hs_verdict.proofs.TermLemmas.{AreTerms, IsPoint}
use Rattle.hs_weak_laws.specs.Built.{IsPieces, full, no_more, piece, IsBuilt, IsBuiltClosure, IsBuiltFront}
use Rattle.hs_weak_laws.proofs.NeverVoid.{length-argument_closures}

below_or : (m n : ℕ) → (m ≤ n) ⊎ (n < m)
below_or zero n = inl (omega arith)
below_or (suc m) zero = inr (omega arith)
below_or (suc m) (suc n) = elim (below_or m n) [
  | inl h ↦ inl (omega (arith, h))
  | inr h ↦ inr (omega (arith, h))
]

module _ (p : ProblemData) (given : IsSortedProblem p) (closed : HasClosedFlow p) (term : ℕ → Tree Head) (are : AreTerms p.sorted.scheme.rules term) where
  abbrev rules : List Rule
  rules = p.sorted.scheme.rules

  abbrev found : List Pair
  found = pairs_of p.flow.pairs p.flow.heads

  -- the problem's points are those of its rules
  pub of_problem : (point : ℕ) (d : PointData) → slice_get (points_of rules).points point ≡ Some d → slice_get p.points.points point ≡ Some d
  of_problem point d at = ap (λ (all : PointsData). slice_get all.points point) given.problem.points ∙ at

  pub of_rules : (point : ℕ) (d : PointData) → slice_get p.points.points point ≡ Some d → slice_get (points_of rules).points point ≡ Some d
  of_rules point d at = sym (ap (λ (all : PointsData). slice_get all.points point) given.problem.points) ∙ at

  has_parameter : (f x : ℕ) → x < params_of p f → HasParameter rules f x
  has_parameter f x lt = by_rule (slice_get rules f) refl
    where
      by_rule : (o : Option Rule) → slice_get rules f ≡ o → HasParameter rules f x
      by_rule None e = let none : params_of p f ≡ 0 = ap (λ (o : Option Rule). option_map_or (λ (k : Rule). k.params) o 0) e in absurd (omega (arith, lt, none))
      by_rule (Some r) e = let many : params_of p f ≡ r.params = ap (λ (o : Option Rule). option_map_or (λ (k : Rule). k.params) o 0) e in (r, (e, omega (arith, lt, many)))

  pub params_are : (f : ℕ) (r : Rule) → slice_get rules f ≡ Some r → params_of p f ≡ r.params
  params_are f r at = ap (λ (o : Option Rule). option_map_or (λ (k : Rule). k.params) o 0) at

  -- the arguments of a point under a built tuple
  argument_built : (point : ℕ) (d : PointData) (cs : Trees ℕ) → slice_get (points_of rules).points point ≡ Some d → IsBuilt p d.rule (children cs)
      → (i a : ℕ) → slice_get d.args i ≡ Some a → IsBuiltClosure p (node a cs)
  argument_built point d cs at own i a e =
      let r = are.arguments point d i a at e in
      (r.0, (of_problem a r.0 r.1, subst (λ k. IsBuilt p k (children cs)) (sym r.2) own))

  -- each closure of a built tuple is built
  pieces_built : {G g : ℕ} {ds : List Closure} → IsPieces p G g ds → g + length ds ≡ params_of p G → (i : ℕ) (c : Closure) → slice_get ds i ≡ Some c → IsBuiltClosure p c
  pieces_built {ds = []} (full le) e i c at = absurd (cc)
  pieces_built {ds = d ∷ ds} (full le) e i c at = absurd (omega (arith, le, e))
  pieces_built no_more e i c at = absurd (cc)
  pieces_built {g = g} {ds = ds} (piece {rest = rest} s of cs same site own long is more) e i c at =
      let whole : length ds ≡ length of.args + length rest = ap length is ∙ (length-append (argument_closures of.args cs) rest ∙ ap (λ k. k + length rest) (length-argument_closures of.args cs)) in
      elim (place-append (argument_closures of.args cs) rest i c (sym (ap (λ (xs : List Closure). slice_get xs i) is) ∙ at)) [
        | inl front ↦
            let m = place-map (λ a. node a cs) of.args i c front in
            subst (λ (x : Closure). IsBuiltClosure p x) m.is (argument_built s.point of cs (of_rules s.point of site.at) (record { pieces = own; long = long }) i m.item m.at)
        | inr b ↦ pieces_built more (omega (arith, e, whole)) b.place c b.at
      ]

  all_built : (point : ℕ) (cs : Trees ℕ) (d : PointData) (ds : List Closure) → slice_get (points_of rules).points point ≡ Some d → IsBuilt p d.rule (children cs)
      → ((i : ℕ) (x : Closure) → slice_get ds i ≡ Some x → IsBuiltClosure p x) → (i : ℕ) (x : Closure) → slice_get (argument_closures d.args cs ++ ds) i ≡ Some x → IsBuiltClosure p x
  all_built point cs d ds at own stack i x e = elim (place-append (argument_closures d.args cs) ds i x e) [
    | inl front ↦ let m = place-map (λ a. node a cs) d.args i x front in subst (λ (y : Closure). IsBuiltClosure p y) m.is (argument_built point d cs at own i m.item m.at)
    | inr b ↦ stack b.place x b.at
  ]

  -- the arguments of a point and the stack are pieces for what its head may become
  spread : (point : ℕ) (d : PointData) (cs : Trees ℕ) (ds : List Closure) → slice_get (points_of rules).points point ≡ Some d → IsBuilt p d.rule (children cs)
      → ((G g : ℕ) → Contains found (OfHead (record { point = point; rule = G; given = g })) → IsPieces p G g ds)
      → (G g : ℕ) → IsBase found d.rule d.head G g → IsPieces p G g (argument_closures d.args cs ++ ds)
  spread point d cs ds at own pieces G g base = by_arguments d.args refl
    where
      rest : IsPieces p G (g + length d.args) ds
      rest = elim (below_or (params_of p G) (g + length d.args)) [
        | inl le ↦ full le
        | inr lt ↦ pieces G (g + length d.args) (closed (OfHead (record { point = point; rule = G; given = g + length d.args })) (record {
          point = point;
          of = d;
          base = G;
          given = g;
          at = at;
          is_base = base;
          passes = (refl, has_parameter G (g + length d.args) lt);
        }))
      ]

      by_arguments : (us : List ℕ) → d.args ≡ us → IsPieces p G g (argument_closures d.args cs ++ ds)
      by_arguments [] e =
          let none : g + length d.args ≡ g = ap (λ (us : List ℕ). g + length us) e ∙ (let same : g + 0 ≡ g = omega arith in same) in
          subst (λ (us : List ℕ). IsPieces p G g (argument_closures us cs ++ ds)) (sym e) (subst (λ k. IsPieces p G k ds) none rest)
      by_arguments (u ∷ us) e =
          let some : length d.args ≡ suc (length us) = ap length e in
          piece (record { point = point; given = g }) d cs refl (record { at = of_problem point d at; base = base; some = omega (arith, some) }) own.pieces own.long refl rest

  -- the tuple of the closure in front, for the rule of its point
  pub front_tuple : (point : ℕ) (cs : Trees ℕ) (d : PointData) → slice_get (points_of rules).points point ≡ Some d → IsBuiltClosure p (node point cs) → IsBuilt p d.rule (children cs)
  front_tuple point cs d at (of, (at_of, own)) = subst (λ (k : PointData). IsBuilt p k.rule (children cs)) (same_Some of d (sym at_of ∙ of_problem point d at)) own

  pub built_parameter : (point : ℕ) (cs : Trees ℕ) (rule j : ℕ) (args : List ℕ) (ds : List Closure) → IsPoint rules point rule (Var j) args → IsBuiltFront p (node point cs) ds
      → (c : Closure) → slice_get (children cs) j ≡ Some c → Contains found (OfFlow (record { rule = rule; param = j; point = root c })) → IsBuiltFront p c (argument_closures args cs ++ ds)
  built_parameter point cs rule j args ds at built c e flows =
      let d : PointData = record { rule = rule; head = Var j; args = args } in
      let own = front_tuple point cs d at built.front in
      record {
        front = pieces_built own.pieces (omega (arith, own.long)) j c e;
        stack = all_built point cs d ds at own built.stack;
        pieces = λ G g h. spread point d cs ds at own built.pieces G g (root c, (flows, h));
      }

  pub built_body : (point : ℕ) (cs : Trees ℕ) (rule f : ℕ) (args : List ℕ) (ds : List Closure) → IsPoint rules point rule (Nt f) args → IsBuiltFront p (node point cs) ds
      → (b : ℕ) (of : PointData) (r : Rule) → slice_get (points_of rules).points b ≡ Some of → of.rule ≡ f → slice_get rules f ≡ Some r → length (argument_closures args cs ++ ds) ≡ r.params
      → IsBuiltFront p (node b (forest (argument_closures args cs ++ ds))) []
  built_body point cs rule f args ds at built b of r at_b is_f is long =
      let d : PointData = record { rule = rule; head = Nt f; args = args } in
      let zs : List Closure = argument_closures args cs ++ ds in
      let own = front_tuple point cs d at built.front in
      let tuple : IsBuilt p f zs = record { pieces = spread point d cs ds at own built.pieces f 0 (refl, refl); long = long ∙ sym (params_are f r is) } in
      record {
        front = (of, (of_problem b of at_b, subst (λ k. IsBuilt p k (children (forest zs))) (sym is_f) (subst (λ (xs : List Closure). IsBuilt p f xs) (sym (children-forest zs)) tuple)));
        stack = λ i x e. absurd (cc);
        pieces = λ G g h. no_more;
      }

  pub built_child : (x : Closure) → IsBuiltClosure p x → IsBuiltFront p x []
  built_child x h = record { front = h; stack = λ i y e. absurd (cc); pieces = λ G g k. no_more }

  pub built_argument : (point : ℕ) (cs : Trees ℕ) (d : PointData) (ds : List Closure) → slice_get (points_of rules).points point ≡ Some d → IsBuiltFront p (node point cs) ds
      → (i : ℕ) (x : Closure) → slice_get (argument_closures d.args cs ++ ds) i ≡ Some x → IsBuiltClosure p x
  built_argument point cs d ds at built i x e = all_built point cs d ds at (front_tuple point cs d at built.front) built.stack i x e
