-- A failing path gives types: the induction, over a relation that says which type is as strong as which, a predicate of the pairs of a point
-- and a state that are read, and one of the environments that no built tuple has.
use Rattle.std.proofs.Common.{◌≡◌, refl, sym, ◌∙◌, ap, subst, ℕ, zero, suc, ◌+◌, ◌<◌, List, [], ◌∷◌, ◌++◌, length, map, slice_get, replicate, set, Option, Some, None, unwrap_or, arith, Contains, ◌⊎◌, inl, inr}
use Rattle.std.specs.Option.{option_map_or}
use Rattle.std.proofs.lemmas.List.{length-replicate, length-set}
use Rattle.std.proofs.lemmas.Option.{same_Some}
use Rattle.hs_scheme.specs.declared.term.Head.{Head}
use Rattle.hs_scheme.specs.declared.term.Head.TheVariants.{Var, Nt, Tm}
use Rattle.hs_scheme.specs.declared.term.Rule.{Rule}
use Rattle.hs_scheme.specs.declared.flow.Pair.{Pair}
use Rattle.hs_scheme.specs.declared.flow.Pair.TheVariants.{OfFlow}
use Rattle.hs_scheme.specs.acceptance.Transition.{TransitionData}
use Rattle.hs_scheme.specs.Tree.{Tree, Trees, node, none, more, forest, children, children-forest}
use Rattle.hs_scheme.specs.acceptance.Replacement.{replaced, applied}
use Rattle.hs_scheme.specs.acceptance.Run.{start}
use Rattle.hs_scheme.specs.sorting.Sorted.{known}
use Rattle.hs_scheme.specs.acceptance.Steps.{Path, Fails}
use Rattle.hs_scheme.specs.TreeTerms.{IsTreeTerm}
use Rattle.hs_scheme.specs.flow.Points.{PointData, PointsData, points_of}
use Rattle.hs_scheme.specs.flow.Flow.{pairs_of}
use Rattle.hs_scheme.specs.Problem.{ProblemData}
use Rattle.hs_scheme.proofs.Lists.{none_in, Contains-at, only}
use Rattle.hs_steps.proofs.Sorted.{start_sorted}
use Rattle.hs_table.specs.declared.support.HeadBy.{HeadBy}
use Rattle.hs_table.specs.declared.support.HeadBy.TheVariants.{Terminal, Rule as FromRule, Param}
use Rattle.hs_table.specs.Types.{TypeTree, state, arrows}
use Rattle.hs_table.specs.Entries.{Env, EntryData, Has, params_of}
use Rattle.hs_table.specs.Follows.{rank_of, IsAt, FromBody, FromFlow, IsHeadType, HeadHas}
use Rattle.hs_table.specs.Tables.{HasStart}
use Rattle.hs_table_laws.proofs.Shapes.{next_within}
use Rattle.hs_table_laws.proofs.Arrows.{arrows-append, has_within, empties_has}
use Rattle.hs_verdict.specs.Premises.{IsSortedProblem, HasClosedFlow}
use Rattle.hs_verdict.specs.Closures.{Closure, root, argument_closures, read, reads, stands_for}
use Rattle.hs_verdict.specs.Typed.{flows, Flows, IsGood}
use Rattle.hs_verdict.proofs.Lists.{flow_pair}
use Rattle.hs_verdict.proofs.TermLemmas.{AreTerms, IsPoint}
use Rattle.hs_verdict.proofs.Counts.{problem_sorts, sorted_by, terminal_count}
use Rattle.hs_verdict.proofs.Moves.{stands, reads_past, parameter_move}
use Rattle.hs_verdict.proofs.Paths.{Failing, no_parameter, front_count, to_body, to_child}
use Rattle.hs_verdict.proofs.Good.{good_parameter, good_body, good_child, all_flow, param_pair}
use Rattle.hs_verdict.proofs.Unions.{union}
use Rattle.hs_weak.specs.Weak.{WeaklyFollows, IsCoveredIn}
use Rattle.hs_weak.specs.Reads.{last_state}
use Rattle.hs_weak_laws.specs.WeaklyTyped.{HasWeakType, has, HaveSets, HasEnv}
use Rattle.hs_weak_laws.specs.Built.{no_more, IsBuilt, IsBuiltClosure, IsBuiltFront}
use Rattle.hs_weak_laws.proofs.Relations.{IsStrength, arrows_by}
use Rattle.hs_weak_laws.proofs.Choices.{pick, parts, have_by_place, weaken_row, weaken_env}
use Rattle.hs_weak_laws.proofs.Building.{front_tuple, built_parameter, built_body, built_child, built_argument}
use Rattle.hs_weak_laws.proofs.Reading.{IsReadBy, IsReadFront, read_parameter, read_body, read_child, read_start}

one_has : (n i j : ℕ) (t a : TypeTree) → Has (set (replicate n []) i (t ∷ [])) j a → (j ≡ i) × (a ≡ t)
one_has zero i j t a h = absurd (none_in a h)
one_has (suc n) zero zero t a h = (refl, only t a h)
one_has (suc n) zero (suc j) t a h = absurd (empties_has n j a h)
one_has (suc n) (suc i) zero t a h = absurd (none_in a h)
one_has (suc n) (suc i) (suc j) t a h = let r = one_has n i j t a h in (ap suc r.0, r.1)

last_arrows : (ss : Env) (q : ℕ) → last_state (arrows ss (state q)) ≡ q
last_arrows [] q = refl
last_arrows (s ∷ ss) q = last_arrows ss q

-- what a table has to have: whatever weakly follows and is read is covered, or no built tuple has its environment
pub record IsEnough (R : TypeTree → TypeTree → Type 0) (p : ProblemData) (T : List EntryData) (M : ℕ → ℕ → Type 0) (N : ℕ → Env → Type 0) : Type 0 where
  pub strong : IsStrength p.sorted.automaton.states R
  pub reads : IsReadBy p M
  pub never : (f : ℕ) (cs : List Closure) → IsBuilt p f cs → (E : Env) → HasEnv R p T cs E → N f E → ⊥
  pub covered : (e : EntryData) (of : PointData) → WeaklyFollows R p T e → M e.point (last_state e.ty) → slice_get p.points.points e.point ≡ Some of → IsCoveredIn R p T e ⊎ N of.rule e.env

module _ (p : ProblemData) (given : IsSortedProblem p) (closed : HasClosedFlow p) (term : ℕ → Tree Head) (are : AreTerms p.sorted.scheme.rules term)
    (R : TypeTree → TypeTree → Type 0) (T : List EntryData) (M : ℕ → ℕ → Type 0) (N : ℕ → Env → Type 0) (enough : IsEnough R p T M N) where
  abbrev rules : List Rule
  rules = p.sorted.scheme.rules

  abbrev ts : List TransitionData
  ts = p.sorted.automaton.transitions

  abbrev found : List Pair
  found = pairs_of p.flow.pairs p.flow.heads

  abbrev Typed : Closure → TypeTree → Type 0
  Typed c t = HasWeakType R p T c t

  abbrev Row : List Closure → Env → Type 0
  Row ds ss = HaveSets R p T ds ss

  -- the problem's points are those of its rules
  at_point : (point : ℕ) (d : PointData) → slice_get (points_of rules).points point ≡ Some d → slice_get p.points.points point ≡ Some d
  at_point point d at = ap (λ (all : PointsData). slice_get all.points point) given.problem.points ∙ at

  at_body : (f body : ℕ) → slice_get (points_of rules).bodies f ≡ Some body → slice_get p.points.bodies f ≡ Some body
  at_body f body at = ap (λ (all : PointsData). slice_get all.bodies f) given.problem.points ∙ at

  from_body : (f body place q : ℕ) (env : Env) → slice_get (points_of rules).bodies f ≡ Some body → IsAt p T place (record { point = body; env = env; ty = state q })
      → FromBody p T f place (arrows env (state q))
  from_body f body place q env at holds = record {
    entry = record { point = body; env = env; ty = state q };
    q = q;
    holds = holds;
    body = at_body f body at;
    is_state = refl;
    is = refl;
  }

  from_flow : (rule j point place : ℕ) (env : Env) (t : TypeTree) → Contains found (OfFlow (record { rule = rule; param = j; point = point })) → IsAt p T place (record { point = point; env = env; ty = t })
      → FromFlow p T rule j place t
  from_flow rule j point place env t pair holds = record {
    entry = record { point = point; env = env; ty = t };
    holds = holds;
    flows = flow_pair p.flow.pairs p.flow.heads (record { rule = rule; param = j; point = point }) pair;
    is = refl;
  }

  -- a configuration along a reduction, in a state
  pub record IsKept (c : Closure) (ds : List Closure) (q : ℕ) : Type 0 where
    pub good : IsGood rules found c ds
    pub built : IsBuiltFront p c ds
    pub read_in : IsReadFront p M enough.reads c ds q

  by_cover : (point : ℕ) (cs : Trees ℕ) (env : Env) (t : TypeTree) → IsCoveredIn R p T (record { point = point; env = env; ty = t }) → HasEnv R p T (children cs) env → Typed (node point cs) t
  by_cover point cs env t (place, by, (holds, covers)) had =
      let there : IsAt p T place (record { point = point; env = by.env; ty = by.ty }) = subst (λ k. IsAt p T place (record { point = k; env = by.env; ty = by.ty })) covers.point holds in
      has by.env place by.ty there covers.ty (weaken_env R p T enough.strong.through (children cs) env by.env covers.env had)

  -- what weakly follows is covered, and the closures have what its environment asks of them
  conclude : (point : ℕ) (cs : Trees ℕ) (rule : ℕ) (h : Head) (args : List ℕ) → IsPoint rules point rule h args
      → (by : HeadBy) (ss : Env) (t : TypeTree) → IsHeadType p T rule h by (arrows ss t)
      → ((j : ℕ) (a : TypeTree) (c : Closure) → slice_get (children cs) j ≡ Some c → HeadHas h (arrows ss t) j a → Typed c a)
      → Row (argument_closures args cs) ss → IsBuiltClosure p (node point cs) → M point (last_state t) → Typed (node point cs) t
  conclude point cs rule h args at by ss t head of_head row built read_in =
      let d : PointData = record { rule = rule; head = h; args = args } in
      let k = pick R p T cs 0 args ss row in
      let u = union (params_of p rule) h (arrows ss t) k.entries in
      let e : EntryData = record { point = point; env = u.env; ty = t } in
      let follows : WeaklyFollows R p T e = (
        record { head = by; args = k.places },
        record {
          of = d;
          at = at_point point d at;
          sets = ss;
          head = head;
          chosen = k.entries;
          are = k.are;
          env = u.is_env;
          union = u.all;
        },
      ) in
      let had : HasEnv R p T (children cs) u.env = λ j a c at_j m. elim ((u.all j a (has_within u.env j a m)).0 m) [
        | inl own ↦ of_head j a c at_j own
        | inr any ↦ k.had j a c at_j any
      ] in
      elim (enough.covered e d follows read_in (at_point point d at)) [
        | inl covered ↦ by_cover point cs u.env t covered had
        | inr void ↦ absurd (enough.never rule (children cs) (front_tuple p given closed term are point cs d at built) u.env had void)
      ]

  -- a set for each closure of the stack, with which the closure in front leads to the state
  pub record Result (c : Closure) (ds : List Closure) (q : ℕ) : Type 0 where
    pub sets : Env
    pub typed : Typed c (arrows sets (state q))
    pub row : Row ds sets

  -- what the induction shows: a configuration along a reduction, from which a path fails after n steps, has such sets
  abbrev pub Reduces : ℕ → Closure → Type 0
  Reduces n c = (ds : List Closure) (q : ℕ) → q < p.sorted.automaton.states → IsKept c ds q → Failing p n q (stands_for term c ds) → Result c ds q

  -- the sets of the arguments and the stack, for the head's type
  settle : (point : ℕ) (cs : Trees ℕ) (rule : ℕ) (h : Head) (args : List ℕ) (ds : List Closure) (q : ℕ) → IsPoint rules point rule h args → IsKept (node point cs) ds q
      → (by : HeadBy) (all : Env) → IsHeadType p T rule h by (arrows all (state q))
      → ((j : ℕ) (a : TypeTree) (c : Closure) → slice_get (children cs) j ≡ Some c → HeadHas h (arrows all (state q)) j a → Typed c a)
      → Row (argument_closures args cs ++ ds) all → Result (node point cs) ds q
  settle point cs rule h args ds q at kept by all head of_head row =
      let k = parts R p T (argument_closures args cs) ds all row in
      let e : arrows all (state q) ≡ arrows k.front (arrows k.back (state q)) = ap (λ (ss : Env). arrows ss (state q)) k.is ∙ arrows-append k.front k.back (state q) in
      record {
        sets = k.back;
        typed = conclude point cs rule h args at by k.front (arrows k.back (state q)) (subst (λ (t : TypeTree). IsHeadType p T rule h by t) e head)
            (λ j a c at_j o. of_head j a c at_j (subst (λ (t : TypeTree). HeadHas h t j a) (sym e) o)) k.have_front kept.built.front
            (subst (λ z. M point z) (sym (last_arrows k.back q)) kept.read_in.front);
        row = k.have_back;
      }

  -- the closure's type by which a parameter is rejected, and sets that the type by which it leads to the state asks
  by_closure_type : (point : ℕ) (cs : Trees ℕ) (rule j : ℕ) (args : List ℕ) (ds : List Closure) (q : ℕ) → IsPoint rules point rule (Var j) args → IsKept (node point cs) ds q
      → (c : Closure) → slice_get (children cs) j ≡ Some c → Contains found (OfFlow (record { rule = rule; param = j; point = root c }))
      → (ss : Env) → Typed c (arrows ss (state q)) → Row (argument_closures args cs ++ ds) ss → Result (node point cs) ds q
  by_closure_type point cs rule j args ds q at kept c e pair ss (has {point = v} {cs = bs} env place ty holds strong typed) row =
      let k = arrows_by p.sorted.automaton.states R enough.strong ty ss q strong in
      let exact : Typed c ty = has env place ty holds (enough.strong.itself ty holds.shape.ty) typed in
      settle point cs rule (Var j) args ds q at kept (Param j place) k.sets
      (subst (λ (t : TypeTree). IsHeadType p T rule (Var j) (Param j place) t) k.is (refl, from_flow rule j v place env ty pair holds))
      (λ i a b at_i o.
      let same : b ≡ c = same_Some b c (sym at_i ∙ (ap (λ k. slice_get (children cs) k) o.0 ∙ e)) in
      subst (λ (x : Closure). Typed x a) (sym same) (subst (λ (t : TypeTree). Typed c t) (k.is ∙ sym o.1) exact))
      (weaken_row R p T enough.strong.through (argument_closures args cs ++ ds) ss k.sets k.asks row)

  -- a parameter in front: its closure with the arguments before the stack, after no step
  parameter_case : (point : ℕ) (cs : Trees ℕ) (rule j : ℕ) (args : List ℕ) → IsPoint rules point rule (Var j) args
      → (n : ℕ) → ((c : Closure) → slice_get (children cs) j ≡ Some c → Reduces n c) → Reduces n (node point cs)
  parameter_case point cs rule j args at n inner ds q in_states kept failing = by_closure (slice_get (children cs) j) refl
    where
      by_closure : (o : Option Closure) → slice_get (children cs) j ≡ o → Result (node point cs) ds q
      by_closure None e =
          let us : Trees Head = forest (map (read term) (argument_closures args cs ++ ds)) in
          let move : stands_for term (node point cs) ds ≡ node (Var j) us =
          stands term point (Var j) args cs ds (are.whole point (record { rule = rule; head = Var j; args = args }) at) ∙ ap (λ (o : Option (Tree Head)). applied (unwrap_or o (node (Var j) none)) us) (reads_past term cs j e) in
          absurd (no_parameter p n q j us (subst (λ (t : Tree Head). Failing p n q t) move failing))
      by_closure (Some c) e =
          let d : PointData = record { rule = rule; head = Var j; args = args } in
          let zs : List Closure = argument_closures args cs ++ ds in
          let move : stands_for term (node point cs) ds ≡ stands_for term c zs = parameter_move term point j args cs ds c (are.whole point d at) e in
          let pair = (param_pair rules found term closed are point cs d at kept.good.front j c e).0 in
          let flows_to = flow_pair p.flow.pairs p.flow.heads (record { rule = rule; param = j; point = root c }) pair in
          let kept_there : IsKept c zs q = record {
            good = good_parameter rules found term closed are point cs rule j args ds at kept.good c e;
            built = built_parameter p given closed term are point cs rule j args ds at kept.built c e pair;
            read_in = read_parameter p M enough.reads point cs rule j args ds q (at_point point d at) kept.read_in c flows_to;
          } in
          let r = inner c e zs q in_states kept_there (subst (λ (t : Tree Head). Failing p n q t) move failing) in
          by_closure_type point cs rule j args ds q at kept c e pair r.sets r.typed r.row

  rule_at : (of : PointData) (f : ℕ) (r : Rule) → of.rule ≡ f → slice_get rules f ≡ Some r → slice_get rules of.rule ≡ Some r
  rule_at of f r same at = ap (λ k. slice_get rules k) same ∙ at

  no_row : (ss : Env) → Row [] ss → ss ≡ []
  no_row [] h = refl
  no_row (s ∷ ss) h = absurd h

  plain_typed : (c : Closure) (q : ℕ) → Result c [] q → Typed c (state q)
  plain_typed c q r = subst (λ (ss : Env). Typed c (arrows ss (state q))) (no_row r.sets r.row) r.typed

  -- the sets of an entry at a body are those of the closures for its parameters
  record BodySets (body : ℕ) (zs : List Closure) (q : ℕ) : Type 0 where
    env : Env
    place : ℕ
    holds : IsAt p T place (record { point = body; env = env; ty = state q })
    row : Row zs env

  body_sets : (body : ℕ) (zs : List Closure) (of : PointData) (r : Rule) → slice_get (points_of rules).points body ≡ Some of → slice_get rules of.rule ≡ Some r → length zs ≡ r.params
      → (q : ℕ) → Typed (node body (forest zs)) (state q) → BodySets body zs q
  body_sets body zs of r at is_rule long q (has env place ty holds strong typed) =
      let same : holds.shape.of ≡ of = same_Some holds.shape.of of (sym holds.shape.at ∙ at_point body of at) in
      let many : params_of p of.rule ≡ r.params = ap (λ (o : Option Rule). option_map_or (λ (k : Rule). k.params) o 0) is_rule in
      let fits : length env ≡ length zs = holds.shape.env.long ∙ (ap (λ (d : PointData). params_of p d.rule) same ∙ (many ∙ sym long)) in
      record {
        env = env;
        place = place;
        holds = subst (λ (t : TypeTree). IsAt p T place (record { point = body; env = env; ty = t })) (enough.strong.at_state ty q strong) holds;
        row = have_by_place R p T zs env fits (λ j a d at_j h. typed j a d (subst (λ (ys : List Closure). slice_get ys j ≡ Some d) (sym (children-forest zs)) at_j) h);
      }

  -- the term of a configuration has the head of its point in front, replaced
  in_front : (n q point : ℕ) (h : Head) (args : List ℕ) (rule : ℕ) (cs : Trees ℕ) (ds : List Closure) → IsPoint rules point rule h args
      → Failing p n q (stands_for term (node point cs) ds) → Failing p n q (applied (replaced h (reads term cs)) (forest (map (read term) (argument_closures args cs ++ ds))))
  in_front n q point h args rule cs ds at failing =
      subst (λ (t : Tree Head). Failing p n q t) (stands term point h args cs ds (are.whole point (record { rule = rule; head = h; args = args }) at)) failing

  -- a nonterminal in front: the closure of its body, after a step
  nonterminal_case : (point : ℕ) (cs : Trees ℕ) (rule f : ℕ) (args : List ℕ) → IsPoint rules point rule (Nt f) args
      → (n : ℕ) → ((m : ℕ) → n ≡ suc m → (c : Closure) → Reduces m c) → Reduces n (node point cs)
  nonterminal_case point cs rule f args at zero below ds q in_states kept failing = absurd (in_front 0 q point (Nt f) args rule cs ds at failing).fails.1
  nonterminal_case point cs rule f args at (suc m) below ds q in_states kept failing =
      let zs : List Closure = argument_closures args cs ++ ds in
      let d : PointData = record { rule = rule; head = Nt f; args = args } in
      let to = to_body p given term are m q f zs (in_front (suc m) q point (Nt f) args rule cs ds at failing) in
      let kept_there : IsKept (node to.body (forest zs)) [] q = record {
        good = good_body rules found term closed are point cs rule f args ds at kept.good to.body to.of to.rule to.at_body to.in_rule to.at to.long;
        built = built_body p given closed term are point cs rule f args ds at kept.built to.body to.of to.rule to.at_body to.in_rule to.at to.long;
        read_in = read_body p M enough.reads point cs rule f args ds q (at_point point d at) kept.read_in to.body (forest zs) (at_body f to.body to.is_body);
      } in
      let r = below m refl (node to.body (forest zs)) [] q in_states kept_there to.failing in
      let sets = body_sets to.body zs to.of to.rule to.at_body (rule_at to.of f to.rule to.in_rule to.at) to.long q (plain_typed (node to.body (forest zs)) q r) in
      settle point cs rule (Nt f) args ds q at kept (FromRule sets.place) sets.env (from_body f to.body sets.place q sets.env to.is_body sets.holds) (λ j a c at_j o. absurd o) sets.row

  -- a terminal in front: the end of the path, or one of the arguments, after a step
  terminal_case : (point : ℕ) (cs : Trees ℕ) (rule b : ℕ) (args : List ℕ) → IsPoint rules point rule (Tm b) args
      → (n : ℕ) → ((m : ℕ) → n ≡ suc m → (c : Closure) → Reduces m c) → Reduces n (node point cs)
  terminal_case point cs rule b args at zero below ds q in_states kept failing =
      let zs : List Closure = argument_closures args cs ++ ds in
      let there = in_front 0 q point (Tm b) args rule cs ds at failing in
      let rank : ℕ = rank_of p b in
      let long : length zs ≡ rank = sym (front_count p given term zs) ∙ terminal_count p b (forest (map (read term) zs)) there.sorted in
      let all : Env = replicate rank [] in
      settle point cs rule (Tm b) args ds q at kept (Terminal q None) all (in_states, record { moves = there.fails.1; is = refl }) (λ j a c at_j o. absurd o)
      (have_by_place R p T zs all (length-replicate rank [] ∙ sym long) (λ j a d at_j h. absurd (empties_has rank j a h)))
  terminal_case point cs rule b args at (suc m) below ds q in_states kept failing =
      let zs : List Closure = argument_closures args cs ++ ds in
      let d : PointData = record { rule = rule; head = Tm b; args = args } in
      let to = to_child p given term m q b zs (in_front (suc m) q point (Tm b) args rule cs ds at failing) in
      let next_in : to.state < p.sorted.automaton.states = next_within p.sorted.automaton q b to.states to.place to.state given.automaton.to to.moves to.has_state in
      let kept_there : IsKept to.closure [] to.state = record {
        good = good_child rules found term closed are to.closure (all_flow rules found term closed are point cs d ds at kept.good to.place to.closure to.has_closure);
        built = built_child p given closed term are to.closure (built_argument p given closed term are point cs d ds at kept.built to.place to.closure to.has_closure);
        read_in = read_child p M enough.reads point cs rule b args ds q (at_point point d at) kept.read_in to.place to.state to.states to.closure to.moves to.has_closure to.has_state;
      } in
      let typed : Typed to.closure (state to.state) = plain_typed to.closure to.state (below m refl to.closure [] to.state next_in kept_there to.failing) in
      let count : ℕ = length to.states in
      let all : Env = set (replicate count []) to.place (state to.state ∷ []) in
      let long : length all ≡ length zs = length-set (replicate count []) to.place (state to.state ∷ []) ∙ (length-replicate count [] ∙ sym to.long) in
      settle point cs rule (Tm b) args ds q at kept (Terminal q (Some (to.place + 1))) all
      (in_states, record { qs = to.states; place = to.place; r = to.state; moves = to.moves; at = to.has_state; counted = refl; is = refl })
      (λ j a c at_j o. absurd o)
      (have_by_place R p T zs all long (λ j a c at_j h.
      let one = one_has count to.place j (state to.state) a h in
      let same : c ≡ to.closure = same_Some c to.closure (sym at_j ∙ (ap (λ k. slice_get zs k) one.0 ∙ to.has_closure)) in
      subst (λ (y : Closure). Typed y a) (sym same) (subst (λ (t : TypeTree). Typed to.closure t) (sym one.1) typed)))

  any_case : (point : ℕ) (cs : Trees ℕ) (rule : ℕ) (h : Head) (args : List ℕ) → IsPoint rules point rule h args
      → (n : ℕ) → ((m : ℕ) → n ≡ suc m → (c : Closure) → Reduces m c) → ((j : ℕ) (c : Closure) → slice_get (children cs) j ≡ Some c → Reduces n c) → Reduces n (node point cs)
  any_case point cs rule (Var j) args at n below inner = parameter_case point cs rule j args at n (inner j)
  any_case point cs rule (Nt f) args at n below inner = nonterminal_case point cs rule f args at n below
  any_case point cs rule (Tm b) args at n below inner = terminal_case point cs rule b args at n below

  point_of : (point : ℕ) (cs : Trees ℕ) → Flows rules found (node point cs) → (d : PointData) × (slice_get (points_of rules).points point ≡ Some d)
  point_of point cs (flows d at pairs subs) = (d, at)

  module _ (n : ℕ) (below : (m : ℕ) → n ≡ suc m → (c : Closure) → Reduces m c) where
    mutual
      at_closure : (c : Closure) → Reduces n c
      at_closure (node point cs) ds q in_states kept failing =
          let k = point_of point cs kept.good.front in
          any_case point cs k.0.rule k.0.head k.0.args k.1 n below (at_row cs) ds q in_states kept failing

      at_row : (cs : Trees ℕ) (j : ℕ) (c : Closure) → slice_get (children cs) j ≡ Some c → Reduces n c
      at_row none j c e = absurd (cc)
      at_row (more b cs) zero c e = subst (λ (x : Closure). Reduces n x) (same_Some b c e) (at_closure b)
      at_row (more b cs) (suc j) c e = at_row cs j c e

  no_less : (m : ℕ) → 0 ≡ suc m → ⊥
  no_less m e = omega arith

  suc_same : (n m : ℕ) → suc n ≡ suc m → n ≡ m
  suc_same n m e = omega arith

  -- by the number of steps, and then by the height of the closure
  reduces : (n : ℕ) (c : Closure) → Reduces n c
  reduces zero = at_closure zero (λ m e c. absurd (no_less m e))
  reduces (suc n) = at_closure (suc n) (λ m e c. subst (λ k. Reduces k c) (suc_same n m e) (reduces n c))

  -- a failing path from the start gives the start entry
  pub complete : (n : ℕ) (path : Path) → Fails rules ts n 0 start path → HasStart p T
  complete zero path fails = absurd fails.1
  complete (suc n) path fails =
      let sorted : IsTreeTerm (problem_sorts p) start = start_sorted rules (length p.sorted.scheme.ranks) (known p.sorted.scheme.ranks) ts (problem_sorts p) (sorted_by p given) in
      let to = to_body p given term are n 0 0 [] (record { path = path; sorted = sorted; fails = fails }) in
      let c : Closure = node to.body none in
      let no_parameters : params_of p to.of.rule ≡ 0 = ap (λ (o : Option Rule). option_map_or (λ (k : Rule). k.params) o 0) (rule_at to.of 0 to.rule to.in_rule to.at) ∙ sym to.long in
      let kept : IsKept c [] 0 = record {
        good = good_child rules found term closed are c (flows to.of to.at_body (λ j x e. absurd (cc)) (λ j x e. absurd (cc)));
        built = built_child p given closed term are c (to.of, (at_point to.body to.of to.at_body, start_tuple to.of.rule no_parameters));
        read_in = read_start p M enough.reads to.body (at_body 0 to.body to.is_body) none;
      } in
      let r = reduces n c [] 0 given.automaton.initial kept to.failing in
      let sets = body_sets to.body [] to.of to.rule to.at_body (rule_at to.of 0 to.rule to.in_rule to.at) to.long 0 (plain_typed c 0 r) in
      let e : EntryData = record { point = to.body; env = sets.env; ty = state 0 } in
      (e, (record { body = at_body 0 to.body to.is_body; env = no_row sets.env sets.row; initial = refl }, Contains-at T sets.place e sets.holds.at))
    where
      start_tuple : (f : ℕ) → params_of p f ≡ 0 → IsBuilt p f []
      start_tuple f e = record { pieces = no_more; long = sym e }
