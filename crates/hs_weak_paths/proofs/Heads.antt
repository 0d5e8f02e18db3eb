-- An entry holds where it follows from entries that hold, head by head.
--     Holds         with terms for the parameters that the environment's sets reject, the point's term is rejected by the type
use Rattle.std.proofs.Common.{◌≡◌, refl, sym, ◌∙◌, ℕ, suc, ◌<◌, List, [], ◌∷◌, ◌++◌, map, length, replicate, set, slice_get, Option, Some, None, unwrap_or, Contains, arith, inl, inr}
use Rattle.std.proofs.Common.{subst as along}
use Rattle.std.proofs.lemmas.Option.{slice_get_within, get_or_from_slice_get}
use Rattle.hs_scheme.specs.declared.term.Head.{Head}
use Rattle.hs_scheme.specs.declared.term.Head.TheVariants.{Var, Nt, Tm}
use Rattle.hs_scheme.specs.Tree.{Tree, node, none, forest, children}
use Rattle.hs_scheme.specs.acceptance.Replacement.{subst, substs, applied, replaced}
use Rattle.hs_scheme.specs.Problem.{ProblemData}
use Rattle.hs_scheme.proofs.Lists.{here}
use Rattle.hs_table.specs.declared.support.HeadBy.{HeadBy}
use Rattle.hs_table.specs.declared.support.HeadBy.TheVariants.{Terminal, Rule, Param}
use Rattle.hs_table.specs.Types.{TypeTree, state, arrows}
use Rattle.hs_table.specs.Entries.{Env, EntryData, Has, InShape, params_of}
use Rattle.hs_table.specs.Follows.{rank_of, LacksTransition, RejectsChild, IsAt, FromBody, FromFlow, IsHeadType, HeadHas, AnyHas}
use Rattle.hs_table_laws.proofs.Arrows.{has_within}
use Rattle.hs_verdict.specs.Premises.{IsSortedProblem}
use Rattle.hs_verdict.proofs.Arrows.{rest_of, one_at}
use Rattle.hs_verdict.proofs.Failures.{replacement, descent}
use Rattle.hs_verdict.proofs.Bodies.{rules, term, body_at, long_at_body, in_scope}
use Rattle.hs_weak.specs.Strength.{AsStrongAs}
use Rattle.hs_weak.specs.Weak.{WeaklyChosen, done, next_argument, choose}
use Rattle.hs_weak_paths.proofs.Rejected.{FailsIn, IsRejected, AreRejected, as_many, at_place, both, fewer, abstracted, given}
use Rattle.hs_weak_paths.proofs.Strength.{weaker}

module _ (p : ProblemData) (known : IsSortedProblem p) where
  abbrev pub Holds : EntryData → Type 0
  Holds e = (ds : List (Tree Head)) → AreRejected p e.env ds → IsRejected p e.ty (subst (term p known e.point) ds)

  -- a list of entries that hold, and terms that an environment's sets reject
  module _ (E : List EntryData) (hold : (place : ℕ) (e : EntryData) → IsAt p E place e → Holds e) (env : Env) (ds : List (Tree Head)) (have : AreRejected p env ds) where
    abbrev pub with_terms : List ℕ → List (Tree Head)
    with_terms us = children (substs (forest (map (term p known) us)) ds)

    -- the environments of the entries for these arguments are as long as the given one, and it has all that they ask
    abbrev pub AreLong : List ℕ → Type 0
    AreLong us = (n u : ℕ) → slice_get us n ≡ Some u → (e : EntryData) → InShape p e → e.point ≡ u → length e.env ≡ length env

    abbrev pub HasAsked : List EntryData → Type 0
    HasAsked es = (j : ℕ) (a : TypeTree) → j < length env → AnyHas es j a → Has env j a

    pub chosen_rejected : {k : ℕ} {us : List ℕ} {ss : Env} {args : List (ℕ × ℕ)} {es : List EntryData} → WeaklyChosen AsStrongAs p E k us ss args es → AreLong us → HasAsked es
        → AreRejected p ss (with_terms us)
    chosen_rejected done long asked = tt
    chosen_rejected (next_argument c) long asked = (tt, chosen_rejected c (λ n u at. long (suc n) u at) asked)
    chosen_rejected (choose {u = u} {place = place} {e = e} is point strong c) long asked =
        let same_length : length e.env ≡ length env = long 0 u refl e is.shape point in
        let rest = chosen_rejected c long (λ j b lt h. asked j b lt (inr h)) in
        let own = hold place e is ds (fewer p env e.env ds same_length (λ j b m. asked j b (omega (arith, has_within e.env j b m, same_length)) (inl m)) have) in
        ((weaker p strong (subst (term p known u) ds) (along (λ (v : ℕ). IsRejected p e.ty (subst (term p known v) ds)) point own), rest.0), rest.1)

    -- the head of a point in this rule, with arguments that its type's sets reject
    module _ (rule : ℕ) (long_env : length env ≡ params_of p rule) (sets : Env) (t : TypeTree) (args : List (Tree Head)) (fit : AreRejected p sets args) where
      abbrev pub IsWhole : Head → Type 0
      IsWhole h = IsRejected p t (applied (replaced h ds) (forest args))

      abbrev pub Owns : Head → Type 0
      Owns h = (j : ℕ) (a : TypeTree) → j < length env → HeadHas h (arrows sets t) j a → Has env j a

      -- the term for the parameter has the head's type, since the environment asks that
      at_parameter : (x place : ℕ) → FromFlow p E rule x place (arrows sets t) → Owns (Var x) → IsWhole (Var x)
      at_parameter x place f owns =
          let within : x < length env = along (λ (n : ℕ). x < n) (sym long_env) (in_scope p known rule x f.entry.point f.flows) in
          let d = at_place p env ds x (arrows sets t) have (owns x (arrows sets t) within (refl, refl)) in
          along (λ (o : Option (Tree Head)). IsRejected p t (applied (unwrap_or o (node (Var x) none)) (forest args))) (sym d.at) (given p sets t d.term args d.is fit)

      -- Behind the given arguments the head's type has further sets, and then a state. So it is enough that the head fails in this state with all
      -- arguments that fit.
      module _ (all : Env) (q : ℕ) (head : arrows sets t ≡ arrows all (state q)) where
        filled : (u : Tree Head) → ((us : List (Tree Head)) → AreRejected p all (args ++ us) → FailsIn p q (applied u (forest us))) → IsRejected p t u
        filled u full =
            let r = rest_of sets t all q head in
            along (λ (x : TypeTree). IsRejected p x u) (sym r.is)
            (abstracted p r.rest (state q) u (λ us h. full us (along (λ (x : Env). AreRejected p x (args ++ us)) (sym r.split) (both p sets r.rest args us fit h))))

      -- the replacement is a step to the body, whose entry holds
      at_nonterminal : (f place : ℕ) → FromBody p E f place (arrows sets t) → IsWhole (Nt f)
      at_nonterminal f place x =
          let body = body_at p known f x.entry.point x.body in
          filled x.entry.env x.q x.is (node (Nt f) (forest args)) (λ us h.
          let all : List (Tree Head) = args ++ us in
          let long : length all ≡ body.rule.params = as_many p x.entry.env all h ∙ long_at_body p known f x.entry x.holds.shape body in
          let failing : FailsIn p x.q (subst body.rule.body all) =
          along (λ (v : Tree Head). IsRejected p (state x.q) (subst v all)) body.is
          (along (λ (z : TypeTree). IsRejected p z (subst (term p known x.entry.point) all)) x.is_state (hold place x.entry x.holds all h)) in
          record {
            steps = suc failing.steps;
            path = failing.path;
            fails = record {
              label = [];
              rest = failing.path;
              state = x.q;
              term = subst body.rule.body all;
              whole = refl;
              step = replacement (rules p known) p.sorted.automaton.transitions args us x.q f body.rule body.at long;
              holds = failing.fails;
            };
          })

      at_end : (a q : ℕ) → LacksTransition p a q (arrows sets t) → IsWhole (Tm a)
      at_end a q x = filled (replicate (rank_of p a) []) q x.is (node (Tm a) (forest args)) (λ us h. record { steps = 0; path = []; fails = (refl, x.moves) })

      -- the descent is a step to the child, which the set at its place rejects
      at_descent : (a q child : ℕ) → RejectsChild p a q child (arrows sets t) → IsWhole (Tm a)
      at_descent a q child x =
          let asked : Env = set (replicate (length x.qs) []) x.place (state x.r ∷ []) in
          let own : slice_get asked x.place ≡ Some (state x.r ∷ []) = one_at (length x.qs) x.place (state x.r ∷ []) (slice_get_within x.qs x.place x.r x.at) in
          let has : Has asked x.place (state x.r) = along (λ (s : List TypeTree). Contains s (state x.r)) (sym (get_or_from_slice_get asked x.place (state x.r ∷ []) [] own)) (here (state x.r) []) in
          filled asked q x.is (node (Tm a) (forest args)) (λ us h.
          let d = at_place p asked (args ++ us) x.place (state x.r) h has in
          let failing : FailsIn p x.r d.term = d.is in
          record {
            steps = suc failing.steps;
            path = (a, child) ∷ failing.path;
            fails = record {
              label = (a, child) ∷ [];
              rest = failing.path;
              state = x.r;
              term = d.term;
              whole = refl;
              step = descent (rules p known) p.sorted.automaton.transitions args us q a x.qs x.place child x.r d.term x.moves x.at d.at x.counted;
              holds = failing.fails;
            };
          })

      pub by_head : (h : Head) (by : HeadBy) → IsHeadType p E rule h by (arrows sets t) → Owns h → IsWhole h
      by_head (Var x) (Terminal q c) h owns = absurd h
      by_head (Var x) (Rule place) h owns = absurd h
      by_head (Var x) (Param y place) h owns = at_parameter x place h.1 owns
      by_head (Nt f) (Terminal q c) h owns = absurd h
      by_head (Nt f) (Rule place) h owns = at_nonterminal f place h
      by_head (Nt f) (Param y place) h owns = absurd h
      by_head (Tm a) (Terminal q None) h owns = at_end a q h.1
      by_head (Tm a) (Terminal q (Some c)) h owns = at_descent a q c h.1
      by_head (Tm a) (Rule place) h owns = absurd h
      by_head (Tm a) (Param y place) h owns = absurd h
