-- A place of a log realizes its entry where the places before it do.
use Rattle.std.proofs.Common.{◌≡◌, refl, sym, ◌∙◌, ap, ℕ, suc, ◌+◌, ◌<◌, false, nat_eq, List, [], ◌∷◌, ◌++◌, map, take, length, replicate, set, slice_get, Option, Some, None, unwrap_or, arith, inl, inr, if◌then◌else◌}
use Rattle.std.proofs.Common.{subst as along}
use Rattle.std.proofs.lemmas.Bool.{eq-eqb}
use Rattle.std.proofs.lemmas.Option.{slice_get_within, same_Some, get_or_from_slice_get}
use Rattle.hs_scheme.specs.declared.term.Head.{Head}
use Rattle.hs_scheme.specs.declared.term.Head.TheVariants.{Var, Nt, Tm}
use Rattle.hs_scheme.specs.Tree.{Tree, node, none, join, forest}
use Rattle.hs_scheme.specs.acceptance.Replacement.{subst, applied, replaced}
use Rattle.hs_scheme.specs.Problem.{ProblemData}
use Rattle.hs_table.specs.declared.support.HeadBy.{HeadBy}
use Rattle.hs_table.specs.declared.support.HeadBy.TheVariants.{Terminal, Rule, Param}
use Rattle.hs_table.specs.Types.{TypeTree, state, arrows}
use Rattle.hs_table.specs.Entries.{Env, EntryData, Has, InShape, params_of, entry_at}
use Rattle.hs_table.specs.Follows.{rank_of, LacksTransition, RejectsChild, IsAt, FromBody, FromFlow, IsHeadType, HeadHas, Chosen, done, next_argument, choose, AnyHas, Support}
use Rattle.hs_table_laws.proofs.Places.{at_take}
use Rattle.hs_verdict.specs.Premises.{IsSortedProblem}
use Rattle.hs_verdict.specs.Evidence.{Evidence, Packs, Pack, evidence, no_packs, put, also, stacked, first, pack_at, child_pack, own_evidence, packs_for}
use Rattle.hs_verdict.specs.Naming.{terminal_of, chosen_pack, argument_packs}
use Rattle.hs_verdict.specs.Leading.{LeadsBy, Leads}
use Rattle.hs_verdict.proofs.Arrows.{rest_of, one_at}
use Rattle.hs_verdict.proofs.Failures.{replacement, descent}
use Rattle.hs_verdict.proofs.Bodies.{rules, term, body_at, long_at_body, in_scope}
use Rattle.hs_verdict.proofs.Realizing.{stacked_none, Ends, Realizes, RealizesEach, RealizesAll, moved, silent, push, given, at_parameter, all_given, all_append, all_length, at_child}

child_is : (packs : Packs) (child place : ℕ) → child ≡ place + 1 → child_pack packs child ≡ pack_at packs place
child_is packs child place e = let same : child ≡ suc place = omega (arith, e) in ap (child_pack packs) same

-- the places of arguments before the first one, or behind it, don't matter to its pack
module _ (give : ℕ → Evidence) where
  own_pack : (k place : ℕ) (args : List (ℕ × ℕ)) → chosen_pack give k ((k, place) ∷ args) ≡ also (give place) (chosen_pack give k args)
  own_pack k place args = ap (λ b. if b then also (give place) (chosen_pack give k args) else chosen_pack give k args) (eq-eqb k k refl)

  other_pack : (k i place : ℕ) (args : List (ℕ × ℕ)) → i < k → chosen_pack give k ((i, place) ∷ args) ≡ chosen_pack give k args
  other_pack k i place args lt = ap (λ b. if b then also (give place) (chosen_pack give k args) else chosen_pack give k args) (differ i k lt)
    where
      differ : (m n : ℕ) → m < n → nat_eq m n ≡ false
      differ m n lt = grind (arith, lt)

  other_packs : (k i place : ℕ) (us : List ℕ) (args : List (ℕ × ℕ)) → i < k → argument_packs give k us ((i, place) ∷ args) ≡ argument_packs give k us args
  other_packs k i place [] args lt = refl
  other_packs k i place (u ∷ us) args lt = λ j. put (other_pack k i place args lt j) (other_packs (suc k) i place us args (omega arith) j)

module _ (p : ProblemData) (T : List EntryData) (supports : List Support) (known : IsSortedProblem p) where
  abbrev pub at_args : List (Tree Head) → List ℕ → List (Tree Head)
  at_args ds us = map (λ u. subst (term p known u) ds) us

  -- the place realizes its entry
  abbrev pub Good : ℕ → Type 0
  Good place = (e : EntryData) → slice_get T place ≡ Some e → (ds : List (Tree Head)) (own : Packs) → RealizesAll p T supports e.env ds own
      → Realizes p T supports e.ty (subst (term p known e.point) ds) (evidence place own) no_packs

  module _ (i : ℕ) (good : (m : ℕ) → m < i → Good m) (env : Env) (ds : List (Tree Head)) (own : Packs) (have : RealizesAll p T supports env ds own) where
    -- the evidence of a premise, made of the place's own
    abbrev pub premise : ℕ → Evidence
    premise m = evidence m (packs_for (own_evidence env own) 0 (entry_at T m).env)

    premise_realizes : (m : ℕ) (e : EntryData) → IsAt p (take i T) m e → length e.env ≡ length env → ((j : ℕ) (a : TypeTree) → j < length env → Has e.env j a → Has env j a)
        → Realizes p T supports e.ty (subst (term p known e.point) ds) (premise m) no_packs
    premise_realizes m e is long asked =
        let b = at_take i T m e is.at in
        let same : entry_at T m ≡ e = get_or_from_slice_get T m e _ b.1 in
        let long_ds : length ds ≡ length env = all_length p T supports env ds own have in
        let all : RealizesAll p T supports e.env ds (packs_for (own_evidence env own) 0 e.env) =
        all_given p T supports (own_evidence env own) 0 e.env ds (long_ds ∙ sym long) (λ j a d at_j m.
        let lt : j < length env = omega (arith, slice_get_within ds j d at_j, long_ds) in
        let g = at_parameter p T supports env ds own j a have (asked j a lt m) in
        let first_j : j ≡ 0 + j = omega arith in
        along (λ (k : ℕ). Realizes p T supports a d (own_evidence env own k a) no_packs) first_j
        (along (λ (t : Tree Head). Realizes p T supports a t (own_evidence env own j a) no_packs) (same_Some g.0 d (sym g.1.0 ∙ at_j)) g.1.1)) in
        along (λ (x : EntryData). Realizes p T supports e.ty (subst (term p known e.point) ds) (evidence m (packs_for (own_evidence env own) 0 x.env)) no_packs) (sym same)
        (good m b.0 e b.1 ds (packs_for (own_evidence env own) 0 e.env) all)

    abbrev Long : List ℕ → Type 0
    Long us = (n u : ℕ) → slice_get us n ≡ Some u → (e : EntryData) → InShape p e → e.point ≡ u → length e.env ≡ length env

    abbrev Asked : List EntryData → Type 0
    Asked es = (j : ℕ) (a : TypeTree) → j < length env → AnyHas es j a → Has env j a

    one_more : (k u m : ℕ) (us : List ℕ) (a : TypeTree) (s : List TypeTree) (ss : Env) (args : List (ℕ × ℕ))
        → Realizes p T supports a (subst (term p known u) ds) (premise m) no_packs
        → RealizesAll p T supports (s ∷ ss) (at_args ds (u ∷ us)) (argument_packs premise k (u ∷ us) args)
        → RealizesAll p T supports ((a ∷ s) ∷ ss) (at_args ds (u ∷ us)) (argument_packs premise k (u ∷ us) ((k, m) ∷ args))
    one_more k u m us a s ss args r (h, hs) = (
      along (λ (x : Pack). RealizesEach p T supports (forest (a ∷ s)) (subst (term p known u) ds) x) (sym (own_pack premise k m args)) (r, h),
      along (λ (x : Packs). RealizesAll p T supports ss (at_args ds us) x) (sym (other_packs premise (suc k) k m us args (omega arith))) hs,
    )

    pub chosen_realize : {k : ℕ} {us : List ℕ} {ss : Env} {args : List (ℕ × ℕ)} {es : List EntryData} → Chosen p (take i T) k us ss args es → Long us → Asked es
        → RealizesAll p T supports ss (at_args ds us) (argument_packs premise k us args)
    chosen_realize done long asked = tt
    chosen_realize (next_argument c) long asked = (tt, chosen_realize c (λ n u at. long (suc n) u at) asked)
    chosen_realize (choose {i = k} {u = u} {place = m} {us = us} {a = a} {s = s} {ss = ss} {args = args} {e = e} is point ty c) long asked =
        let r = premise_realizes m e is (long 0 u refl e is.shape point) (λ j b lt h. asked j b lt (inl h)) in
        one_more k u m us a s ss args
        (along (λ (v : ℕ). Realizes p T supports a (subst (term p known v) ds) (premise m) no_packs) point
        (along (λ (t : TypeTree). Realizes p T supports t (subst (term p known e.point) ds) (premise m) no_packs) ty r))
        (chosen_realize c long (λ j b lt h. asked j b lt (inr h)))

    -- the head of a place, with the arguments and the packs that its choice gives; `go` is one move of the naming there
    module _ (rule : ℕ) (long_env : length env ≡ params_of p rule) (sets : Env) (t : TypeTree) (args : List (Tree Head)) (packs : Packs) (fit : RealizesAll p T supports sets args packs) where
      abbrev pub Goes : Head → HeadBy → Type 0
      Goes h by = (moves q : ℕ) (t : Tree Head) (stack : Packs)
          → LeadsBy p (Leads p T supports moves) by (terminal_of h) (λ x m. own_evidence env own x (entry_at T m).ty) q t (stacked packs stack)
          → Leads p T supports (suc moves) q t (evidence i own) stack

      abbrev pub Whole : Head → Type 0
      Whole h = Realizes p T supports t (applied (replaced h ds) (forest args)) (evidence i own) no_packs

      abbrev pub Owns : Head → Type 0
      Owns h = (j : ℕ) (a : TypeTree) → j < length env → HeadHas h (arrows sets t) j a → Has env j a

      at_variable : (x y m : ℕ) → y ≡ x → FromFlow p (take i T) rule x m (arrows sets t) → Owns (Var x) → Goes (Var x) (Param y m) → Whole (Var x)
      at_variable x y m same f owns go =
          let b = at_take i T m f.entry f.holds.at in
          let is : entry_at T m ≡ f.entry = get_or_from_slice_get T m f.entry _ b.1 in
          let lt : x < length env = along (λ (n : ℕ). x < n) (sym long_env) (in_scope p known rule x f.entry.point f.flows) in
          let d = at_parameter p T supports env ds own x (arrows sets t) have (owns x (arrows sets t) lt (refl, refl)) in
          let ev : Evidence = own_evidence env own y (entry_at T m).ty in
          let same_ev : own_evidence env own x (arrows sets t) ≡ ev = λ k. own_evidence env own (sym same k) ((f.is ∙ ap (λ (e : EntryData). e.ty) (sym is)) k) in
          let r : Realizes p T supports (arrows sets t) d.0 ev no_packs = along (λ (e : Evidence). Realizes p T supports (arrows sets t) d.0 e no_packs) same_ev d.1.1 in
          let g : Realizes p T supports t (applied d.0 (forest args)) ev packs = given p T supports sets t d.0 ev no_packs args packs r fit in
          silent p T supports t (applied (replaced (Var x) ds) (forest args)) (evidence i own) ev packs no_packs (λ moves q t stack n. go moves q t stack n)
          (moved p T supports t (applied d.0 (forest args)) (applied (replaced (Var x) ds) (forest args)) ev packs (stacked packs no_packs)
          (ap (λ (o : Option (Tree Head)). applied (unwrap_or o (node (Var x) none)) (forest args)) (sym d.1.0)) (sym (stacked_none packs)) g)

      -- with the rest of the head type's sets, a state is left
      module _ (all : Env) (q : ℕ) (head : arrows sets t ≡ arrows all (state q)) where
        abbrev Full : Tree Head → Type 0
        Full u = (us : List (Tree Head)) (qs : Packs) → RealizesAll p T supports all (args ++ us) (stacked packs qs) → Ends p T supports q (applied u (forest us)) (evidence i own) qs

        filled : (u : Tree Head) → Full u → Realizes p T supports t u (evidence i own) no_packs
        filled u full =
            let r = rest_of sets t all q head in
            along (λ (x : TypeTree). Realizes p T supports x u (evidence i own) no_packs) (sym r.is)
            (push p T supports r.rest (state q) u (evidence i own) no_packs (λ us qs h. full us qs
            (along (λ (x : Env). RealizesAll p T supports x (args ++ us) (stacked packs qs)) (sym r.split) (all_append p T supports sets r.rest args us packs qs fit h))))

      at_nonterminal : (f m : ℕ) → FromBody p (take i T) f m (arrows sets t) → Goes (Nt f) (Rule m) → Whole (Nt f)
      at_nonterminal f m x go =
          let b = at_take i T m x.entry x.holds.at in
          let body = body_at p known f x.entry.point x.body in
          filled x.entry.env x.q x.is (node (Nt f) (forest args)) (λ us qs h.
          let all : List (Tree Head) = args ++ us in
          let long : length all ≡ body.rule.params = all_length p T supports x.entry.env all (stacked packs qs) h ∙ long_at_body p known f x.entry x.holds.shape body in
          let ends : Ends p T supports x.q (subst body.rule.body all) (evidence m (stacked packs qs)) no_packs =
          along (λ (v : Tree Head). Realizes p T supports (state x.q) (subst v all) (evidence m (stacked packs qs)) no_packs) body.is
          (along (λ (z : TypeTree). Realizes p T supports z (subst (term p known x.entry.point) all) (evidence m (stacked packs qs)) no_packs) x.is_state
          (good m b.0 x.entry b.1 all (stacked packs qs) h)) in
          let whole : Tree Head = node (Nt f) (join (forest args) (forest us)) in
          let step = replacement (rules p known) p.sorted.automaton.transitions args us x.q f body.rule body.at long in
          record { moves = suc ends.moves; leads = go ends.moves x.q whole qs (subst body.rule.body all, step, ends.leads) })

      at_end : (a q : ℕ) → LacksTransition p a q (arrows sets t) → Goes (Tm a) (Terminal q None) → Whole (Tm a)
      at_end a q x go = filled (replicate (rank_of p a) []) q x.is (node (Tm a) (forest args)) (λ us qs h. record {
        moves = 1;
        leads = go 0 q (node (Tm a) (join (forest args) (forest us))) qs (refl, (join (forest args) (forest us), refl), x.moves);
      })

      at_descent : (a q child : ℕ) → RejectsChild p a q child (arrows sets t) → Goes (Tm a) (Terminal q (Some child)) → Whole (Tm a)
      at_descent a q child x go = filled (set (replicate (length x.qs) []) x.place (state x.r ∷ [])) q x.is (node (Tm a) (forest args)) (λ us qs h.
          let all : Packs = stacked packs qs in
          let d = at_child p T supports (set (replicate (length x.qs) []) x.place (state x.r ∷ [])) (args ++ us) all x.place (state x.r) h (one_at (length x.qs) x.place (state x.r ∷ []) (slice_get_within x.qs x.place x.r x.at)) in
          let ends : Ends p T supports x.r d.0 (first (child_pack all child)) no_packs =
          along (λ (y : Pack). Ends p T supports x.r d.0 (first y) no_packs) (sym (child_is all child x.place x.counted)) d.1.1 in
          let whole : Tree Head = node (Tm a) (join (forest args) (forest us)) in
          let step = descent (rules p known) p.sorted.automaton.transitions args us q a x.qs x.place child x.r d.0 x.moves x.at d.1.0 x.counted in
          record { moves = suc ends.moves; leads = go ends.moves q whole qs (x.r, d.0, step, ends.leads) })

      pub by_head : (h : Head) (by : HeadBy) → IsHeadType p (take i T) rule h by (arrows sets t) → Owns h → Goes h by → Whole h
      by_head (Var x) (Terminal q c) h owns go = absurd h
      by_head (Var x) (Rule m) h owns go = absurd h
      by_head (Var x) (Param y m) h owns go = at_variable x y m h.0 h.1 owns go
      by_head (Nt f) (Terminal q c) h owns go = absurd h
      by_head (Nt f) (Rule m) h owns go = at_nonterminal f m h go
      by_head (Nt f) (Param y m) h owns go = absurd h
      by_head (Tm a) (Terminal q None) h owns go = at_end a q h.1 go
      by_head (Tm a) (Terminal q (Some c)) h owns go = at_descent a q c h.1 go
      by_head (Tm a) (Rule m) h owns go = absurd h
      by_head (Tm a) (Param y m) h owns go = absurd h
