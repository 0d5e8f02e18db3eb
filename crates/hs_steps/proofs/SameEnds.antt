-- Rules of the same tree come along a path to the same terminal: an automaton can be made that reads on only along this path, and behind
-- it only from one terminal.
use Rattle.std.proofs.Common.{◌≡◌, ◌≢◌, refl, sym, ◌∙◌, ap, ℕ, zero, suc, ◌+◌, ◌<◌, ◌≤◌, inl, inr, List, [], ◌∷◌, ◌++◌, length, replicate, take, drop, slice_get, Option, Some, None, option_map, unwrap_or, arith}
use Rattle.std.proofs.Common.{subst as along}
use Rattle.std.proofs.lemmas.Bool.{eq-eqb, ne_eqb}
use Rattle.std.proofs.lemmas.Bool.Decides.{eqb_tells}
use Rattle.std.proofs.lemmas.List.{length-replicate, get_or-replicate}
use Rattle.std.proofs.lemmas.List.Elements.{All-cons, All-nil}
use Rattle.std.proofs.lemmas.Option.{slice_get_within, slice_get-get_or, slice_get-map, get_or_from_slice_get, same_Some}
use Rattle.hs_scheme.specs.declared.term.Head.{Head}
use Rattle.hs_scheme.specs.declared.term.Head.TheVariants.{Var, Nt, Tm}
use Rattle.hs_scheme.specs.declared.term.Rule.{Rule}
use Rattle.hs_scheme.specs.acceptance.Transition.{TransitionData}
use Rattle.hs_scheme.specs.acceptance.Automaton.{next}
use Rattle.hs_scheme.specs.Tree.{Tree, Trees, node, none, more, join, children, forest}
use Rattle.hs_scheme.specs.acceptance.Replacement.{subst, substs, replaced, applied}
use Rattle.hs_scheme.specs.acceptance.Run.{start}
use Rattle.hs_scheme.specs.Scheme.{AreRules, HeadInRange, TermInRange, TermsInRange}
use Rattle.hs_scheme.specs.sorting.Sorted.{known}
use Rattle.hs_scheme.specs.sorting.Unsorted.{AgreesWithRanks}
use Rattle.hs_scheme.specs.acceptance.Steps.{Path, StepsTo, Reaches, HasNoTransition}
use Rattle.hs_scheme.specs.SameTree.{FailsFromStart, HaveSameTree}
use Rattle.hs_scheme.proofs.Sortings.{known_at}
use Rattle.hs_steps.proofs.Terms.{Unfolding, unfolding_of}
use Rattle.hs_steps.proofs.Sorted.{next_rank}
use Rattle.hs_steps.proofs.PathLemmas.{same_end, same_failure, fails_ends, ends_fails}

-- ---- terms that are met have only terminals of the scheme

module _ (terminals : ℕ) where
  HeadBelow : Head → Type 0
  HeadBelow (Var j) = Unit {0}
  HeadBelow (Nt f) = Unit {0}
  HeadBelow (Tm a) = a < terminals

  mutual
    Below : Tree Head → Type 0
    Below (node h us) = HeadBelow h × AllBelow us

    AllBelow : Trees Head → Type 0
    AllBelow none = Unit {0}
    AllBelow (more u us) = Below u × AllBelow us

  ListBelow : List (Tree Head) → Type 0
  ListBelow [] = Unit {0}
  ListBelow (u ∷ us) = Below u × ListBelow us

  children_below : (us : Trees Head) → AllBelow us → ListBelow (children us)
  unfolding AllBelow ListBelow
  children_below none h = tt
  children_below (more u us) h = (h.0, children_below us h.1)

  forest_below : (us : List (Tree Head)) → ListBelow us → AllBelow (forest us)
  unfolding AllBelow ListBelow
  forest_below [] h = tt
  forest_below (u ∷ us) h = (h.0, forest_below us h.1)

  one_below : (us : List (Tree Head)) (j : ℕ) (u : Tree Head) → ListBelow us → slice_get us j ≡ Some u → Below u
  unfolding ListBelow
  one_below [] j u h at = absurd (cc)
  one_below (x ∷ us) zero u h at = along Below (same_Some x u at) h.0
  one_below (x ∷ us) (suc j) u h at = one_below us j u h.1 at

  take_below : (n : ℕ) (us : List (Tree Head)) → ListBelow us → ListBelow (take n us)
  unfolding ListBelow
  take_below zero us h = tt
  take_below (suc n) [] h = tt
  take_below (suc n) (u ∷ us) h = (h.0, take_below n us h.1)

  drop_below : (n : ℕ) (us : List (Tree Head)) → ListBelow us → ListBelow (drop n us)
  unfolding ListBelow
  drop_below zero us h = h
  drop_below (suc n) [] h = tt
  drop_below (suc n) (u ∷ us) h = drop_below n us h.1

  join_below : (us vs : Trees Head) → AllBelow us → AllBelow vs → AllBelow (join us vs)
  unfolding AllBelow
  join_below none vs h k = k
  join_below (more u us) vs h k = (h.0, join_below us vs h.1 k)

  applied_below : (t : Tree Head) (vs : Trees Head) → Below t → AllBelow vs → Below (applied t vs)
  unfolding Below
  applied_below (node h us) vs b k = (b.0, join_below us vs b.1 k)

  module _ (params rules : ℕ) (ts : List (Tree Head)) (below : ListBelow ts) where
    given_below : (j : ℕ) (o : Option (Tree Head)) → slice_get ts j ≡ o → Below (unwrap_or o (node (Var j) none))
    unfolding Below AllBelow HeadBelow
    given_below j None at = (tt, tt)
    given_below j (Some u) at = one_below ts j u below at

    replaced_below : (h : Head) → HeadInRange params rules terminals h → Below (replaced h ts)
    unfolding Below AllBelow HeadBelow
    replaced_below (Var j) r = given_below j (slice_get ts j) refl
    replaced_below (Nt f) r = (tt, tt)
    replaced_below (Tm a) r = (r, tt)

    mutual
      unfolding AllBelow

      subst_below : (t : Tree Head) → TermInRange params rules terminals t → Below (subst t ts)
      subst_below (node h us) r = applied_below (replaced h ts) (substs us ts) (replaced_below h r.0) (substs_below us r.2)

      substs_below : (us : Trees Head) → TermsInRange params rules terminals us → AllBelow (substs us ts)
      substs_below none r = tt
      substs_below (more u us) r = (subst_below u r.0, substs_below us r.1)

module _ (rules : List Rule) (terminals : ℕ) (are : AreRules rules terminals) (ts : List TransitionData) where
  body_in_range : (f : ℕ) (r : Rule) → slice_get rules f ≡ Some r → TermInRange r.params (length rules) terminals r.body
  body_in_range f r at =
      along (λ (k : Rule). TermInRange k.params (length rules) terminals k.body) (get_or_from_slice_get rules f r r at) (are.bodies f r (slice_get_within rules f r at))

  step_below : (q p : ℕ) (t u : Tree Head) (label : Path) → StepsTo rules ts q t label p u → Below terminals t → Below terminals u
  unfolding Below
  step_below q p (node (Var j) us) u label s b = absurd s
  step_below q p (node (Nt f) us) u label (silent, is, goes) b =
      let un : Unfolding rules f (children us) u = unfolding_of rules f (children us) u goes in
      let args = children_below terminals us b.1 in
      let n = un.rule.params in
      along (Below terminals) un.is
      (applied_below terminals (subst un.rule.body (take n (children us))) (forest (drop n (children us)))
      (subst_below terminals n (length rules) (take n (children us)) (take_below terminals n (children us) args) un.rule.body (body_in_range f un.rule un.at))
      (forest_below terminals (drop n (children us)) (drop_below terminals n (children us) args)))
  step_below q p (node (Tm a) us) u label (qs, e, child) b = one_below terminals (children us) child.place u (children_below terminals us b.1) child.term

  reached_below : (n q p : ℕ) (t u : Tree Head) (path : Path) → Reaches rules ts n q t path p u → Below terminals t → Below terminals u
  reached_below zero q p t u path (e, (is, are)) b = along (Below terminals) are b
  reached_below (suc n) q p t u path l b = reached_below n l.state p l.term u l.rest l.holds (step_below q l.state t l.term l.label l.step b)

  start_below : Below terminals start
  unfolding Below AllBelow HeadBelow
  start_below = (tt, tt)

  pub terminal_within : (n p a : ℕ) (us : Trees Head) (path : Path) → Reaches rules ts n 0 start path p (node (Tm a) us) → a < terminals
  unfolding Below HeadBelow
  terminal_within n p a us path r = (reached_below n 0 p start (node (Tm a) us) path r start_below).0

-- ---- an automaton that reads along a path

module _ (ranks : List ℕ) where
  rank : ℕ → ℕ
  rank a = unwrap_or (slice_get ranks a) 0

  to_next : ℕ → ℕ → TransitionData
  to_next k a = record { from = k; terminal = a; to = replicate (rank a) (suc k) }

  -- at the place k of the path it is in state k; `behind` says how it reads on at the end
  module _ (behind : ℕ → List TransitionData) where
    trail : ℕ → Path → List TransitionData
    trail k [] = behind k
    trail k ((a, i) ∷ path) = to_next k a ∷ trail (suc k) path

  end : ℕ → Path → ℕ
  end k [] = k
  end k (s ∷ path) = end (suc k) path

  not_before : (k : ℕ) (path : Path) → k ≤ end k path
  unfolding end
  not_before k [] = omega arith
  not_before k (s ∷ path) = omega (arith, not_before (suc k) path)

  -- the automaton reads on along the path, from the place k
  Reads : List TransitionData → ℕ → Path → Type 0
  Reads l k [] = Unit {0}
  Reads l k ((a, i) ∷ path) = (next l k a ≡ Some (replicate (rank a) (suc k))) × Reads l (suc k) path

  next_past : (t : TransitionData) (l : List TransitionData) (q a : ℕ) → t.from < q → next (t ∷ l) q a ≡ next l q a
  next_past t l q a lt = rw (ne_eqb t.from q (λ e. omega (arith, lt, e)))

  next_first : (t : TransitionData) (l : List TransitionData) → next (t ∷ l) t.from t.terminal ≡ Some t.to
  next_first t l = rw (eq-eqb t.from t.from refl, eq-eqb t.terminal t.terminal refl)

  reads_past : (t : TransitionData) (l : List TransitionData) (k : ℕ) (path : Path) → t.from < k → Reads l k path → Reads (t ∷ l) k path
  unfolding Reads
  reads_past t l k [] lt h = tt
  reads_past t l k ((a, i) ∷ path) lt h = (next_past t l k a lt ∙ h.0, reads_past t l (suc k) path (omega (arith, lt)) h.1)

  trail_reads : (behind : ℕ → List TransitionData) (k : ℕ) (path : Path) → Reads (trail behind k path) k path
  unfolding Reads trail to_next
  trail_reads behind k [] = tt
  trail_reads behind k ((a, i) ∷ path) =
      (next_first (to_next k a) (trail behind (suc k) path), reads_past (to_next k a) (trail behind (suc k) path) (suc k) path (omega arith) (trail_reads behind (suc k) path))

  trail_end : (behind : ℕ → List TransitionData) (k : ℕ) (path : Path) (b : ℕ) → next (trail behind k path) (end k path) b ≡ next (behind (end k path)) (end k path) b
  unfolding trail end to_next
  trail_end behind k [] b = refl
  trail_end behind k ((a, i) ∷ path) b =
      next_past (to_next k a) (trail behind (suc k) path) (end (suc k) path) b (omega (arith, not_before (suc k) path)) ∙ trail_end behind (suc k) path b

  -- the terminals on the path have these ranks
  AreKnown : Path → Type 0
  AreKnown [] = Unit {0}
  AreKnown ((a, i) ∷ path) = (slice_get (known ranks) a ≡ Some (Some (rank a))) × AreKnown path

  rank_known : (a n : ℕ) → slice_get (known ranks) a ≡ Some (Some n) → rank a ≡ n
  unfolding rank
  rank_known a n e = ap (λ x. unwrap_or x 0) (known_at ranks a n e)

  known_rank : (a : ℕ) → a < length ranks → slice_get (known ranks) a ≡ Some (Some (rank a))
  unfolding rank
  known_rank a lt = by_rank (slice_get ranks a) refl
    where
      by_rank : (o : Option ℕ) → slice_get ranks a ≡ o → slice_get (known ranks) a ≡ Some (Some (unwrap_or o 0))
      by_rank None at = absurd (cc (at, slice_get-get_or ranks a 0 lt))
      by_rank (Some n) at = slice_get-map (λ m. Some m) ranks a ∙ ap (option_map (λ (m : ℕ). Some m)) at

  agrees : (behind : ℕ → List TransitionData) (k : ℕ) (path : Path) → AreKnown path → AgreesWithRanks (known ranks) (behind (end k path)) → AgreesWithRanks (known ranks) (trail behind k path)
  unfolding trail end to_next AreKnown
  agrees behind k [] h own = own
  agrees behind k ((a, i) ∷ path) h own =
      All-cons (λ (t : TransitionData). slice_get (known ranks) t.terminal ≡ Some (Some (length t.to))) (to_next k a) (trail behind (suc k) path)
      (h.0 ∙ ap (λ n. Some (Some n)) (sym (length-replicate (rank a) (suc k)))) (agrees behind (suc k) path h.1 own)

  module _ (rules : List Rule) where
    module _ (ts : List TransitionData) (agree : AgreesWithRanks (known ranks) ts) where
      known_way : (n q p : ℕ) (t u : Tree Head) (path : Path) → Reaches rules ts n q t path p u → AreKnown path
      unfolding AreKnown
      known_way zero q p t u path (e, rest) = along AreKnown (sym e) tt
      known_way (suc n) q p (node (Var j) us) u path l = absurd l.step
      known_way (suc n) q p (node (Nt f) us) u path l =
          along AreKnown (sym (l.whole ∙ ap (λ x. x ++ l.rest) l.step.0)) (known_way n l.state p l.term u l.rest l.holds)
      known_way (suc n) q p (node (Tm a) us) u path l =
          let e = next_rank (known ranks) ts q a l.step.0 agree l.step.1 in
          along AreKnown (sym (l.whole ∙ ap (λ x. x ++ l.rest) l.step.2.labelled))
          (e ∙ ap (λ n. Some (Some n)) (sym (rank_known a (length l.step.0) e)), known_way n l.state p l.term u l.rest l.holds)

      -- another automaton that reads on along the path comes to the same term
      module _ (other : List TransitionData) where
        retraced : (n k q p : ℕ) (t u : Tree Head) (path : Path) → Reads other k path → Reaches rules ts n q t path p u → Reaches rules other n k t path (end k path) u
        unfolding Reads end
        retraced zero k q p t u path h (e, (is, are)) = (e, (ap (end k) (sym e), are))
        retraced (suc n) k q p (node (Var j) us) u path h l = absurd l.step
        retraced (suc n) k q p (node (Nt f) us) u path h l =
            let is : path ≡ l.rest = l.whole ∙ ap (λ x. x ++ l.rest) l.step.0 in
            let below : Reaches rules other n k l.term l.rest (end k path) u =
            along (λ x. Reaches rules other n k l.term l.rest (end k x) u) (sym is) (retraced n k l.state p l.term u l.rest (along (Reads other k) is h) l.holds) in
            record { label = []; rest = l.rest; state = k; term = l.term; whole = is; step = (refl, refl, l.step.2); holds = below }
        retraced (suc n) k q p (node (Tm a) us) u path h l =
            let child = l.step.2 in
            let is : path ≡ (a, child.place + 1) ∷ l.rest = l.whole ∙ ap (λ x. x ++ l.rest) child.labelled in
            let reads = along (Reads other k) is h in
            let r = rank_known a (length l.step.0) (next_rank (known ranks) ts q a l.step.0 agree l.step.1) in
            let lt : child.place < rank a = omega (arith, r, slice_get_within l.step.0 child.place l.state child.state) in
            let below : Reaches rules other n (suc k) l.term l.rest (end k path) u =
            along (λ x. Reaches rules other n (suc k) l.term l.rest (end k x) u) (sym is) (retraced n (suc k) l.state p l.term u l.rest reads.1 l.holds) in
            record {
              label = l.label;
              rest = l.rest;
              state = suc k;
              term = l.term;
              whole = l.whole;
              step = (
                replicate (rank a) (suc k),
                reads.0,
                record {
                  place = child.place;
                  labelled = child.labelled;
                  state = in_row (rank a) child.place (suc k) lt;
                  term = child.term;
                },
              );
              holds = below;
            }
          where
            in_row : (n j x : ℕ) → j < n → slice_get (replicate n x) j ≡ Some x
            in_row n j x lt =
                slice_get-get_or (replicate n x) j x (omega (arith, lt, length-replicate n x)) ∙ ap (λ (y : ℕ). Some y) (get_or-replicate n j x x lt)

-- ---- the state at the end of a path is determined by the path

module _ (ts : List TransitionData) where
  -- from the state along the path to the other
  Turns : ℕ → Path → ℕ → Type 0
  Turns q [] p = q ≡ p
  Turns q ((a, i) ∷ path) p = (qs : List ℕ) × (j : ℕ) × (s : ℕ) × (next ts q a ≡ Some qs) × (i ≡ j + 1) × (slice_get qs j ≡ Some s) × Turns s path p

  turns : (rules : List Rule) (n q p : ℕ) (t u : Tree Head) (path : Path) → Reaches rules ts n q t path p u → Turns q path p
  unfolding Turns
  turns rules zero q p t u path (e, (is, are)) = along (λ x. Turns q x p) (sym e) is
  turns rules (suc n) q p (node (Var j) us) u path l = absurd l.step
  turns rules (suc n) q p (node (Nt f) us) u path l =
      along (λ x. Turns q x p) (sym (l.whole ∙ ap (λ x. x ++ l.rest) l.step.0)) (along (λ x. Turns x l.rest p) l.step.1 (turns rules n l.state p l.term u l.rest l.holds))
  turns rules (suc n) q p (node (Tm a) us) u path l =
      along (λ x. Turns q x p) (sym (l.whole ∙ ap (λ x. x ++ l.rest) l.step.2.labelled))
      (l.step.0, l.step.2.place, l.state, l.step.1, refl, l.step.2.state, turns rules n l.state p l.term u l.rest l.holds)

  one_turn : (q p r : ℕ) (path : Path) → Turns q path p → Turns q path r → p ≡ r
  unfolding Turns
  one_turn q p r [] h k = sym h ∙ k
  one_turn q p r ((a, i) ∷ path) (qs, j, s, e, is, at, more_turns) (qs', j', s', e', is', at', others) =
      let rows : qs ≡ qs' = same_Some qs qs' (sym e ∙ e') in
      let places : j ≡ j' = omega (arith, is, is') in
      let states : s ≡ s' = same_Some s s' (sym at ∙ ((λ x. slice_get (rows x) (places x)) ∙ at')) in
      one_turn s' p r path (along (λ x. Turns x path p) states more_turns) others

-- ---- the law

module _ (ranks : List ℕ) (rules others : List Rule) (are : AreRules rules (length ranks)) (same : HaveSameTree ranks rules others) (ts : List TransitionData) (agree : AgreesWithRanks (known ranks) ts)
    (n p a : ℕ) (us : Trees Head) (path : Path) (reach : Reaches rules ts n 0 start path p (node (Tm a) us)) (stuck : next ts p a ≡ None) where
  abbrev EndsAlike : Type 0
  EndsAlike = (m : ℕ) × (vs : Trees Head) × Reaches others ts m 0 start path p (node (Tm a) vs)

  last : ℕ
  last = end ranks 0 path

  nothing : ℕ → List TransitionData
  nothing k = []

  only : ℕ → List TransitionData
  only k = record { from = k; terminal = a; to = replicate (rank ranks a) 0 } ∷ []

  -- it reads on nowhere at the end, or only from the terminal a
  ends_there : List TransitionData
  ends_there = trail ranks nothing 0 path

  goes_on : List TransitionData
  goes_on = trail ranks only 0 path

  known_last : slice_get (known ranks) a ≡ Some (Some (rank ranks a))
  known_last = known_rank ranks a (terminal_within rules (length ranks) are ts n p a us path reach)

  known_path : AreKnown ranks path
  known_path = known_way ranks rules ts agree n 0 p start (node (Tm a) us) path reach

  goes_on_agrees : AgreesWithRanks (known ranks) goes_on
  unfolding goes_on only
  goes_on_agrees =
      agrees ranks only 0 path known_path
      (All-cons (λ (t : TransitionData). slice_get (known ranks) t.terminal ≡ Some (Some (length t.to))) (record { from = end ranks 0 path; terminal = a; to = replicate (rank ranks a) 0 }) []
      (known_last ∙ ap (λ k. Some (Some k)) (sym (length-replicate (rank ranks a) 0))) (All-nil (λ (t : TransitionData). slice_get (known ranks) t.terminal ≡ Some (Some (length t.to)))))

  nowhere : (b : ℕ) → next ends_there last b ≡ None
  unfolding ends_there last nothing
  nowhere b = trail_end ranks nothing 0 path b

  from_last : next goes_on last a ≡ Some (replicate (rank ranks a) 0)
  unfolding goes_on last only
  from_last = trail_end ranks only 0 path a ∙ next_first ranks (record { from = end ranks 0 path; terminal = a; to = replicate (rank ranks a) 0 }) []

  from_no_other : (b : ℕ) → a ≢ b → next goes_on last b ≡ None
  unfolding goes_on last only
  from_no_other b apart = trail_end ranks only 0 path b ∙ rw (eq-eqb (end ranks 0 path) (end ranks 0 path) refl, ne_eqb a b apart)

  -- another terminal at the end of the others' path would be one from which that automaton doesn't read on, though it does from a
  module _ (m q b : ℕ) (vs : Trees Head) (there : Reaches others ts m 0 start path q (node (Tm b) vs)) (apart : a ≢ b) where
    fails_there : FailsFromStart others goes_on 0 path
    unfolding goes_on last
    fails_there = (m, ends_fails others goes_on m 0 start path (last, node (Tm b) vs, retraced ranks others ts agree goes_on m 0 0 q start (node (Tm b) vs) path (trail_reads ranks only 0 path) there, from_no_other b apart))

    fails_here : FailsFromStart rules goes_on 0 path
    fails_here = (same goes_on goes_on_agrees 0 path).1 fails_there

    stops : (k : ℕ) (w : Tree Head) → Reaches rules goes_on k 0 start path last w → HasNoTransition goes_on last w → ⊥
    unfolding ends_there goes_on last
    stops k (node (Var j) ws) r h = h
    stops k (node (Nt f) ws) r h = h
    stops k (node (Tm d) ws) r h =
        let reads = trail_reads ranks nothing 0 path in
        let one = retraced ranks rules ts agree ends_there n 0 0 p start (node (Tm a) us) path reads reach in
        let two = retraced ranks rules goes_on goes_on_agrees ends_there k 0 0 last start (node (Tm d) ws) path reads r in
        let f = ends_fails rules ends_there n 0 start path (last, node (Tm a) us, one, nowhere a) in
        let g = ends_fails rules ends_there k 0 start path (last, node (Tm d) ws, two, nowhere d) in
        let steps : n ≡ k = (same_failure rules ends_there n k 0 start path path refl f g).0 in
        let terms : node (Tm a) us ≡ node (Tm d) ws =
        (same_end rules ends_there k 0 last last start (node (Tm a) us) (node (Tm d) ws) path path refl (along (λ x. Reaches rules ends_there x 0 start path last (node (Tm a) us)) steps one) two).2 in
        let heads : a ≡ d = same_terminal a d us ws terms in
        some_not_none (replicate (rank ranks a) 0) (sym from_last ∙ (ap (next goes_on last) heads ∙ h))
      where
        same_terminal : (x y : ℕ) (xs ys : Trees Head) → node (Tm x) xs ≡ node (Tm y) ys → x ≡ y
        same_terminal x y xs ys e = (cc)

        some_not_none : (x : List ℕ) → Some x ≡ None → ⊥
        some_not_none x e = (cc)

    contradiction : ⊥
    unfolding goes_on last
    contradiction =
        let e = fails_ends rules goes_on fails_here.0 0 start path fails_here.1 in
        let again = retraced ranks rules goes_on goes_on_agrees goes_on fails_here.0 0 0 e.0 start e.1 path (trail_reads ranks only 0 path) e.2 in
        let states : e.0 ≡ last = (same_end rules goes_on fails_here.0 0 e.0 last start e.1 e.1 path path refl e.2 again).1 in
        stops fails_here.0 e.1 again (along (λ x. HasNoTransition goes_on x e.1) states e.3)

  same_terminal_there : (m q : ℕ) (v : Tree Head) → Reaches others ts m 0 start path q v → HasNoTransition ts q v → EndsAlike
  same_terminal_there m q (node (Var j) vs) r h = absurd h
  same_terminal_there m q (node (Nt f) vs) r h = absurd h
  same_terminal_there m q (node (Tm b) vs) r h =
      let states : q ≡ p = one_turn ts 0 q p path (turns ts others m 0 q start (node (Tm b) vs) path r) (turns ts rules n 0 p start (node (Tm a) us) path reach) in
      elim (eqb_tells a b) [
        | inl is ↦ (m, vs, along (λ x. Reaches others ts m 0 start path p (node (Tm x) vs)) (sym is.1) (along (λ x. Reaches others ts m 0 start path x (node (Tm b) vs)) states r))
        | inr apart ↦ absurd (contradiction m q b vs r apart.1)
      ]

  pub ends_alike : EndsAlike
  ends_alike =
      let f = (same ts agree 0 path).0 (n, ends_fails rules ts n 0 start path (p, node (Tm a) us, reach, stuck)) in
      let e = fails_ends others ts f.0 0 start path f.1 in
      same_terminal_there f.0 e.0 e.1 e.2 e.3
