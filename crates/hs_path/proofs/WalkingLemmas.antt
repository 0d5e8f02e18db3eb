-- A walk goes on with each move of the naming, and what it comes to.
use Rattle.std.proofs.Common.{◌≡◌, refl, sym, ◌∙◌, ap, subst as along, ℕ, zero, suc, ◌+◌, ◌<◌, ◌≤◌, List, [], ◌∷◌, ◌++◌, append_assoc, append-nil, length, slice_get, Option, Some, None, arith, inl, inr}
use Rattle.std.proofs.lemmas.Bool.{cases_order}
use Rattle.std.proofs.lemmas.Option.{slice_get_within, get_or_from_slice_get}
use Rattle.hs_table_laws.proofs.Least.{starts_same}
use Rattle.hs_scheme.specs.declared.term.Head.{Head}
use Rattle.hs_scheme.specs.declared.term.Head.TheVariants.{Var, Nt, Tm}
use Rattle.hs_scheme.specs.Tree.{Tree, Trees, node}
use Rattle.hs_scheme.specs.Problem.{ProblemData}
use Rattle.hs_scheme.specs.acceptance.Run.{start}
use Rattle.hs_scheme.specs.acceptance.Steps.{Path, StepsTo, Reaches, HasNoTransition}
use Rattle.hs_steps.proofs.PathLemmas.{one_more}
use Rattle.hs_table.specs.declared.support.HeadBy.{HeadBy}
use Rattle.hs_table.specs.declared.support.HeadBy.TheVariants.{Terminal, Rule, Param}
use Rattle.hs_table.specs.Entries.{EntryData}
use Rattle.hs_table.specs.Follows.{Support}
use Rattle.hs_table.specs.Tables.{HasSupports}
use Rattle.hs_verdict.specs.Evidence.{Evidence, Packs, evidence, no_packs, first, child_pack}
use Rattle.hs_verdict.specs.Naming.{support_at, Move, Named, IsFirstStart, NamesPath}
use Rattle.hs_verdict.specs.Leading.{LeadsBy as Led, Leads, StartLeads}
use Rattle.hs_verdict.proofs.Ending.{named_and_fails}
use Rattle.hs_core.specs.Core.{StartsAt}
use Rattle.hs_scheme.specs.acceptance.FailingPath.{FailingPathData}
use Rattle.hs_path.specs.declared.evidence.Store.{Store}
use Rattle.hs_path.specs.declared.evidence.Continuation.{Continuation}
use Rattle.hs_path.specs.Stored.{Piled, GrowsStore, Nothing}
use Rattle.hs_path.specs.Moved.{IsContinuationAt, owns, stack_at, terminal_at, IsStepBy, IsSilentTo, IsStepTo}
use Rattle.hs_path.specs.Walked.{IsNamedPath, IsLongerPath}
use Rattle.hs_path.specs.Walking.{listed, IsWalking}
use Rattle.hs_path.proofs.StoredLemmas.{stands_grow}

module _ (p : ProblemData) (T : List EntryData) (supports : List Support) where
  -- how the naming goes on, and leads the term
  record Onward (moves q : ℕ) (t : Tree Head) (e : Evidence) (packs : Packs) (steps : ℕ) (rest : Path) : Type 0 where
    pub named : Named p T supports moves e packs steps rest
    pub leads : Leads p T supports moves q t e packs

  record Opened (by : HeadBy) (terminal : ℕ) (own : ℕ → ℕ → Evidence) (q : ℕ) (t : Tree Head) (packs : Packs) (steps : ℕ) (rest : Path) : Type 0 where
    pub moves : ℕ
    pub move : Move (Named p T supports moves) by terminal own packs steps rest
    pub led : Led p (Leads p T supports moves) by terminal own q t packs

  opened : (moves q : ℕ) (t : Tree Head) (place : ℕ) (own packs : Packs) (steps : ℕ) (rest : Path)
      → Named p T supports moves (evidence place own) packs steps rest → Leads p T supports moves q t (evidence place own) packs
      → Opened (support_at supports place).head (terminal_at p T place) (owns T place own) q t (stack_at p T supports place own packs) steps rest
  opened zero q t place own packs steps rest named leads = absurd named
  opened (suc moves) q t place own packs steps rest named leads = record { moves = moves; move = named; led = leads }

  -- one step
  record Stepped (label : Option (ℕ × ℕ)) (q : ℕ) (t : Tree Head) (e : Evidence) (steps : ℕ) (rest : Path) : Type 0 where
    pub fewer : ℕ
    pub counted : steps ≡ suc fewer
    pub remaining : Path
    pub split : rest ≡ listed label ++ remaining
    pub state : ℕ
    pub term : Tree Head
    pub step : StepsTo p.sorted.scheme.rules p.sorted.automaton.transitions q t (listed label) state term
    pub moves : ℕ
    pub named : Named p T supports moves e no_packs fewer remaining
    pub leads : Leads p T supports moves state term e no_packs

  by_rule : (m terminal : ℕ) (own : ℕ → ℕ → Evidence) (q : ℕ) (t : Tree Head) (packs : Packs) (steps : ℕ) (rest : Path) → Opened (Rule m) terminal own q t packs steps rest
      → Stepped None q t (evidence m packs) steps rest
  by_rule m terminal own q t packs zero rest o = absurd o.move
  by_rule m terminal own q t packs (suc steps) rest o = record {
    fewer = steps;
    counted = refl;
    remaining = rest;
    split = refl;
    state = q;
    term = o.led.0;
    step = o.led.1;
    moves = o.moves;
    named = o.move;
    leads = o.led.2;
  }

  by_child : (r child terminal : ℕ) (own : ℕ → ℕ → Evidence) (q : ℕ) (t : Tree Head) (packs : Packs) (steps : ℕ) (rest : Path) → Opened (Terminal r (Some child)) terminal own q t packs steps rest
      → Stepped (Some (terminal, child)) q t (first (child_pack packs child)) steps rest
  by_child r child terminal own q t packs zero rest o = absurd o.move
  by_child r child terminal own q t packs (suc steps) [] o = absurd o.move
  by_child r child terminal own q t packs (suc steps) (label ∷ rest) o = record {
    fewer = steps;
    counted = refl;
    remaining = rest;
    split = ap (λ l. l ∷ rest) o.move.0;
    state = o.led.0;
    term = o.led.1;
    step = o.led.2;
    moves = o.moves;
    named = o.move.1;
    leads = o.led.3;
  }

  module _ (by : HeadBy) (terminal : ℕ) (own : ℕ → ℕ → Evidence) (q : ℕ) (t : Tree Head) (packs : Packs) (steps : ℕ) (rest : Path) (o : Opened by terminal own q t packs steps rest) where
    stepped : (label : Option (ℕ × ℕ)) (e : Evidence) → IsStepBy by terminal packs label e → Stepped label q t e steps rest
    stepped None e (m, is, same) =
        along (λ (x : Evidence). Stepped None q t x steps rest) (sym same)
        (by_rule m terminal own q t packs steps rest (along (λ (h : HeadBy). Opened h terminal own q t packs steps rest) is o))
    stepped (Some (a, child)) e (r, is, one, same) =
        along (λ (x : Evidence). Stepped (Some (a, child)) q t x steps rest) (sym same)
        (along (λ (b : ℕ). Stepped (Some (b, child)) q t (first (child_pack packs child)) steps rest) (sym one)
        (by_child r child terminal own q t packs steps rest (along (λ (h : HeadBy). Opened h terminal own q t packs steps rest) is o)))

    record Silenced (e : Evidence) : Type 0 where
      pub moves : ℕ
      pub named : Named p T supports moves e packs steps rest
      pub leads : Leads p T supports moves q t e packs

    silenced : (x m : ℕ) → by ≡ Param x m → Silenced (own x m)
    silenced x m is = let k = along (λ (h : HeadBy). Opened h terminal own q t packs steps rest) is o in record { moves = k.moves; named = k.move; leads = k.led }

    record Ended (state : ℕ) : Type 0 where
      pub steps_none : steps ≡ 0
      pub rest_none : rest ≡ []
      pub same : state ≡ q
      pub arguments : Trees Head
      pub whole : t ≡ node (Tm terminal) arguments
      pub none_there : HasNoTransition p.sorted.automaton.transitions q (node (Tm terminal) arguments)

    ended : (state : ℕ) → by ≡ Terminal state None → Ended state
    ended state is =
        let k = along (λ (h : HeadBy). Opened h terminal own q t packs steps rest) is o in
        record { steps_none = k.move.0; rest_none = k.move.1; same = k.led.0; arguments = k.led.1.0; whole = k.led.1.1; none_there = k.led.2 }

  no_step : (q r : ℕ) (t u : Tree Head) (label : Path) → StepsTo p.sorted.scheme.rules p.sorted.automaton.transitions q t label r u → HasNoTransition p.sorted.automaton.transitions q t → ⊥
  no_step q r (node (Var j) us) u label s h = h
  no_step q r (node (Nt f) us) u label s h = h
  no_step q r (node (Tm a) us) u label (qs, e, c) h = absurd (cc)

  module _ (s : Store) (items : List ℕ) (continuation : Continuation) (trail : Path) (used : ℕ) (w : IsWalking p T supports s items continuation trail used) where
    place : ℕ
    place = continuation.node.place

    open_ : Opened (support_at supports continuation.node.place).head (terminal_at p T continuation.node.place) (owns T continuation.node.place w.at.node.own) w.state w.term
        (stack_at p T supports continuation.node.place w.at.node.own w.packs) w.steps w.rest
    open_ = opened w.moves w.state w.term continuation.node.place w.at.node.own w.packs w.steps w.rest
        (along (λ (e : Evidence). Named p T supports w.moves e w.packs w.steps w.rest) w.at.node.is w.named)
        (along (λ (e : Evidence). Leads p T supports w.moves w.state w.term e w.packs) w.at.node.is w.leads)

    abbrev pub Here : HeadBy
    Here = (support_at supports continuation.node.place).head

    abbrev pub Stack : Packs
    Stack = stack_at p T supports continuation.node.place w.at.node.own w.packs

    -- the evidence of the continuation, as the moves from it want it
    pub at_place : IsContinuationAt (length T) s continuation (evidence continuation.node.place w.at.node.own)
    at_place = along (λ (e : Evidence). IsContinuationAt (length T) s continuation e) w.at.node.is w.at

    pub walk_silent : (new : Store) (others : List ℕ) (next : Continuation) → GrowsStore s new
        → IsSilentTo (length T) new continuation.number Here (owns T continuation.node.place w.at.node.own) Stack others next → IsWalking p T supports new others next trail used
    walk_silent new others next g is =
        let k = silenced Here (terminal_at p T continuation.node.place) (owns T continuation.node.place w.at.node.own) w.state w.term Stack w.steps w.rest open_ is.x is.m is.is in
        record {
          nothing = stands_grow (length T) s new g 0 (evidence 0 no_packs) w.nothing;
          evidence = owns T continuation.node.place w.at.node.own is.x is.m;
          at = is.at;
          packs = Stack;
          stack = is.stack;
          need = w.need;
          path = w.path;
          names = w.names;
          moves = k.moves;
          steps = w.steps;
          rest = w.rest;
          named = k.named;
          counted = w.counted;
          whole = w.whole;
          state = w.state;
          term = w.term;
          reached = w.reached;
          leads = k.leads;
        }

    module _ (new : Store) (others : List ℕ) (label : Option (ℕ × ℕ)) (next : Continuation) (g : GrowsStore s new)
        (is : IsStepTo (length T) new Here (terminal_at p T continuation.node.place) Stack others label next) where
      once : Stepped label w.state w.term is.e w.steps w.rest
      once = stepped Here (terminal_at p T continuation.node.place) (owns T continuation.node.place w.at.node.own) w.state w.term Stack w.steps w.rest open_ label is.e is.is

      pub walk_step : (longer : Path) → longer ≡ trail ++ listed label → IsWalking p T supports new others next longer (used + 1)
      walk_step longer e =
          let goes : Path → Type 0 = λ l. Reaches p.sorted.scheme.rules p.sorted.automaton.transitions (used + 1) 0 start l once.state once.term in
          record {
            nothing = stands_grow (length T) s new g 0 (evidence 0 no_packs) w.nothing;
            evidence = is.e;
            at = is.at;
            packs = no_packs;
            stack = along (λ (l : List ℕ). Piled (length T) new (length new.nodes.items) l 0 (length l) no_packs) (sym is.cleared) refl;
            need = w.need;
            path = w.path;
            names = w.names;
            moves = once.moves;
            steps = once.fewer;
            rest = once.remaining;
            named = once.named;
            counted = omega (arith, w.counted, once.counted);
            whole = w.whole ∙ (ap (λ l. trail ++ l) once.split ∙ (sym (append_assoc trail (listed label) once.remaining) ∙ ap (λ l. l ++ once.remaining) (sym e)));
            state = once.state;
            term = once.term;
            reached = along goes (sym e)
                (one_more p.sorted.scheme.rules p.sorted.automaton.transitions used 0 w.state once.state start w.term once.term trail (listed label) w.reached once.step);
            leads = once.leads;
          }

      pub walk_cut : IsLongerPath p T supports used trail
      walk_cut = record {
        need = w.need;
        path = w.path;
        names = w.names;
        longer = omega (arith, w.counted, once.counted);
        rest = w.rest;
        begins = w.whole;
        state = w.state;
        term = w.term;
        reaches = w.reached;
        goes_on = no_step w.state once.state w.term once.term (listed label) once.step;
      }

    pub walk_end : (limit terminal state : ℕ) (path : FailingPathData) → used ≤ limit → terminal ≡ terminal_at p T continuation.node.place → Here ≡ Terminal state None
        → path ≡ record { steps = trail; last = terminal; state = state; used = used } → IsNamedPath p T supports limit path
    walk_end limit terminal state path few one is e =
        let k = ended Here (terminal_at p T continuation.node.place) (owns T continuation.node.place w.at.node.own) w.state w.term Stack w.steps w.rest open_ state is in
        let names : NamesPath p T supports used trail =
        along (λ (n : ℕ). NamesPath p T supports n trail) (let same : w.need ≡ used = omega (arith, w.counted, k.steps_none) in same)
        (along (λ (l : Path). NamesPath p T supports w.need l) (w.whole ∙ (ap (λ l. trail ++ l) k.rest_none ∙ append-nil trail)) w.names) in
        along (λ (x : FailingPathData). IsNamedPath p T supports limit x) (sym e) (record {
          names = names;
          few = few;
          fails = record {
            arguments = k.arguments;
            reaches = along (λ (r : ℕ). Reaches p.sorted.scheme.rules p.sorted.automaton.transitions used 0 start trail r (node (Tm terminal) k.arguments)) (sym k.same)
                (along (λ (u : Tree Head). Reaches p.sorted.scheme.rules p.sorted.automaton.transitions used 0 start trail w.state u)
                (k.whole ∙ ap (λ b. node (Tm b) k.arguments) (sym one)) w.reached);
            stuck = along (λ (r : ℕ). HasNoTransition p.sorted.automaton.transitions r (node (Tm terminal) k.arguments)) (sym k.same)
                (along (λ (b : ℕ). HasNoTransition p.sorted.automaton.transitions w.state (node (Tm b) k.arguments)) (sym one) k.none_there);
          };
        })

  -- the start entry has one place
  module _ (log : HasSupports p T supports) where
    apart : (i j : ℕ) (d e : EntryData) → i < j → slice_get T i ≡ Some d → slice_get T j ≡ Some e → d ≡ e → ⊥
    apart i j d e lt at_i at_j same =
        log.distinct i j e lt (slice_get_within T j e at_j) (get_or_from_slice_get T i d e at_i ∙ (same ∙ sym (get_or_from_slice_get T j e e at_j)))

    start_place : (i j : ℕ) → IsFirstStart p T i → StartsAt p T j → i ≡ j
    start_place i j f g = elim (cases_order i j) [
      | inl e ↦ e
      | inr other ↦ elim other [
        | inl less ↦ absurd (apart i j f.entry g.entry less f.at g.at (starts_same p f.entry g.entry f.is_start g.is_start))
        | inr greater ↦ absurd (apart j i g.entry f.entry greater g.at f.at (starts_same p g.entry f.entry g.is_start f.is_start))
      ]
    ]

    -- after the replacement of the start
    pub walk_starts : (leads : StartLeads p T supports) (place : ℕ) → StartsAt p T place → (s : Store) → Nothing (length T) s → (items : List ℕ) (trail : Path) → items ≡ [] → trail ≡ []
        → IsWalking p T supports s items (record { node = record { place = place; own = record { from = 0; to = 0 } }; number = 1 }) trail 1
    walk_starts leads place starts s nothing items trail no_items no_trail =
        let n = named_and_fails p T supports leads.moves 0 leads.body (evidence leads.place no_packs) no_packs leads.leads in
        let same : leads.place ≡ place = start_place leads.place place leads.is_first starts in
        let names : NamesPath p T supports (suc n.steps) n.path =
        record { place = leads.place; start = leads.is_first; moves = leads.moves; steps = n.steps; named = n.named; counted = omega arith } in
        let nodes : 0 < length s.nodes.items = slice_get_within s.nodes.items 0 nothing.0 nothing.1 in
        let goes : Path → Type 0 = λ (l : Path). Reaches p.sorted.scheme.rules p.sorted.automaton.transitions 1 0 start l 0 leads.body in
        record {
          nothing = nothing;
          evidence = evidence place no_packs;
          at = record {
            node = record { own = no_packs; is = refl; within = slice_get_within T place starts.entry starts.at; packs = refl };
            within = omega (arith, nodes);
            lowest = λ e. absurd (omega (arith, e));
          };
          packs = no_packs;
          stack = along (λ (l : List ℕ). Piled (length T) s (length s.nodes.items) l 0 (length l) no_packs) (sym no_items) refl;
          need = suc n.steps;
          path = n.path;
          names = names;
          moves = leads.moves;
          steps = n.steps;
          rest = n.path;
          named = along (λ (i : ℕ). Named p T supports leads.moves (evidence i no_packs) no_packs n.steps n.path) same n.named;
          counted = omega arith;
          whole = ap (λ l. l ++ n.path) (sym no_trail);
          state = 0;
          term = leads.body;
          reached = along goes (sym no_trail) (record { label = []; rest = []; state = 0; term = leads.body; whole = refl; step = leads.replaced; holds = (refl, (refl, refl)) });
          leads = along (λ (i : ℕ). Leads p T supports leads.moves 0 leads.body (evidence i no_packs) no_packs) same leads.leads;
        }

  pub no_steps : (leads : StartLeads p T supports) (limit : ℕ) (prefix : Path) → limit ≡ 0 → prefix ≡ [] → IsLongerPath p T supports limit prefix
  no_steps leads limit prefix none empty =
      let n = named_and_fails p T supports leads.moves 0 leads.body (evidence leads.place no_packs) no_packs leads.leads in
      along (λ (k : ℕ). IsLongerPath p T supports k prefix) (sym none) (along (λ (l : Path). IsLongerPath p T supports 0 l) (sym empty) (record {
        need = suc n.steps;
        path = n.path;
        names = record { place = leads.place; start = leads.is_first; moves = leads.moves; steps = n.steps; named = n.named; counted = omega arith };
        longer = omega arith;
        rest = n.path;
        begins = refl;
        state = 0;
        term = start;
        reaches = (refl, (refl, refl));
        goes_on = λ h. h;
      }))
