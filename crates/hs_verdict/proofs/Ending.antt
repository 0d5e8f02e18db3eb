-- The naming of a log with its supports ends, it leads the start, and its path fails.
use Rattle.std.proofs.Common.{◌≡◌, refl, sym, ◌∙◌, ap, ℕ, zero, suc, ◌<◌, List, [], ◌∷◌, map, take, length, slice_get, Some, None, arith, inl, inr}
use Rattle.std.proofs.Common.{subst as along}
use Rattle.std.proofs.lemmas.Option.{slice_get_within, slice_get-get_or, same_Some, get_or_from_slice_get}
use Rattle.hs_scheme.specs.declared.term.Head.{Head}
use Rattle.hs_scheme.specs.Tree.{Tree, more, forest}
use Rattle.hs_scheme.specs.acceptance.Replacement.{subst, substs, applied, replaced}
use Rattle.hs_scheme.specs.flow.Points.{PointData, point_at}
use Rattle.hs_scheme.specs.declared.term.Rule.{Rule}
use Rattle.hs_scheme.specs.Problem.{ProblemData}
use Rattle.hs_scheme.specs.acceptance.Run.{start, Accepts}
use Rattle.hs_scheme.specs.acceptance.Steps.{Path, HasNoTransition, Fails}
use Rattle.hs_scheme.proofs.Lists.{Contains-at}
use Rattle.hs_table.specs.declared.support.HeadBy.{HeadBy}
use Rattle.hs_table.specs.declared.support.HeadBy.TheVariants.{Terminal, Rule as ByRule, Param}
use Rattle.hs_table.specs.Types.{TypeTree, state}
use Rattle.hs_table.specs.Entries.{EntryData, entry_at}
use Rattle.hs_table.specs.Follows.{Support, FollowsBy}
use Rattle.hs_table.specs.Tables.{IsSupportedTable, HasSupports, IsStart, HasStart}
use Rattle.hs_table_laws.proofs.Places.{place_of}
use Rattle.hs_table_laws.proofs.Least.{starts_same}
use Rattle.hs_verdict.specs.Premises.{IsSortedProblem}
use Rattle.hs_verdict.proofs.Supports.{with_supports}
use Rattle.hs_verdict.proofs.Verdict.{never_fails}
use Rattle.hs_verdict.specs.Evidence.{Evidence, Packs, evidence, no_packs, stacked, first, child_pack, own_evidence, packs_for}
use Rattle.hs_verdict.specs.Naming.{support_at, terminal_of, argument_packs, Move, Named, IsFirstStart, NamesPath, IsLong}
use Rattle.hs_verdict.specs.Leading.{LeadsBy, Leads, StartLeads}
use Rattle.hs_verdict.proofs.Bodies.{rules, term, whole, Body, body_at, long_at_argument}
use Rattle.hs_verdict.proofs.Failures.{replacement}
use Rattle.hs_verdict.proofs.Realizing.{Ends, Realizes, RealizesAll, moved}
use Rattle.hs_verdict.proofs.Same.{naming_same}
use Rattle.hs_verdict.proofs.Cases.{at_args, Good, premise, chosen_realize, by_head}

substs_map : (terms : ℕ → Tree Head) (us : List ℕ) (ds : List (Tree Head)) → substs (forest (map terms us)) ds ≡ forest (map (λ u. subst (terms u) ds) us)
substs_map terms [] ds = refl
substs_map terms (u ∷ us) ds = ap (λ ts. more (subst (terms u) ds) ts) (substs_map terms us ds)

-- the naming that leads a term names a path along which the term fails
pub record NamedAndFails (p : ProblemData) (To : ℕ → Path → Type 0) (q : ℕ) (t : Tree Head) : Type 0 where
  pub steps : ℕ
  pub path : Path
  pub named : To steps path
  pub fails : Fails p.sorted.scheme.rules p.sorted.automaton.transitions steps q t path

module _ (p : ProblemData) (go : ℕ → Tree Head → Evidence → Packs → Type 0) (to : Evidence → Packs → ℕ → Path → Type 0)
    (each : (q : ℕ) (t : Tree Head) (e : Evidence) (stack : Packs) → go q t e stack → NamedAndFails p (to e stack) q t) where
  turned : (by : HeadBy) (terminal : ℕ) (own : ℕ → ℕ → Evidence) (q : ℕ) (t : Tree Head) (stack : Packs) → LeadsBy p go by terminal own q t stack
      → NamedAndFails p (Move to by terminal own stack) q t
  turned (Terminal r None) terminal own q t stack (is, (us, whole), none_there) = record {
    steps = 0;
    path = [];
    named = (refl, refl);
    fails = (refl, along (λ (x : Tree Head). HasNoTransition p.sorted.automaton.transitions q x) (sym whole) none_there);
  }
  turned (Terminal r (Some child)) terminal own q t stack (s, u, step, g) =
      let n = each s u (first (child_pack stack child)) no_packs g in
      record {
        steps = suc n.steps;
        path = (terminal, child) ∷ n.path;
        named = (refl, n.named);
        fails = record { label = (terminal, child) ∷ []; rest = n.path; state = s; term = u; whole = refl; step = step; holds = n.fails };
      }
  turned (ByRule place) terminal own q t stack (u, step, g) =
      let n = each q u (evidence place stack) no_packs g in
      record {
        steps = suc n.steps;
        path = n.path;
        named = n.named;
        fails = record { label = []; rest = n.path; state = q; term = u; whole = refl; step = step; holds = n.fails };
      }
  turned (Param x place) terminal own q t stack g = each q t (own x place) stack g

pub named_and_fails : (p : ProblemData) (T : List EntryData) (supports : List Support) (moves q : ℕ) (t : Tree Head) (e : Evidence) (stack : Packs)
    → Leads p T supports moves q t e stack → NamedAndFails p (Named p T supports moves e stack) q t
named_and_fails p T supports zero q t e stack g = absurd g
named_and_fails p T supports (suc moves) q t (evidence place own) stack g =
    turned p (Leads p T supports moves) (Named p T supports moves) (λ q t e stack h. named_and_fails p T supports moves q t e stack h) (support_at supports place).head _ _ q t _ g

module _ (p : ProblemData) (known : IsSortedProblem p) (T : List EntryData) (supports : List Support) (log : HasSupports p T supports) where
  -- one move, seen at the entry of the place and at its point
  abbrev TurnAt : Support → Packs → ℕ → ℕ → Tree Head → Packs → EntryData → PointData → Type 0
  TurnAt s own moves q t stack e d =
      LeadsBy p (Leads p T supports moves) s.head (terminal_of d.head) (λ x m. own_evidence e.env own x (entry_at T m).ty) q t
      (stacked (argument_packs (λ m. evidence m (packs_for (own_evidence e.env own) 0 (entry_at T m).env)) 0 d.args s.args) stack)

  place_realizes : (i : ℕ) → ((m : ℕ) → m < i → Good p T supports known m) → Good p T supports known i
  place_realizes i good e at ds own have =
      let s : Support = support_at supports i in
      let within : i < length supports = omega (arith, slice_get_within T i e at, log.each) in
      let f : FollowsBy p (take i T) s e = log.follows i s e (slice_get-get_or supports i _ within) at in
      let is_e : entry_at T i ≡ e = get_or_from_slice_get T i e _ at in
      let is_d : point_at p.points e.point ≡ f.of = get_or_from_slice_get p.points.points e.point f.of _ f.at in
      let args : List (Tree Head) = at_args p T supports known ds f.of.args in
      let packs : Packs = argument_packs (premise p T supports known i good e.env ds own have) 0 f.of.args s.args in
      let fit : RealizesAll p T supports f.sets args packs =
      chosen_realize p T supports known i good e.env ds own have f.are
      (λ n u at_n x shape is. long_at_argument p known e.point f.of f.at n u at_n x shape is ∙ sym f.env.long)
      (λ j a lt h. (f.union j a lt).1 (inr h)) in
      let is_whole : applied (replaced f.of.head ds) (forest args) ≡ subst (term p known e.point) ds =
      sym (ap (λ (t : Tree Head). subst t ds) (whole p known e.point f.of f.at) ∙ ap (applied (replaced f.of.head ds)) (substs_map (term p known) f.of.args ds)) in
      moved p T supports e.ty (applied (replaced f.of.head ds) (forest args)) (subst (term p known e.point) ds) (evidence i own) no_packs no_packs is_whole refl
      (by_head p T supports known i good e.env ds own have f.of.rule f.env.long f.sets e.ty args packs fit f.of.head s.head f.head
      (λ j a lt h. (f.union j a lt).1 (inl h))
      (λ moves q t stack m.
      along (λ (x : EntryData). TurnAt s own moves q t stack x (point_at p.points x.point)) (sym is_e)
      (along (λ (d : PointData). TurnAt s own moves q t stack e d) (sym is_d) m)))

  all_realize : (n place : ℕ) → place < n → Good p T supports known place
  all_realize zero place lt = absurd (omega arith)
  all_realize (suc n) place lt = place_realizes place (λ m below. all_realize n m (omega arith))

  first_start : (place : ℕ) (e : EntryData) → slice_get T place ≡ Some e → IsStart p e → IsFirstStart p T place
  first_start place e at is = record {
    entry = e;
    at = at;
    is_start = is;
    is_first = λ i d lt at_i is_d. log.distinct i place e lt (slice_get_within T place e at) (get_or_from_slice_get T i d e at_i ∙ (starts_same p d e is_d is ∙ sym (get_or_from_slice_get T place e e at)));
  }

  -- from the first place of the start entry on the naming leads the body of the start
  pub start_leads : HasStart p T → StartLeads p T supports
  start_leads (e, (is, there)) =
      let k = place_of T e there in
      let body : Body p known 0 e.point = body_at p known 0 e.point is.body in
      let none_given : RealizesAll p T supports e.env [] no_packs = along (λ x. RealizesAll p T supports x [] no_packs) (sym is.env) tt in
      let r : Realizes p T supports e.ty (subst (term p known e.point) []) (evidence k.0 no_packs) no_packs = all_realize (suc k.0) k.0 (omega arith) e k.1 [] no_packs none_given in
      let ends : Ends p T supports 0 (subst body.rule.body []) (evidence k.0 no_packs) no_packs =
      along (λ (v : Tree Head). Realizes p T supports (state 0) (subst v []) (evidence k.0 no_packs) no_packs) body.is
      (along (λ (z : TypeTree). Realizes p T supports z (subst (term p known e.point) []) (evidence k.0 no_packs) no_packs) is.initial r) in
      let first = known.scheme.start in
      let no_params : 0 ≡ body.rule.params = sym (ap (λ (x : Rule). x.params) (same_Some body.rule first.0 (sym body.at ∙ first.1.0)) ∙ first.1.1) in
      record {
        place = k.0;
        is_first = first_start k.0 e k.1 is;
        body = subst body.rule.body [];
        replaced = replacement (rules p known) p.sorted.automaton.transitions [] [] 0 0 body.rule body.at no_params;
        moves = ends.moves;
        leads = ends.leads;
      }

  pub naming_ends : HasStart p T → (need : ℕ) × (path : Path) × NamesPath p T supports need path × Fails p.sorted.scheme.rules p.sorted.automaton.transitions need 0 start path
  naming_ends has =
      let s = start_leads has in
      let n = named_and_fails p T supports s.moves 0 s.body (evidence s.place no_packs) no_packs s.leads in (
        suc n.steps,
        n.path,
        record { place = s.place; start = s.is_first; moves = s.moves; steps = n.steps; named = n.named; counted = omega arith },
        record { label = []; rest = n.path; state = 0; term = s.body; whole = refl; step = s.replaced; holds = n.fails },
      )

  pub path_fails : (need : ℕ) (path : Path) → NamesPath p T supports need path → Fails p.sorted.scheme.rules p.sorted.automaton.transitions need 0 start path
  path_fails need path x =
      let n = naming_ends (x.start.entry, (x.start.is_start, Contains-at T x.place x.start.entry x.start.at)) in
      let same = naming_same p T supports n.0 need n.1 path n.2 x in
      along (λ (m : ℕ). Fails p.sorted.scheme.rules p.sorted.automaton.transitions m 0 start path) same.0
      (along (λ (r : Path). Fails p.sorted.scheme.rules p.sorted.automaton.transitions n.0 0 start r) same.1 n.3)

  pub rejects : HasStart p T → Accepts p.sorted.scheme.rules p.sorted.automaton.transitions → ⊥
  rejects has accepts = let n = naming_ends has in never_fails p known accepts n.0 n.1 n.3

pub supported_rejects : (p : ProblemData) → IsSortedProblem p → (T : List EntryData) → IsSupportedTable p T → HasStart p T → Accepts p.sorted.scheme.rules p.sorted.automaton.transitions → ⊥
supported_rejects p known T supported has accepts = let s = with_supports p T supported in rejects p known T s.0 s.1 has accepts

pub long_fails : (p : ProblemData) (limit : ℕ) → IsSortedProblem p → IsLong p limit
    → (need : ℕ) × (path : Path) × (limit < need) × Fails p.sorted.scheme.rules p.sorted.automaton.transitions need 0 start path
long_fails p limit known x = (x.need, x.path, x.longer, path_fails p known x.log x.supports x.has_supports x.need x.path x.names)
