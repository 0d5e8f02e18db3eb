-- Why a list in which each entry weakly follows from those before it, and which has the start entry, shows a path that fails.
--   Types are read as sets of terms (Rejected): a state as the terms from which some path fails in it; an arrow as the terms that, applied to
--   any argument which each type of its set rejects, are rejected by its result.
--   What a type rejects, each type that it is as strong as rejects (Strength).
--   An entry holds where, with any terms for the parameters that its environment's sets reject, the point's term is rejected by its type.
--   What weakly follows from entries that hold, holds (Heads). A terminal without transition fails at once, and one with a rejected child after
--   a descent. A nonterminal fails as its body does, after a replacement: the body's entry holds, with the arguments for the parameters. A
--   parameter has the head's type, since the environment asks it, whatever the flow says.
--   So all entries hold, by induction along the list. The start entry has no parameters: the start's body fails in the initial state.
-- Nothing is asked of sorts on the way but that rules are full, so that a replacement takes all arguments that there are.
use Rattle.std.proofs.Common.{◌≡◌, refl, sym, ◌∙◌, ap, ℕ, zero, suc, ◌<◌, List, [], map, take, slice_get, Some, arith, inl, inr}
use Rattle.std.proofs.Common.{subst as along}
use Rattle.std.proofs.lemmas.Option.{same_Some}
use Rattle.hs_scheme.specs.declared.term.Head.{Head}
use Rattle.hs_scheme.specs.declared.term.Rule.{Rule}
use Rattle.hs_scheme.specs.Tree.{Tree, forest, forest-children}
use Rattle.hs_scheme.specs.acceptance.Replacement.{subst, substs, applied, replaced}
use Rattle.hs_scheme.specs.Problem.{ProblemData}
use Rattle.hs_scheme.specs.acceptance.Run.{start, Accepts}
use Rattle.hs_scheme.specs.acceptance.Steps.{Path, Fails}
use Rattle.hs_table.specs.Types.{TypeTree, state}
use Rattle.hs_table.specs.Entries.{Env, EntryData}
use Rattle.hs_table.specs.Follows.{IsAt}
use Rattle.hs_table.specs.Tables.{HasStart}
use Rattle.hs_table_laws.proofs.Places.{place_of, at_take}
use Rattle.hs_verdict.specs.Premises.{IsSortedProblem}
use Rattle.hs_verdict.proofs.Verdict.{never_fails}
use Rattle.hs_verdict.proofs.Bodies.{rules, term, whole, Body, body_at, long_at_argument}
use Rattle.hs_verdict.proofs.Failures.{replacement}
use Rattle.hs_weak.specs.Strength.{AsStrongAs}
use Rattle.hs_weak.specs.Weak.{WeaklyFollows, EachWeaklyFollows}
use Rattle.hs_weak_paths.proofs.Rejected.{FailsIn, IsRejected, AreRejected}
use Rattle.hs_weak_paths.proofs.Heads.{Holds, with_terms, chosen_rejected, by_head}

module _ (p : ProblemData) (known : IsSortedProblem p) where
  -- what weakly follows from entries that hold, holds
  follows_holds : (E : List EntryData) → ((place : ℕ) (e : EntryData) → IsAt p E place e → Holds p known e) → (e : EntryData) → WeaklyFollows AsStrongAs p E e → Holds p known e
  follows_holds E hold e (s, f) ds have =
      let args : List (Tree Head) = with_terms p known E hold e.env ds have f.of.args in
      let fit : AreRejected p f.sets args =
      chosen_rejected p known E hold e.env ds have f.are
      (λ n u at_n x shape is. long_at_argument p known e.point f.of f.at n u at_n x shape is ∙ sym f.env.long)
      (λ j a lt h. (f.union j a lt).1 (inr h)) in
      let is_whole : applied (replaced f.of.head ds) (forest args) ≡ subst (term p known e.point) ds =
      ap (applied (replaced f.of.head ds)) (forest-children (substs (forest (map (term p known) f.of.args)) ds)) ∙ sym (ap (λ (t : Tree Head). subst t ds) (whole p known e.point f.of f.at)) in
      along (λ (t : Tree Head). IsRejected p e.ty t) is_whole
      (by_head p known E hold e.env ds have f.of.rule f.env.long f.sets e.ty args fit f.of.head s.head f.head (λ j a lt h. (f.union j a lt).1 (inl h)))

  module _ (E : List EntryData) (supported : EachWeaklyFollows AsStrongAs p E) where
    all_hold : (n i : ℕ) → i < n → (e : EntryData) → slice_get E i ≡ Some e → Holds p known e
    all_hold zero i lt e at = absurd (omega arith)
    all_hold (suc n) i lt e at =
        follows_holds (take i E) (λ place b is. let before = at_take i E place b is.at in all_hold n place (omega (arith, lt, before.0)) b before.1) e (supported i e at)

    -- the start's body fails, and the replacement of the start is a step to it
    pub path_fails : HasStart p E → (n : ℕ) × (path : Path) × Fails p.sorted.scheme.rules p.sorted.automaton.transitions n 0 start path
    path_fails (e, (is, there)) =
        let k = place_of E e there in
        let body : Body p known 0 e.point = body_at p known 0 e.point is.body in
        let none_given : AreRejected p e.env [] = along (λ (x : Env). AreRejected p x []) (sym is.env) tt in
        let failing : FailsIn p 0 (subst body.rule.body []) =
        along (λ (v : Tree Head). IsRejected p (state 0) (subst v [])) body.is
        (along (λ (z : TypeTree). IsRejected p z (subst (term p known e.point) [])) is.initial (all_hold (suc k.0) k.0 (omega arith) e k.1 [] none_given)) in
        let first = known.scheme.start in
        let no_params : 0 ≡ body.rule.params = sym (ap (λ (x : Rule). x.params) (same_Some body.rule first.0 (sym body.at ∙ first.1.0)) ∙ first.1.1) in (
          suc failing.steps,
          failing.path,
          record {
            label = [];
            rest = failing.path;
            state = 0;
            term = subst body.rule.body [];
            whole = refl;
            step = replacement (rules p known) p.sorted.automaton.transitions [] [] 0 0 body.rule body.at no_params;
            holds = failing.fails;
          },
        )

    pub rejects : HasStart p E → Accepts p.sorted.scheme.rules p.sorted.automaton.transitions → ⊥
    rejects has accepts = let f = path_fails has in never_fails p known accepts f.0 f.1 f.2
