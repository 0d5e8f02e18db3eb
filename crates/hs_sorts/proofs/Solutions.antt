-- The claims on the nodes of a scheme's parts say that their sorts are a sorting.
use Rattle.std.proofs.Common.{◌≡◌, refl, sym, ◌∙◌, ap, subst, ℕ, ◌+◌, ◌≤◌, List, length, slice_get, All, Option, Some, None, ◌<◌, arith}
use Rattle.std.proofs.lemmas.Option.{slice_get_within, get_or_from_slice_get}
use Rattle.hs_scheme.specs.declared.term.Head.{Head}
use Rattle.hs_scheme.specs.declared.term.Head.TheVariants.{Var, Nt, Tm}
use Rattle.hs_scheme.specs.declared.term.Rule.{Rule}
use Rattle.hs_scheme.specs.Scheme.{HeadInRange, TermInRange, AreRules}
use Rattle.hs_scheme.specs.sorting.Sorting.{arrows, behind, arguments, Sorts, heads, HasSort, IsSorting, HasSorting}
use Rattle.hs_scheme.specs.sorting.Sorted.{sort_at}
use Rattle.hs_sorts.specs.declared.store.Node.{Node}
use Rattle.hs_sorts.specs.Nodes.{Valuation, IsValuationOf}
use Rattle.hs_sorts.specs.Constraints.{Agree, Claims, IsBaseSort, IsRankedIf, sorts_with, IsRuled, BodiesWithin}
use Rattle.hs_sorts.specs.Solving.{Realizes, Realization, LaysOut, sorts_at, Solves, EachBefore, AreRuled}
use Rattle.hs_sorts.proofs.Arrows.{arrows_same, left_behind, argument_is}
use Rattle.hs_sorts.proofs.Ranges.{has_in_range}

pub All_at : {A : Type 0} (P : A → Type 0) (xs : List A) (i : ℕ) (x : A) → All P xs → slice_get xs i ≡ Some x → P x
All_at P xs i x all at = subst P (get_or_from_slice_get xs i x x at) (all i x (slice_get_within xs i x at))

abbrev pub AreRanked : List (Option ℕ) → ℕ → Valuation → Type 0
AreRanked ranks rules v = EachBefore (λ a rank. IsRankedIf (rules + a) rank) ranks (length ranks) v

module _ (rules : List Rule) (ranks : List (Option ℕ)) (k : ℕ) (are : AreRules rules (length ranks)) where
  -- each of the rules' bodies is in range
  in_range : (f : ℕ) (rule : Rule) → slice_get rules f ≡ Some rule → TermInRange rule.params (length rules) (length ranks) rule.body
  in_range f rule at = All_at (λ r. TermInRange r.params (length rules) (length ranks) r.body) rules f rule are.bodies at

  pub bodies_within : (count : ℕ) → length rules + length ranks ≤ count → BodiesWithin count rules
  bodies_within count room f rule at = record { terminals = length ranks; room = room; body = in_range f rule at }

  realizes_stable : (count : ℕ) → length rules + length ranks ≤ count → (s : Sorts) (v w : Valuation) → Agree count v w → Realizes (length rules) (length ranks) s v → Realizes (length rules) (length ranks) s w
  realizes_stable count room s v w same r = record {
    nonterminals = λ f below. same.at f (omega arith) ∙ r.nonterminals f below;
    terminals = λ a below. same.at (length rules + a) (omega arith) ∙ r.terminals a below;
  }

  -- what the sorts of a sorting are
  module _ (s : Sorts) (sorting : IsSorting rules ranks k s) (v : Valuation) (r : Realizes (length rules) (length ranks) s v) where
    start_base : IsBaseSort 0 v
    start_base = r.nonterminals 0 (slice_get_within rules 0 are.start.0 are.start.1.0) ∙ sorting.start

    ranked_if : (a : ℕ) (rank : Option ℕ) → a < length ranks → slice_get ranks a ≡ Some rank → IsRankedIf (length rules + a) rank v
    ranked_if a None below at = tt
    ranked_if a (Some n) below at = r.terminals a below ∙ sorting.terminals a n at

    are_ranked : AreRanked ranks (length rules) v
    are_ranked a rank below at = ranked_if a rank below at

    same_head : (f : ℕ) (params : ℕ) (h : Head) → HeadInRange params (length rules) (length ranks) h → sorts_with (length rules) (s.parameter f) v h ≡ heads s f h
    same_head f params (Var j) l = refl
    same_head f params (Nt g) l = r.nonterminals g l
    same_head f params (Tm a) l = r.terminals a l

    are_ruled : AreRuled k rules v
    are_ruled f rule below at = record {
      parameters = s.parameter f;
      rest = behind rule.params (s.nonterminal f);
      begins = r.nonterminals f below ∙ sorting.nonterminals f rule at;
      body = λ l.
          has_in_range rule.params (length rules) (length ranks) (heads s f) (sorts_with (length rules) (s.parameter f) v) (same_head f rule.params) rule.body (behind rule.params (s.nonterminal f)) (in_range f rule at)
          (sorting.bodies f rule l at);
    }

  -- the other way round
  module _ (v : Valuation) (f : ℕ) (rule : Rule) (q : IsRuled (length rules) k f rule v) where
    left : q.rest ≡ behind rule.params (v f)
    left = left_behind rule.params q.parameters q.rest (v f) q.begins

    head_is : (h : Head) → HeadInRange rule.params (length rules) (length ranks) h → heads (sorts_at (length rules) v) f h ≡ sorts_with (length rules) q.parameters v h
    head_is (Var j) l = argument_is rule.params q.parameters q.rest (v f) j l q.begins
    head_is (Nt g) l = refl
    head_is (Tm a) l = refl

  is_sorting : (v : Valuation) → IsBaseSort 0 v → AreRanked ranks (length rules) v → AreRuled k rules v → IsSorting rules ranks k (sorts_at (length rules) v)
  is_sorting v s t b = record {
    nonterminals = λ f rule at.
        let q = b f rule (slice_get_within rules f rule at) at in
        q.begins
        ∙ (arrows_same rule.params q.parameters (λ j. sort_at (arguments (v f)) j) q.rest (λ j l. sym (argument_is rule.params q.parameters q.rest (v f) j l q.begins))
        ∙ ap (arrows rule.params (λ j. sort_at (arguments (v f)) j)) (left v f rule q));
    bodies = λ f rule below at.
        let q = b f rule (slice_get_within rules f rule at) at in
        subst (HasSort (heads (sorts_at (length rules) v) f) rule.body) (left v f rule q)
        (has_in_range rule.params (length rules) (length ranks) (sorts_with (length rules) q.parameters v) (heads (sorts_at (length rules) v) f) (head_is v f rule q) rule.body q.rest (in_range f rule at) (q.body below));
    start = s;
    terminals = λ a n at. t a (Some n) (slice_get_within ranks a (Some n) at) at;
  }

  -- a sorting's valuation after one more claim
  go_on : (nodes next : List Node) (P : Valuation → Type 0) → length rules + length ranks ≤ length nodes → Claims nodes next P → (s : Sorts)
      → (r : Realization (length rules) (length ranks) nodes s) → P r.valuation → Realization (length rules) (length ranks) next s
  go_on nodes next P room claims s r p =
      let w = claims.complete r.valuation r.respects p in
      record { valuation = w.valuation; respects = w.respects; realizes = realizes_stable (length nodes) room s r.valuation w.valuation w.agrees r.realizes }

  module _ (laid : List Node) (out : LaysOut (length rules) (length ranks) laid) where
    pub no_start : ((v : Valuation) → IsValuationOf v laid → IsBaseSort 0 v → ⊥) → HasSorting rules ranks k → ⊥
    no_start never (s, sorting) =
        let v = out.any s in
        never v.valuation v.respects (start_base s sorting v.valuation v.realizes)

    module _ (started : List Node) (a : Claims laid started (IsBaseSort 0)) where
      room_started : length rules + length ranks ≤ length started
      room_started = omega (arith, out.room, a.longer)

      at_started : (s : Sorts) → IsSorting rules ranks k s → Realization (length rules) (length ranks) started s
      at_started s sorting = let v = out.any s in go_on laid started (IsBaseSort 0) out.room a s v (start_base s sorting v.valuation v.realizes)

      pub no_ranks : ((v : Valuation) → IsValuationOf v started → AreRanked ranks (length rules) v → ⊥) → HasSorting rules ranks k → ⊥
      no_ranks never (s, sorting) =
          let v = at_started s sorting in
          never v.valuation v.respects (are_ranked s sorting v.valuation v.realizes)

      module _ (ranked : List Node) (b : Claims started ranked (AreRanked ranks (length rules))) where
        pub room_ranked : length rules + length ranks ≤ length ranked
        room_ranked = omega (arith, room_started, b.longer)

        at_ranked : (s : Sorts) → IsSorting rules ranks k s → Realization (length rules) (length ranks) ranked s
        at_ranked s sorting = let v = at_started s sorting in go_on started ranked (AreRanked ranks (length rules)) room_started b s v (are_ranked s sorting v.valuation v.realizes)

        pub no_rules : ((v : Valuation) → IsValuationOf v ranked → AreRuled k rules v → ⊥) → HasSorting rules ranks k → ⊥
        no_rules never (s, sorting) =
            let v = at_ranked s sorting in
            never v.valuation v.respects (are_ruled s sorting v.valuation v.realizes)

        pub solved : (whole : List Node) → Claims ranked whole (AreRuled k rules) → Solves rules ranks k whole
        solved whole c = record {
          room = omega (arith, room_ranked, c.longer);
          sound = λ v r.
              let z = c.sound v r in
              let y = b.sound v z.0 in
              let x = a.sound v y.0 in
              is_sorting v x.1 y.1 z.1;
          complete = λ s sorting.
              let v = at_ranked s sorting in
              go_on ranked whole (AreRuled k rules) room_ranked c s v (are_ruled s sorting v.valuation v.realizes);
        }
