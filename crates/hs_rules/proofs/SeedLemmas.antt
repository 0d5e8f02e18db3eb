-- What follows from no entries: by the types of the head that ask for nothing.
use Rattle.std.proofs.Common.{◌≡◌, refl, sym, ◌∙◌, ap, subst, slice_get, ◌<◌, ℕ, zero, suc, ◌+◌, None, Some, List, [], ◌∷◌, length, replicate, set, arith, Contains, inl, inr}
use Rattle.std.proofs.lemmas.Bool.{cases_lt}
use Rattle.std.proofs.lemmas.Option.{same_Some}
use Rattle.hs_scheme.specs.declared.term.Head.TheVariants.{Var, Nt, Tm}
use Rattle.hs_scheme.specs.acceptance.Automaton.{next}
use Rattle.hs_scheme.specs.flow.Points.{PointData}
use Rattle.hs_scheme.specs.Problem.{ProblemData}
use Rattle.hs_scheme.proofs.Lists.{none_in}
use Rattle.hs_table.specs.declared.support.HeadBy.{HeadBy}
use Rattle.hs_table.specs.declared.support.HeadBy.TheVariants.{Terminal, Rule, Param}
use Rattle.hs_table.specs.Types.{TypeTree, state, arrows}
use Rattle.hs_table.specs.Entries.{Env, EntryData, Has, InShape, params_of}
use Rattle.hs_table.specs.Follows.{rank_of, IsHeadType, Support, FollowsBy, Chosen, done, next_argument, choose, HasMove}
use Rattle.hs_table_laws.proofs.Places.{within_from}
use Rattle.hs_table_laws.proofs.Arrows.{empties_has, one_long, one_has, has_within}
use Rattle.hs_types.specs.Interned.{InternerData, IsInterner}
use Rattle.hs_rules.specs.Found.{HeadData}
use Rattle.hs_rules.specs.Heads.{IsNoGreaterHead, HasNoGreaterType, GainsHeads, AtRange, InState, AreHeads, AsksNothing}
use Rattle.hs_rules.specs.Conclusions.{DeducedData, AnySupport, AreConclusions}
use Rattle.hs_rules.specs.Parts.{HasRowFor}
use Rattle.hs_rules.proofs.ArrowLemmas.{arrows_long, takes_has}
use Rattle.hs_rules.proofs.SourceLemmas.{gained_are, lacking_type, child_type}
use Rattle.hs_rules.proofs.OrderLemmas.{head_itself}
use Rattle.hs_rules.proofs.FollowLemmas.{chosen_long}
use Rattle.hs_rules.proofs.PartLemmas.{part_none, part_conclusions}

-- without entries a support has none for a set
pub chosen_nothing : (p : ProblemData) {i : ℕ} {us : List ℕ} {ss : Env} {args : List (ℕ × ℕ)} {es : List EntryData} → Chosen p [] i us ss args es → (j : ℕ) (t : TypeTree) → Has ss j t → ⊥
chosen_nothing p done j t h = none_in t h
chosen_nothing p (next_argument c) zero t h = none_in t h
chosen_nothing p (next_argument c) (suc j) t h = chosen_nothing p c j t h
chosen_nothing p (choose at point ty c) j t h = absurd (let e = at.at in cc)

pub chosen_nothing_in : (p : ProblemData) (E : List EntryData) → E ≡ [] → (i : ℕ) (us : List ℕ) (ss : Env) (args : List (ℕ × ℕ)) (es : List EntryData) → Chosen p E i us ss args es → (j : ℕ) (t : TypeTree) → Has ss j t → ⊥
chosen_nothing_in p E none i us ss args es c = chosen_nothing p (subst (λ (l : List EntryData). Chosen p l i us ss args es) none c)

module _ (p : ProblemData) (log : List EntryData) (rule : ℕ) (args : List ℕ) (ids : InternerData) (heads : List HeadData) where
  -- nonterminals and parameters have no types
  pub bodies_nothing : (f : ℕ) → heads ≡ [] → AreHeads p [] (record { rule = rule; head = Nt f; args = args }) ids AsksNothing heads
  bodies_nothing f none = record { sound = λ h c. absurd (none_in h (subst (λ (hs : List HeadData). Contains hs h) none c)); all = all }
    where
      all : (by : HeadBy) (sets : Env) (rest : TypeTree) → length sets ≡ length args → IsHeadType p [] rule (Nt f) by (arrows sets rest) → AsksNothing by sets → HasNoGreaterType ids (length args) by sets rest heads
      all (Terminal q child) sets rest long h want = absurd h
      all (Rule k) sets rest long h want = absurd (let e = h.holds.at in cc)
      all (Param y k) sets rest long h want = absurd h

  pub params_nothing : (x : ℕ) → heads ≡ [] → AreHeads p [] (record { rule = rule; head = Var x; args = args }) ids AsksNothing heads
  params_nothing x none = record { sound = λ h c. absurd (none_in h (subst (λ (hs : List HeadData). Contains hs h) none c)); all = all }
    where
      all : (by : HeadBy) (sets : Env) (rest : TypeTree) → length sets ≡ length args → IsHeadType p [] rule (Var x) by (arrows sets rest) → AsksNothing by sets → HasNoGreaterType ids (length args) by sets rest heads
      all (Terminal q child) sets rest long h want = absurd h
      all (Rule k) sets rest long h want = absurd h
      all (Param y k) sets rest long h want = absurd (let e = h.1.holds.at in cc)

  module _ (a : ℕ) where
    abbrev own : Env
    own = replicate (params_of p rule) []

    abbrev Seeds : HeadBy → Env → TypeTree → Type 0
    Seeds = AtRange (InState p.sorted.automaton.transitions a (rank_of p a) (length args) own) 0 p.sorted.automaton.states

    -- those of a terminal: without transition, or by a child that has no argument here
    pub terminals_nothing : GainsHeads ids (length args) Seeds [] heads → ((q : ℕ) (to : List ℕ) → next p.sorted.automaton.transitions q a ≡ Some to → length to ≡ rank_of p a)
        → AreHeads p [] (record { rule = rule; head = Tm a; args = args }) ids AsksNothing heads
    terminals_nothing g ranks =
        gained_are p [] (record { rule = rule; head = Tm a; args = args }) ids AsksNothing Seeds heads
        (λ by o t s. elim s.source [
          | inl l ↦ lacking_type p log 0 rule args no_shapes a ids heads s.place by o t s.most l
          | inr c ↦ child_type p log 0 rule args no_shapes a ids heads s.place c.place by o t s.most c.source
        ])
        (λ by o sets rest s long j t has. elim s.source [
          | inl l ↦
              let full : Env = replicate (rank_of p a) [] in
              let more = arrows_long full sets s.place rest (sym l.just.2) in
              let k = takes_has full (state s.place) j t (record { sets = sets; rest = rest; is = sym l.just.2; has = has }) (omega (arith, more, has_within sets j t has)) in
              empties_has (rank_of p a) j t k
          | inr c ↦
              let to = c.source.to in
              let r = c.source.child.r in
              let is = c.source.child.just.2 in
              let full = set (replicate (length to) []) c.place (state r ∷ []) in
              let more = arrows_long full sets s.place rest (sym is) in
              let below = has_within sets j t has in
              let many = one_long (length to) c.place (state r ∷ []) in
              let k = takes_has full (state s.place) j t (record { sets = sets; rest = rest; is = sym is; has = has }) (omega (arith, more, below)) in
              let at = (one_has (length to) c.place j (state r) t (omega (arith, more, below, many))).0 k in
              omega (arith, at.0, below, long, c.least)
        ]) into g
      where
        no_shapes : (e : EntryData) → Contains [] e → InShape p e
        no_shapes e c = absurd (none_in e c)

        into : (by : HeadBy) (sets : Env) (rest : TypeTree) → length sets ≡ length args → IsHeadType p [] rule (Tm a) by (arrows sets rest) → AsksNothing by sets → (b : HeadBy) × (o : Env) × Seeds b o (arrows sets rest) × IsNoGreaterHead b by
        into (Terminal q None) sets rest long h want = (Terminal q None, own, record { place = q; least = omega arith; most = h.0; source = inl (record { moves = h.1.moves; just = (refl, refl, h.1.is) }) }, head_itself (Terminal q None))
        into (Terminal q (Some child)) sets rest long h want =
            let k = h.1 in
            let below = within_from k.qs k.place k.r k.at in
            elim (cases_lt k.place (length args)) [
              | inl early ↦
                  let full = set (replicate (length k.qs) []) k.place (state k.r ∷ []) in
                  let has = (one_has (length k.qs) k.place k.place (state k.r) (state k.r) below).1 (refl, refl) in
                  absurd (want k.place (state k.r) (takes_has sets rest k.place (state k.r) (record { sets = full; rest = state q; is = k.is; has = has }) (omega (arith, early, long))))
              | inr late ↦ (
                Terminal q (Some (k.place + 1)),
                own,
                record {
                  place = q;
                  least = omega arith;
                  most = h.0;
                  source = inr (record {
                    place = k.place;
                    least = late;
                    most = omega (arith, ranks q k.qs k.moves, below);
                    source = record { to = k.qs; moves = k.moves; child = record { r = k.r; at = k.at; just = (refl, refl, k.is) } };
                  });
                },
                head_itself (Terminal q (Some (k.place + 1))),
              )
            ]
        into (Rule k) sets rest long h want = absurd h
        into (Param y k) sets rest long h want = absurd h

    -- none of a terminal that has a transition in each state, with no more children than there are arguments
    pub moving_nothing : heads ≡ [] → ((q : ℕ) → q < p.sorted.automaton.states → HasMove p.sorted.automaton.transitions a (length args) q)
        → ((q : ℕ) (to : List ℕ) → next p.sorted.automaton.transitions q a ≡ Some to → length to ≡ rank_of p a)
        → AreHeads p [] (record { rule = rule; head = Tm a; args = args }) ids AsksNothing heads
    moving_nothing none moves ranks = terminals_nothing gains ranks
      where
        no_seeds : (by : HeadBy) (o : Env) (t : TypeTree) → Seeds by o t → ⊥
        no_seeds by o t s =
            let m = moves s.place s.most in
            elim s.source [
              | inl l ↦ let e = sym l.moves ∙ m.1.0 in absurd (cc)
              | inr c ↦
                  let same : m.0 ≡ c.source.to = same_Some m.0 c.source.to (sym m.1.0 ∙ c.source.moves) in
                  let long : length m.0 ≡ length c.source.to = ap (λ (qs : List ℕ). length qs) same in
                  absurd (omega (arith, long, m.1.1, c.least, within_from c.source.to c.place c.source.child.r c.source.child.at))
            ]

        gains : GainsHeads ids (length args) Seeds [] heads
        gains = record {
          sound = λ h c. inl (subst (λ (hs : List HeadData). Contains hs h) none c);
          keeps = λ h c. absurd (none_in h c);
          all = λ by o t s sets rest long is. absurd (no_seeds by o t s);
        }

-- without such a head nothing follows at a point
pub nothing_follows : (p : ProblemData) (ids : InternerData) (point : ℕ) (of : PointData) (found : List DeducedData) → found ≡ [] → slice_get p.points.points point ≡ Some of
    → IsInterner ids → AreHeads p [] of ids AsksNothing [] → AreConclusions p ids [] point AnySupport found
nothing_follows p ids point of found none at numbers are = part_conclusions p ids [] point AnySupport [] found numbers (part_none p ids [] point AnySupport [] found refl none) all
  where
    all : (s : Support) (e : EntryData) → e.point ≡ point → FollowsBy p [] s e → AnySupport s → HasRowFor ids found s e
    all s e here_is f counts =
        let same : f.of ≡ of = same_Some f.of of (sym f.at ∙ (ap (λ k. slice_get p.points.points k) here_is ∙ at)) in
        let long : length f.sets ≡ length of.args = sym (chosen_long p [] f.are) ∙ ap (λ (o : PointData). length o.args) same in
        let head = subst (λ (o : PointData). IsHeadType p [] o.rule o.head s.head (arrows f.sets e.ty)) same f.head in
        let has = are.all s.head f.sets e.ty long head (λ j t h. chosen_nothing p f.are j t h) in
        absurd (none_in has.1.1.item has.1.1.there)
