-- Instances, and what follows by them.
use Rattle.std.proofs.Common.{◌≡◌, refl, sym, ◌∙◌, ap, subst, ℕ, zero, suc, ◌+◌, ◌<◌, Option, Some, None, MatchOption, List, [], ◌∷◌, ◌++◌, length, set, replicate, slice_index, take, drop, get_or, slice_get, option_map, arith, Contains, ◌⊎◌, inl, inr, ◌↔◌, ◌≤◌}
use Rattle.hs_scheme.specs.declared.term.Head.{Head}
use Rattle.hs_scheme.specs.Tree.{node, none, more, children, children-forest, forest-children}
use Rattle.hs_scheme.specs.declared.term.Head.TheVariants.{Tm}
use Rattle.hs_scheme.specs.flow.Points.{PointData, point_at, NonterminalWithin}
use Rattle.std.proofs.lemmas.Option.{slice_get-get_or, same_Some}
use Rattle.hs_scheme.specs.acceptance.Automaton.{next}
use Rattle.hs_scheme.specs.Problem.{ProblemData}
use Rattle.hs_scheme.proofs.Lists.{none_in, here, later, uncons, Contains-at}
use Rattle.hs_table.specs.Types.{TypeTree, state, arrow, arrows}
use Rattle.hs_table.specs.Entries.{Env, EntryData, params_of}
use Rattle.hs_table.specs.Follows.{IsHeadType, Chosen, done, next_argument, choose, Follows, HasMove}
use Rattle.hs_table.specs.Tables.{IsInstance}
use Rattle.std.proofs.Math.ListN.{length-set, length-replicate}
use Rattle.std.proofs.lemmas.List.{get_or-set_same}
use Rattle.std.proofs.lemmas.List.Elements.{Contains-get_or, Contains-append_cases}
use Rattle.hs_table_laws.proofs.Members.{from_map}
use Rattle.hs_table_plain.specs.Enumeration.{through, opening, head_types, retyped, child_type, child_types, types_in, terminal_types, all_at}
use Rattle.hs_table_plain.proofs.Members.{from_flat_map, into_flat_map, next_member, in_pushed}
use Rattle.hs_table_plain.proofs.ChoiceLemmas.{choose_all, through_arrows, split_from, at_place, from_all}
use Rattle.hs_table_plain.proofs.HeadLemmas.{from_heads, into_heads, from_children}
use Rattle.hs_table_plain.proofs.ConclusionLemmas.{all_at_exact}
use Rattle.hs_checker.specs.Slots.{HasTypeAt, HasTypesAt, FitsSets, AreBare, AreInShape, IsConclusion}

module _ (p : ProblemData) (E : List EntryData) (shapes : AreInShape p E) where
  pub record Choice (i : ℕ) (us : List ℕ) (ty : TypeTree) : Type 0 where
    pub sets : Env
    pub rest : TypeTree
    pub is : ty ≡ arrows sets rest
    pub args : List (ℕ × ℕ)
    pub chosen : List EntryData
    pub are : Chosen p E i us sets args chosen

  with_set : (i u : ℕ) (us : List ℕ) (ss : Env) (args : List (ℕ × ℕ)) (es : List EntryData) (s : List TypeTree) → HasTypesAt E u s → Chosen p E (suc i) us ss args es
      → (bs : List (ℕ × ℕ)) × ((fs : List EntryData) × Chosen p E i (u ∷ us) (s ∷ ss) bs fs)
  with_set i u us ss args es [] has are = (args, (es, next_argument are))
  with_set i u us ss args es (a ∷ s) has are =
      let rest = with_set i u us ss args es s (λ b c. has b (later a b s c)) are in
      let own = has a (here a s) in
      let place = at_place p E shapes own.entry own.there in
      ((i, place.0) ∷ rest.0, (own.entry ∷ rest.1.0, choose place.1 own.at own.typed rest.1.1))

  pub fits_choice : (i : ℕ) (us : List ℕ) (ty : TypeTree) → FitsSets E us ty → Choice i us ty
  fits_choice i [] ty h = record { sets = []; rest = ty; is = refl; args = []; chosen = []; are = done }
  fits_choice i (u ∷ us) (node (Some q) ts) h = absurd h
  fits_choice i (u ∷ us) (node None none) h = absurd h
  fits_choice i (u ∷ us) (node None (more t ts)) h =
      let rest = fits_choice (suc i) us t h.1 in
      let all = with_set i u us rest.sets rest.args rest.chosen (children ts) h.0 rest.are in
      record {
        sets = children ts ∷ rest.sets;
        rest = rest.rest;
        is = let kids = sym (forest-children ts) in λ k. node None (more (rest.is k) (kids k));
        args = all.0;
        chosen = all.1.0;
        are = all.1.1;
      }

  pub choice_fits : {i : ℕ} {us : List ℕ} {ss : Env} {args : List (ℕ × ℕ)} {es : List EntryData} (t : TypeTree) → Chosen p E i us ss args es → FitsSets E us (arrows ss t)
  choice_fits t done = tt
  choice_fits t (next_argument {us = us} {ss = ss} h) = (λ a c. absurd (none_in a c), choice_fits t h)
  choice_fits t (choose {u = u} {place = place} {a = a} {s = s} {e = e} at point ty h) =
      let before = choice_fits t h in
      let own : HasTypeAt E u a = record { entry = e; there = Contains-at E place e at.at; at = point; typed = ty } in (
        λ b c. elim (uncons a b s (subst (λ xs. Contains xs b) (children-forest (a ∷ s)) c)) [
          | inl is ↦ subst (λ z. HasTypeAt E u z) (sym is) own
          | inr there ↦ before.0 b (subst (λ xs. Contains xs b) (sym (children-forest s)) there)
        ],
        before.1,
      )

  -- where something comes through, the type fits
  pub through_fits : (us : List ℕ) (ty : TypeTree) (es : List EntryData) (y : EntryData) → Contains (through E us ty es) y → FitsSets E us ty
  through_fits us ty es y c =
      let split = split_from E us ty es y c in
      let gives = subst (λ x. Contains x y) (ap (λ x. through E us x es) split.is ∙ through_arrows E us split.sets split.rest es split.long) c in
      let image = from_map (retyped split.rest) (choose_all E us split.sets es) y gives in
      let found = from_all p E shapes us split.sets es image.item split.long image.there in
      subst (λ z. FitsSets E us z) (sym split.is) (choice_fits split.rest (found.are 0).1)

  module _ (point rule : ℕ) (head : Head) (args : List ℕ) (lt : point < length p.points.points)
      (rule_is : rule ≡ (point_at p.points point).rule) (head_is : head ≡ (point_at p.points point).head) (args_is : args ≡ (point_at p.points point).args) (within : NonterminalWithin (length p.points.bodies) head) where
    at : slice_get p.points.points point ≡ Some (point_at p.points point)
    at = slice_get-get_or p.points.points point (record { rule = 0; head = Tm 0; args = [] }) lt

    to_instance : (t : TypeTree) → Contains (head_types p E rule head) t → FitsSets E args t → IsInstance p E point t
    to_instance t c h =
        let by = from_heads p E shapes rule head t within c in
        let choice = fits_choice 0 args t h in
        record {
          of = point_at p.points point;
          at = at;
          by = by.0;
          head = subst (λ (x : Head). IsHeadType p E (point_at p.points point).rule x by.0 t) head_is (subst (λ (r : ℕ). IsHeadType p E r head by.0 t) rule_is by.1);
          sets = choice.sets;
          rest = choice.rest;
          is = choice.is;
          args = choice.args;
          chosen = choice.chosen;
          are = subst (λ (us : List ℕ). Chosen p E 0 us choice.sets choice.args choice.chosen) args_is choice.are;
        }

    from_instance : (t : TypeTree) → IsInstance p E point t → Contains (head_types p E rule head) t × FitsSets E args t
    from_instance t h =
        let same : h.of ≡ point_at p.points point = same_Some h.of (point_at p.points point) (sym h.at ∙ at) in
        let typed = into_heads p E shapes h.of.rule h.of.head h.by t h.head in
        let fits = subst (λ z. FitsSets E h.of.args z) (sym h.is) (choice_fits h.rest h.are) in
        let rules_same : h.of.rule ≡ rule = ap (λ (d : PointData). d.rule) same ∙ sym rule_is in
        let heads_same : h.of.head ≡ head = ap (λ (d : PointData). d.head) same ∙ sym head_is in
        let args_same : h.of.args ≡ args = ap (λ (d : PointData). d.args) same ∙ sym args_is in (
          subst (λ (x : Head). Contains (head_types p E rule x) t) heads_same (subst (λ (r : ℕ). Contains (head_types p E r h.of.head) t) rules_same typed),
          subst (λ (us : List ℕ). FitsSets E us t) args_same fits,
        )

    pub instance_exact : (t : TypeTree) → (Contains (head_types p E rule head) t × FitsSets E args t) ↔ IsInstance p E point t
    instance_exact t = (λ both. to_instance t both.0 both.1, from_instance t)

    part : {A : Type 0} (f : PointData → A) (r : A) → r ≡ f (point_at p.points point) → option_map f (slice_get p.points.points point) ≡ Some r
    part f r is = ap (option_map f) at ∙ ap (λ x. Some x) (sym is)

    all_exact : (e : EntryData) → Contains (all_at p E point rule (params_of p rule) head args) e ↔ ((e.point ≡ point) × Follows p E e)
    all_exact e = all_at_exact p E point rule head args shapes lt (part (λ d. d.rule) rule rule_is) (part (λ d. d.head) head head_is) (part (λ d. d.args) args args_is) within e

    pub conclusion_exact : (params : ℕ) (types : List TypeTree) → params ≡ params_of p rule → ((t : TypeTree) → Contains types t ↔ IsInstance p E point t)
        → (e : EntryData) → IsConclusion E point params head args types e ↔ ((e.point ≡ point) × Follows p E e)
    conclusion_exact params types params_are types_are e =
        let n = params_of p rule in
        let exact = all_exact e in (
          λ k. exact.0 (into_flat_map (λ ty. through E args ty (opening point n head ty ∷ [])) (head_types p E rule head) k.ty e (from_instance k.ty ((types_are k.ty).0 k.there)).0
              (subst (λ (m : ℕ). Contains (through E args k.ty (opening point m head k.ty ∷ [])) e) params_are k.comes)),
          λ both.
              let s = from_flat_map (λ ty. through E args ty (opening point n head ty ∷ [])) (head_types p E rule head) e (exact.1 both) in
              let fits = through_fits args s.item (opening point n head s.item ∷ []) e s.gives in
              record {
                ty = s.item;
                there = (types_are s.item).1 (to_instance s.item s.there fits);
                comes = subst (λ (m : ℕ). Contains (through E args s.item (opening point m head s.item ∷ [])) e) (sym params_are) s.gives;
              },
        )

pub types_at_more : (E : List EntryData) (u : ℕ) (set : List TypeTree) (k : ℕ) (a : TypeTree) → k < length set → a ≡ get_or set k a → HasTypesAt E u (take k set) → HasTypeAt E u a → HasTypesAt E u (take (k + 1) set)
types_at_more E u set k a lt read before own b c = elim ((next_member set k a b lt read).0 c) [
  | inl t ↦ before b t
  | inr same ↦ subst (λ z. HasTypeAt E u z) (sym same) own
]

-- an arrow fits where its set has entries, and its result fits
pub fits_arrow : (E : List EntryData) (us : List ℕ) (u : ℕ) (set : List TypeTree) (t ty : TypeTree) → slice_get us 0 ≡ Some u → ty ≡ arrow set t → (HasTypesAt E u set × FitsSets E (drop 1 us) t) ↔ FitsSets E us ty
fits_arrow E [] u set t ty at is = absurd (cc)
fits_arrow E (v ∷ us) u set t ty at is =
    let same : v ≡ u = same_Some v u at in
    let kids = children-forest set in (
      λ both. subst (λ z. FitsSets E (v ∷ us) z) (sym is) (subst (λ (s : List TypeTree). HasTypesAt E v s) (sym kids) (subst (λ w. HasTypesAt E w set) (sym same) both.0), both.1),
      λ h. let g = subst (λ z. FitsSets E (v ∷ us) z) is h in (subst (λ w. HasTypesAt E w set) same (subst (λ (s : List TypeTree). HasTypesAt E v s) kids g.0), g.1),
    )

-- cases of a search that may find nothing
pub match_map : {X : Type 0} (o : Option X) (P P' : Type 0) (Q Q' : X → Type 0) → (P → P') → ((x : X) → Q x → Q' x) → MatchOption o P Q → MatchOption o P' Q'
match_map None P P' Q Q' f g h = f h
match_map (Some x) P P' Q Q' f g h = g x h

-- what comes of the types so far, and of one more
pub conclusion_more : (E : List EntryData) (point params : ℕ) (head : Head) (args : List ℕ) (types : List TypeTree) (k : ℕ) (ty : TypeTree) → k < length types → ty ≡ get_or types k ty
    → ((e : EntryData) → IsConclusion E point params head args (take k types) e → Contains E e)
    → ((e : EntryData) → Contains (through E args ty (opening point params head ty ∷ [])) e → Contains E e)
    → (e : EntryData) → IsConclusion E point params head args (take (k + 1) types) e → Contains E e
conclusion_more E point params head args types k ty lt read before own e h = elim ((next_member types k ty h.ty lt read).0 h.there) [
  | inl t ↦ before e (record { ty = h.ty; there = t; comes = h.comes })
  | inr same ↦ own e (subst (λ z. Contains (through E args z (opening point params head z ∷ [])) e) same h.comes)
]

-- each set has entries at its argument
pub fits_set : (E : List EntryData) (us : List ℕ) (ss : Env) (t : TypeTree) (k u : ℕ) → slice_get us k ≡ Some u → k < length ss → FitsSets E us (arrows ss t) → HasTypesAt E u (get_or ss k [])
fits_set E [] ss t zero u read lt h = absurd (cc)
fits_set E [] ss t (suc k) u read lt h = absurd (cc)
fits_set E (v ∷ us) [] t k u read lt h = absurd (omega arith)
fits_set E (v ∷ us) (s ∷ ss) t zero u read lt h = ((fits_arrow E (v ∷ us) u s (arrows ss t) (arrow s (arrows ss t)) read refl).1 h).0
fits_set E (v ∷ us) (s ∷ ss) t (suc k) u read lt h = fits_set E us ss t k u read (omega arith) h.1

-- so a child's type fits only where an entry at its argument has the child's state
pub unfit_child : (E : List EntryData) (us qs : List ℕ) (q place u : ℕ) → place < length qs → slice_get us place ≡ Some u → (HasTypeAt E u (state (slice_index qs place)) → ⊥) → FitsSets E us (child_type qs q place) → ⊥
unfit_child E us qs q place u lt read never h =
    let r = state (slice_index qs place) in
    let empty : List TypeTree = [] in
    let sets : Env = replicate (length qs) empty in
    let long : length sets ≡ length qs = length-replicate (length qs) empty in
    let within : place < length sets = omega (arith, long) in
    let has = fits_set E us (set sets place (r ∷ [])) (state q) place u read (omega (arith, length-set sets place (r ∷ []), within)) h in
    never (subst (λ s. HasTypesAt E u s) (get_or-set_same sets place (r ∷ []) [] within) has r (here r []))

-- over arguments without entries no child's type fits
pub bare_unfit : (E : List EntryData) (us to : List ℕ) (q : ℕ) (t : TypeTree) → AreBare E us → length to ≤ length us → Contains (child_types to q (length to)) t → FitsSets E us t → ⊥
bare_unfit E us to q t bare le c fits =
    let r = from_children to q (length to) t c in
    let lt : r.0 < length us = omega (arith, r.1.0) in
    let u = get_or us r.0 0 in
    unfit_child E us to q r.0 u r.1.0 (slice_get-get_or us r.0 0 lt) (bare u (state (slice_index to r.0)) (Contains-get_or us r.0 0 lt)) (subst (λ z. FitsSets E us z) r.1.1 fits)

-- so nothing comes of a state that has a transition for no more children than there are arguments
pub barren_unfit : (p : ProblemData) (E : List EntryData) (us : List ℕ) (a q : ℕ) (t : TypeTree) → AreBare E us → HasMove p.sorted.automaton.transitions a (length us) q
    → Contains (types_in p a q (next p.sorted.automaton.transitions q a)) t × FitsSets E us t → ⊥
barren_unfit p E us a q t bare moves both =
    bare_unfit E us moves.0 q t bare moves.1.1 (subst (λ (o : Option (List ℕ)). Contains (types_in p a q o) t) moves.1.0 both.0) both.1

-- so nothing of any of the states below n, where each has one
pub barren_below : (p : ProblemData) (E : List EntryData) (us : List ℕ) (a n : ℕ) (t : TypeTree) → AreBare E us → ((q : ℕ) → q < n → HasMove p.sorted.automaton.transitions a (length us) q)
    → Contains (terminal_types p a n) t × FitsSets E us t → ⊥
barren_below p E us a zero t bare moves both = none_in t both.0
barren_below p E us a (suc n) t bare moves both = elim (Contains-append_cases (terminal_types p a n) (types_in p a n (next p.sorted.automaton.transitions n a)) t both.0) [
  | inl below ↦ barren_below p E us a n t bare (λ q lt. moves q (omega arith)) (below, both.1)
  | inr own ↦ barren_unfit p E us a n t bare (moves n (omega arith)) (own, both.1)
]

pub bare_more : (E : List EntryData) (us : List ℕ) (k u : ℕ) → k < length us → u ≡ get_or us k u → AreBare E (take k us) → ((a : TypeTree) → HasTypeAt E u a → ⊥) → AreBare E (take (k + 1) us)
bare_more E us k u lt read before own v a c has = elim ((next_member us k u v lt read).0 c) [
  | inl t ↦ before v a t has
  | inr same ↦ own a (subst (λ z. HasTypeAt E z a) same has)
]

-- those so far that fit, and one more
pub fitting_added : (E : List EntryData) (args : List ℕ) (olds found news : List TypeTree) (a : TypeTree) → ((t : TypeTree) → Contains news t ↔ (Contains found t ⊎ ((t ≡ a) × FitsSets E args t)))
    → ((t : TypeTree) → Contains found t ↔ (Contains olds t × FitsSets E args t)) → (t : TypeTree) → Contains news t ↔ (Contains (olds ++ a ∷ []) t × FitsSets E args t)
fitting_added E args olds found news a added before t =
    let member = in_pushed olds a t in (
      λ c. elim ((added t).0 c) [
        | inl old ↦ let b = (before t).0 old in (member.1 (inl b.0), b.1)
        | inr own ↦ (member.1 (inr own.0), own.1)
      ],
      λ both. (added t).1 (elim (member.0 both.0) [
        | inl there ↦ inl ((before t).1 (there, both.1))
        | inr same ↦ inr (same, both.1)
      ]),
    )
