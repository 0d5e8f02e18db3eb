-- Only candidates of slots.
use Rattle.std.proofs.Common.{◌≡◌, refl, sym, ◌∙◌, ap, subst, ℕ, ◌<◌, Bool, List, [], ◌∷◌, ◌++◌, length, take, drop, map, get_or, slice_get, Some, arith, ◌⊎◌, inl, inr, Contains}
use Rattle.std.specs.List.{insert, refill}
use Rattle.std.proofs.Math.Seq.{take-append_seam}
use Rattle.std.proofs.lemmas.List.{get_or-map, length-map}
use Rattle.std.proofs.lemmas.List.Elements.{Contains-append_left, Contains-append_cases, Contains-push, Contains-get_or}
use Rattle.std.proofs.lemmas.Option.{same_Some}
use Rattle.hs_scheme.proofs.Lists.{none_in, here, uncons, only}
use Rattle.hs_table.specs.Types.{TypeTree}
use Rattle.hs_table.specs.Entries.{Env, EntryData, Has, IsEnv}
use Rattle.hs_table.specs.Follows.{AnyHas}
use Rattle.hs_table_laws.proofs.Arrows.{has_within}
use Rattle.hs_table_laws.proofs.Members.{from_map, into_map}
use Rattle.hs_types.specs.Interned.{InternerData, env_of_id, IsUnionEnv}
use Rattle.hs_rules.specs.Order.{chosen_places, IsLess}
use Rattle.hs_rules.specs.Slots.{FilledData, Picked, none_left, pick, IsJoin}
use Rattle.hs_rules.specs.Joins.{PartialData, FillsBy, HasLesserPlaces, AreAscending, AreAsLong, IsMadeOf, IsAmongJoined, CanFill, with_choice, HaveSole, SoleAsks, IsWithSole, AreJoined, LeadBySole}
use Rattle.hs_rules.proofs.OrderLemmas.{less_insert, no_greater_same, places_insert}
use Rattle.hs_rules.proofs.JoinLemmas.{as_long}

-- two places of an only candidate are one, with one entry
same_entry : (log : List EntryData) (places : List ℕ) (p q : ℕ) (d e : EntryData) → places ≡ q ∷ [] → Contains places p → slice_get log p ≡ Some d → slice_get log q ≡ Some e → d ≡ e
same_entry log places p q d e alone there at_p at_q =
    let is = only q p (subst (λ (ps : List ℕ). Contains ps p) alone there) in
    same_Some d e (sym at_p ∙ (ap (λ (k : ℕ). slice_get log k) is ∙ at_q))

sole_there : (places : List ℕ) (p : ℕ) → places ≡ p ∷ [] → Contains places p
sole_there places p alone = subst (λ (ps : List ℕ). Contains ps p) (sym alone) (here p [])

pub sole_none : (log : List EntryData) (n : ℕ) (own : Env) → IsEnv n own → IsWithSole log n own [] own
sole_none log n own is = record { is_env = is; has = λ j a. (λ h. inl h, λ h. elim h [ inl k ↦ k | inr s ↦ absurd (none_in s.slot s.among) ]) }

-- one more slot
module _ (log : List EntryData) (n : ℕ) (own : Env) (fs : List FilledData) (f : FilledData) where
  sole_earlier : (j : ℕ) (a : TypeTree) → SoleAsks log fs j a → SoleAsks log (fs ++ f ∷ []) j a
  sole_earlier j a s = record { slot = s.slot; among = Contains-append_left fs (f ∷ []) s.slot s.among; place = s.place; alone = s.alone; entry = s.entry; at = s.at; has = s.has }

  sole_cases : (j : ℕ) (a : TypeTree) (s : SoleAsks log (fs ++ f ∷ []) j a) → SoleAsks log fs j a ⊎ (s.slot ≡ f)
  sole_cases j a s = elim (Contains-append_cases fs (f ∷ []) s.slot s.among) [
    | inl was ↦ inl (record { slot = s.slot; among = was; place = s.place; alone = s.alone; entry = s.entry; at = s.at; has = s.has })
    | inr last ↦ inr (only f s.slot last)
  ]

  -- with more candidates or none
  pub sole_other : (env : Env) → IsWithSole log n own fs env → ((place : ℕ) → f.places ≡ place ∷ [] → ⊥) → IsWithSole log n own (fs ++ f ∷ []) env
  sole_other env w none = record { is_env = w.is_env; has = λ j a. (λ h. forth j a ((w.has j a).0 h), λ h. (w.has j a).1 (back j a h)) }
    where
      forth : (j : ℕ) (a : TypeTree) → Has own j a ⊎ SoleAsks log fs j a → Has own j a ⊎ SoleAsks log (fs ++ f ∷ []) j a
      forth j a (inl h) = inl h
      forth j a (inr s) = inr (sole_earlier j a s)

      back : (j : ℕ) (a : TypeTree) → Has own j a ⊎ SoleAsks log (fs ++ f ∷ []) j a → Has own j a ⊎ SoleAsks log fs j a
      back j a (inl h) = inl h
      back j a (inr s) = elim (sole_cases j a s) [
        | inl was ↦ inr was
        | inr is ↦ absurd (none s.place (ap (λ (x : FilledData). x.places) (sym is) ∙ s.alone))
      ]

  -- with one
  pub sole_more : (env union : Env) (place : ℕ) (e : EntryData) → f.places ≡ place ∷ [] → slice_get log place ≡ Some e → IsWithSole log n own fs env → IsUnionEnv env e.env union
      → IsWithSole log n own (fs ++ f ∷ []) union
  sole_more env union place e alone at w u = record {
    is_env = record { long = u.long ∙ w.is_env.long; sets = λ k. (u.sets k).ascends };
    has = λ j a. (λ h. forth j a (((u.sets j).exact a).0 h), λ h. ((u.sets j).exact a).1 (back j a h));
  }
    where
      forth : (j : ℕ) (a : TypeTree) → Has env j a ⊎ Has e.env j a → Has own j a ⊎ SoleAsks log (fs ++ f ∷ []) j a
      forth j a (inl h) = elim ((w.has j a).0 h) [ inl k ↦ inl k | inr s ↦ inr (sole_earlier j a s) ]
      forth j a (inr h) = inr (record { slot = f; among = Contains-push fs f; place = place; alone = alone; entry = e; at = at; has = h })

      back : (j : ℕ) (a : TypeTree) → Has own j a ⊎ SoleAsks log (fs ++ f ∷ []) j a → Has env j a ⊎ Has e.env j a
      back j a (inl h) = inl ((w.has j a).1 (inl h))
      back j a (inr s) = elim (sole_cases j a s) [
        | inl was ↦ inl ((w.has j a).1 (inr was))
        | inr is ↦
            let there = sole_there f.places s.place (ap (λ (x : FilledData). x.places) (sym is) ∙ s.alone) in
            inr (subst (λ (x : EntryData). Has x.env j a) (same_entry log f.places s.place place s.entry e alone there s.at at) s.has)
      ]

-- what an only candidate asks for, each choice asks for
sole_asked : (log : List EntryData) {fs : List FilledData} {args : List (ℕ × ℕ)} {es : List EntryData} (j : ℕ) (a : TypeTree) → Picked (λ (f : FilledData). f.arg) (FillsBy log) fs args es → SoleAsks log fs j a → AnyHas es j a
sole_asked log j a none_left s = absurd (none_in s.slot s.among)
sole_asked log j a (pick {x = x} {xs = xs} {place = place} {e = e} h k) s = elim (uncons x s.slot xs s.among) [
  | inl is ↦
      let alone = ap (λ (y : FilledData). y.places) (sym is) ∙ s.alone in
      inl (subst (λ (y : EntryData). Has y.env j a) (sym (same_entry log x.places place s.place e s.entry alone h.among h.at s.at)) s.has)
  | inr was ↦ inr (sole_asked log j a k (record { slot = s.slot; among = was; place = s.place; alone = s.alone; entry = s.entry; at = s.at; has = s.has }))
]

module _ (ids : InternerData) (log : List EntryData) (n : ℕ) (own : Env) (all fs : List FilledData) (whole : Bool) (found : List PartialData) (lead : LeadBySole ids log n own all fs whole found) where
  -- an only candidate's types are there already
  pub lead_sole : (later : List EntryData) (f : FilledData) → later ≡ log → Contains all f → HaveSole ids later found f
  lead_sole later f same among = λ x there place e alone at.
      let j = (lead.joined.sound x there).join in
      let is = ap (λ (l : List EntryData). slice_get l place) (sym same) ∙ at in
      record {
        long = refl;
        sets = λ k. record { ascends = j.is_env.sets k; exact = λ a. (λ h. inl h, λ h. elim h [ inl m ↦ m | inr m ↦ asked k a (env_of_id ids x.env) (lead.joined.sound x there).chosen j place e alone is m ]) };
      }
    where
      asked : (k : ℕ) (a : TypeTree) (env : Env) (chosen : List EntryData) → IsJoin n lead.base chosen env → (place : ℕ) (e : EntryData) → f.places ≡ place ∷ [] → slice_get log place ≡ Some e → Has e.env k a → Has env k a
      asked k a env chosen j place e alone at h =
          let base = (lead.asks.has k a).1 (inr (record { slot = f; among = among; place = place; alone = alone; entry = e; at = at; has = h })) in
          (j.has k a (subst (λ (m : ℕ). k < m) lead.asks.is_env.long (has_within lead.base k a base))).1 (inl base)

-- where the choices are of all slots, they ask for what the only candidates ask for
pub lead_all : (ids : InternerData) (log : List EntryData) (n : ℕ) (own : Env) (fs : List FilledData) (is : Bool) (found : List PartialData) → LeadBySole ids log n own fs fs is found → AreJoined ids log n own fs is found
lead_all ids log n own fs is found lead = record {
  sound = λ x there.
      let s = lead.joined.sound x there in
      record { within = s.within; chosen = s.chosen; picked = s.picked; join = whole x.args s.chosen (env_of_id ids x.env) s.picked s.join };
  all = λ is_whole args chosen picked.
      let s = lead.joined.all is_whole args chosen picked in
      record { item = s.item; there = s.there; join = whole args chosen (env_of_id ids s.item.env) picked s.join; least = s.least };
  ascending = lead.joined.ascending;
}
  where
    forth : (args : List (ℕ × ℕ)) (chosen : List EntryData) (j : ℕ) (a : TypeTree) → Picked (λ (f : FilledData). f.arg) (FillsBy log) fs args chosen → Has lead.base j a ⊎ AnyHas chosen j a → Has own j a ⊎ AnyHas chosen j a
    forth args chosen j a picked (inl h) = elim ((lead.asks.has j a).0 h) [ inl k ↦ inl k | inr s ↦ inr (sole_asked log j a picked s) ]
    forth args chosen j a picked (inr h) = inr h

    back : (chosen : List EntryData) (j : ℕ) (a : TypeTree) → Has own j a ⊎ AnyHas chosen j a → Has lead.base j a ⊎ AnyHas chosen j a
    back chosen j a (inl h) = inl ((lead.asks.has j a).1 (inl h))
    back chosen j a (inr h) = inr h

    whole : (args : List (ℕ × ℕ)) (chosen : List EntryData) (env : Env) → Picked (λ (f : FilledData). f.arg) (FillsBy log) fs args chosen → IsJoin n lead.base chosen env → IsJoin n own chosen env
    whole args chosen env picked j = record { is_env = j.is_env; has = λ k a lt. (λ h. forth args chosen k a picked ((j.has k a lt).0 h), λ h. (j.has k a lt).1 (back chosen k a h)) }

-- the choice of an only candidate
module _ (arg at place : ℕ) where
  -- written over what was there
  pub choice_written : (old given new : List PartialData) → given ≡ old → new ≡ map (with_choice arg at place) given → refill (length old) old new ≡ map (with_choice arg at place) old
  choice_written old given new same is = subst (λ (ys : List PartialData). refill (length old) old ys ≡ ys) (sym (is ∙ ap (map (with_choice arg at place)) same)) filled ∙ (is ∙ ap (map (with_choice arg at place)) same)
    where
      many : List PartialData
      many = map (with_choice arg at place) old

      filled : refill (length old) old many ≡ many
      filled = ap (λ n. take n (many ++ drop (length many) old)) (sym (length-map old (with_choice arg at place))) ∙ take-append_seam many (drop (length many) old)

  pub choice_ascends : (old : List PartialData) → AreAscending old → AreAsLong old → AreAscending (map (with_choice arg at place) old)
  choice_ascends old up long i j d lt below =
      let many = length-map old (with_choice arg at place) in
      let j_in : j < length old = omega (arith, many, below) in
      let i_in : i < length old = omega (arith, lt, j_in) in
      let x = get_or old i d in
      let y = get_or old j d in
      let less = up i j d lt j_in in
      let same = long x y (Contains-get_or old i d i_in) (Contains-get_or old j d j_in) in
      let more : HasLesserPlaces (with_choice arg at place x) (with_choice arg at place y) =
      subst (λ (ps : List ℕ). IsLess ps (chosen_places (with_choice arg at place y).args)) (sym (places_insert x.args at arg place))
      (subst (λ (ps : List ℕ). IsLess (insert (chosen_places x.args) at place) ps) (sym (places_insert y.args at arg place))
      (less_insert (chosen_places x.args) (chosen_places y.args) at place (as_long x y same) less)) in
      subst (λ (z : PartialData). HasLesserPlaces z (get_or (map (with_choice arg at place) old) j d)) (sym (get_or-map (with_choice arg at place) old i d d i_in))
      (subst (λ (z : PartialData). HasLesserPlaces (with_choice arg at place x) z) (sym (get_or-map (with_choice arg at place) old j d d j_in)) more)

module _ (ids : InternerData) (log : List EntryData) (f : FilledData) (at : ℕ) (old : List PartialData) (place : ℕ) (alone : f.places ≡ place ∷ []) (can : CanFill ids log old f) (sole : HaveSole ids log old f) where
  pub choice_made : (x : PartialData) → Contains (map (with_choice f.arg at place) old) x → IsMadeOf ids ids log old f at x
  choice_made x there =
      let m = from_map (with_choice f.arg at place) old x there in
      let placed = (can m.item m.there).1 place (sole_there f.places place alone) in
      subst (λ (y : PartialData). IsMadeOf ids ids log old f at y) (sym m.is) (record {
        from = m.item;
        among = m.there;
        made = record {
          place = place;
          entry = placed.entry;
          fills = record { among = sole_there f.places place alone; at = placed.at };
          args = refl;
          within = (can m.item m.there).0;
          union = sole m.item m.there place placed.entry alone placed.at;
        };
      })

  pub choice_among : (from : PartialData) → Contains old from → (k : ℕ) (e : EntryData) → FillsBy log f k e → IsAmongJoined ids ids from at k e (map (with_choice f.arg at place) old)
  choice_among from there k e fills =
      let is = only place k (subst (λ (ps : List ℕ). Contains ps k) alone fills.among) in
      record {
        item = with_choice f.arg at place from;
        there = into_map (with_choice f.arg at place) old from there;
        within = (can from there).0;
        union = sole from there place e alone (ap (λ (i : ℕ). slice_get log i) (sym is) ∙ fills.at);
        least = no_greater_same (chosen_places (with_choice f.arg at place from).args) (insert (chosen_places from.args) at k)
            (places_insert from.args at f.arg place ∙ ap (λ (i : ℕ). insert (chosen_places from.args) at i) (sym is));
      }
