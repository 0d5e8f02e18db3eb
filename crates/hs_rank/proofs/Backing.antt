-- The supports of the entries of one more round.
use Rattle.std.proofs.Common.{◌≡◌, refl, sym, ◌∙◌, ap, subst, ℕ, suc, ◌<◌, List, [], ◌++◌, length, map, get_or, take, slice_get, Some, option_map, arith, Contains, inl, inr}
use Rattle.std.specs.declared.cmp.Ordering.TheVariants.{Less, Equal}
use Rattle.std.proofs.lemmas.Bool.{cases_order}
use Rattle.std.proofs.lemmas.Cmp.{tied_itself}
use Rattle.std.proofs.lemmas.List.{get_or-map, get_or_default, length-append, length-map, take-append-le, take_all}
use Rattle.std.proofs.lemmas.Option.{slice_get-map, same_Some}
use Rattle.hs_scheme.specs.Problem.{ProblemData}
use Rattle.hs_scheme.proofs.Lists.{none_in, Contains-at, place-append}
use Rattle.hs_scheme.proofs.TransitionLemmas.{mapped}
use Rattle.hs_scheme.specs.flow.Flow.{IsAscending}
use Rattle.hs_table.specs.Entries.{EntryData, entry_cmp}
use Rattle.hs_table.specs.Follows.{Support, FollowsBy, premises}
use Rattle.hs_table.specs.Tables.{IsLeastTable}
use Rattle.hs_table_laws.proofs.Members.{into_map}
use Rattle.hs_table_laws.proofs.Orders.{entry_cmp_total}
use Rattle.hs_table_laws.proofs.Places.{within_from}
use Rattle.hs_types.specs.Interned.{InternerData, entry_of}
use Rattle.hs_rules.specs.Order.{IsNoGreater}
use Rattle.hs_rules.specs.Conclusions.{DeducedData}
use Rattle.hs_rules.proofs.Lists.{along}
use Rattle.hs_rules.proofs.OrderLemmas.{no_greater_then}
use Rattle.hs_rank.specs.Canonical.{IsByRank, IsCanonicalLog}
use Rattle.hs_rank.specs.Fronts.{IsLeastSupport}
use Rattle.hs_rank.specs.Gathering.{AreNewDeduced, IsKnown}
use Rattle.hs_rank.specs.Ordering.{entries_of, picked, AreInOrder}
use Rattle.hs_rank.specs.Ranked.{HoldsRound, IsNextRound, HasLeastSupport, HaveLeastSupports}
use Rattle.hs_rank.proofs.Rounds.{rank_same}
use Rattle.hs_rank.proofs.Filling.{fresh_rank}
use Rattle.hs_rank.proofs.Fronts.{canonical_of}

-- what is read of images
pub image_at : {X Y : Type 0} (f : X → Y) (xs : List X) (k : ℕ) (y : Y) → slice_get (map f xs) k ≡ Some y → (x : X) × ((slice_get xs k ≡ Some x) × (f x ≡ y))
image_at f xs k y at = mapped f (slice_get xs k) y (sym (slice_get-map f xs k) ∙ at)

module _ (p : ProblemData) (n : ℕ) (log fresh : List EntryData) (a : HoldsRound p n log) (b : IsNextRound p log fresh) where
  fresh_front : take (length log) (log ++ fresh) ≡ log
  fresh_front = take-append-le (length log) log fresh (omega arith) ∙ take_all (length log) log (omega arith)

  -- a support of an entry that was there
  least_stays : (place : ℕ) (s : Support) (e : EntryData) → slice_get log place ≡ Some e → HasLeastSupport p log s e → HasLeastSupport p (log ++ fresh) s e
  least_stays place s e here h = record {
    rank = h.rank;
    front = h.front;
    has = h.has;
    within = omega (arith, h.within, length-append log fresh);
    is_front = record {
      lower = λ i d lt at. elim (place-append log fresh i d at) [
        | inl was ↦ h.is_front.lower i d lt was
        | inr behind ↦ absurd (omega (arith, behind.is, lt, h.within))
      ];
      rest = λ i d le at. elim (place-append log fresh i d at) [
        | inl was ↦ h.is_front.rest i d le was
        | inr behind ↦
            let own = a.ranked e (Contains-at log place e here) in
            let same = rank_same p own.0 h.rank e own.1.0 h.has in
            (suc n, (fresh_rank p n log fresh a b d (Contains-at fresh behind.place d behind.at), omega (arith, own.1.1, same)))
      ];
    };
    least = subst (λ (E : List EntryData). IsLeastSupport p E s e) (sym (take-append-le h.front log fresh h.within)) h.least;
  }

  -- a support of a new one
  least_here : (s : Support) (e : EntryData) → Contains fresh e → IsLeastSupport p log s e → HasLeastSupport p (log ++ fresh) s e
  least_here s e there h = record {
    rank = suc n;
    front = length log;
    has = fresh_rank p n log fresh a b e there;
    within = omega (arith, length-append log fresh);
    is_front = record {
      lower = λ i d lt at. elim (place-append log fresh i d at) [
        | inl was ↦ let r = a.ranked d (Contains-at log i d was) in (r.0, (r.1.0, omega (arith, r.1.1)))
        | inr behind ↦ absurd (omega (arith, behind.is, lt))
      ];
      rest = λ i d le at. elim (place-append log fresh i d at) [
        | inl was ↦ absurd (omega (arith, within_from log i d was, le))
        | inr behind ↦ (suc n, (fresh_rank p n log fresh a b d (Contains-at fresh behind.place d behind.at), omega arith))
      ];
    };
    least = subst (λ (E : List EntryData). IsLeastSupport p E s e) (sym fresh_front) h;
  }

-- of a list in order no two have one entry
pub one_of_entry : (f : DeducedData → EntryData) (xs : List DeducedData) (a b : DeducedData) → IsAscending entry_cmp (map f xs) → Contains xs a → Contains xs b → f a ≡ f b → a ≡ b
one_of_entry f xs a b up (i, i_in, i_at) (j, j_in, j_at) same = elim (cases_order i j) [
  | inl is ↦ sym i_at ∙ ((λ k. get_or xs (is k) a) ∙ (get_or_default xs j a b j_in ∙ j_at))
  | inr (inl less) ↦ absurd (never i j a b less i_in j_in i_at j_at same)
  | inr (inr more) ↦ absurd (never j i b a more j_in i_in j_at i_at (sym same))
]
  where
    never : (i j : ℕ) (a b : DeducedData) → i < j → i < length xs → j < length xs → get_or xs i a ≡ a → get_or xs j b ≡ b → f a ≡ f b → ⊥
    never i j a b less i_in j_in i_at j_at same =
        let long = length-map xs f in
        let up_at = up i j (f a) less (omega (arith, j_in, long)) in
        let one : get_or (map f xs) i (f a) ≡ f a = get_or-map f xs i a (f a) i_in ∙ ap f i_at in
        let two : get_or (map f xs) j (f a) ≡ f a = get_or-map f xs j b (f a) j_in ∙ (ap f j_at ∙ sym same) in
        let itself : entry_cmp (f a) (f a) ≡ Less = (λ k. entry_cmp (sym one k) (sym two k)) ∙ up_at in
        let bad : Equal ≡ Less = sym (tied_itself entry_cmp_total (f a)) ∙ itself in
        cc

-- what is published with its entry has the least support by the log
pub gathered_least : (p : ProblemData) (ids : InternerData) (log : List EntryData) (found : List DeducedData) (places : List ℕ) → AreInOrder ids found places → AreNewDeduced p ids log found
    → ((s : Support) (e : EntryData) → FollowsBy p log s e → IsKnown ids log found s e) → (d : DeducedData) → Contains (picked found places) d → IsLeastSupport p log d.support (entry_of ids d.row)
gathered_least p ids log found places order new all d there =
    let own = new d (order.only d there) in
    record {
      follows = own.deduced.follows;
      least = λ r by. elim (all r (entry_of ids d.row) by) [
        | inl was ↦ absurd (own.new was)
        | inr h ↦
            let low = order.lowers h.item h.there in
            let same = one_of_entry (λ (x : DeducedData). entry_of ids x.row) (picked found places) low.item d order.ascending low.there there (ap (entry_of ids) low.is ∙ h.is) in
            subst (λ (x : DeducedData). IsNoGreater (premises x.support) (premises r)) same (no_greater_then (premises low.item.support) (premises h.item.support) (premises r) low.least h.least)
      ];
    }

-- one more round
module _ (p : ProblemData) (n : ℕ) (ids : InternerData) (log : List EntryData) (found : List DeducedData) (places : List ℕ) (old : List Support) (fresh : AreNewDeduced p ids log found)
    (all : (s : Support) (e : EntryData) → FollowsBy p log s e → IsKnown ids log found s e) (a : HoldsRound p n log) (order : AreInOrder ids found places) (b : IsNextRound p log (entries_of ids (picked found places))) (was : HaveLeastSupports p log old) where
  abbrev round : List DeducedData
  round = picked found places

  abbrev entry : DeducedData → EntryData
  entry d = entry_of ids d.row

  abbrev supports : List Support
  supports = map (λ (d : DeducedData). d.support) round

  least_new : (k : ℕ) (s : Support) (e : EntryData) → slice_get supports k ≡ Some s → slice_get (entries_of ids round) k ≡ Some e → HasLeastSupport p (log ++ entries_of ids round) s e
  least_new k s e at here =
      let d = image_at (λ (x : DeducedData). x.support) round k s at in
      let image : entry d.0 ≡ e = same_Some (entry d.0) e (sym (slice_get-map entry round k ∙ ap (option_map entry) d.1.0) ∙ here) in
      let among = Contains-at round k d.0 d.1.0 in
      let there : Contains (entries_of ids round) (entry d.0) = into_map entry round d.0 among in
      along (λ i. HasLeastSupport p (log ++ entries_of ids round) (d.1.1 i) (image i))
      (least_here p n log (entries_of ids round) a b d.0.support (entry d.0) there (gathered_least p ids log found places order fresh all d.0 among))

  least_at : (place : ℕ) (s : Support) (e : EntryData) → slice_get (old ++ supports) place ≡ Some s → slice_get (log ++ entries_of ids round) place ≡ Some e → HasLeastSupport p (log ++ entries_of ids round) s e
  least_at place s e at here = elim (place-append old supports place s at) [
    | inl before ↦ elim (place-append log (entries_of ids round) place e here) [
      | inl in_log ↦ least_stays p n log (entries_of ids round) a b place s e in_log (was.least place s e before in_log)
      | inr behind ↦ absurd (omega (arith, within_from old place s before, was.each, behind.is))
    ]
    | inr after ↦ elim (place-append log (entries_of ids round) place e here) [
      | inl in_log ↦ absurd (omega (arith, within_from log place e in_log, was.each, after.is))
      | inr behind ↦
          let same : behind.place ≡ after.place = omega (arith, behind.is, after.is, was.each) in
          least_new after.place s e after.at (ap (λ (k : ℕ). slice_get (entries_of ids round) k) (sym same) ∙ behind.at)
    ]
  ]

  pub supported_next : HaveLeastSupports p (log ++ entries_of ids round) (old ++ supports)
  supported_next = record {
    each = omega (arith, was.each, length-append old supports, length-append log (entries_of ids round), length-map round (λ (d : DeducedData). d.support), length-map round entry);
    least = least_at;
  }

-- nothing
pub supported_none : (p : ProblemData) → HaveLeastSupports p [] []
supported_none p = record { each = refl; least = λ place s e at here. absurd (none_in e (Contains-at [] place e here)) }

-- at the end
pub canonical_log : (p : ProblemData) (log : List EntryData) (supports : List Support) → IsLeastTable p log → IsByRank p log → HaveLeastSupports p log supports → IsCanonicalLog p log supports
canonical_log p log supports least order have = record {
  least = least;
  order = order;
  each = have.each;
  support = λ place s e at here. let h = have.least place s e at here in canonical_of p log h.rank h.front e h.is_front h.has s h.least;
}
