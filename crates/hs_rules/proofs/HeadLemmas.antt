-- The types of a head, in numbers.
use Rattle.std.proofs.Common.{◌≡◌, refl, sym, ◌∙◌, ap, subst, ℕ, zero, suc, ◌+◌, ◌<◌, ◌≤◌, List, [], ◌∷◌, ◌++◌, length, map, take, drop, get_or, arith, All, Contains, ◌⊎◌, inl, inr, ◌↔◌, slice_get, Some}
use Rattle.std.proofs.lemmas.List.{length-map, take_all, drop_all}
use Rattle.std.proofs.lemmas.List.Elements.{All-take, Contains-append_left, Contains-push}
use Rattle.hs_scheme.specs.declared.flow.FlowPair.{FlowPair}
use Rattle.hs_scheme.proofs.Lists.{none_in}
use Rattle.hs_table.specs.declared.support.HeadBy.{HeadBy}
use Rattle.hs_table.specs.Types.{TypeTree, arrows, arrow}
use Rattle.hs_table.specs.Entries.{Env, EntryData}
use Rattle.hs_table_laws.proofs.Places.{within_from}
use Rattle.hs_table_laws.proofs.Members.{taken_next, pushed_cases}
use Rattle.hs_types.specs.Interned.{InternerData, type_of_id, set_of_id, env_of_id, Grows}
use Rattle.hs_types.proofs.Numbers.{type_within, type_stays, env_within, env_stays}
use Rattle.hs_replica.specs.Places.{Question, Answers, ArePlaces}
use Rattle.hs_rules.specs.Found.{HeadData}
use Rattle.hs_rules.specs.Heads.{head_type, IsWholeHead, HasTypeAmong, GainsHeads, ParamAt, AtSome, AtFlow, BodyAt}
use Rattle.hs_rules.proofs.Lists.{read_again, taken_cases}
use Rattle.hs_rules.proofs.ArrowLemmas.{arrows_first, arrows_parts}
use Rattle.hs_rules.proofs.FoundLemmas.{sets_stay, sets_within}
use Rattle.std.proofs.lemmas.Option.{same_Some}
use Rattle.hs_table_laws.proofs.Arrows.{state_no_arrow}

pub whole_later : (I J : InternerData) (count : ℕ) (h : HeadData) → Grows I J → IsWholeHead I count h → IsWholeHead J count h
whole_later I J count h g w = record {
  own = env_within I J g h.own w.own;
  sets = sets_within I J h.sets g w.sets;
  rest = type_within I J g h.rest w.rest;
  long = w.long;
}

pub type_later : (I J : InternerData) (count : ℕ) (h : HeadData) → Grows I J → IsWholeHead I count h → head_type J h ≡ head_type I h
type_later I J count h g w = λ i. arrows (sets_stay I J h.sets g w.sets i) (type_stays I J g h.rest w.rest i)

pub has_later : (I J : InternerData) (count : ℕ) (by : HeadBy) (sets : Env) (rest : TypeTree) (old new : List HeadData) → Grows I J → ((h : HeadData) → Contains old h → Contains new h) → HasTypeAmong I count by sets rest old → HasTypeAmong J count by sets rest new
has_later I J count by sets rest old new g keeps t = record {
  item = t.item;
  there = keeps t.item t.there;
  by_is = t.by_is;
  whole = whole_later I J count t.item g t.whole;
  sets_are = sets_stay I J t.item.sets g t.whole.sets ∙ t.sets_are;
  rest_is = type_stays I J g t.item.rest t.whole.rest ∙ t.rest_is;
}

-- no source
pub heads_none : (ids : InternerData) (count : ℕ) (From : HeadBy → Env → TypeTree → Type 0) (heads : List HeadData)
    → ((by : HeadBy) (own : Env) (ty : TypeTree) → From by own ty → (sets : Env) (rest : TypeTree) → length sets ≡ count → ty ≡ arrows sets rest → ⊥) → GainsHeads ids count From heads heads
heads_none ids count From heads never = record {
  sound = λ h c. inl c;
  keeps = λ h c. c;
  all = λ by own ty f sets rest long is. absurd (never by own ty f sets rest long is);
}

-- one more
pub heads_one : (ids : InternerData) (count : ℕ) (From : HeadBy → Env → TypeTree → Type 0) (old new : List HeadData) (h : HeadData) → new ≡ old ++ h ∷ [] → IsWholeHead ids count h
    → From h.by (env_of_id ids h.own) (head_type ids h) → ((by : HeadBy) (own : Env) (ty : TypeTree) → From by own ty → (by ≡ h.by) × (ty ≡ head_type ids h)) → GainsHeads ids count From old new
heads_one ids count From old new h is whole from only = record {
  sound = λ x c. elim (pushed_cases old h x (subst (λ (hs : List HeadData). Contains hs x) is c)) [
    | inl was ↦ inl was
    | inr e ↦ inr (subst (λ (y : HeadData). IsWholeHead ids count y × From y.by (env_of_id ids y.own) (head_type ids y)) (sym e) (whole, from))
  ];
  keeps = λ x c. subst (λ (hs : List HeadData). Contains hs x) (sym is) (Contains-append_left old (h ∷ []) x c);
  all = λ by own ty f sets rest long eq.
      let same = arrows_first count (map (set_of_id ids) h.sets) sets (type_of_id ids h.rest) rest (omega (arith, whole.long, length-map h.sets (set_of_id ids))) long (sym (only by own ty f).1 ∙ eq) in
      let few : length (map (set_of_id ids) h.sets) ≤ count = omega (arith, whole.long, length-map h.sets (set_of_id ids)) in
      record {
        item = h;
        there = subst (λ (hs : List HeadData). Contains hs h) (sym is) (Contains-push old h);
        by_is = sym (only by own ty f).0;
        whole = whole;
        sets_are = sym (take_all count (map (set_of_id ids) h.sets) few) ∙ same.0;
        rest_is = ap (λ (xs : Env). arrows xs (type_of_id ids h.rest)) (sym (drop_all count (map (set_of_id ids) h.sets) few)) ∙ same.1;
      };
}

-- one after another
pub heads_then : (I J : InternerData) (count : ℕ) (F G H : HeadBy → Env → TypeTree → Type 0) (old mid new : List HeadData) → Grows I J
    → ((by : HeadBy) (own : Env) (ty : TypeTree) → F by own ty → H by own ty) → ((by : HeadBy) (own : Env) (ty : TypeTree) → G by own ty → H by own ty) → ((by : HeadBy) (own : Env) (ty : TypeTree) → H by own ty → F by own ty ⊎ G by own ty)
    → GainsHeads I count F old mid → GainsHeads J count G mid new → GainsHeads J count H old new
heads_then I J count F G H old mid new g fh gh split f k = record {
  sound = λ h c. elim (k.sound h c) [
    | inl was ↦ elim (f.sound h was) [
      | inl first ↦ inl first
      | inr (w, from) ↦ inr (
        whole_later I J count h g w,
        fh h.by (env_of_id J h.own) (head_type J h)
            (subst (λ (e : Env). F h.by e (head_type J h)) (sym (env_stays I J g h.own w.own)) (subst (λ (t : TypeTree). F h.by (env_of_id I h.own) t) (sym (type_later I J count h g w)) from)),
      )
    ]
    | inr (w, from) ↦ inr (w, gh h.by (env_of_id J h.own) (head_type J h) from)
  ];
  keeps = λ h c. k.keeps h (f.keeps h c);
  all = λ by own ty from sets rest long is. elim (split by own ty from) [
    | inl first ↦ has_later I J count by sets rest mid new g k.keeps (f.all by own ty first sets rest long is)
    | inr last ↦ k.all by own ty last sets rest long is
  ];
}

-- from the same sources
pub heads_same : (ids : InternerData) (count : ℕ) (F G : HeadBy → Env → TypeTree → Type 0) (old new : List HeadData) → ((by : HeadBy) (own : Env) (ty : TypeTree) → F by own ty → G by own ty)
    → ((by : HeadBy) (own : Env) (ty : TypeTree) → G by own ty → F by own ty) → GainsHeads ids count F old new → GainsHeads ids count G old new
heads_same ids count F G old new fg gf k = record {
  sound = λ h c. elim (k.sound h c) [ inl was ↦ inl was | inr (w, from) ↦ inr (w, fg h.by (env_of_id ids h.own) (head_type ids h) from) ];
  keeps = k.keeps;
  all = λ by own ty from sets rest long is. k.all by own ty (gf by own ty from) sets rest long is;
}

-- the types of one more place
pub heads_next : (J K : InternerData) (count : ℕ) (Source : ℕ → HeadBy → Env → TypeTree → Type 0) (places : List ℕ) (k place : ℕ) (old mid new : List HeadData) → Grows J K → k < length places → place ≡ get_or places k place
    → GainsHeads J count (AtSome Source (take k places)) old mid → GainsHeads K count (Source place) mid new → GainsHeads K count (AtSome Source (take (k + 1) places)) old new
heads_next J K count Source places k place old mid new g lt is f h =
    heads_then J K count (AtSome Source (take k places)) (Source place) (AtSome Source (take (k + 1) places)) old mid new g
    (λ by own ty a. record {
      place = a.place;
      among = subst (λ (xs : List ℕ). Contains xs a.place) (sym (taken_next places k place lt is)) (Contains-append_left (take k places) (place ∷ []) a.place a.among);
      from = a.from;
    })
    (λ by own ty s. record { place = place; among = subst (λ (xs : List ℕ). Contains xs place) (sym (taken_next places k place lt is)) (Contains-push (take k places) place); from = s })
    (λ by own ty a. elim (taken_cases places k place a.place lt is a.among) [
      | inl was ↦ inl (record { place = a.place; among = was; from = a.from })
      | inr last ↦ inr (subst (λ (n : ℕ). Source n by own ty) last a.from)
    ]) f h

pub heads_start : (ids : InternerData) (count : ℕ) (Source : ℕ → HeadBy → Env → TypeTree → Type 0) (heads : List HeadData) → GainsHeads ids count (AtSome Source []) heads heads
heads_start ids count Source heads = heads_none ids count (AtSome Source []) heads (λ by own ty a sets rest long is. none_in a.place a.among)

-- what the sets in front of a type and the rest stand for
pub parts_type : (I K : InternerData) (count : ℕ) (full : List ℕ) (ty rest : ℕ) → Grows I K → All (λ s. s < length I.sets) full → type_of_id K rest ≡ arrows (drop count (map (set_of_id I) full)) (type_of_id I ty)
    → arrows (map (set_of_id K) (take count full)) (type_of_id K rest) ≡ arrows (map (set_of_id I) full) (type_of_id I ty)
parts_type I K count full ty rest g within is =
    (λ i. arrows ((sets_stay I K (take count full) g (All-take (λ s. s < length I.sets) count full within) ∙ map-take count full) i) (is i))
    ∙ sym (arrows_parts count (map (set_of_id I) full) (type_of_id I ty))
  where
    map-take : (n : ℕ) (xs : List ℕ) → map (set_of_id I) (take n xs) ≡ take n (map (set_of_id I) xs)
    map-take zero xs = refl
    map-take (suc n) [] = refl
    map-take (suc n) (x ∷ xs) = ap (λ (ys : Env). set_of_id I x ∷ ys) (map-take n xs)

-- one more set before the rest
pub set_before : (f : ℕ → List TypeTree) (xs : List ℕ) (n x : ℕ) → n < length xs → x ≡ get_or xs n x → drop n (map f xs) ≡ f x ∷ drop (suc n) (map f xs)
set_before f [] n x lt is = absurd (omega arith)
set_before f (y ∷ xs) zero x lt is = ap (λ (z : ℕ). f z ∷ map f xs) (sym is)
set_before f (y ∷ xs) (suc n) x lt is = set_before f xs n x (omega arith) is

-- the types from the points of one more pair
pub flow_next : (J K : InternerData) (count : ℕ) (log : List EntryData) (n x limit : ℕ) (asked : ℕ → Question) (pairs : List FlowPair) (k : ℕ) (d : FlowPair) (found places : List ℕ) (indexed : ℕ) (old mid new : List HeadData) → Grows J K → k < length pairs
    → indexed ≡ length log → ArePlaces log indexed (asked (get_or pairs k d).point) found → ((place : ℕ) → Contains places place ↔ (Contains found place × (place < limit)))
    → GainsHeads J count (AtFlow log n x limit asked (take k pairs)) old mid → GainsHeads K count (AtSome (ParamAt log n x) places) mid new → GainsHeads K count (AtFlow log n x limit asked (take (k + 1) pairs)) old new
flow_next J K count log n x limit asked pairs k d found places indexed old mid new g lt all are below f h =
    let pair = get_or pairs k d in
    let is : pair ≡ get_or pairs k pair = read_again pairs k d lt in
    heads_then J K count (AtFlow log n x limit asked (take k pairs)) (AtSome (ParamAt log n x) places) (AtFlow log n x limit asked (take (k + 1) pairs)) old mid new g
    (λ by o t a. record {
      pair = a.pair;
      among = subst (λ (fs : List FlowPair). Contains fs a.pair) (sym (taken_next pairs k pair lt is)) (Contains-append_left (take k pairs) (pair ∷ []) a.pair a.among);
      place = a.place;
      within = a.within;
      answers = a.answers;
      source = a.source;
    })
    (λ by o t s.
    let b = (below s.place).0 s.among in
    record {
      pair = pair;
      among = subst (λ (fs : List FlowPair). Contains fs pair) (sym (taken_next pairs k pair lt is)) (Contains-push (take k pairs) pair);
      place = s.place;
      within = b.1;
      answers = ((are.exact s.place).0 b.0).1;
      source = s.from;
    })
    (λ by o t a. elim (taken_cases pairs k pair a.pair lt is a.among) [
      | inl was ↦ inl (record { pair = a.pair; among = was; place = a.place; within = a.within; answers = a.answers; source = a.source })
      | inr last ↦
          let w = within_from log a.place a.answers.entry a.answers.at in
          let ans = subst (λ (u : FlowPair). Answers log a.place (asked u.point)) last a.answers in
          inr (record { place = a.place; among = (below a.place).1 ((are.exact a.place).1 (omega (arith, w, all), ans), a.within); from = a.source })
    ]) f h

-- an entry whose type is an arrow gives no type of a nonterminal
pub body_none : (ids : InternerData) (count : ℕ) (log : List EntryData) (own : Env) (place : ℕ) (e : EntryData) (s : List TypeTree) (t : TypeTree) (heads : List HeadData) → slice_get log place ≡ Some e → e.ty ≡ arrow s t
    → GainsHeads ids count (BodyAt log own place) heads heads
body_none ids count log own place e s t heads at is =
    heads_none ids count (BodyAt log own place) heads
    (λ by o ty b sets rest long eq. state_no_arrow b.is_state.0 s t (sym b.is_state.1 ∙ (ap (λ (x : EntryData). x.ty) (same_Some b.entry e (sym b.at ∙ at)) ∙ is)))
