-- Types that are split at arguments.
use Rattle.std.proofs.Common.{◌≡◌, sym, ◌∙◌, ap, subst, ℕ, ◌+◌, ◌<◌, ◌≤◌, List, [], ◌∷◌, ◌++◌, length, map, get_or, take, replicate, set, All, Contains, inl, inr, arith}
use Rattle.std.proofs.lemmas.List.{take_all}
use Rattle.std.proofs.lemmas.List.Elements.{All-weaker, Contains-append_left, Contains-push}
use Rattle.hs_scheme.proofs.Lists.{none_in}
use Rattle.hs_scheme.specs.declared.term.Head.{Head}
use Rattle.hs_scheme.specs.declared.term.Head.TheVariants.{Var, Nt, Tm}
use Rattle.hs_table.specs.Types.{TypeTree, arrows}
use Rattle.hs_table.specs.Entries.{Env}
use Rattle.hs_table_laws.proofs.Arrows.{has_within, length-empties, empties_has, one_long, one_has}
use Rattle.hs_table_laws.proofs.Members.{taken_next, pushed_cases}
use Rattle.hs_types.specs.Interned.{InternerData, type_of_id, set_of_id, Grows}
use Rattle.hs_types.proofs.Numbers.{Grows-refl, Grows-trans, type_within, type_stays, set_within, env_within, env_stays}
use Rattle.hs_types.proofs.ListLemmas.{items_at-begun}
use Rattle.hs_choices.specs.Slots.{IsHeadEnv}
use Rattle.hs_heads.specs.HeadTypes.{HeadTypeData}
use Rattle.hs_heads.specs.Splits.{IsSplitAt, IsSplitOf, GainsSplit, AreSplits}

-- ---- what a head asks

pub nonterminal_asks : (n f : ℕ) (ty : TypeTree) (E : Env) → E ≡ replicate n [] → IsHeadEnv n (Nt f) ty E
nonterminal_asks n f ty E is = subst (IsHeadEnv n (Nt f) ty) (sym is) (record { long = length-empties n; exact = λ j a. (λ h. empties_has n j a h, λ h. absurd h) })

pub terminal_asks : (n b : ℕ) (ty : TypeTree) (E : Env) → E ≡ replicate n [] → IsHeadEnv n (Tm b) ty E
terminal_asks n b ty E is = subst (IsHeadEnv n (Tm b) ty) (sym is) (record { long = length-empties n; exact = λ j a. (λ h. empties_has n j a h, λ h. absurd h) })

pub parameter_asks : (n x : ℕ) (ty : TypeTree) (E : Env) → x < n → E ≡ set (replicate n []) x (ty ∷ []) → IsHeadEnv n (Var x) ty E
parameter_asks n x ty E lt is = subst (IsHeadEnv n (Var x) ty) (sym is) (record {
  long = one_long n x (ty ∷ []);
  exact = λ j a. (
    λ h. let w = has_within (set (replicate n []) x (ty ∷ [])) j a h in (one_has n x j ty a (omega (arith, w, one_long n x (ty ∷ [])))).0 h,
    λ h. (one_has n x j ty a (omega (arith, h.0, lt))).1 h,
  );
})

-- ---- what numbers stand for while more get one

module _ (I J : InternerData) (g : Grows I J) where
  pub sets_within : (sets : List ℕ) → All (λ s. s < length I.sets) sets → All (λ s. s < length J.sets) sets
  sets_within sets all = All-weaker (λ s. s < length I.sets) (λ s. s < length J.sets) (λ s h. set_within I J g s h) sets all

  pub sets_stay : (sets : List ℕ) → All (λ s. s < length I.sets) sets → map (set_of_id J) sets ≡ map (set_of_id I) sets
  sets_stay sets all = items_at-begun I.sets J.sets [] sets g.sets all

  pub split_stays : (ty : TypeTree) (count : ℕ) (sets : List ℕ) (rest : ℕ) → IsSplitAt I ty count sets rest → IsSplitAt J ty count sets rest
  split_stays ty count sets rest s =
      let same : arrows (map (set_of_id J) sets) (type_of_id J rest) ≡ arrows (map (set_of_id I) sets) (type_of_id I rest) = λ i. arrows (sets_stay sets s.within i) (type_stays I J g rest s.left i) in
      record { within = sets_within sets s.within; left = type_within I J g rest s.left; long = s.long; is = s.is ∙ sym same }

  pub split_of_stays : (head : Head) (params count : ℕ) (ty : TypeTree) (h : HeadTypeData) → IsSplitOf head params count I ty h → IsSplitOf head params count J ty h
  split_of_stays head params count ty h s = record {
    split = split_stays ty count h.sets h.ty s.split;
    env = env_within I J g h.first s.env;
    asks = subst (IsHeadEnv params head ty) (sym (env_stays I J g h.first s.env)) s.asks;
  }

-- ---- one type

module _ (head : Head) (params count : ℕ) (I : InternerData) (ty : TypeTree) (old : List HeadTypeData) where
  pub split_one : (J : InternerData) (new : List HeadTypeData) (h : HeadTypeData) → Grows I J → new ≡ old ++ h ∷ [] → IsSplitOf head params count J ty h → GainsSplit head params count I J ty old new
  split_one J new h g is s = record {
    grows = g;
    come = λ x c. elim (pushed_cases old h x (subst (λ (xs : List HeadTypeData). Contains xs x) is c)) [
      | inl was ↦ inl was
      | inr last ↦ inr (subst (IsSplitOf head params count J ty) (sym last) s)
    ];
    keeps = λ x c. subst (λ (xs : List HeadTypeData). Contains xs x) (sym is) (Contains-append_left old (h ∷ []) x c);
    all = λ sets rest long e. record { item = h; there = subst (λ (xs : List HeadTypeData). Contains xs h) (sym is) (Contains-push old h); split = s };
  }

-- ---- one type after another

module _ (head : Head) (params count : ℕ) (I : InternerData) (types : List ℕ) where
  pub splits_none : AreSplits head params count I I (take 0 types) []
  splits_none = record {
    grows = Grows-refl I;
    come = λ h c. absurd (none_in h c);
    all = λ t c sets rest long is. absurd (none_in t c);
  }

  pub splits_next : (J K : InternerData) (k t : ℕ) (old new : List HeadTypeData) → k < length types → t ≡ get_or types k t → t < length I.types → AreSplits head params count I J (take k types) old
      → GainsSplit head params count J K (type_of_id J t) old new → AreSplits head params count I K (take (k + 1) types) new
  splits_next J K k t old new lt is within f g =
      let next = taken_next types k t lt is in
      let same : type_of_id J t ≡ type_of_id I t = type_stays I J f.grows t within in
      record {
        grows = Grows-trans I J K f.grows g.grows;
        come = λ h c. elim (g.come h c) [
          | inl was ↦
              let m = f.come h was in (
                m.0,
                (
                  subst (λ (ys : List ℕ). Contains ys m.0) (sym next) (Contains-append_left (take k types) (t ∷ []) m.0 m.1.0),
                  split_of_stays J K g.grows head params count (type_of_id I m.0) h m.1.1,
                ),
              )
          | inr s ↦ (
            t,
            (
              subst (λ (ys : List ℕ). Contains ys t) (sym next) (Contains-push (take k types) t),
              subst (λ (ty : TypeTree). IsSplitOf head params count K ty h) same s,
            ),
          )
        ];
        all = λ u c sets rest long e. elim (pushed_cases (take k types) t u (subst (λ (ys : List ℕ). Contains ys u) next c)) [
          | inl was ↦
              let h = f.all u was sets rest long e in
              record { item = h.item; there = g.keeps h.item h.there; split = split_of_stays J K g.grows head params count (type_of_id I u) h.item h.split }
          | inr last ↦
              let u_is : type_of_id I u ≡ type_of_id J t = ap (type_of_id I) last ∙ sym same in
              let h = g.all sets rest long (sym u_is ∙ e) in
              record { item = h.item; there = h.there; split = subst (λ (ty : TypeTree). IsSplitOf head params count K ty h.item) (sym u_is) h.split }
        ];
      }

  pub splits_all : (J : InternerData) (k : ℕ) (found : List HeadTypeData) → length types ≤ k → AreSplits head params count I J (take k types) found → AreSplits head params count I J types found
  splits_all J k found past f = subst (λ (ys : List ℕ). AreSplits head params count I J ys found) (take_all k types past) f
