-- A base is noted, and then its users pass on what they do.
use Rattle.std.proofs.Common.{◌≡◌, refl, sym, ◌∙◌, ap, subst, ◌≤◌, ◌⊎◌, ◌↔◌, List, ℕ, Option, length, Bool, true, false, inl, inr, Contains}
use Rattle.std.proofs.lemmas.List.Elements.{Contains-append_left}
use Rattle.hs_scheme.specs.declared.flow.Pair.{Pair}
use Rattle.hs_scheme.specs.flow.Points.{PointsData, points_of}
use Rattle.hs_flow.specs.declared.bases.Base.{Base}
use Rattle.hs_flow.specs.Bases.{BasesData, HasBase, IsNumber, TellsNew}
use Rattle.hs_flow.specs.Users.{UserMap}
use Rattle.hs_flow.specs.Passing.{PassedFor, MayBecome}
use Rattle.hs_flow.specs.Pairs.{PairsData, HasBaseAt, IsAddable, ArePairs, IsReady, FindsOnly, Extends}
use Rattle.hs_flow.proofs.PairLemmas.{with_bases, extends_bases, extends_same}
use Rattle.hs_flow.proofs.PassingLemmas.{base_fresh}

-- what is told of a base that was there, and of one that wasn't
pub was_there : (P : Type 0) (added : Bool) → added ≡ false → TellsNew P added → P
was_there P true is tells = absurd (cc)
was_there P false is tells = tells

pub wasnt_there : (P : Type 0) (added : Bool) → added ≡ true → TellsNew P added → P → ⊥
wasnt_there P true is tells = tells
wasnt_there P false is tells = absurd (cc)

-- no base was noted
pub bases_stay : (a old : PairsData) (bases : BasesData) → a ≡ old → bases ≡ a.bases → Extends old (with_bases a bases)
bases_stay a old bases view same = subst (λ (x : PairsData). Extends x (with_bases a bases)) view (subst (λ (bs : BasesData). Extends a (with_bases a bs)) (sym same) (extends_same a))

module _ (points : PointsData) (users : UserMap) (a old : PairsData) (view : a ≡ old) (are : ArePairs points users a) (params : List ℕ) (params_are : params ≡ points.params) (base : Base) (bases : BasesData)
    (grows : (b : Base) → HasBase params bases b ↔ (HasBase params a.bases b ⊎ (b ≡ base))) where
  counts : params ≡ (points_of a.rules).params
  counts = params_are ∙ ap (λ (ps : PointsData). ps.params) are.points_are

  has_more : (b : Base) → HasBaseAt (with_bases a bases) b ↔ (HasBaseAt a b ⊎ (b ≡ base))
  has_more = subst (λ (ns : List ℕ). (b : Base) → HasBase ns bases b ↔ (HasBase ns a.bases b ⊎ (b ≡ base))) counts grows

  pub noted_are : ArePairs points users (with_bases a bases)
  noted_are = record {
    points_are = are.points_are;
    users_are = are.users_are;
    supported = are.supported;
    passed = λ q h. elim (are.passed q h) [ inl first ↦ inl first | inr (b, (had, for)) ↦ inr (b, ((has_more b).1 (inl had), for)) ];
  }

  pub noted_extends : Extends old (with_bases a bases)
  noted_extends = subst (λ (x : PairsData). Extends x (with_bases a bases)) view (extends_bases a bases (λ b h. (has_more b).1 (inl h)))

  pub noted_has : HasBaseAt (with_bases a bases) base
  noted_has = (has_more base).1 (inr refl)

  ready_before : IsReady old → IsReady a
  ready_before = subst (λ (x : PairsData). IsReady x) (sym view)

  -- it was there
  pub noted_known : IsReady old → HasBase params a.bases base → IsReady (with_bases a bases)
  noted_known ready had = record {
    within = (ready_before ready).within;
    passed = λ b h. elim ((has_more b).0 h) [
      | inl was ↦ (ready_before ready).passed b was
      | inr is ↦ subst (λ (c : Base). (q : Pair) → PassedFor a.rules c q → Contains a.found q) (sym is) ((ready_before ready).passed base (subst (λ (ns : List ℕ). HasBase ns a.bases base) counts had))
    ];
  }

  -- it is new
  pub noted_addable : MayBecome old.found base → (HasBase params a.bases base → ⊥) → (q : Pair) → PassedFor a.rules base q → IsAddable (with_bases a bases) q
  noted_addable may absent q h = record {
    absent = base_fresh a.rules a.found (HasBaseAt a) base are.passed (λ had. absent (subst (λ (ns : List ℕ). HasBase ns a.bases base) (sym counts) had)) q h;
    passed = inr (base, (noted_has, (subst (λ (x : PairsData). MayBecome x.found base) (sym view) may, h)));
  }

  pub noted_ready : (new : PairsData) → FindsOnly (PassedFor a.rules base) (with_bases a bases) new → IsReady old → length new.found ≤ new.max → ((q : Pair) → PassedFor a.rules base q → Contains new.found q) → IsReady new
  noted_ready new finds ready = subst (λ (x : PairsData). length x.found ≤ x.max → ((q : Pair) → PassedFor a.rules base q → Contains x.found q) → IsReady x) (sym finds.is) (λ few all. record {
    within = few;
    passed = λ b h q for. elim ((has_more b).0 h) [
      | inl was ↦ Contains-append_left a.found finds.added q ((ready_before ready).passed b was q for)
      | inr is ↦ all q (subst (λ (c : Base). PassedFor a.rules c q) is for)
    ];
  })

  pub noted_still : (new : PairsData) → FindsOnly (PassedFor a.rules base) (with_bases a bases) new → HasBaseAt new base
  noted_still new finds = subst (λ (x : PairsData). HasBaseAt x base) (sym finds.is) noted_has

-- a parameter's number stays what it is
pub number_at : (points : PointsData) (users : UserMap) (a old now : PairsData) → a ≡ old → ArePairs points users a → (params : List ℕ) → params ≡ points.params → Extends old now
    → (rule x : ℕ) (n : Option ℕ) → IsNumber params rule x n → IsNumber (points_of now.rules).params rule x n
number_at points users a old now view are params params_are e rule x n =
    subst (λ (ns : List ℕ). IsNumber ns rule x n)
    (params_are ∙ (ap (λ (ps : PointsData). ps.params) are.points_are
    ∙ (ap (λ (z : PairsData). (points_of z.rules).params) view ∙ sym (ap (λ (z : PairsData). (points_of z.rules).params) e.is))))
