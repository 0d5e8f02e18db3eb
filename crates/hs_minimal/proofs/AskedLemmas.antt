-- Which types are asked for.
use Rattle.std.proofs.Common.{◌≡◌, refl, sym, ◌∙◌, ap, subst, ℕ, zero, suc, ◌<◌, Bool, true, false, not, IsTrue, List, [], ◌∷◌, Option, Some, None, length, map, Contains, ◌⊎◌, inl, inr, Result, Ok, Err, OnOk}
use Rattle.std.specs.List.{list_any}
use Rattle.std.proofs.lemmas.Map.Made.{is_member-Decides}
use Rattle.indexmap.specs.IndexSet.{insert_key}
use Rattle.hs_scheme.specs.Tree.{Tree, node, none, more}
use Rattle.hs_scheme.proofs.Lists.{none_in, here, later}
use Rattle.hs_table.specs.Types.{TypeTree, state, arrow, arrows}
use Rattle.hs_table.specs.Entries.{Env}
use Rattle.hs_table_laws.proofs.Arrows.{arrow_same}
use Rattle.hs_weak.specs.Strength.{AsStrongAs, same_state, stronger_arrow}
use Rattle.hs_types.specs.Interned.{InternerData, RowData, type_of_id, set_of_id, env_of_id}
use Rattle.hs_types.specs.contracts.ids.TyIdPartialEq.TheImpl.{eq-value}
use Rattle.hs_types.specs.contracts.ids.SetIdPartialEq.TheImpl.{eq-value as eq-set}
use Rattle.hs_strength.proofs.Rows.{each_mapped}
use Rattle.hs_heads.proofs.Gaining.{number_same, number_added}
use Rattle.hs_minimal.specs.Strongest.{IsNoState, AreOfTypes, AddsTypes, HasNumberOf, HasArrows, HaveArrows, HasAskedFor, MatchExactly}

pub adds_none : (I : InternerData) (found : List ℕ) → AddsTypes I found found
adds_none I found = record { types = λ h. h; keeps = λ t m. m }

pub adds_one : (I : InternerData) (old new : List ℕ) (t : ℕ) → t < length I.types → new ≡ insert_key eq-value.it old t → AddsTypes I old new
adds_one I old new t within keys = record {
  types = λ h n m. elim ((number_added old new t keys n).0 m) [
    | inl was ↦ h n was
    | inr is ↦ subst (λ x. x < length I.types) (sym is) within
  ];
  keeps = λ n m. (number_added old new t keys n).1 (inl m);
}

pub one_there : (old new : List ℕ) (t : ℕ) → new ≡ insert_key eq-value.it old t → Contains new t
one_there old new t keys = (number_added old new t keys t).1 (inr refl)

pub adds_then : (I : InternerData) (old mid new : List ℕ) → AddsTypes I old mid → AddsTypes I mid new → AddsTypes I old new
adds_then I old mid new first then = record { types = λ h. then.types (first.types h); keeps = λ t m. then.keeps t (first.keeps t m) }

pub state_is_none : (q : ℕ) (a : TypeTree) → a ≡ state q → IsNoState a → ⊥
state_is_none q a is one =
    let e : node (Some q) none ≡ node None (more one.0 one.1.0) = sym is ∙ one.1.1 in
    cc

module _ (I : InternerData) (old new : List ℕ) (adds : AddsTypes I old new) where
  pub arrows_stay : (s : List TypeTree) → HasArrows I old s → HasArrows I new s
  arrows_stay s h a m one = let x = h a m one in (x.0, (adds.keeps x.0 x.1.0, x.1.1))

  pub sets_stay : (sets : List ℕ) → HaveArrows I old sets → HaveArrows I new sets
  sets_stay sets h s m = arrows_stay (set_of_id I s) (h s m)

  pub asked_stay : (ty : TypeTree) → HasAskedFor I old ty → HasAskedFor I new ty
  asked_stay ty h sets rest k a is m one = let x = h sets rest k a is m one in (x.0, (adds.keeps x.0 x.1.0, x.1.1))

module _ (I : InternerData) (found : List ℕ) where
  -- no sets, a set that was seen, and one that is seen now
  pub none_seen : (sets : List ℕ) → sets ≡ [] → HaveArrows I found sets
  none_seen sets is s m = absurd (none_in s (subst (λ (z : List ℕ). Contains z s) is m))

  pub was_seen : (sets : List ℕ) (s : ℕ) → list_any (eq-set.it s) sets ≡ true → HaveArrows I found sets → HasArrows I found (set_of_id I s)
  was_seen sets s there h = h s ((is_member-Decides number_same sets s).0 there)

  pub one_seen : (old new : List ℕ) (s : ℕ) → new ≡ insert_key eq-set.it old s → HaveArrows I found old → HasArrows I found (set_of_id I s) → HaveArrows I found new
  one_seen old new s keys h own r m = elim ((number_added old new s keys r).0 m) [
    | inl was ↦ h r was
    | inr is ↦ subst (λ k. HasArrows I found (set_of_id I k)) (sym is) own
  ]

  -- a set has its arrows there where its members that are arrows are
  pub members_there : (ms : List ℕ) (s : List TypeTree) → map (type_of_id I) ms ≡ s → ((t : ℕ) → Contains ms t → IsNoState (type_of_id I t) → Contains found t) → HasArrows I found s
  members_there ms s is own = each_mapped (type_of_id I) (λ (a : TypeTree). IsNoState a → HasNumberOf I found a) ms s is (λ t m one. (t, (own t m one, refl)))

  -- a state asks for nothing
  pub state_asks : (q : ℕ) (ty : TypeTree) → ty ≡ state q → HasAskedFor I found ty
  state_asks q ty is [] rest k a ty_is m one = absurd (none_in a m)
  state_asks q ty is (s ∷ ss) rest k a ty_is m one = absurd (let e : state q ≡ arrow s (arrows ss rest) = sym is ∙ ty_is in cc)

  -- an arrow asks for the types of its set, and for those that its result asks for
  pub arrow_asks : (s : List TypeTree) (t ty : TypeTree) → ty ≡ arrow s t → HasArrows I found s → HasAskedFor I found t → HasAskedFor I found ty
  arrow_asks s t ty is own over [] rest k a ty_is m one = absurd (none_in a m)
  arrow_asks s t ty is own over (r ∷ rs) rest zero a ty_is m one =
      own a (subst (λ (z : List TypeTree). Contains z a) (sym (arrow_same s r t (arrows rs rest) (sym is ∙ ty_is)).0) m) one
  arrow_asks s t ty is own over (r ∷ rs) rest (suc k) a ty_is m one = over rs rest k a (arrow_same s r t (arrows rs rest) (sym is ∙ ty_is)).1 m one

  pub arrows_ask : (E : Env) (t : TypeTree) → ((s : List TypeTree) → Contains E s → HasArrows I found s) → HasAskedFor I found t → HasAskedFor I found (arrows E t)
  arrows_ask [] t own over = over
  arrows_ask (s ∷ E) t own over = arrow_asks s (arrows E t) (arrow s (arrows E t)) refl (own s (here s E)) (arrows_ask E t (λ r m. own r (later s r E m)) over)

-- types of which one is as strong as the other are equal, or no states
same_or_arrows : {t u : Tree (Option ℕ)} → AsStrongAs t u → (t ≡ u) ⊎ (IsNoState t × IsNoState u)
same_or_arrows same_state = inl refl
same_or_arrows (stronger_arrow {t = t} {u = u} {ss = ss} {rs = rs} h f) = inr ((t, (ss, refl)), (u, (rs, refl)))

module _ (I : InternerData) (rows : List RowData) (given asked : List ℕ) where
  pub all_match : ((r : RowData) → Contains rows r → IsNoState (type_of_id I r.ty) → Contains given r.ty) → ((r : RowData) → Contains rows r → HasAskedFor I asked (arrows (env_of_id I r.env) (type_of_id I r.ty)))
      → ((s t : ℕ) → Contains given s → Contains asked t → AsStrongAs (type_of_id I s) (type_of_id I t) → s ≡ t) → MatchExactly I rows
  all_match types asks only r o in_r in_o sets rest k a is m strong = elim (same_or_arrows strong) [
    | inl same ↦ same
    | inr both ↦
        let t = asks o in_o sets rest k a is m both.1 in
        let e = only r.ty t.0 (types r in_r both.0) t.1.0 (subst (λ (y : TypeTree). AsStrongAs (type_of_id I r.ty) y) (sym t.1.1) strong) in
        ap (type_of_id I) e ∙ t.1.1
  ]

-- what holds of a result by two of its clauses
pub on_both : {A E : Type 0} (r : Result A E) {P Q R : Type 0} → (P → Q → R) → OnOk r P → OnOk r Q → OnOk r R
on_both (Ok a) f p q = f p q
on_both (Err e) f p q = tt

pub not_false : (b : Bool) → IsTrue (not b) → b ≡ false
not_false true h = absurd (cc)
not_false false h = refl

pub none_of_types : (I : InternerData) (found : List ℕ) → found ≡ [] → AreOfTypes I found
none_of_types I found is t m = absurd (none_in t (subst (λ (z : List ℕ). Contains z t) is m))
