-- What is remembered stays true.
use Rattle.std.proofs.Common.{◌≡◌, sym, subst, ℕ, ◌<◌, Bool, true, List, length, Option, Some, slice_get, IsTrue, ◌↔◌, inl, inr}
use Rattle.hs_scheme.proofs.Lists.{none_in}
use Rattle.hs_table.specs.Types.{TypeTree}
use Rattle.hs_table.specs.Entries.{Env}
use Rattle.hs_weak.specs.Strength.{AsStrongAs, AsksEach, AsksAtLeast}
use Rattle.hs_types.specs.Interned.{InternerData, type_of_id, set_of_id, env_of_id, Grows}
use Rattle.hs_types.proofs.Numbers.{type_within, type_stays, set_within, set_stays, env_within, env_stays}
use Rattle.hs_strength.specs.declared.answers.Question.{Question}
use Rattle.hs_strength.specs.declared.answers.Question.TheVariants.{Types, Sets}
use Rattle.hs_strength.specs.Kinds.{HasKinds}
use Rattle.hs_strength.specs.Memo.{MemoData, KnownAnswers, Knows}
use Rattle.hs_strength.specs.Remembered.{IsAnswer, Remembers, nothing, Learns, Sees, Notes}

pub remembers_nothing : (I : InternerData) → Remembers I nothing
remembers_nothing I = record { answers = λ q answer m. absurd (none_in (Some (record { question = q; answer = answer })) m); seen = λ t e. absurd (cc); kinds = λ e kinds at. absurd (cc) }

answer_stays : (I J : InternerData) → Grows I J → (q : Question) (answer : Bool) → IsAnswer I q answer → IsAnswer J q answer
answer_stays I J g (Types t u) answer (t_in, u_in, is) = (
  type_within I J g t t_in,
  type_within I J g u u_in,
  subst (λ (x : TypeTree). IsTrue answer ↔ AsStrongAs x (type_of_id J u)) (sym (type_stays I J g t t_in))
      (subst (λ (y : TypeTree). IsTrue answer ↔ AsStrongAs (type_of_id I t) y) (sym (type_stays I J g u u_in)) is),
)
answer_stays I J g (Sets s r) answer (s_in, r_in, is) = (
  set_within I J g s s_in,
  set_within I J g r r_in,
  subst (λ (x : List TypeTree). IsTrue answer ↔ AsksEach AsStrongAs x (set_of_id J r)) (sym (set_stays I J g s s_in))
      (subst (λ (y : List TypeTree). IsTrue answer ↔ AsksEach AsStrongAs (set_of_id I s) y) (sym (set_stays I J g r r_in)) is),
)

pub remembers_grown : (I J : InternerData) (memo : MemoData) → Grows I J → Remembers I memo → Remembers J memo
remembers_grown I J memo g h = record {
  answers = λ q answer m. answer_stays I J g q answer (h.answers q answer m);
  seen = λ t e.
      let was = h.seen t e in
      (type_within I J g t was.0, subst (λ (x : TypeTree). AsStrongAs x x) (sym (type_stays I J g t was.0)) was.1);
  kinds = λ e kinds at.
      let was = h.kinds e kinds at in
      let same = sym (env_stays I J g e was.0) in
      (env_within I J g e was.0, subst (λ (E : Env). HasKinds E kinds) same was.1, subst (λ (E : Env). AsksAtLeast AsStrongAs E E) same was.2);
}

pub learned : (I : InternerData) (old new : MemoData) (q : Question) (answer : Bool) → Remembers I old → IsAnswer I q answer → Learns old new q answer → Remembers I new
learned I old new q answer h is learns = record {
  answers = λ p b m. elim (learns.answers p b m) [
    | inl was ↦ h.answers p b was
    | inr own ↦ subst (λ (r : Question). IsAnswer I r b) (sym own.0) (subst (λ (c : Bool). IsAnswer I q c) (sym own.1) is)
  ];
  seen = λ t e. h.seen t (subst (λ (marks : List Bool). slice_get marks t ≡ Some true) learns.seen e);
  kinds = λ e kinds at. h.kinds e kinds (subst (λ (ks : List (Option ℕ)). slice_get ks e ≡ Some (Some kinds)) learns.kinds at);
}

pub saw : (I : InternerData) (old new : MemoData) (ty : ℕ) → Remembers I old → ty < length I.types → AsStrongAs (type_of_id I ty) (type_of_id I ty) → Sees old new ty → Remembers I new
saw I old new ty h within strong sees = record {
  answers = λ q b m. h.answers q b (subst (λ (es : KnownAnswers). Knows es q b) sees.answers m);
  seen = λ t e. elim (sees.seen t e) [
    | inl was ↦ h.seen t was
    | inr is ↦ subst (λ k. (k < length I.types) × AsStrongAs (type_of_id I k) (type_of_id I k)) (sym is) (within, strong)
  ];
  kinds = λ e kinds at. h.kinds e kinds (subst (λ (ks : List (Option ℕ)). slice_get ks e ≡ Some (Some kinds)) sees.kinds at);
}

pub noted : (I : InternerData) (old new : MemoData) (env own : ℕ) → Remembers I old → env < length I.envs → HasKinds (env_of_id I env) own → AsksAtLeast AsStrongAs (env_of_id I env) (env_of_id I env) → Notes old new env own → Remembers I new
noted I old new env own h within has itself notes = record {
  answers = λ q b m. h.answers q b (subst (λ (es : KnownAnswers). Knows es q b) notes.answers m);
  seen = λ t e. h.seen t (subst (λ (marks : List Bool). slice_get marks t ≡ Some true) notes.seen e);
  kinds = λ e kinds at. elim (notes.kinds e kinds at) [
    | inl was ↦ h.kinds e kinds was
    | inr (is, same) ↦ subst (λ k. (k < length I.envs) × HasKinds (env_of_id I k) kinds × AsksAtLeast AsStrongAs (env_of_id I k) (env_of_id I k)) (sym is) (within, subst (λ n. HasKinds (env_of_id I env) n) (sym same) has, itself)
  ];
}
