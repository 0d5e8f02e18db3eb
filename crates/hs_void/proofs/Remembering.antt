-- What a look-up finds was kept, and an insert adds its own.
use Rattle.std.proofs.Common.{◌≡◌, refl, sym, ◌∙◌, ap, subst, ℕ, ◌<◌, Bool, true, false, cond, nat_eq, List, [], ◌∷◌, length, slice_get, Some, Contains, ◌⊎◌, inl, inr}
use Rattle.std.proofs.lemmas.Bool.{eqb-true, and_parts}
use Rattle.std.proofs.lemmas.Option.{same_Some}
use Rattle.std.specs.Map.{lookup}
use Rattle.std.specs.Prelude.{Result, Ok, Err, OnOk}
use Rattle.indexmap.specs.IndexMap.{insert_entry}
use Rattle.hs_scheme.proofs.Lists.{none_in, here, later, uncons}
use Rattle.hs_scheme.proofs.DemandLemmas.{triple_true}
use Rattle.hs_void.specs.declared.memo.Question.{Question}
use Rattle.hs_void.specs.contracts.memo.QuestionPartialEq.TheImpl.{eq-value}
use Rattle.hs_numbered.specs.contracts.void_row.VoidRowPartialEq.TheImpl.{eq-value as same-pair}
use Rattle.hs_types.specs.Interned.{InternerData}
use Rattle.hs_scheme.specs.Problem.{ProblemData}
use Rattle.hs_table.specs.Types.{TypeTree}
use Rattle.hs_table.specs.Entries.{EntryData}
use Rattle.hs_weak.specs.Void.{VoidData}
use Rattle.hs_types.specs.Interned.{type_of_id, RowData}
use Rattle.hs_sites.specs.declared.sites.Site.{Site}
use Rattle.hs_void.specs.Rows.{LacksAt, AreMarks}
use Rattle.hs_numbered.specs.Certificates.{VoidRowData}
use Rattle.hs_choices.specs.Numbered.{AreNumbered}
use Rattle.hs_void.specs.Voids.{BasisData, VoidsData, IsAnswer, Remembers, AreSitesBy, AreRows, IsVoidAnswer, Fits}

abbrev Answers : Type 0
Answers = List (Question × List Bool)

abbrev VoidAnswers : Type 0
VoidAnswers = List (VoidRowData × Bool)

pub same_question : (p q : Question) → eq-value.it p q ≡ true → p ≡ q
same_question p q h =
    let e = triple_true p.rule p.parameter p.ty q.rule q.parameter q.ty h in
    λ i. record { rule = e.0 i; parameter = e.1.0 i; ty = e.1.1 i }

pub same_pair : (p q : VoidRowData) → same-pair.it p q ≡ true → p ≡ q
same_pair p q h =
    let e = and_parts (nat_eq p.rule q.rule) (nat_eq p.env q.env) h in
    λ i. record { rule = eqb-true p.rule q.rule e.0 i; env = eqb-true p.env q.env e.1 i }

module _ {K V : Type 0} (eq : K → K → Bool) (same_key : (p q : K) → eq p q ≡ true → p ≡ q) where
  pub found_answer : (p : K) (es : List (K × V)) (u : V) → lookup (eq p) es ≡ Some u → Contains es (p, u)
  found_answer p [] u e = absurd (cc)
  found_answer p ((q, v) ∷ es) u e = by (eq p q) refl (found_answer p es u)
    where
      by : (b : Bool) → eq p q ≡ b → (lookup (eq p) es ≡ Some u → Contains es (p, u)) → Contains ((q, v) ∷ es) (p, u)
      by true t rest =
          let f : Some v ≡ Some u = sym (ap (λ b. cond b (Some v) (lookup (eq p) es)) t) ∙ e in
          let is : v ≡ u = (cc) in
          let same = sym (same_key p q t) in
          subst (λ (x : K × V). Contains ((q, v) ∷ es) x) (λ i. (same i, is i)) (here (q, v) es)
      by false t rest = later (q, v) (p, u) es (rest (sym (ap (λ b. cond b (Some v) (lookup (eq p) es)) t) ∙ e))

  pub inserted_answer : (p : K) (v : V) (es : List (K × V)) (x : K × V) → Contains (insert_entry eq es p v) x → Contains es x ⊎ (x ≡ (p, v))
  inserted_answer p v [] x h = elim (uncons (p, v) x [] h) [ inl is ↦ inr is | inr there ↦ absurd (none_in x there) ]
  inserted_answer p v ((q, w) ∷ es) x h = by (eq p q) refl (inserted_answer p v es x)
    where
      by : (b : Bool) → eq p q ≡ b → (Contains (insert_entry eq es p v) x → Contains es x ⊎ (x ≡ (p, v))) → Contains ((q, w) ∷ es) x ⊎ (x ≡ (p, v))
      by true t rest =
          let k : Contains ((q, v) ∷ es) x = subst (λ (l : List (K × V)). Contains l x) (ap (λ b. cond b ((q, v) ∷ es) ((q, w) ∷ insert_entry eq es p v)) t) h in
          elim (uncons (q, v) x es k) [
            | inl is ↦ let same = sym (same_key p q t) in inr (is ∙ (λ i. (same i, v)))
            | inr there ↦ inl (later (q, w) x es there)
          ]
      by false t rest =
          let k : Contains ((q, w) ∷ insert_entry eq es p v) x = subst (λ (l : List (K × V)). Contains l x) (ap (λ b. cond b ((q, v) ∷ es) ((q, w) ∷ insert_entry eq es p v)) t) h in
          elim (uncons (q, w) x (insert_entry eq es p v) k) [
            | inl is ↦ inl (subst (λ (y : K × V). Contains ((q, w) ∷ es) y) (sym is) (here (q, w) es))
            | inr there ↦ elim (rest there) [
              | inl was ↦ inl (later (q, w) x es was)
              | inr own ↦ inr own
            ]
          ]

-- what is remembered with one answer more
pub remembers_more : (I : InternerData) (b : BasisData) (old new : Answers) (q : Question) (marks : List Bool) → Remembers I b old → IsAnswer I b q marks → ((a : Question × List Bool) → Contains new a → Contains old a ⊎ (a ≡ (q, marks))) → Remembers I b new
remembers_more I b old new q marks were is come p m there = elim (come (p, m) there) [
  | inl was ↦ were p m was
  | inr own ↦ subst (λ (a : Question × List Bool). IsAnswer I b a.0 a.1) (sym own) is
]

-- at first nothing is remembered
pub fits_at_first : (b : BasisData) (memo : Answers) (found : VoidAnswers) → memo ≡ [] → found ≡ [] → AreSitesBy b.problem b.sites → (C : List EntryData) (V : List VoidData) (I : InternerData) → AreNumbered b.problem C V I b.table b.void → Fits I (record { basis = b; memo = memo; answers = found })
fits_at_first b memo found none none_found sites C V I are = record {
  sites = sites;
  rows = record {
    in_use = are.in_use;
    shape = λ row m. (are.rows.taken row m).1.shape;
    order = are.order;
    envs = are.envs;
  };
  memo = λ q marks m. absurd (none_in (q, marks) (subst (λ (as_ : Answers). Contains as_ (q, marks)) none m));
  answers = λ pair void m. absurd (none_in (pair, void) (subst (λ (as_ : VoidAnswers). Contains as_ (pair, void)) none_found m));
}

-- the basis is of these parts
pub basis_of : (b : BasisData) (p : ProblemData) (table : List RowData) (void : List VoidRowData) → b.problem ≡ p → b.table ≡ table → b.void ≡ void → (C : List EntryData) (V : List VoidData) (I : InternerData) → AreNumbered p C V I table void → AreNumbered b.problem C V I b.table b.void
basis_of b p table void problem_is table_is void_is C V I are =
    subst (λ (q : ProblemData). AreNumbered q C V I b.table b.void) (sym problem_is)
    (subst (λ (t : List RowData). AreNumbered p C V I t b.void) (sym table_is)
    (subst (λ (v : List VoidRowData). AreNumbered p C V I table v) (sym void_is) are))

-- marks of all sites of the question's nonterminal are an answer
pub answer_of : (I : InternerData) (b : BasisData) (q : Question) (sites : List Site) → slice_get b.sites q.rule ≡ Some sites → q.ty < length I.types → (marks : List Bool) → AreMarks (LacksAt b.problem I b.table q.parameter (type_of_id I q.ty)) sites marks → IsAnswer I b q marks
answer_of I b q sites at ty marks are = record {
  ty = ty;
  marks = λ others there. subst (λ (ss : List Site). AreMarks (LacksAt b.problem I b.table q.parameter (type_of_id I q.ty)) ss marks) (same_Some sites others (sym at ∙ there)) are;
}

-- marks by parts of the basis
pub marks_by : (I : InternerData) (b : BasisData) (p : ProblemData) (table : List RowData) → p ≡ b.problem → table ≡ b.table → (j : ℕ) (t : TypeTree) (sites : List Site) (marks : List Bool) → AreMarks (LacksAt p I table j t) sites marks → AreMarks (LacksAt b.problem I b.table j t) sites marks
marks_by I b p table problem_is table_is j t sites marks are =
    subst (λ (q : ProblemData). AreMarks (LacksAt q I b.table j t) sites marks) problem_is (subst (λ (rows : List RowData). AreMarks (LacksAt p I rows j t) sites marks) table_is are)

-- what fits still does, with what is remembered then
pub fits_later : (I J K : InternerData) → J ≡ I → K ≡ J → (v : VoidsData) (b : BasisData) (memo new : Answers) (found : VoidAnswers) → (let w : VoidsData = record { basis = b; memo = memo; answers = found } in w) ≡ v → Fits I v → Remembers J b new
    → Fits K (record { basis = b; memo = new; answers = found })
fits_later I J K j k v b memo new found e fits remembers =
    let was : Fits I (record { basis = b; memo = memo; answers = found }) = subst (λ (w : VoidsData). Fits I w) (sym e) fits in
    let all : Fits J (record { basis = b; memo = new; answers = found }) = record {
      sites = was.sites;
      rows = subst (λ (L : InternerData). AreRows L b) (sym j) was.rows;
      memo = remembers;
      answers = λ pair void m. subst (λ (L : InternerData). IsVoidAnswer L b pair void) (sym j) (was.answers pair void m);
    } in
    subst (λ (L : InternerData). Fits L (record { basis = b; memo = new; answers = found })) (sym k) all

-- with one answer more
pub fits_answered : (I J : InternerData) → J ≡ I → (v : VoidsData) (b : BasisData) (memo : Answers) (found new : VoidAnswers) → (let w : VoidsData = record { basis = b; memo = memo; answers = found } in w) ≡ v → Fits J v → (pair : VoidRowData) (void : Bool) → IsVoidAnswer I b pair void
    → ((a : VoidRowData × Bool) → Contains new a → Contains found a ⊎ (a ≡ (pair, void))) → Fits J (record { basis = b; memo = memo; answers = new })
fits_answered I J j v b memo found new e fits pair void is come =
    let was : Fits J (record { basis = b; memo = memo; answers = found }) = subst (λ (w : VoidsData). Fits J w) (sym e) fits in
    record {
      sites = was.sites;
      rows = was.rows;
      memo = was.memo;
      answers = λ p u m. elim (come (p, u) m) [
        | inl before ↦ was.answers p u before
        | inr own ↦ subst (λ (a : VoidRowData × Bool). IsVoidAnswer J b a.0 a.1) (sym own) (subst (λ (L : InternerData). IsVoidAnswer L b pair void) (sym j) is)
      ];
    }

pub on_ok : {X Y : Type 0} (r : Result X Y) (P : Type 0) → P → OnOk r P
on_ok (Ok x) P h = h
on_ok (Err e) P h = tt
