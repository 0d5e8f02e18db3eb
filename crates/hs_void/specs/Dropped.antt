-- Laws of what is void by rows, and of what fits, while there come more numbers: what the impl of `Dropping` cites.
use Rattle.std.proofs.Common.{◌≡◌, sym, subst, ℕ, ◌<◌, List, length, Bool, Contains, All, IsTrue, ◌↔◌}
use Rattle.std.proofs.lemmas.List.Elements.{All-weaker, All-contains}
use Rattle.hs_scheme.specs.Problem.{ProblemData}
use Rattle.hs_table.specs.Types.{TypeTree}
use Rattle.hs_table.specs.Entries.{Env, EntryData, InShape}
use Rattle.hs_weak.specs.Strength.{AsStrongAs, AsksAtLeast}
use Rattle.hs_weak.specs.Sites.{SiteData}
use Rattle.hs_weak.specs.Void.{IsVoid}
use Rattle.hs_types.specs.Interned.{InternerData, type_of_id, RowData, IsRow, Grows}
use Rattle.hs_types.proofs.Numbers.{type_within, type_stays, env_within, env_stays, row_within, row_stays}
use Rattle.hs_sites.specs.Listed.{data_of}
use Rattle.hs_numbered.specs.Certificates.{VoidRowData}
use Rattle.hs_choices.proofs.Asking.{void_more}
use Rattle.hs_choices.proofs.Staying.{numbered_stays, numbered_back}
use Rattle.hs_void.specs.declared.memo.Question.{Question}
use Rattle.hs_void.specs.Rows.{HasRow, LacksAt}
use Rattle.hs_void.specs.Voids.{BasisData, VoidsData, IsAnswer, AreRows, Fits, IsVoidBy}

pub more_is_void : (b : BasisData) (I : InternerData) (rule : ℕ) (E B : Env) → AsksAtLeast AsStrongAs E B → IsVoidBy b I rule B → IsVoidBy b I rule E
more_is_void b I rule E B asks void C V are = void_more b.problem C V rule E B asks (void C V are)

pub void_before : (b c : BasisData) (I J : InternerData) (rule : ℕ) (E : Env) → c ≡ b → Grows I J → IsVoidBy c J rule E → IsVoidBy b I rule E
void_before b c I J rule E same grows void =
    let own : IsVoidBy b J rule E = subst (λ (a : BasisData). IsVoidBy a J rule E) same void in
    λ C V are. own C V (numbered_stays b.problem C V I J b.table b.void grows are)

module _ (I J : InternerData) (grows : Grows I J) where
  module _ (table : List RowData) (in_use : All (IsRow I) table) where
    ty_stays : (row : RowData) → Contains table row → type_of_id J row.ty ≡ type_of_id I row.ty
    ty_stays row m = type_stays I J grows row.ty (All-contains (IsRow I) table row in_use m).1

    row_on : (u : ℕ) (t : TypeTree) → HasRow I table u t → HasRow J table u t
    row_on u t h = (h.0, (h.1.0, h.1.1, subst (λ (a : TypeTree). AsStrongAs a t) (sym (ty_stays h.0 h.1.0)) h.1.2))

    row_back : (u : ℕ) (t : TypeTree) → HasRow J table u t → HasRow I table u t
    row_back u t h = (h.0, (h.1.0, h.1.1, subst (λ (a : TypeTree). AsStrongAs a t) (ty_stays h.0 h.1.0) h.1.2))

    lacks_same : (p : ProblemData) (j : ℕ) (t : TypeTree) (s : SiteData) → LacksAt p I table j t s ↔ LacksAt p J table j t s
    lacks_same p j t s = (
      λ h. record { u = h.u; gives = h.gives; lacks = λ r. h.lacks (row_back h.u t r) },
      λ h. record { u = h.u; gives = h.gives; lacks = λ r. h.lacks (row_on h.u t r) },
    )

  rows_stay : (b : BasisData) → AreRows I b → AreRows J b
  rows_stay b h = record {
    in_use = All-weaker (IsRow I) (IsRow J) (row_within I J grows) b.table h.in_use;
    shape = λ row m. subst (λ (e : EntryData). InShape b.problem e) (sym (row_stays I J grows row (All-contains (IsRow I) b.table row h.in_use m))) (h.shape row m);
    order = h.order;
    envs = All-weaker (λ (v : VoidRowData). v.env < length I.envs) (λ (v : VoidRowData). v.env < length J.envs) (λ v lt. env_within I J grows v.env lt) b.void h.envs;
  }

  answer_stays : (b : BasisData) → All (IsRow I) b.table → (q : Question) (marks : List Bool) → IsAnswer I b q marks → IsAnswer J b q marks
  answer_stays b in_use q marks h = record {
    ty = type_within I J grows q.ty h.ty;
    marks = λ sites at k x there.
        let is = h.marks sites at k x there in
        let same = lacks_same b.table in_use b.problem q.parameter (type_of_id J q.ty) (data_of x) in
        let ty = type_stays I J grows q.ty h.ty in (
          λ on. same.0 (subst (λ (t : TypeTree). LacksAt b.problem I b.table q.parameter t (data_of x)) (sym ty) (is.0 on)),
          λ lacks. is.1 (subst (λ (t : TypeTree). LacksAt b.problem I b.table q.parameter t (data_of x)) ty (same.1 lacks)),
        );
  }

pub fits_stays : (v : VoidsData) (I J : InternerData) → Grows I J → Fits I v → Fits J v
fits_stays v I J grows h = record {
  sites = h.sites;
  rows = rows_stay I J grows v.basis h.rows;
  memo = λ q marks m. answer_stays I J grows v.basis h.rows.in_use q marks (h.memo q marks m);
  answers = λ pair void m.
      let is = h.answers pair void m in (
        env_within I J grows pair.env is.0,
        λ C V are.
            let before = numbered_back v.basis.problem C V I J v.basis.table v.basis.void grows h.rows.in_use h.rows.envs are in
            subst (λ (E : Env). IsTrue void ↔ IsVoid v.basis.problem C V pair.rule E) (sym (env_stays I J grows pair.env is.0)) (is.1 C V before),
      );
}
