-- What rows say of a head.
use Rattle.std.proofs.Common.{◌≡◌, refl, sym, ◌∙◌, ap, subst, ℕ, ◌<◌, List, length, get_or, All, Some, slice_get, slice_index, nat_eq, Bool, true, ◌&&◌, filter, Contains, ◌↔◌}
use Rattle.std.proofs.lemmas.Bool.{eqb-true, eq-eqb, and_parts}
use Rattle.std.proofs.lemmas.List.Elements.{All-contains, Contains-get_or}
use Rattle.std.proofs.lemmas.Option.{slice_get-get_or, get_or_from_slice_get}
use Rattle.hs_scheme.specs.declared.flow.FlowPair.{FlowPair}
use Rattle.hs_scheme.specs.declared.term.Head.TheVariants.{Var, Nt, Tm}
use Rattle.hs_scheme.specs.Problem.{ProblemData}
use Rattle.hs_scheme.proofs.Lists.{filter_has, filter_passes, filter_keeps}
use Rattle.hs_table.specs.Types.{TypeTree, state, arrows}
use Rattle.hs_table.specs.Entries.{Env}
use Rattle.hs_weak.specs.Reads.{last_state}
use Rattle.hs_types.specs.Interned.{InternerData, type_of_id, env_of_id, RowData, IsRow, Grows}
use Rattle.hs_types.proofs.Numbers.{type_stays, env_stays}
use Rattle.hs_choices.specs.Numbered.{AreAtPoint}
use Rattle.hs_heads.specs.Sources.{FromSome, InState, BodySays, FlowSays, AtRow, HeadSays}

-- a row of them is in use, and so are those at a point
pub row_at : (I : InternerData) (rows : List RowData) (k : ℕ) (row : RowData) → k < length rows → row ≡ get_or rows k row → All (IsRow I) rows → IsRow I row
row_at I rows k row lt is all = subst (IsRow I) (sym is) (all k row lt)

pub part_within : (I : InternerData) (table : List RowData) (u : ℕ) (rows : List RowData) → AreAtPoint table u rows → All (IsRow I) table → All (IsRow I) rows
part_within I table u rows at all = λ k d lt. All-contains (IsRow I) table (get_or rows k d) all ((at (get_or rows k d)).0 (Contains-get_or rows k d lt)).0

module _ (I : InternerData) (R : List (ℕ × ℕ)) (point : ℕ) (row : RowData) where
  module _ (q : ℕ) (is : type_of_id I row.ty ≡ state q) where
    pub body_says : Contains R (point, q) → (ty : TypeTree) → (ty ≡ arrows (env_of_id I row.env) (type_of_id I row.ty)) ↔ BodySays I R point row ty
    body_says read ty = (
      λ e. record { q = q; is_state = is; read = read; is = e ∙ ap (λ t. arrows (env_of_id I row.env) t) is },
      λ b. b.is ∙ ap (λ t. arrows (env_of_id I row.env) t) (sym b.is_state),
    )

  pub flow_says : Contains R (point, last_state (type_of_id I row.ty)) → FlowSays I R point row (type_of_id I row.ty)
  flow_says read = record { is = refl; read = read }

  pub only_flow : (ty : TypeTree) → FlowSays I R point row ty → ty ≡ type_of_id I row.ty
  only_flow ty f = f.is

-- it says the same when more has numbers
pub body_stays : (I J : InternerData) (R : List (ℕ × ℕ)) (point : ℕ) (row : RowData) → Grows I J → IsRow I row → (ty : TypeTree) → BodySays J R point row ty ↔ BodySays I R point row ty
body_stays I J R point row g known ty =
    let type_is = type_stays I J g row.ty known.1 in
    let env_is : env_of_id J row.env ≡ env_of_id I row.env = env_stays I J g row.env known.0 in (
      λ b. record { q = b.q; is_state = sym type_is ∙ b.is_state; read = b.read; is = b.is ∙ ap (λ (E : Env). arrows E (state b.q)) env_is },
      λ b. record { q = b.q; is_state = type_is ∙ b.is_state; read = b.read; is = b.is ∙ ap (λ (E : Env). arrows E (state b.q)) (sym env_is) },
    )

-- the rows at a point are those of the table there
pub at_row : (From : RowData → TypeTree → Type 0) (table rows : List RowData) (u : ℕ) → AreAtPoint table u rows → (ty : TypeTree) → FromSome From rows ty ↔ AtRow From table u ty
at_row From table rows u at ty = (
  λ f. let m = (at f.item).0 f.among in record { row = f.item; there = m.0; at = m.1; says = f.says },
  λ r. record { item = r.row; among = (at r.row).1 (r.there, r.at); says = r.says },
)

module _ (p : ProblemData) (R : List (ℕ × ℕ)) (I : InternerData) (table : List RowData) (point rule : ℕ) where
  pub terminal_says : (a : ℕ) (states : List ℕ) → ((q : ℕ) → Contains states q ↔ Contains R (point, q)) → (ty : TypeTree) → FromSome (InState p a) states ty ↔ HeadSays p R I table point rule (Tm a) ty
  terminal_says a states are ty = (
    λ f. (f.item, ((are f.item).0 f.among, f.says)),
    λ h. record { item = h.0; among = (are h.0).1 h.1.0; says = h.1.1 },
  )

  pub nonterminal_says : (f body : ℕ) (rows : List RowData) → f < length p.points.bodies → body ≡ slice_index p.points.bodies f → AreAtPoint table body rows → (ty : TypeTree)
      → FromSome (BodySays I R point) rows ty ↔ HeadSays p R I table point rule (Nt f) ty
  nonterminal_says f body rows lt is at ty =
      let own : slice_get p.points.bodies f ≡ Some body = slice_get-get_or p.points.bodies f 0 lt ∙ ap (λ z. Some z) (sym is) in (
        λ s. (body, (own, (at_row (BodySays I R point) table rows body at ty).0 s)),
        λ h.
            let same : h.0 ≡ body = sym (get_or_from_slice_get p.points.bodies f h.0 0 h.1.0) ∙ sym is in
            (at_row (BodySays I R point) table rows body at ty).1 (subst (λ u. AtRow (BodySays I R point) table u ty) same h.1.1),
      )

  pub parameter_says : (x : ℕ) (pairs : List FlowPair) → pairs ≡ filter (λ (d : FlowPair). nat_eq d.rule rule && nat_eq d.param x) p.flow.pairs → (ty : TypeTree)
      → FromSome (λ (d : FlowPair). AtRow (FlowSays I R point) table d.point) pairs ty ↔ HeadSays p R I table point rule (Var x) ty
  parameter_says x pairs is ty = (
    λ f.
        let d = f.item in
        let m = subst (λ (ds : List FlowPair). Contains ds d) is f.among in
        let parts = and_parts (nat_eq d.rule rule) (nat_eq d.param x) (filter_passes test p.flow.pairs d m) in
        let same : d ≡ record { rule = rule; param = x; point = d.point } = λ i. record { rule = eqb-true d.rule rule parts.0 i; param = eqb-true d.param x parts.1 i; point = d.point } in
        (d.point, (subst (λ (z : FlowPair). Contains p.flow.pairs z) same (filter_has test p.flow.pairs d m), f.says)),
    λ h.
        let d : FlowPair = record { rule = rule; param = x; point = h.0 } in
        let passes : test d ≡ true = rw (eq-eqb rule rule refl, eq-eqb x x refl) in
        record { item = d; among = subst (λ (ds : List FlowPair). Contains ds d) (sym is) (filter_keeps test p.flow.pairs d passes h.1.0); says = h.1.1 },
  )
    where
      test : FlowPair → Bool
      test d = nat_eq d.rule rule && nat_eq d.param x
