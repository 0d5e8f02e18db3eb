use Rattle.std.proofs.Common.{◌≡◌, sym, ◌∙◌, ◌<◌, ap, subst, ℕ, [], true, false, length, take, Contains, ◌↔◌, List, Option, ◌∷◌, ◌++◌, arith}
use Rattle.std.specs.List.Sorted.{IsStrictlyIncreasing}
use Rattle.std.proofs.lemmas.Bool.{eq-eqb, eqb-true}
use Rattle.std.proofs.lemmas.Result.{IfOk-weaker}
use Rattle.std.proofs.lemmas.Option.{get_or_from_slice_get}
use Rattle.hs_table.specs.Types.{state}
use Rattle.hs_table.specs.Entries.{EntryData}
use Rattle.hs_types.specs.Interned.{InternerData, type_of_id, entry_of, IsInterner}
use Rattle.hs_types.proofs.Numbers.{same_type}
use Rattle.hs_rules.specs.Slots.{Respects, IsCandidate}
use Rattle.hs_rules.specs.Filling.{fixed_of, IsWithin}
use Rattle.hs_replica.specs.Places.{typed, ArePlaces}
use Rattle.hs_replica.specs.Replica.{ReplicaData, typed_to}
use Rattle.hs_rules.proofs.KeepLemmas.{as_before}
use Rattle.hs_rules.proofs.FillLemmas.{one_ascends, free_none, free_arg, free_type, free_candidates, fixed_candidates}
use Rattle.hs_rules.specs.declared.search.Fixed.{Fixed}
use Rattle.hs_rules.proofs.search.places_for.Goals as goal
use Rattle.hs_rules.proofs.search.places_for.Goals.{in-Some+else-fixed-arg, else-fixed-arg-via-then-fixed-arg+else-eq, else-fixed-arg-via-else-fixed-arg, in_default}

pub returns-clause-candidates : goal.returns-clause-candidates
returns-clause-candidates c =
    let log = c.args.replica.now.log in
    let ids = c.args.replica.now.ids in
    let ty = type_of_id ids c.args.ty in
    let free : (place : ℕ) → Respects (fixed_of log c.args.search.now.fixed) (record { arg = c.args.arg; point = c.args.point; ty = ty }) place = λ place. elim c.match-search.branch [
      | in-Some+else-fixed-arg w ↦ elim w.else-fixed-arg.branch [
        | else-fixed-arg-via-then-fixed-arg+else-eq w' ↦ free_type log c.args.search.now.fixed c.args.arg c.args.point ty place w.in-Some.fixed w.in-Some.is (λ e.
            let read = get_or_from_slice_get log w.in-Some.fixed.place (entry_of ids w'.row.result) (record { point = 0; env = []; ty = state 0 }) w'.row.ensures.entry in
            let numbers = subst (λ (I : InternerData). IsInterner I) c.interner.ensures c.know_numbers.ensures in
            let same = same_type ids numbers w'.row.result.ty c.args.ty w'.row.ensures.row.1 c.requires.ty (sym (ap (λ (x : EntryData). x.ty) read) ∙ e) in
            let f : true ≡ false = sym (eq-eqb w'.row.result.ty c.args.ty same) ∙ (sym w'.eq.ensures ∙ w'.if-eq.false) in
            absurd (cc))
        | else-fixed-arg-via-else-fixed-arg w' ↦ free_arg log c.args.search.now.fixed c.args.arg c.args.point ty place w.in-Some.fixed w.in-Some.is w'.if-fixed-arg.false
      ]
      | in_default w ↦ free_none log c.args.search.now.fixed c.args.arg c.args.point ty place w.in_default.is
    ] in
    let limit = c.args.search.now.limit in
    let then = c.list_types.new.self in
    let kept = c.in_ok-list_types.ensures.kept in
    let told : typed_to then c.args.point ≡ length log = c.in_ok-list_types.ensures.ok ∙ (ap (λ (r : ReplicaData). r.indexed) kept.same ∙ c.requires.search.indexed) in
    let are = as_before c.args.replica.now then kept (λ I es. ArePlaces es (typed_to then c.args.point) (typed c.args.point (type_of_id I c.args.ty)) c.with_type.result.now) c.with_type.ensures in
    IfOk-weaker c.below.result (λ out. (place : ℕ) → Contains out.items place ↔ (Contains c.with_type.result.now place × (place < limit)))
    (λ out. (place : ℕ) → Contains out.items place ↔ ((e : EntryData) × IsCandidate (take limit log) (fixed_of log c.args.search.now.fixed) (record { arg = c.args.arg; point = c.args.point; ty = ty }) place e))
    (λ out h. free_candidates log (typed_to then c.args.point) limit c.args.arg c.args.point ty (fixed_of log c.args.search.now.fixed) c.with_type.result.now out.items told c.requires.search.limited free are h) c.below.ensures.places

pub returns-then-eq-clause-candidates : goal.returns-then-eq-clause-candidates
returns-then-eq-clause-candidates c = λ place.
    let log = c.args.replica.now.log in
    let ids = c.args.replica.now.ids in
    let s = c.args.search.now in
    let f = c.in-Some.fixed in
    let same : c.row.result.ty ≡ c.args.ty = eqb-true c.row.result.ty c.args.ty (sym c.eq.ensures ∙ c.if-eq.true) in
    let within = subst (λ (o : Option Fixed). IsWithin log s.args.now s.limit o) c.in-Some.is c.requires.search.fixed_within in
    let items : c.push_reserved.new.self.items ≡ f.place ∷ [] = c.push_reserved.ensures.items ∙ ap (λ (ps : List ℕ). ps ++ f.place ∷ []) c.new-only.ensures.items in
    subst (λ (o : Option Fixed). Contains c.push_reserved.new.self.items place ↔ ((x : EntryData) × IsCandidate (take s.limit log) (fixed_of log o) (record { arg = c.args.arg; point = c.args.point; ty = type_of_id ids c.args.ty }) place x)) (sym c.in-Some.is)
    (fixed_candidates log s.limit c.args.arg c.args.point (type_of_id ids c.args.ty) f s.args.now (entry_of ids c.row.result) c.push_reserved.new.self.items c.row.ensures.entry (ap (type_of_id ids) same) c.if-fixed-arg.true c.requires.point within items place)

pub returns-clause-ascending : goal.returns-clause-ascending
returns-clause-ascending c = c.below.ensures.ascending

pub returns-then-eq-clause-ascending : goal.returns-then-eq-clause-ascending
returns-then-eq-clause-ascending c =
    subst (λ (xs : List ℕ). IsStrictlyIncreasing xs) (sym (c.push_reserved.ensures.items ∙ ap (λ (ps : List ℕ). ps ++ c.in-Some.fixed.place ∷ []) c.new-only.ensures.items)) (one_ascends c.in-Some.fixed.place)

pub push_reserved-requires : goal.push_reserved-requires
push_reserved-requires c = omega (arith, c.new-only.ensures.capacity, ap (λ (ps : List ℕ). length ps) c.new-only.ensures.items)
