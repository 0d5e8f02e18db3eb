use Rattle.std.proofs.Common.{◌≡◌, refl, sym, subst, ◌<◌, ◌∷◌, [], List, length, Contains, arith}
use Rattle.std.proofs.lemmas.List.{take_all}
use Rattle.hs_scheme.proofs.Lists.{none_in, match_none, match_some}
use Rattle.hs_table.specs.Types.{TypeTree}
use Rattle.hs_table.specs.Entries.{EntryData}
use Rattle.hs_table_laws.proofs.Members.{into_map}
use Rattle.hs_table_plain.specs.Enumeration as plain
use Rattle.hs_types.specs.Interned.{type_of_id, entry_of}
use Rattle.hs_types.proofs.Numbers.{Grows-refl, Grows-trans, type_stays, type_within}
use Rattle.hs_checker.specs.Slots.{IsConclusion}
use Rattle.hs_checker.specs.Numbers.{entries_of, trees_of, AreLong}
use Rattle.hs_checker.proofs.InstanceLemmas.{conclusion_more}
use Rattle.hs_checker.proofs.NumberLemmas.{rows_grow, entries_stay, mapped_read, mapped_long}
use Rattle.hs_checker.proofs.missing.missing_among.Goals as goal

pub loop-ty-init : goal.loop-ty-init
loop-ty-init c = record { grows = Grows-refl c.args.types.now; closed = λ e h. absurd (none_in h.ty h.there) }

pub missing_by-requires-clause-rows : goal.missing_by-requires-clause-rows
missing_by-requires-clause-rows c = rows_grow c.args.types.now c.loop-ty.types c.loop-ty.invariant.grows c.args.index.now c.requires.rows

pub missing_by-requires-clause-ty : goal.missing_by-requires-clause-ty
missing_by-requires-clause-ty c =
    let I = c.args.types.now in
    let lt = subst (λ n. n < length I.types) (sym c.ty-item.is) (c.requires.all c.loop-ty.ty-index c.ty-item.result c.loop-ty-test.true) in
    type_within I c.loop-ty.types c.loop-ty.invariant.grows c.ty-item.result lt

pub missing_by-requires-clause-long : goal.missing_by-requires-clause-long
missing_by-requires-clause-long c = λ u k.
    subst (λ (F : List EntryData). AreLong c.args.params F u) (sym (entries_stay c.args.types.now c.loop-ty.types c.loop-ty.invariant.grows c.args.index.now c.requires.rows)) (c.requires.long u k)

pub loop-ty-preserved : goal.loop-ty-preserved
loop-ty-preserved c =
    let I = c.args.types.now in
    let J = c.loop-ty.types in
    let E = entries_of I c.args.index.now in
    let all = trees_of I c.args.all.now in
    let k = c.loop-ty.ty-index in
    let ty = c.ty-item.result in
    let h = c.loop-ty.invariant in
    let lt = subst (λ n. n < length I.types) (sym c.ty-item.is) (c.requires.all k ty c.loop-ty-test.true) in
    let stay = entries_stay I J h.grows c.args.index.now c.requires.rows in
    let ty_is = type_stays I J h.grows ty lt in
    let own = match_none c.in_ok-row.field-0 _ _ c.in-None.is c.in_ok-row.ensures.missing in
    let closed = λ (e : EntryData) (m : Contains (plain.through E c.args.args.now (type_of_id I ty) (plain.opening c.args.point c.args.params c.args.head (type_of_id I ty) ∷ [])) e).
    subst (λ (F : List EntryData). Contains F e) stay (own e (subst (λ (xs : List EntryData). Contains xs e) (λ i. plain.through (sym stay i) c.args.args.now (sym ty_is i) (plain.opening c.args.point c.args.params c.args.head (sym ty_is i) ∷ [])) m)) in
    record {
      grows = Grows-trans I J c.missing_by.new.types h.grows c.in_ok-row.ensures.grows;
      closed = conclusion_more E c.args.point c.args.params c.args.head c.args.args.now all k (type_of_id I ty)
          (omega (arith, c.loop-ty-test.true, mapped_long (type_of_id I) c.args.all.now all refl)) (mapped_read (type_of_id I) c.args.all.now all k ty refl c.ty-item.is) h.closed closed;
    }

pub returns-in-Some-clause-missing : goal.returns-in-Some-clause-missing
returns-in-Some-clause-missing c =
    let I = c.args.types.now in
    let J = c.loop-ty.types in
    let K = c.missing_by.new.types in
    let E = entries_of I c.args.index.now in
    let us = c.args.args.now in
    let k = c.loop-ty.ty-index in
    let ty = c.ty-item.result in
    let h = c.loop-ty.invariant in
    let lt = subst (λ n. n < length I.types) (sym c.ty-item.is) (c.requires.all k ty c.loop-ty-test.true) in
    let stay = entries_stay I J h.grows c.args.index.now c.requires.rows in
    let ty_is = type_stays I J h.grows ty lt in
    let found = match_some c.in_ok-row.field-0 c.in-Some.row _ _ c.in-Some.is c.in_ok-row.ensures.missing in
    let e = entry_of K c.in-Some.row in (
      found.0,
      (
        record {
          ty = type_of_id I ty;
          there = into_map (type_of_id I) c.args.all.now ty (k, c.loop-ty-test.true, sym c.ty-item.is);
          comes = subst (λ (xs : List EntryData). Contains xs e) (λ i. plain.through (stay i) us (ty_is i) (plain.opening c.args.point c.args.params c.args.head (ty_is i) ∷ [])) found.1.0;
        },
        λ m. found.1.1 (subst (λ (F : List EntryData). Contains F e) (sym stay) m),
      ),
    )

pub returns-clause-missing : goal.returns-clause-missing
returns-clause-missing c = λ e k.
    let I = c.args.types.now in
    let E = entries_of I c.args.index.now in
    let all = trees_of I c.args.all.now in
    let long : length all ≡ length c.args.all.now = mapped_long (type_of_id I) c.args.all.now all refl in
    c.loop-ty.invariant.closed e (subst (λ (ts : List TypeTree). IsConclusion E c.args.point c.args.params c.args.head c.args.args.now ts e) (sym (take_all c.loop-ty.ty-index all (omega (arith, long, c.loop-ty-test.false)))) k)
