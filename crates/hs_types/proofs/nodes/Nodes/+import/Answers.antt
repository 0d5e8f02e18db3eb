use Rattle.std.proofs.Common.{◌≡◌, ◌<◌, ◌∙◌, sym, ap, subst, ℕ, List, All, length, map, slice_get, Some, arith}
use Rattle.std.proofs.lemmas.Option.{slice_get_within}
use Rattle.std.proofs.lemmas.Result.{IfOk-weaker}
use Rattle.hs_table.specs.Types.{TypeTree, state, arrow, IsSet}
use Rattle.hs_types.specs.Interned.{type_of_id, set_of_id, Grows}
use Rattle.hs_types.proofs.ListLemmas.{more_range, more_same, made_all}
use Rattle.hs_types.proofs.Numbers.{Grows-trans, set_within}
use Rattle.hs_types.proofs.RowLemmas.{found_arrow}
use Rattle.hs_types.proofs.OrderLemmas.{member_lower, member_within}
use Rattle.hs_types.proofs.TranslationLemmas.{more_types, more_sets, found_grow}
use Rattle.hs_types.specs.declared.translations.Translation.{Translation}
use Rattle.hs_types.specs.Translations.{ImportedData, AreFound}
use Rattle.hs_types.proofs.nodes.Nodes.+import.Goals as goal

pub import_set-import_type-requires : goal.import_set-import_type-requires
import_set-import_type-requires t c =
    let I = c.args.from.now in
    let lower = member_lower I.types (set_of_id I c.args.id) c.members-members.result.now c.loop-member.member-index c.member-item.result c.members-members.ensures.members c.loop-member-test.true c.member-item.is in (
      grind (arith, lower),
      (
        member_within (length I.types) c.members-members.result.now c.loop-member.member-index c.member-item.result c.members-members.ensures.range c.loop-member-test.true c.member-item.is,
        c.loop-member.invariant.found,
      ),
    )

pub import_set-loop-member-preserved : goal.import_set-loop-member-preserved
import_set-loop-member-preserved t c =
    let J = c.loop-member.self in
    let K = c.import_type.new.self in
    let g : Grows J K = c.import_type.ensures.grows in
    let h = c.loop-member.invariant in
    let F = type_of_id c.args.from.now in
    record {
      found = c.import_type.ensures.found;
      grows = Grows-trans c.args.self.now J K h.grows g;
      range = more_range J.types K.types (state 0) F c.loop-member.types.items c.push.new.self.items c.members-members.result.now c.loop-member.member-index c.in_ok-import_type.field-0 c.member-item.result
          g.types h.range h.same c.in_ok-import_type.ensures.ok c.loop-member-test.true c.member-item.is c.in_ok-push.ensures.ok;
      same = more_same J.types K.types (state 0) F c.loop-member.types.items c.push.new.self.items c.members-members.result.now c.loop-member.member-index c.in_ok-import_type.field-0 c.member-item.result
          g.types h.range h.same c.in_ok-import_type.ensures.ok c.loop-member-test.true c.member-item.is c.in_ok-push.ensures.ok;
    }

pub import_set-returns-in_err-import_type-clause-grows : goal.import_set-returns-in_err-import_type-clause-grows
import_set-returns-in_err-import_type-clause-grows t c = Grows-trans c.args.self.now c.loop-member.self c.import_type.new.self c.loop-member.invariant.grows c.import_type.ensures.grows

pub import_set-returns-in_err-push-clause-grows : goal.import_set-returns-in_err-push-clause-grows
import_set-returns-in_err-push-clause-grows t c = Grows-trans c.args.self.now c.loop-member.self c.import_type.new.self c.loop-member.invariant.grows c.import_type.ensures.grows

pub import_set-add_set-requires-clause-range : goal.import_set-add_set-requires-clause-range
import_set-add_set-requires-clause-range t c = subst (λ (zs : List ℕ). All (λ i. i < length c.loop-member.self.types) zs) (sym c.as_slice.ensures) c.loop-member.invariant.range

pub import_set-add_set-requires-clause-ascends : goal.import_set-add_set-requires-clause-ascends
import_set-add_set-requires-clause-ascends t c =
    let I = c.args.from.now in
    let J = c.loop-member.self in
    let all : map (type_of_id J) c.loop-member.types.items ≡ set_of_id I c.args.id =
    made_all (type_of_id I) c.members-members.result.now (map (type_of_id J) c.loop-member.types.items) (set_of_id I c.args.id) c.loop-member.member-index c.loop-member.invariant.same (omega (arith, c.loop-member-test.false)) c.members-members.ensures.members in
    subst (λ (s : List TypeTree). IsSet s) (sym (ap (λ (zs : List ℕ). map (type_of_id J) zs) c.as_slice.ensures ∙ all)) (c.know_numbers.ensures.set_ascends c.args.id)

pub import_set-returns-clause-ok : goal.import_set-returns-clause-ok
import_set-returns-clause-ok t c =
    let I = c.args.from.now in
    let J = c.loop-member.self in
    let all : map (type_of_id J) c.loop-member.types.items ≡ set_of_id I c.args.id =
    made_all (type_of_id I) c.members-members.result.now (map (type_of_id J) c.loop-member.types.items) (set_of_id I c.args.id) c.loop-member.member-index c.loop-member.invariant.same (omega (arith, c.loop-member-test.false)) c.members-members.ensures.members in
    c.in_ok-own.ensures.ok ∙ ap (λ (s : List TypeTree). Some s) (ap (λ (zs : List ℕ). map (type_of_id J) zs) c.as_slice.ensures ∙ all)

pub import_set-returns-clause-grows : goal.import_set-returns-clause-grows
import_set-returns-clause-grows t c = Grows-trans c.args.self.now c.loop-member.self c.add_set.new.self c.loop-member.invariant.grows c.add_set.ensures.grows

pub make_type-returns-in_err-own_rest-in-Arrow-clause-grows : goal.make_type-returns-in_err-own_rest-in-Arrow-clause-grows
make_type-returns-in_err-own_rest-in-Arrow-clause-grows t c = Grows-trans c.args.self.now c.import_set.new.self c.import_type.new.self c.import_set.ensures.grows c.import_type.ensures.grows

pub make_type-add_type-requires-in-Arrow : goal.make_type-add_type-requires-in-Arrow
make_type-add_type-requires-in-Arrow t c =
    let J = c.import_set.new.self in
    let K = c.import_type.new.self in (
      set_within J K c.import_type.ensures.grows c.in_ok-own_set-in-Arrow.own_set (slice_get_within J.sets c.in_ok-own_set-in-Arrow.own_set (set_of_id c.args.from.now c.in-Arrow.set) c.in_ok-own_set-in-Arrow.ensures.ok),
      slice_get_within K.types c.in_ok-own_rest-in-Arrow.own_rest (type_of_id c.args.from.now c.in-Arrow.rest) c.in_ok-own_rest-in-Arrow.ensures.ok,
    )

pub make_type-returns-in_ok-own_rest-in-Arrow-clause-ok : goal.make_type-returns-in_ok-own_rest-in-Arrow-clause-ok
make_type-returns-in_ok-own_rest-in-Arrow-clause-ok t c =
    let I = c.args.from.now in
    let K = c.import_type.new.self in
    let N = c.add_type-in-Arrow.new.self in
    IfOk-weaker c.add_type-in-Arrow.result (λ own. slice_get N.types own ≡ Some (arrow (set_of_id K c.in_ok-own_set-in-Arrow.own_set) (type_of_id K c.in_ok-own_rest-in-Arrow.own_rest))) (λ own. slice_get N.types own ≡ Some (type_of_id I c.args.id))
    (λ own at.
    at
    ∙ ap (λ (x : TypeTree). Some x) (found_arrow c.import_set.new.self K c.in_ok-own_set-in-Arrow.own_set c.in_ok-own_rest-in-Arrow.own_rest (set_of_id I c.in-Arrow.set) (type_of_id I c.in-Arrow.rest) (type_of_id I c.args.id)
    c.import_type.ensures.grows c.in_ok-own_set-in-Arrow.ensures.ok c.in_ok-own_rest-in-Arrow.ensures.ok c.in-Arrow.ensures.2)) c.add_type-in-Arrow.ensures.ok

pub make_type-returns-in_ok-own_rest-in-Arrow-clause-grows : goal.make_type-returns-in_ok-own_rest-in-Arrow-clause-grows
make_type-returns-in_ok-own_rest-in-Arrow-clause-grows t c =
    let J = c.import_set.new.self in
    let K = c.import_type.new.self in
    Grows-trans c.args.self.now K c.add_type-in-Arrow.new.self (Grows-trans c.args.self.now J K c.import_set.ensures.grows c.import_type.ensures.grows) c.add_type-in-Arrow.ensures.grows

pub import_type-returns-clause-found : goal.import_type-returns-clause-found
import_type-returns-clause-found t c =
    let f : ImportedData = record { types = c.found-2.inside.types.pairs.items; sets = c.found-2.inside.sets.pairs.items; envs = c.found-2.inside.envs.pairs.items } in
    more_types c.args.from.now c.make_type.new.self f c.keep.new.self.pairs.items c.stored-2.result c.args.id c.stored-3.result c.in_ok-own.own
    (subst (λ (g : ImportedData). AreFound c.args.from.now c.make_type.new.self g) (sym c.found-2.view_is) c.make_type.ensures.found)
    c.stored-2.ensures c.stored-3.ensures c.in_ok-own.ensures.ok c.in_ok-keep.ensures.ok

pub import_set-returns-clause-found : goal.import_set-returns-clause-found
import_set-returns-clause-found t c =
    let f : ImportedData = record { types = c.found-2.inside.types.pairs.items; sets = c.found-2.inside.sets.pairs.items; envs = c.found-2.inside.envs.pairs.items } in
    more_sets c.args.from.now c.add_set.new.self f c.keep.new.self.pairs.items c.stored-2.result c.args.id c.stored-3.result c.in_ok-own.own
    (subst (λ (g : ImportedData). AreFound c.args.from.now c.add_set.new.self g) (sym c.found-2.view_is)
    (found_grow c.args.from.now c.loop-member.self c.add_set.new.self c.loop-member.found c.add_set.ensures.grows c.loop-member.invariant.found))
    c.stored-2.ensures c.stored-3.ensures (import_set-returns-clause-ok t c) c.in_ok-keep.ensures.ok

pub import_set-returns-in_err-keep-clause-found : goal.import_set-returns-in_err-keep-clause-found
import_set-returns-in_err-keep-clause-found t c =
    let f : ImportedData = record { types = c.found-2.inside.types.pairs.items; sets = c.found-2.inside.sets.pairs.items; envs = c.found-2.inside.envs.pairs.items } in
    subst (λ (pairs : List Translation). AreFound c.args.from.now c.add_set.new.self (record { types = f.types; sets = pairs; envs = f.envs })) (sym {A = List Translation} c.in_err-keep.ensures.err)
    (subst (λ (g : ImportedData). AreFound c.args.from.now c.add_set.new.self g) (sym c.found-2.view_is)
    (found_grow c.args.from.now c.loop-member.self c.add_set.new.self c.loop-member.found c.add_set.ensures.grows c.loop-member.invariant.found))
