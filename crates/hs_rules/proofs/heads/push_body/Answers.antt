use Rattle.std.proofs.Common.{◌≡◌, sym, ◌∙◌, ap, subst, map, ◌<◌, length}
use Rattle.std.proofs.lemmas.Option.{same_Some}
use Rattle.hs_table.specs.declared.support.HeadBy.TheVariants.{Rule}
use Rattle.hs_table.specs.Types.{state, arrows, arrow}
use Rattle.hs_table.specs.Entries.{Env, EntryData}
use Rattle.hs_types.specs.Interned.{InternerData, type_of_id, set_of_id, env_of_id, entry_of}
use Rattle.hs_rules.specs.Heads.{GainsHeads, Just, BodyAt}
use Rattle.hs_rules.proofs.Lists.{on_ok_map}
use Rattle.hs_rules.proofs.HeadLemmas.{heads_same, body_none}
use Rattle.hs_rules.proofs.heads.push_body.Goals as goal

pub returns-clause-gains : goal.returns-clause-gains
returns-clause-gains c =
    let I = c.args.replica.now.ids in
    let log = c.args.replica.now.log in
    let K = c.push_given.new.replica.ids in
    let row = c.row-row.result in
    let own = env_of_id I c.args.own in
    let full = c.as_slice.result.now in
    let given = arrows (map (set_of_id I) full) (type_of_id I row.ty) in
    let e = entry_of I row in
    let sets_are : map (set_of_id I) full ≡ env_of_id I row.env =
    ap (map (set_of_id I)) (c.as_slice.ensures ∙ c.in_ok-full.ensures.ok)
    ∙ subst (λ (J : InternerData). map (set_of_id J) c.sets.result.now ≡ env_of_id J row.env) c.interner-2.ensures c.sets.ensures.sets in
    let is : given ≡ arrows e.env e.ty = ap (λ (ss : Env). arrows ss (type_of_id I row.ty)) sets_are in
    on_ok_map c.push_given.result (GainsHeads K (length c.args.at.now.search.args.now) (Just (Rule c.args.place) own given) c.args.out.now.items c.push_given.new.out.items)
    (GainsHeads K (length c.args.at.now.search.args.now) (BodyAt log own c.args.place) c.args.out.now.items c.push_given.new.out.items)
    (heads_same K (length c.args.at.now.search.args.now) (Just (Rule c.args.place) own given) (BodyAt log own c.args.place) c.args.out.now.items c.push_given.new.out.items
    (λ by o t j. record { entry = e; at = c.row-row.ensures.entry; is_state = (c.in_default.field-0, subst (λ (J : InternerData). type_of_id J row.ty ≡ state c.in_default.field-0) c.interner.ensures c.in_default.ensures); just = (j.0, j.1, j.2 ∙ is) })
    (λ by o t b.
    let same = same_Some b.entry e (sym b.at ∙ c.row-row.ensures.entry) in
    (b.just.0, b.just.1, b.just.2 ∙ (ap (λ (x : EntryData). arrows x.env x.ty) same ∙ sym is))))
    c.push_given.ensures.gains

pub view-requires : goal.view-requires
view-requires c = subst (λ (J : InternerData). c.row-row.result.ty < length J.types) (sym c.interner.ensures) c.row-row.ensures.row.1

pub returns-in-Arrow-clause-gains : goal.returns-in-Arrow-clause-gains
returns-in-Arrow-clause-gains c =
    let I = c.args.replica.now.ids in
    let row = c.row-row.result in
    let is = subst (λ (J : InternerData). type_of_id J row.ty ≡ arrow (set_of_id J c.in-Arrow.field-0) (type_of_id J c.in-Arrow.field-1)) c.interner.ensures c.in-Arrow.ensures.2 in
    body_none I (length c.args.at.now.search.args.now) c.args.replica.now.log (env_of_id I c.args.own) c.args.place (entry_of I row) (set_of_id I c.in-Arrow.field-0) (type_of_id I c.in-Arrow.field-1) c.args.out.now.items c.row-row.ensures.entry is

pub push_given-requires-clause-state : goal.push_given-requires-clause-state
push_given-requires-clause-state c = (c.in_default.field-0, subst (λ (J : InternerData). type_of_id J c.row-row.result.ty ≡ state c.in_default.field-0) c.interner.ensures c.in_default.ensures)
