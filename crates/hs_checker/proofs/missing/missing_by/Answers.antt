use Rattle.std.proofs.Common.{◌≡◌, sym, ◌∙◌, subst, ◌∷◌, [], List, map, Contains, ◌↔◌}
use Rattle.hs_table.specs.Types.{TypeTree}
use Rattle.hs_table.specs.Entries.{EntryData}
use Rattle.hs_table_plain.specs.Enumeration as plain
use Rattle.hs_types.specs.Interned.{type_of_id, IsRow, entry_of}
use Rattle.hs_types.proofs.Numbers.{Grows-trans, type_stays, type_within}
use Rattle.hs_checker.specs.Numbers.{entries_of, opened_by, AreLong}
use Rattle.hs_checker.proofs.InstanceLemmas.{match_map}
use Rattle.hs_checker.proofs.NumberLemmas.{rows_grow, entries_stay}
use Rattle.hs_checker.proofs.MissingLemmas.{all_there, one_missing, start_long, starts_open}
use Rattle.hs_checker.proofs.missing.missing_by.Goals as goal

pub through-requires-clause-rows : goal.through-requires-clause-rows
through-requires-clause-rows c = rows_grow c.args.types.now c.opening.new.types c.in_ok-start.ensures.grows c.args.index.now c.requires.rows

pub through-requires-clause-ty : goal.through-requires-clause-ty
through-requires-clause-ty c = type_within c.args.types.now c.opening.new.types c.in_ok-start.ensures.grows c.args.ty c.requires.ty

pub through-requires-clause-long : goal.through-requires-clause-long
through-requires-clause-long c =
    let I = c.args.types.now in
    let J = c.opening.new.types in
    let stay = entries_stay I J c.in_ok-start.ensures.grows c.args.index.now c.requires.rows in (
      c.args.params,
      (
        start_long J c.args.params c.in_ok-start.start c.args.head (type_of_id I c.args.ty) c.in_ok-envs.envs.items c.in_ok-start.ensures.range c.in_ok-start.ensures.is c.in_ok-envs.ensures,
        λ u k. subst (λ (F : List EntryData). AreLong c.args.params F u) (sym stay) (c.requires.long u k),
      ),
    )

pub returns-clause-missing : goal.returns-clause-missing
returns-clause-missing c =
    let I = c.args.types.now in
    let J = c.opening.new.types in
    let K = c.through.new.types in
    let R = c.args.index.now in
    let E = entries_of I R in
    let us = c.args.args.now in
    let t : TypeTree = type_of_id I c.args.ty in
    let point = c.args.point in
    let first = plain.opening point c.args.params c.args.head t in
    let Out = plain.through E us t (first ∷ []) in
    let g = c.in_ok-start.ensures.grows in
    let stay = entries_stay I J g R c.requires.rows in
    let ty_is = type_stays I J g c.args.ty c.requires.ty in
    let envs = c.in_ok-envs.envs.items in
    let found = c.in_ok-found.found in
    let opens = starts_open J c.args.params c.in_ok-start.start c.args.head t envs c.in_ok-start.ensures.range c.in_ok-start.ensures.is c.in_ok-envs.ensures E us point in
    let same : plain.through (entries_of J R) us (type_of_id J c.args.ty) (opened_by J point envs) ≡ Out = (λ i. plain.through (stay i) us (ty_is i) (opened_by J point envs)) ∙ opens in
    let each = λ (e : EntryData). subst (λ (xs : List EntryData). Contains (map (plain.retyped (type_of_id K found.ty)) (opened_by K point found.envs.items)) e ↔ Contains xs e) same (c.in_ok-found.ensures.each point e) in
    let gk = Grows-trans I J K g c.in_ok-found.ensures.grows in
    match_map c.first_missing.result _ ((e : EntryData) → Contains Out e → Contains E e) _ (λ row. IsRow K row × (Contains Out (entry_of K row) × (Contains E (entry_of K row) → ⊥)))
    (all_there I K gk c.know_numbers.ensures R c.requires.rows point found.ty found.envs.items Out each c.in_ok-found.ensures.ty c.in_ok-found.ensures.range)
    (one_missing I K gk c.know_numbers.ensures R c.requires.rows point found.ty found.envs.items Out each c.in_ok-found.ensures.ty c.in_ok-found.ensures.range) c.first_missing.ensures
