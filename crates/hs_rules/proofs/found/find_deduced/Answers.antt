use Rattle.std.proofs.Common.{subst, List, map, take, Contains, MatchOption, ap}
use Rattle.hs_rules.specs.Conclusions.{DeducedData}
use Rattle.hs_rules.specs.Found.{HasRowAt}
use Rattle.hs_rules.specs.declared.joining.TheConstants.{FEW}
use Rattle.hs_rules.proofs.FoundLemmas.{rows_of, first_at, row_absent, match_none}
use Rattle.hs_rules.proofs.found.find_deduced.Goals as goal

pub returns-then-list-le-FEW : goal.returns-then-list-le-FEW
returns-then-list-le-FEW c =
    subst (λ (ds : List DeducedData). MatchOption c.position.result (Contains (map (λ (d : DeducedData). d.row) ds) c.args.row.now → ⊥) (λ place. HasRowAt ds place c.args.row.now)) c.as_slice-list.ensures.value c.position.ensures

pub returns-in-Some : goal.returns-in-Some
returns-in-Some c = first_at FEW c.as_slice-list.result.now c.args.found.now.list.items c.in-Some.place c.args.row.now c.as_slice-list.ensures.value c.in-Some.ensures

pub returns : goal.returns
returns c =
    let rows = c.args.found.now.rows.keys in
    let found = c.args.found.now.list.items in
    let row = c.args.row.now in
    match_none c.find_behind.result (Contains rows row → ⊥) (Contains (rows_of found) row → ⊥) (λ place. HasRowAt found place row)
    (λ absent. row_absent rows found (take FEW c.as_slice-list.result.now) row c.requires (ap (take FEW) c.as_slice-list.ensures.value) c.in_default.ensures absent) c.find_behind.ensures
