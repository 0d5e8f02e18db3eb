use Rattle.std.proofs.Common.{sym, subst, ℕ, List, Contains}
use Rattle.hs_table.specs.Types.{arrows}
use Rattle.hs_types.specs.Interned.{type_of_id, env_of_id}
use Rattle.hs_minimal.specs.Strongest.{AreOfTypes, HasAskedFor}
use Rattle.hs_minimal.proofs.AskedLemmas.{all_match, not_false, none_of_types}
use Rattle.hs_minimal.proofs.matching.match_exactly.Goals as goal

pub has_stronger-requires-clause-given : goal.has_stronger-requires-clause-given
has_stronger-requires-clause-given c =
    let I = c.args.types.now in
    subst (λ (ks : List ℕ). AreOfTypes I ks) (sym c.as_slice.ensures.keys) (c.in_ok-add_types.ensures.adds.types (none_of_types I c.new-given.result.keys c.new-given.ensures.empty))

pub has_stronger-requires-clause-asked : goal.has_stronger-requires-clause-asked
has_stronger-requires-clause-asked c =
    let I = c.args.types.now in
    subst (λ (ks : List ℕ). AreOfTypes I ks) (sym c.as_slice-2.ensures.keys) (c.in_ok-add_asked.ensures.adds.types (none_of_types I c.new-asked.result.keys c.new-asked.ensures.empty))

pub returns-clause-ok : goal.returns-clause-ok
returns-clause-ok c = λ exactly.
    let I = c.args.types.now in
    let given = c.as_slice.result.now in
    let asked = c.as_slice-2.result.now in
    all_match I c.args.rows.now given asked
    (λ r m one. subst (λ (ks : List ℕ). Contains ks r.ty) (sym c.as_slice.ensures.keys) (c.in_ok-add_types.ensures.own r m one))
    (λ r m. subst (λ (ks : List ℕ). HasAskedFor I ks (arrows (env_of_id I r.env) (type_of_id I r.ty))) (sym c.as_slice-2.ensures.keys) (c.in_ok-add_asked.ensures.own r m))
    (c.in_ok-stronger.ensures.ok (not_false c.in_ok-stronger.stronger exactly))
