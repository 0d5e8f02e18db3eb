use Rattle.std.proofs.Common.{sym, ap, subst, ℕ, ◌<◌, ◌≤◌, List, ◌∷◌, length, map, inl, inr, Contains}
use Rattle.std.proofs.lemmas.Bool.{OnTrue_from}
use Rattle.hs_table.specs.Entries.{Env, IsEnv}
use Rattle.hs_types.specs.Interned.{set_of_id, env_of_id}
use Rattle.hs_rules.specs.Filling.{fixed_of}
use Rattle.hs_rules.specs.Joins.{PartialData, ArePlaced, AreJoined}
use Rattle.hs_rules.specs.Found.{HeadData, seek, slots_of_head, IsRowOf, HeadLeadsTo, HasEnvFound}
use Rattle.hs_rules.proofs.FoundLemmas.{filled_rise, filled_placed, rows_conclude, conclude_rows, alike_one, filled_alike, joined_alike}
use Rattle.hs_rules.proofs.found.conclude_some.Goals as goal

pub joined-requires-clause-none : goal.joined-requires-clause-none
joined-requires-clause-none c = c.clear.ensures.items

pub joined-requires-clause-own : goal.joined-requires-clause-own
joined-requires-clause-own c = subst (λ (n : ℕ). n < length c.args.replica.now.ids.envs) (sym (ap (λ (x : HeadData). x.own) c.head.view_is)) c.requires.head.own

pub joined-requires-clause-is_env : goal.joined-requires-clause-is_env
joined-requires-clause-is_env c =
    subst (λ (n : ℕ). IsEnv (length (env_of_id c.args.replica.now.ids n)) (env_of_id c.args.replica.now.ids n)) (sym (ap (λ (x : HeadData). x.own) c.head.view_is)) c.requires.head.is_env

pub joined-requires-clause-placed : goal.joined-requires-clause-placed
joined-requires-clause-placed c = λ f there.
    let ids = c.args.replica.now.ids in
    let log = c.args.replica.now.log in
    let s = seek c.args.search.now in
    let h = c.args.head.now in
    subst (λ (n : ℕ). ArePlaced log (length (env_of_id ids n)) f) (sym (ap (λ (x : HeadData). x.own) c.head.view_is))
    (filled_placed log s.limit (fixed_of log s.fixed) s.args (map (set_of_id ids) h.sets) c.args.slots.now (length (env_of_id ids h.own)) c.requires.filled c.requires.envs f there)

pub joined-requires-clause-rise : goal.joined-requires-clause-rise
joined-requires-clause-rise c = λ f there.
    let log = c.args.replica.now.log in
    let s = seek c.args.search.now in
    filled_rise log s.limit (fixed_of log s.fixed) (slots_of_head c.args.replica.now.ids s.args c.args.head.now) c.args.slots.now c.requires.filled f there

pub add_each-requires : goal.add_each-requires
add_each-requires c = c.requires.rows

pub returns-clause-rows : goal.returns-clause-rows
returns-clause-rows c = c.in_ok-add_each.ensures.rows

pub returns-clause-lowers : goal.returns-clause-lowers
returns-clause-lowers c = c.in_ok-add_each.ensures.lowers

pub returns-clause-only : goal.returns-clause-only
returns-clause-only c = λ d there.
    let ids = c.args.replica.now.ids in
    let K = c.joined.new.replica.ids in
    let log = c.args.replica.now.log in
    let s = seek c.args.search.now in
    let h = c.args.head.now in
    let fs = c.args.slots.now in
    let partials = c.joined.new.out.items in
    let whole = c.in_ok-whole.whole in
    let joined = subst (λ (n : ℕ). AreJoined K log (length (env_of_id ids n)) (env_of_id ids n) fs whole partials) (ap (λ (x : HeadData). x.own) c.head.view_is) c.in_ok-whole.ensures.joined in
    elim (c.in_ok-add_each.ensures.only d there) [
      | inl was ↦ inl was
      | inr (g, among, row) ↦
          let alike = alike_one h c.args.alike.now c.requires.alike g among in
          inr (
            g,
            among,
            rows_conclude ids K log s g fs whole partials (filled_alike ids log s h g fs alike c.requires.filled) (joined_alike ids K log h g fs whole partials alike joined) d
                (subst (λ (xs : List PartialData). IsRowOf s.point g xs d) c.as_slice-joins.ensures row),
          )
    ]

pub returns-clause-all : goal.returns-clause-all
returns-clause-all c =
    let ids = c.args.replica.now.ids in
    let K = c.joined.new.replica.ids in
    let log = c.args.replica.now.log in
    let s = seek c.args.search.now in
    let h = c.args.head.now in
    let fs = c.args.slots.now in
    let partials = c.joined.new.out.items in
    let whole = c.in_ok-whole.whole in
    let new = c.add_each.new.found.list.items in
    let joined = subst (λ (n : ℕ). AreJoined K log (length (env_of_id ids n)) (env_of_id ids n) fs whole partials) (ap (λ (x : HeadData). x.own) c.head.view_is) c.in_ok-whole.ensures.joined in
    OnTrue_from whole (length new ≤ c.args.search.now.most → (g : HeadData) → Contains (h ∷ c.args.alike.now) g → (args : List (ℕ × ℕ)) (env : Env) → HeadLeadsTo ids log s g args env → HasEnvFound K s g args env new)
    (λ is_whole few g among.
    let alike = alike_one h c.args.alike.now c.requires.alike g among in
    conclude_rows ids K log s g fs whole partials (filled_alike ids log s h g fs alike c.requires.filled) (joined_alike ids K log h g fs whole partials alike joined) new is_whole
    (λ x there. c.in_ok-add_each.ensures.all few g among x (subst (λ (xs : List PartialData). Contains xs x) (sym c.as_slice-joins.ensures) there)))

pub returns-clause-kept : goal.returns-clause-kept
returns-clause-kept c = c.in_ok-whole.ensures.kept
