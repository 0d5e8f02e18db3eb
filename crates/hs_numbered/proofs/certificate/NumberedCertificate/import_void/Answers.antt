use Rattle.std.proofs.Common.{◌≡◌, refl, sym, ◌∙◌, ap, subst, ℕ, List, [], map, true, false, Some, slice_get}
use Rattle.std.proofs.lemmas.Option.{slice_get_within, get_or_from_slice_get}
use Rattle.hs_table.specs.Entries.{Env}
use Rattle.hs_weak.specs.Void.{VoidData}
use Rattle.hs_types.specs.Interned.{InternerData}
use Rattle.hs_numbered.specs.Certificates.{VoidRowData, void_of, AreHeld}
use Rattle.hs_numbered.proofs.Growing.{held_more, lists_stay, void_added, void_held, above_pairs, pairs_above}
use Rattle.hs_numbered.proofs.certificate.NumberedCertificate.import_void.Goals as goal

same_env : (J : InternerData) (rule env : ℕ) (E : Env) → slice_get J.envs env ≡ Some E → (own : Env) → E ≡ own → (v : VoidData) → record { rule = rule; env = own } ≡ v → void_of J (record { rule = rule; env = env }) ≡ v
same_env J rule env E at own is v same = (λ i. record { rule = rule; env = (get_or_from_slice_get J.envs env E [] at ∙ is) i }) ∙ same

pub invariant_of-self : goal.invariant_of-self
invariant_of-self c = held_more c.self.inside.interner c.import_env.new.interner c.import_env.ensures.grows c.self.inside.table.items c.self.inside.void.items c.self.inside.last_type c.self.inside.last_set c.self.inside.last_env c.self.invariant

pub returns-in_err-env-clause-kept : goal.returns-in_err-env-clause-kept
returns-in_err-env-clause-kept c = λ _. (lists_stay c.self.inside.interner c.import_env.new.interner c.import_env.ensures.grows c.self.inside.table.items c.self.inside.void.items c.self.inside.last_type c.self.inside.last_set c.self.inside.last_env c.self.invariant c.args.self.now c.self.view_is).1

pub returns-in_err-env-clause-same : goal.returns-in_err-env-clause-same
returns-in_err-env-clause-same c = (lists_stay c.self.inside.interner c.import_env.new.interner c.import_env.ensures.grows c.self.inside.table.items c.self.inside.void.items c.self.inside.last_type c.self.inside.last_set c.self.inside.last_env c.self.invariant c.args.self.now c.self.view_is).0

pub invariant_of-self-2 : goal.invariant_of-self-2
invariant_of-self-2 c = held_more c.self.inside.interner c.import_env.new.interner c.import_env.ensures.grows c.self.inside.table.items c.self.inside.void.items c.self.inside.last_type c.self.inside.last_set c.self.inside.last_env c.self.invariant

pub is_above_last_void-requires : goal.is_above_last_void-requires
is_above_last_void-requires c = slice_get_within c.import_env.new.interner.envs c.in_ok-env.env c.as_slice.result.now c.in_ok-env.ensures.ok

pub invariant_of-self-then-not-is_above_last_void : goal.invariant_of-self-then-not-is_above_last_void
invariant_of-self-then-not-is_above_last_void c = held_more c.self.inside.interner c.import_env.new.interner c.import_env.ensures.grows c.self.inside.table.items c.self.inside.void.items c.self.inside.last_type c.self.inside.last_set c.self.inside.last_env c.self.invariant

pub returns-then-not-is_above_last_void-clause-refused : goal.returns-then-not-is_above_last_void-clause-refused
returns-then-not-is_above_last_void-clause-refused c = λ _ above.
    let f : false ≡ true = sym c.if-not-is_above_last_void.true ∙ c.is_above_last_void.ensures.1 (pairs_above c.self.inside.interner c.import_env.new.interner c.import_env.ensures.grows c.self.inside.table.items c.self.inside.void.items c.self.inside.last_type c.self.inside.last_set c.self.inside.last_env c.self.invariant c.args.self.now c.self.view_is (record { rule = c.pair.inside.rule; env = c.in_ok-env.env }) (slice_get_within c.import_env.new.interner.envs c.in_ok-env.env c.as_slice.result.now c.in_ok-env.ensures.ok) c.args.pair.now (same_env c.import_env.new.interner c.pair.inside.rule c.in_ok-env.env c.as_slice.result.now c.in_ok-env.ensures.ok c.pair.inside.env.items c.as_slice.ensures.value c.args.pair.now c.pair.view_is) _ refl above) in absurd (cc)

pub returns-then-not-is_above_last_void-clause-kept : goal.returns-then-not-is_above_last_void-clause-kept
returns-then-not-is_above_last_void-clause-kept c = λ _. (lists_stay c.self.inside.interner c.import_env.new.interner c.import_env.ensures.grows c.self.inside.table.items c.self.inside.void.items c.self.inside.last_type c.self.inside.last_set c.self.inside.last_env c.self.invariant c.args.self.now c.self.view_is).1

pub returns-then-not-is_above_last_void-clause-same : goal.returns-then-not-is_above_last_void-clause-same
returns-then-not-is_above_last_void-clause-same c = (lists_stay c.self.inside.interner c.import_env.new.interner c.import_env.ensures.grows c.self.inside.table.items c.self.inside.void.items c.self.inside.last_type c.self.inside.last_set c.self.inside.last_env c.self.invariant c.args.self.now c.self.view_is).0

pub invariant_of-self-in_err-push : goal.invariant_of-self-in_err-push
invariant_of-self-in_err-push c = subst (λ (rs : List VoidRowData). AreHeld c.import_env.new.interner c.self.inside.table.items rs c.self.inside.last_type c.self.inside.last_set c.self.inside.last_env) (sym c.in_err-push.ensures.items) (held_more c.self.inside.interner c.import_env.new.interner c.import_env.ensures.grows c.self.inside.table.items c.self.inside.void.items c.self.inside.last_type c.self.inside.last_set c.self.inside.last_env c.self.invariant)

pub returns-in_err-push-clause-kept : goal.returns-in_err-push-clause-kept
returns-in_err-push-clause-kept c = λ _. ap (λ (rs : List VoidRowData). map (void_of c.import_env.new.interner) rs) c.in_err-push.ensures.items ∙ (lists_stay c.self.inside.interner c.import_env.new.interner c.import_env.ensures.grows c.self.inside.table.items c.self.inside.void.items c.self.inside.last_type c.self.inside.last_set c.self.inside.last_env c.self.invariant c.args.self.now c.self.view_is).1

pub returns-in_err-push-clause-same : goal.returns-in_err-push-clause-same
returns-in_err-push-clause-same c = (lists_stay c.self.inside.interner c.import_env.new.interner c.import_env.ensures.grows c.self.inside.table.items c.self.inside.void.items c.self.inside.last_type c.self.inside.last_set c.self.inside.last_env c.self.invariant c.args.self.now c.self.view_is).0

pub invariant_of-self-3 : goal.invariant_of-self-3
invariant_of-self-3 c = void_held c.self.inside.interner c.import_env.new.interner c.import_env.ensures.grows c.self.inside.table.items c.self.inside.void.items c.self.inside.last_type c.self.inside.last_set c.self.inside.last_env c.self.invariant c.args.self.now c.self.view_is (record { rule = c.pair.inside.rule; env = c.in_ok-env.env }) (slice_get_within c.import_env.new.interner.envs c.in_ok-env.env c.as_slice.result.now c.in_ok-env.ensures.ok) c.args.pair.now (same_env c.import_env.new.interner c.pair.inside.rule c.in_ok-env.env c.as_slice.result.now c.in_ok-env.ensures.ok c.pair.inside.env.items c.as_slice.ensures.value c.args.pair.now c.pair.view_is) c.push.new.self.items c.in_ok-push.ensures.items

pub returns-clause-added : goal.returns-clause-added
returns-clause-added c = λ _. (
  void_added c.self.inside.interner c.import_env.new.interner c.import_env.ensures.grows c.self.inside.table.items c.self.inside.void.items c.self.inside.last_type c.self.inside.last_set c.self.inside.last_env c.self.invariant c.args.self.now c.self.view_is (record { rule = c.pair.inside.rule; env = c.in_ok-env.env }) (slice_get_within c.import_env.new.interner.envs c.in_ok-env.env c.as_slice.result.now c.in_ok-env.ensures.ok) c.args.pair.now (same_env c.import_env.new.interner c.pair.inside.rule c.in_ok-env.env c.as_slice.result.now c.in_ok-env.ensures.ok c.pair.inside.env.items c.as_slice.ensures.value c.args.pair.now c.pair.view_is) c.push.new.self.items c.in_ok-push.ensures.items,
  above_pairs c.self.inside.interner c.import_env.new.interner c.import_env.ensures.grows c.self.inside.table.items c.self.inside.void.items c.self.inside.last_type c.self.inside.last_set c.self.inside.last_env c.self.invariant c.args.self.now c.self.view_is (record { rule = c.pair.inside.rule; env = c.in_ok-env.env }) (slice_get_within c.import_env.new.interner.envs c.in_ok-env.env c.as_slice.result.now c.in_ok-env.ensures.ok) c.args.pair.now (same_env c.import_env.new.interner c.pair.inside.rule c.in_ok-env.env c.as_slice.result.now c.in_ok-env.ensures.ok c.pair.inside.env.items c.as_slice.ensures.value c.args.pair.now c.pair.view_is) _ refl (c.is_above_last_void.ensures.0 c.if-not-is_above_last_void.false),
)

pub returns-clause-same : goal.returns-clause-same
returns-clause-same c = (lists_stay c.self.inside.interner c.import_env.new.interner c.import_env.ensures.grows c.self.inside.table.items c.self.inside.void.items c.self.inside.last_type c.self.inside.last_set c.self.inside.last_env c.self.invariant c.args.self.now c.self.view_is).0
