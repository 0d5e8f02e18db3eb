use Rattle.std.proofs.Common.{◌≡◌, ◌≢◌, sym, ◌∙◌, ap, subst, true, false, List, [], ◌∷◌, ◌++◌, AllPairs, Contains, ◌⊎◌, ◌↔◌, inl, inr}
use Rattle.hs_table.specs.Entries.{EntryData}
use Rattle.hs_table_plain.proofs.Members.{in_pushed, pairs_push}
use Rattle.hs_table_plain.proofs.following.add_if_new.Goals as goal

pub returns-then-contains-clause-once : goal.returns-then-contains-clause-once
returns-then-contains-clause-once c = c.requires

pub returns-then-contains-clause-each : goal.returns-then-contains-clause-each
returns-then-contains-clause-each c = λ e. (
  λ k. inl k,
  λ both. elim both [
    | inl k ↦ k
    | inr same ↦
        let there = subst (λ (xs : List EntryData). Contains xs c.args.entry.now) c.as_slice.ensures.value (c.contains.ensures.0 c.if-contains.true) in
        subst (λ (x : EntryData). Contains c.args.found.now.items x) (sym same) there
  ],
)

pub returns-clause-once : goal.returns-clause-once
returns-clause-once c =
    let items = c.args.found.now.items in
    let x = c.args.entry.now in
    let more : c.push.new.self.items ≡ (items ++ (x ∷ [])) = c.in_ok-push.ensures.items ∙ ap (λ (e : EntryData). items ++ (e ∷ [])) c.in_ok-copy.ensures in
    subst (λ (xs : List EntryData). AllPairs (λ a b. a ≢ b) xs) (sym more) (pairs_push items x c.requires (λ k.
    let f : true ≡ false = sym (c.contains.ensures.1 (subst (λ (xs : List EntryData). Contains xs x) (sym c.as_slice.ensures.value) k)) ∙ c.if-contains.false in absurd (cc)))

pub returns-clause-each : goal.returns-clause-each
returns-clause-each c = λ e.
    let items = c.args.found.now.items in
    let x = c.args.entry.now in
    let more : c.push.new.self.items ≡ (items ++ (x ∷ [])) = c.in_ok-push.ensures.items ∙ ap (λ (e : EntryData). items ++ (e ∷ [])) c.in_ok-copy.ensures in
    subst (λ (xs : List EntryData). Contains xs e ↔ (Contains items e ⊎ (e ≡ x))) (sym more) (in_pushed items x e)
