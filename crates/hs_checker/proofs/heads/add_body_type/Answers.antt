use Rattle.std.proofs.Common.{◌≡◌, sym, ◌∙◌, ap, subst, ◌&&◌, nat_eq, true, false, Contains, ◌↔◌}
use Rattle.std.proofs.lemmas.Bool.{and_parts}
use Rattle.hs_table.specs.Types.{TypeTree, state, arrows}
use Rattle.hs_table.specs.Entries.{EntryData}
use Rattle.hs_table_plain.specs.Enumeration.{body_type, is_state}
use Rattle.hs_table_plain.proofs.ChoiceLemmas.{from_cond}
use Rattle.hs_types.specs.Interned.{type_of_id, IsView, entry_of}
use Rattle.hs_types.proofs.Numbers.{Grows-refl}
use Rattle.hs_checker.proofs.NumberLemmas.{gains_pushed, gains_nothing}
use Rattle.hs_checker.proofs.TypeLemmas.{body_says}
use Rattle.hs_checker.proofs.heads.add_body_type.Goals as goal

pub returns-in-Arrow : goal.returns-in-Arrow
returns-in-Arrow c = λ body at.
    let I = c.args.types.now in
    let x : EntryData = entry_of I c.args.row.now in
    let seen = subst (IsView I c.args.row.now.ty) c.in-Arrow.is c.view.ensures in
    gains_nothing I I (Grows-refl I) c.args.found.now.items c.requires.found (λ t. Contains (body_type body x) t) (λ t said.
    let test = and_parts (nat_eq x.point body) (is_state x.ty) (from_cond (nat_eq x.point body && is_state x.ty) (arrows x.env x.ty) t said).0 in
    let f : false ≡ true = ap is_state (sym seen.2) ∙ test.1 in
    absurd (cc))

pub returns-in_ok-push-in-State : goal.returns-in_ok-push-in-State
returns-in_ok-push-in-State c = λ body at.
    let I = c.args.types.now in
    let J = c.arrows_over.new.types in
    let x : EntryData = entry_of I c.args.row.now in
    let q = c.in-State.field-0 in
    let seen : type_of_id I c.args.row.now.ty ≡ state q = subst (IsView I c.args.row.now.ty) c.in-State.is c.view.ensures in
    let id = c.in_ok-ty-in-State.ty in
    let made = c.in_ok-ty-in-State.ensures.is ∙ ap (λ (t : TypeTree). arrows x.env t) seen in
    gains_pushed I J c.in_ok-ty-in-State.ensures.grows c.args.found.now.items c.push.new.self.items id c.requires.found c.in_ok-push-in-State.ensures.items c.in_ok-ty-in-State.ensures.range (λ t. Contains (body_type body x) t)
    (λ t. subst (λ (z : TypeTree). (t ≡ z) ↔ Contains (body_type body x) t) (sym made) (body_says body x q t at seen))
