-- Where an entry at a nonterminal's body leads to nothing.
use Rattle.std.proofs.Common.{◌≡◌, sym, ◌∙◌, ap, subst, ℕ, List, [], ◌∷◌, length, slice_get, None, Some}
use Rattle.std.proofs.lemmas.Option.{same_Some}
use Rattle.hs_scheme.specs.declared.term.Head.TheVariants.{Nt}
use Rattle.hs_scheme.specs.flow.Points.{PointData}
use Rattle.hs_scheme.specs.Problem.{ProblemData}
use Rattle.hs_table.specs.declared.support.HeadBy.{HeadBy}
use Rattle.hs_table.specs.declared.support.HeadBy.TheVariants.{Terminal, Rule, Param}
use Rattle.hs_table.specs.Types.{TypeTree, arrows}
use Rattle.hs_table.specs.Entries.{EntryData}
use Rattle.hs_table.specs.Follows.{FromBody, IsHeadType, Support, FollowsBy, head_premise}
use Rattle.hs_rules.specs.Slots.{SlotData, slots, IsCandidate, Picked}
use Rattle.hs_rules.specs.Shut.{IsBodyShut}
use Rattle.hs_rules.proofs.FollowLemmas.{chosen_picked, chosen_long}

module _ (p : ProblemData) (E : List EntryData) (rule f place : ℕ) (us : List ℕ) where
  from_place : (by : HeadBy) (ty : TypeTree) → IsHeadType p E rule (Nt f) by ty → head_premise by ≡ place ∷ [] → FromBody p E f place ty
  from_place (Terminal q child) ty h e = absurd h
  from_place (Rule other) ty h e =
      let same : other ≡ place = cc in
      subst (λ (n : ℕ). FromBody p E f n ty) same h
  from_place (Param x other) ty h e = absurd h

  -- nothing follows by it
  pub nothing_by : (point : ℕ) → slice_get p.points.points point ≡ Some (record { rule = rule; head = Nt f; args = us }) → IsBodyShut p E None us f place
      → (s : Support) (e : EntryData) → e.point ≡ point → FollowsBy p E s e → head_premise s.head ≡ place ∷ [] → ⊥
  nothing_by point at shut s e here_is k by =
      let of : PointData = record { rule = rule; head = Nt f; args = us } in
      let same : k.of ≡ of = same_Some k.of of (sym k.at ∙ (ap (λ (n : ℕ). slice_get p.points.points n) here_is ∙ at)) in
      let head = subst (λ (o : PointData). IsHeadType p E o.rule o.head s.head (arrows k.sets e.ty)) same k.head in
      let long : length k.sets ≡ length us = sym (chosen_long p E k.are) ∙ ap (λ (o : PointData). length o.args) same in
      let picked = subst (λ (o : PointData). Picked (λ (x : SlotData). x.arg) (IsCandidate E None) (slots 0 o.args k.sets) s.args k.chosen) same (chosen_picked p E k.are) in
      shut k.sets e.ty (from_place s.head (arrows k.sets e.ty) head by) long s.args k.chosen picked
