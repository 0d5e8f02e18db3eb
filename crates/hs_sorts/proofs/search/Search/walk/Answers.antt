use Rattle.std.proofs.Common.{◌≡◌, refl, sym, ◌∙◌, ap, subst, ℕ, zero, suc, ◌+◌, ◌-◌, Bool, false, List, [], ◌∷◌, length, slice_get, Some, None, arith}
use Rattle.std.proofs.lemmas.Option.{same_Some, slice_get_within, slice_get-get_or}
use Rattle.hs_sorts.specs.declared.store.Node.{Node}
use Rattle.hs_sorts.specs.declared.measures.Mark.{Mark}
use Rattle.hs_sorts.specs.Search.{IsSearch, IsLastOnPath, IsEntry, IsAdvance, Walks}
use Rattle.hs_sorts.proofs.Searching.{begun}
use Rattle.hs_sorts.proofs.search.Search.walk.Goals as goal

-- there is nothing to do at a node that was come to
no_walk : (nodes : List Node) (marks : List Mark) (path : List ℕ) (start : ℕ) (new : List Mark) (longer : List ℕ) → IsSearch nodes marks path → path ≡ [] → IsEntry marks path start new longer false → Walks nodes marks new longer start
no_walk nodes marks path start new longer s empty (started, same, as_long) =
    subst (λ (ms : List Mark). Walks nodes marks ms longer start) (sym same)
    (subst (λ (xs : List ℕ). Walks nodes marks marks xs start) (sym as_long) (record { search = s; empty = empty; started = started; kept = λ i h. h }))

-- the last of the path, where it has one
last_is : (path : List ℕ) (n at : ℕ) → length path ≡ n + 1 → slice_get path n ≡ Some at → IsLastOnPath path at
last_is [] n at long h = absurd (cc)
last_is (x ∷ []) zero at long h = ([], ap (λ (y : ℕ). y ∷ []) (same_Some x at h))
last_is (x ∷ y ∷ ys) zero at long h = absurd (omega arith)
last_is (x ∷ xs) (suc n) at long h = let r = last_is xs n at (omega arith) h in (x ∷ r.0, ap (λ (zs : List ℕ). x ∷ zs) r.1)

last_on : (path : List ℕ) (at : ℕ) → slice_get path (length path - 1) ≡ Some at → IsLastOnPath path at
last_on path at h = last_is path (length path - 1) at (omega (arith, slice_get_within path (length path - 1) at h)) h

no_last : (path : List ℕ) → slice_get path (length path - 1) ≡ None → path ≡ []
no_last [] h = refl
no_last (x ∷ xs) h = let there = slice_get-get_or (x ∷ xs) (length (x ∷ xs) - 1) 0 (omega arith) in absurd (cc)

pub enter-requires : goal.enter-requires
enter-requires c = omega (arith, c.requires.start, c.requires.search.as_long)

pub returns-then-not-branch : goal.returns-then-not-branch
returns-then-not-branch c =
    let d = c.enter.new.self in
    no_walk c.args.store.now c.args.self.now.marks.items c.args.self.now.path.items c.args.start d.marks.items d.path.items c.requires.search c.requires.empty
    (subst (λ (b : Bool). IsEntry c.args.self.now.marks.items c.args.self.now.path.items c.args.start d.marks.items d.path.items b) c.if-not-branch.true c.in_ok-enter.ensures)

pub loop-at-init : goal.loop-at-init
loop-at-init c =
    let b = begun c.args.store.now c.args.self.now.marks.items c.args.self.now.path.items c.args.start c.enter.new.self.marks.items c.enter.new.self.path.items c.requires.search c.requires.empty
    (subst (λ (b : Bool). IsEntry c.args.self.now.marks.items c.args.self.now.path.items c.args.start c.enter.new.self.marks.items c.enter.new.self.path.items b) c.if-not-branch.false c.in_ok-enter.ensures) in
    record { search = b.0.search; started = b.1; kept = b.0.kept }

pub advance-requires : goal.advance-requires
advance-requires c = record { search = c.loop-at.invariant.search; store = c.requires.store; last = last_on c.loop-at.self.path.items c.in-Some.at (ap (λ (xs : List ℕ). slice_get xs (length xs - 1)) (sym c.deref.ensures.value) ∙ (sym c.last.ensures.value ∙ (sym c.copied.ensures ∙ c.in-Some.is))) }

pub returns-then-not-branch-2 : goal.returns-then-not-branch-2
returns-then-not-branch-2 c =
    let d = c.advance.new.self in
    subst (λ (b : Bool). IsAdvance c.args.store.now c.loop-at.self.marks.items c.loop-at.self.path.items d.marks.items d.path.items b) c.if-not-branch-2.true c.in_ok-advance.ensures

pub loop-at-preserved : goal.loop-at-preserved
loop-at-preserved c =
    let d = c.advance.new.self in
    let a = subst (λ (b : Bool). IsAdvance c.args.store.now c.loop-at.self.marks.items c.loop-at.self.path.items d.marks.items d.path.items b) c.if-not-branch-2.false c.in_ok-advance.ensures in
    record { search = a.search; started = a.kept c.args.start c.loop-at.invariant.started; kept = λ i h. a.kept i (c.loop-at.invariant.kept i h) }

pub loop-at-smaller : goal.loop-at-smaller
loop-at-smaller c =
    let d = c.advance.new.self in
    let a = subst (λ (b : Bool). IsAdvance c.args.store.now c.loop-at.self.marks.items c.loop-at.self.path.items d.marks.items d.path.items b) c.if-not-branch-2.false c.in_ok-advance.ensures in
    a.smaller

pub returns : goal.returns
returns c = record { search = c.loop-at.invariant.search; empty = no_last c.loop-at.self.path.items (ap (λ (xs : List ℕ). slice_get xs (length xs - 1)) (sym c.deref.ensures.value) ∙ (sym c.last.ensures.value ∙ (sym c.copied.ensures ∙ c.in_default.is))); started = c.loop-at.invariant.started; kept = c.loop-at.invariant.kept }
