-- The seats among themselves: their numbers differ and seat 0 counts them, through every step.
use Rattle.std.proofs.Common.{◌≡◌, ℕ, ◌+◌, ◌≤◌, ◌≢◌, Bool, true, false, cond, zero, suc, List, [], ◌∷◌, ◌++◌, length, set, Option, refl, sym, ap, ◌∙◌, subst, ⊎_elim, inl, inr, ◌⊎◌, arith, length-set}
use mathlib.Core.Option.{some, some-injective, some-ne-none}
use lib.ListN.{get_elem?}
use Rattle.atomic_table.specs.Seated.{TableId}
use Rattle.atomic_table.specs.Table.{Me}
use Rattle.atomic_table.proofs.Lists.{at_set, set_else}
use Rattle.hs_turn.specs.declared.known.Known.{Known}
use Rattle.hs_turn.specs.Views.{first_seat, having_split, split_off, having_joined, spent}
use Rattle.hs_turn.specs.Seats.{SeatView, seat_view, resting, IsSeat}
use Rattle.hs_turn.specs.Rule.{count_live, AreSeats}

pub set_at : {A : Type 0} (xs : List A) (i : ℕ) (a b : A) → get_elem? xs i ≡ some a → get_elem? (set xs i b) i ≡ some b
set_at [] i a b e = absurd (some-ne-none a (sym e))
set_at (x ∷ xs) zero a b e = refl
set_at (x ∷ xs) (suc i) a b e = set_at xs i a b e

-- where an element of a list with one more at its end stands
pub at_push : {A : Type 0} (xs : List A) (a b : A) (j : ℕ) → get_elem? (xs ++ a ∷ []) j ≡ some b → (get_elem? xs j ≡ some b) ⊎ ((j ≡ length xs) × (a ≡ b))
at_push [] a b zero e = inr (refl, some-injective a b e)
at_push [] a b (suc j) e = absurd (some-ne-none b (sym e))
at_push (x ∷ xs) a b zero e = inl e
at_push (x ∷ xs) a b (suc j) e = ⊎_elim (λ t. inl t) (λ t. inr (ap suc t.0, t.1)) (at_push xs a b j e)

-- the one element of a list of one
pub only_value : {A : Type 0} (a b : A) (j : ℕ) → get_elem? (a ∷ []) j ≡ some b → a ≡ b
only_value a b zero at = some-injective a b at
only_value a b (suc j) at = absurd (some-ne-none b (sym at))

only_place : {A : Type 0} (a b : A) (j : ℕ) → get_elem? (a ∷ []) j ≡ some b → j ≡ 0
only_place a b zero at = refl
only_place a b (suc j) at = absurd (some-ne-none b (sym at))

module _ {B E : Type 0} where
  -- a view that is replaced by one that lives as it did leaves the count
  count-set : (views : List (Known B E)) (i : ℕ) (v w : Known B E) → get_elem? views i ≡ some v → w.live ≡ v.live → count_live (set views i w) ≡ count_live views
  count-set [] i v w at e = absurd (some-ne-none v (sym at))
  count-set (x ∷ views) zero v w at e = let l : w.live ≡ x.live = e ∙ sym (ap (λ (y : Known B E). y.live) (some-injective x v at)) in
      ap (λ (b : Bool). cond b (suc (count_live views)) (count_live views)) l
  count-set (x ∷ views) (suc i) v w at e = ap (λ (n : ℕ). cond x.live (suc n) n) (count-set views i v w at e)

  count_one : (views : List (Known B E)) (i : ℕ) (v : Known B E) → get_elem? views i ≡ some v → v.live ≡ true → 1 ≤ count_live views
  count_one [] i v at l = absurd (some-ne-none v (sym at))
  count_one (x ∷ views) zero v at l = let lx : x.live ≡ true = ap (λ (y : Known B E). y.live) (some-injective x v at) ∙ l in
      subst (λ (b : Bool). 1 ≤ cond b (suc (count_live views)) (count_live views)) (sym lx) (omega arith)
  count_one (x ∷ views) (suc i) v at l = let n = count_one views i v at l in let P : Bool → Type 0 = λ b. 1 ≤ cond b (suc (count_live views)) (count_live views) in
      elim x.live as P [ true ↦ omega arith | false ↦ n ]

  -- two that live at two places are two
  pub count_two : (views : List (Known B E)) (i j : ℕ) (v w : Known B E) → get_elem? views i ≡ some v → v.live ≡ true → get_elem? views j ≡ some w → w.live ≡ true → i ≢ j → 2 ≤ count_live views
  count_two [] i j v w a l b m n = absurd (some-ne-none v (sym a))
  count_two (x ∷ views) zero zero v w a l b m n = absurd (n refl)
  count_two (x ∷ views) zero (suc j) v w a l b m n = let lx : x.live ≡ true = ap (λ (y : Known B E). y.live) (some-injective x v a) ∙ l in let r = count_one views j w b m in
      subst (λ (c : Bool). 2 ≤ cond c (suc (count_live views)) (count_live views)) (sym lx) (omega arith)
  count_two (x ∷ views) (suc i) zero v w a l b m n = let lx : x.live ≡ true = ap (λ (y : Known B E). y.live) (some-injective x w b) ∙ m in let r = count_one views i v a l in
      subst (λ (c : Bool). 2 ≤ cond c (suc (count_live views)) (count_live views)) (sym lx) (omega arith)
  count_two (x ∷ views) (suc i) (suc j) v w a l b m n = let r = count_two views i j v w a l b m (λ e. n (ap suc e)) in let P : Bool → Type 0 = λ c. 2 ≤ cond c (suc (count_live views)) (count_live views) in
      elim x.live as P [ true ↦ omega arith | false ↦ r ]

  count_spent : (views : List (Known B E)) (i : ℕ) (v w : Known B E) → get_elem? views i ≡ some v → v.live ≡ true → w.live ≡ false → suc (count_live (set views i w)) ≡ count_live views
  count_spent [] i v w at l d = absurd (some-ne-none v (sym at))
  count_spent (x ∷ views) zero v w at l d = let lx : x.live ≡ true = ap (λ (y : Known B E). y.live) (some-injective x v at) ∙ l in
      ap (λ (b : Bool). suc (cond b (suc (count_live views)) (count_live views))) d ∙ sym (ap (λ (b : Bool). cond b (suc (count_live views)) (count_live views)) lx)
  count_spent (x ∷ views) (suc i) v w at l d = let r = count_spent views i v w at l d in
      let P : Bool → Type 0 = λ c. suc (cond c (suc (count_live (set views i w))) (count_live (set views i w))) ≡ cond c (suc (count_live views)) (count_live views) in
      elim x.live as P [ true ↦ ap suc r | false ↦ r ]

  count-push : (views : List (Known B E)) (v : Known B E) → v.live ≡ true → count_live (views ++ v ∷ []) ≡ suc (count_live views)
  count-push [] v l = ap (λ (b : Bool). cond b 1 0) l
  count-push (x ∷ views) v l = let r = count-push views v l in let P : Bool → Type 0 = λ c. cond c (suc (count_live (views ++ v ∷ []))) (count_live (views ++ v ∷ [])) ≡ suc (cond c (suc (count_live views)) (count_live views)) in
      elim x.live as P [ true ↦ ap suc r | false ↦ r ]

  -- w is v as far as the seats among themselves go
  pub record IsAlike (v w : Known B E) : Type 0 where
    pub live : w.live ≡ v.live
    pub number : w.number ≡ v.number
    pub splits : w.splits ≡ v.splits
    pub joins : w.joins ≡ v.joins
    pub joined : w.joined ≡ v.joined

  pub alike-refl : (v : Known B E) → IsAlike v v
  alike-refl v = record { live = refl; number = refl; splits = refl; joins = refl; joined = refl }

  -- where a view was replaced by a like one, each view now was a like one before
  pub before : (views : List (Known B E)) (i : ℕ) (v w : Known B E) → get_elem? views i ≡ some v → IsAlike v w → (j : ℕ) (u : Known B E) → get_elem? (set views i w) j ≡ some u → (o : Known B E) × (get_elem? views j ≡ some o) × IsAlike o u
  before views i v w at like j u a = ⊎_elim
      (λ t. (v, ap (get_elem? views) t.0 ∙ at, subst (IsAlike v) t.1 like))
      (λ t. (u, t.1, alike-refl u))
      (at_set views i j w u a)

  pub seats-first : (b : B) → AreSeats (first_seat {E = E} b ∷ [])
  seats-first b = record {
    counted = λ j v at _ _. let e = only_value (first_seat b) v j at in let s : 0 ≡ v.splits = ap (λ (y : Known B E). y.splits) e in let t : 0 ≡ v.joins = ap (λ (y : Known B E). y.joins) e in omega arith;
    apart = λ i j v w a c _ _ _. only_place (first_seat b) v i a ∙ sym (only_place (first_seat b) w j c);
    below = λ i j v w a c _ _ _. let e : 0 ≡ w.number = ap (λ (y : Known B E). y.number) (only_value (first_seat b) w j c) in omega arith;
  }

  pub seats-set : (views : List (Known B E)) (i : ℕ) (v w : Known B E) → get_elem? views i ≡ some v → IsAlike v w → AreSeats views → AreSeats (set views i w)
  seats-set views i v w at like s = record {
    counted = λ j u a n l. let t = before views i v w at like j u a in let o = t.2 in
        let c = s.counted j t.0 t.1 (sym o.number ∙ n) (sym o.live ∙ l) in let k = count-set views i v w at like.live in let p = o.splits in let q = o.joins in omega arith;
    apart = λ j k u x a b l m e. let t = before views i v w at like j u a in let r = before views i v w at like k x b in
        s.apart j k t.0 r.0 t.1 r.1 (sym t.2.live ∙ l) (sym r.2.live ∙ m) (sym t.2.number ∙ (e ∙ r.2.number));
    below = λ j k u x a b n l m. let t = before views i v w at like j u a in let r = before views i v w at like k x b in
        let le = s.below j k t.0 r.0 t.1 r.1 (sym t.2.number ∙ n) (sym t.2.live ∙ l) (sym r.2.live ∙ m) in let p = r.2.number in let q = t.2.splits in omega arith;
  }

  -- seat 0 stands at `id` and splits; the new seat comes last
  module _ (views : List (Known B E)) (id : ℕ) (v : Known B E) (at : get_elem? views id ≡ some v) (first : v.number ≡ 0) (lives : v.live ≡ true) (s : AreSeats views) where
    abbrev pub More : List (Known B E)
    More = set views id (having_split v) ++ split_off v ∷ []

    -- who stands there: seat 0, a seat that was there, or the new one
    pub data AfterSplit : ℕ → Known B E → Type 0 where
      parent : AfterSplit id (having_split v)
      old : {j : ℕ} {u : Known B E} → j ≢ id → get_elem? views j ≡ some u → AfterSplit j u
      new : AfterSplit (length views) (split_off v)

    pub after_split : (j : ℕ) (u : Known B E) → get_elem? More j ≡ some u → AfterSplit j u
    after_split j u a = ⊎_elim
        (λ here. ⊎_elim (λ t. subst (λ (z : ℕ × Known B E). AfterSplit z.0 z.1) (λ i. (sym t.0 i, t.1 i)) parent) (λ t. old t.0 t.1) (at_set views id j (having_split v) u here))
        (λ t. subst (λ (z : ℕ × Known B E). AfterSplit z.0 z.1) (λ i. (sym (t.0 ∙ length-set views id (having_split v)) i, t.1 i)) new)
        (at_push (set views id (having_split v)) (split_off v) u j a)

    -- no other seat that lives has number 0
    pub not_first : (j : ℕ) (u : Known B E) → j ≢ id → get_elem? views j ≡ some u → u.live ≡ true → u.number ≢ 0
    not_first j u n a l z = n (s.apart j id u v a at l lives (z ∙ sym first))

    split_counted : (j : ℕ) (u : Known B E) → AfterSplit j u → u.number ≡ 0 → u.live ≡ true → count_live More + u.joins ≡ suc u.splits
    split_counted j u parent n l = let e = count-push (set views id (having_split v)) (split_off v) refl in let f = count-set views id v (having_split v) at refl in let g = s.counted id v at first lives in omega arith
    split_counted j u (old m a) n l = absurd (not_first j u m a l n)
    split_counted j u new n l = absurd (omega arith)

    split_apart : (i j : ℕ) (u w : Known B E) → AfterSplit i u → AfterSplit j w → u.live ≡ true → w.live ≡ true → u.number ≡ w.number → i ≡ j
    split_apart i j u w parent parent l m e = refl
    split_apart i j u w parent (old n a) l m e = absurd (not_first j w n a m (sym e ∙ first))
    split_apart i j u w parent new l m e = absurd (omega arith)
    split_apart i j u w (old n a) parent l m e = absurd (not_first i u n a l (e ∙ first))
    split_apart i j u w (old n a) (old k b) l m e = s.apart i j u w a b l m e
    split_apart i j u w (old n a) new l m e = let le = s.below id i v u at a first lives l in absurd (omega arith)
    split_apart i j u w new parent l m e = absurd (omega arith)
    split_apart i j u w new (old k b) l m e = let le = s.below id j v w at b first lives m in absurd (omega arith)
    split_apart i j u w new new l m e = refl

    split_below : (i j : ℕ) (u w : Known B E) → AfterSplit i u → AfterSplit j w → u.number ≡ 0 → u.live ≡ true → w.live ≡ true → w.number ≤ u.splits
    split_below i j u w (old n a) x z l m = absurd (not_first i u n a l z)
    split_below i j u w new x z l m = absurd (omega arith)
    split_below i j u w parent parent z l m = omega arith
    split_below i j u w parent (old k b) z l m = let le = s.below id j v w at b first lives m in omega arith
    split_below i j u w parent new z l m = omega arith

    pub seats-split : AreSeats More
    seats-split = record {
      counted = λ j u a. split_counted j u (after_split j u a);
      apart = λ i j u w a b. split_apart i j u w (after_split i u a) (after_split j w b);
      below = λ i j u w a b. split_below i j u w (after_split i u a) (after_split j w b);
    }

  -- seat 0, at `id`, joins the seat at `other`
  module _ (views : List (Known B E)) (id other : ℕ) (v w : Known B E) (at : get_elem? views id ≡ some v) (there : get_elem? views other ≡ some w) (differ : other ≢ id) (first : v.number ≡ 0) (lives : v.live ≡ true) (other_lives : w.live ≡ true) (s : AreSeats views) where
    abbrev pub Fewer : List (Known B E)
    Fewer = set (set views id (having_joined v w)) other spent

    -- who stands there: the spent seat, seat 0, or a seat that was there
    pub data AfterJoin : ℕ → Known B E → Type 0 where
      ended : AfterJoin other spent
      joiner : AfterJoin id (having_joined v w)
      stays : {j : ℕ} {u : Known B E} → j ≢ id → j ≢ other → get_elem? views j ≡ some u → AfterJoin j u

    pub after_join : (j : ℕ) (u : Known B E) → get_elem? Fewer j ≡ some u → AfterJoin j u
    after_join j u a = ⊎_elim
        (λ t. subst (λ (z : ℕ × Known B E). AfterJoin z.0 z.1) (λ i. (sym t.0 i, t.1 i)) ended)
        (λ t. ⊎_elim (λ p. subst (λ (z : ℕ × Known B E). AfterJoin z.0 z.1) (λ i. (sym p.0 i, p.1 i)) joiner) (λ p. stays p.0 t.0 p.1) (at_set views id j (having_joined v w) u t.1))
        (at_set (set views id (having_joined v w)) other j spent u a)

    pub not_first_left : (j : ℕ) (u : Known B E) → j ≢ id → get_elem? views j ≡ some u → u.live ≡ true → u.number ≢ 0
    not_first_left j u n a l z = n (s.apart j id u v a at l lives (z ∙ sym first))

    join_counted : (j : ℕ) (u : Known B E) → AfterJoin j u → u.number ≡ 0 → u.live ≡ true → count_live Fewer + u.joins ≡ suc u.splits
    join_counted j u ended n l = absurd (cc l)
    join_counted j u joiner n l = let e = count_spent (set views id (having_joined v w)) other w spent (set_else views id other (having_joined v w) differ ∙ there) other_lives refl in
        let f = count-set views id v (having_joined v w) at refl in let g = s.counted id v at first lives in omega arith
    join_counted j u (stays m k a) n l = absurd (not_first_left j u m a l n)

    -- a seat that is left was there before, with its number and its splits
    was_there : (j : ℕ) (u : Known B E) → AfterJoin j u → u.live ≡ true → (o : Known B E) × (get_elem? views j ≡ some o) × (o.live ≡ true) × (o.number ≡ u.number) × (o.splits ≡ u.splits)
    was_there j u ended l = absurd (cc l)
    was_there j u joiner l = (v, at, lives, refl, refl)
    was_there j u (stays m k a) l = (u, a, l, refl, refl)

    pub seats-join : AreSeats Fewer
    seats-join = record {
      counted = λ j u a. join_counted j u (after_join j u a);
      apart = λ i j u x a b l m e. let p = was_there i u (after_join i u a) l in let q = was_there j x (after_join j x b) m in s.apart i j p.0 q.0 p.1 q.1 p.2 q.2 (p.3 ∙ (e ∙ sym q.3));
      below = λ i j u x a b n l m. let p = was_there i u (after_join i u a) l in let q = was_there j x (after_join j x b) m in
          let le = s.below i j p.0 q.0 p.1 q.1 (p.3 ∙ n) p.2 q.2 in let number = q.3 in let splits = p.4 in omega arith;
    }

-- where one seat rests, there is one view
pub one_rests : {B E : Type 0} (turn : TableId) (views : List (Known B E)) (seat : SeatView B E) → resting turn views ≡ seat ∷ [] → (v : Known B E) × (views ≡ v ∷ [])
one_rests turn [] seat e = absurd (cc e)
one_rests turn (v ∷ []) seat e = (v, refl)
one_rests turn (v ∷ w ∷ views) seat e = absurd (cc e)

-- what contracts see of a seat is so of its view
pub seen_of : {B E : Type 0} (P : Known B E → Type 0) (turn : TableId) (v : Known B E) (seat : SeatView B E) → seat_view turn v ≡ seat → P seat.known → P v
seen_of {B} {E} P turn v seat is p = subst (λ (s : SeatView B E). P s.known) (sym is) p

-- a split: the numbers that the code keeps are those that the two seats know
module _ {T B E : Type 0} (number splits : ℕ) (me after : Me (Option T) (Known B E)) (s : IsSeat number splits me) where
  abbrev M : Type 0
  M = Me (Option T) (Known B E)

  pub seat-split : after ≡ (having_split me.0, me.1) → IsSeat number (splits + 1) after
  seat-split is = subst (λ (m : M). IsSeat number (splits + 1) m) (sym is) record {
    numbered = record { number_is = s.numbered.number_is; splits_is = ap (λ (n : ℕ). n + 1) s.numbered.splits_is; lives = s.numbered.lives };
    idle = s.idle;
    busy = s.busy;
  }

  pub seat-split_off : after ≡ (split_off me.0, []) → IsSeat (splits + 1) 0 after
  seat-split_off is = subst (λ (m : M). IsSeat (splits + 1) 0 m) (sym is) record {
    numbered = record { number_is = ap (λ (n : ℕ). n + 1) s.numbered.splits_is; splits_is = refl; lives = refl };
    idle = λ _. refl;
    busy = λ h. absurd (cc h);
  }
