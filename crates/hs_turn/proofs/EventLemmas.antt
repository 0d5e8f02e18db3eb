-- Whose the events are, through every step.
use Rattle.std.proofs.Common.{◌≡◌, ℕ, ◌+◌, ◌<◌, ◌≤◌, ◌≢◌, eqb, eq-eqb, ne_eqb, Bool, true, false, cond, leb, List, [], ◌∷◌, ◌++◌, length, set, get_or, refl, sym, ap, ◌∙◌, subst, ⊎_elim, All, arith, append_assoc}
use mathlib.Core.Option.{some}
use mathlib.Core.List.{IsPrefix}
use lib.ListN.{get_elem?}
use Rattle.atomic_table.proofs.Lists.{at_set}
use Rattle.std.proofs.lemmas.Bool.{leb-true}
use Rattle.std.proofs.lemmas.List.{append-nil, append_cancel_left}
use Rattle.std.proofs.lemmas.List.Elements.{All-nil, All-push, All-head, All-tail, All-weaker, filter-append}
use Rattle.hs_turn.specs.declared.known.Known.{Known}
use Rattle.hs_turn.specs.Story.{told_by, longer}
use Rattle.hs_turn.specs.Views.{first_seat, having_told}
use Rattle.hs_turn.specs.Rule.{AreSeats, AreOwned}
use Rattle.hs_turn.proofs.PrefixLemmas.{prefix-shorter}
use Rattle.hs_turn.proofs.SeatLemmas.{only_value, IsAlike, before, More, AfterSplit, parent, old, new, after_split, not_first, Fewer, AfterJoin, ended, joiner, stays, after_join, not_first_left}

module _ {E : Type 0} (number : E → ℕ) where
  told_by-append : (n : ℕ) (xs ys : List E) → told_by number n (xs ++ ys) ≡ told_by number n xs ++ told_by number n ys
  told_by-append n = filter-append (λ (e : E). eqb (number e) n)

  abbrev pub Bears : ℕ → E → Type 0
  Bears n e = number e ≡ n

  pub told_all : (n : ℕ) (es : List E) → All (Bears n) es → told_by number n es ≡ es
  told_all n [] all = refl
  told_all n (e ∷ es) all =
      ap (λ (c : Bool). cond c (e ∷ told_by number n es) (told_by number n es)) (eq-eqb (number e) n (All-head (Bears n) e es all))
      ∙ ap (λ (xs : List E). e ∷ xs) (told_all n es (All-tail (Bears n) e es all))

  told_none : (m n : ℕ) (es : List E) → All (Bears m) es → m ≢ n → told_by number n es ≡ []
  told_none m n [] all not = refl
  told_none m n (e ∷ es) all not =
      ap (λ (c : Bool). cond c (e ∷ told_by number n es) (told_by number n es)) (ne_eqb (number e) n (λ z. not (sym (All-head (Bears m) e es all) ∙ z)))
      ∙ told_none m n es (All-tail (Bears m) e es all) not

  -- events under the number n add themselves, and events under another number nothing
  pub told_mine : (n : ℕ) (told es : List E) → All (Bears n) es → told_by number n (told ++ es) ≡ told_by number n told ++ es
  told_mine n told es all = told_by-append n told es ∙ ap (λ (xs : List E). told_by number n told ++ xs) (told_all n es all)

  told_else : (m n : ℕ) (told es : List E) → All (Bears m) es → m ≢ n → told_by number n (told ++ es) ≡ told_by number n told
  told_else m n told es all not =
      told_by-append n told es ∙ (ap (λ (xs : List E). told_by number n told ++ xs) (told_none m n es all not) ∙ append-nil (told_by number n told))

  -- a story between two that have the same events under the number n has them, too
  told_between : (n : ℕ) (xs ys zs own : List E) → IsPrefix xs ys → IsPrefix ys zs → told_by number n xs ≡ own → told_by number n zs ≡ own → told_by number n ys ≡ own
  told_between n xs ys zs own p q first last =
      let part : told_by number n ys ≡ own ++ told_by number n p.0 =
      ap (told_by number n) (sym p.1) ∙ (told_by-append n xs p.0 ∙ ap (λ (l : List E). l ++ told_by number n p.0) first) in
      let whole : own ≡ (own ++ told_by number n p.0) ++ told_by number n q.0 =
      sym last ∙ (ap (told_by number n) (sym q.1) ∙ (told_by-append n ys q.0 ∙ ap (λ (l : List E). l ++ told_by number n q.0) part)) in
      let rest : told_by number n p.0 ++ told_by number n q.0 ≡ [] =
      append_cancel_left own _ _ (sym (append_assoc own (told_by number n p.0) (told_by number n q.0)) ∙ (sym whole ∙ sym (append-nil own))) in
      part ∙ (ap (λ (l : List E). own ++ l) (front_nil _ _ rest) ∙ append-nil own)
    where
      front_nil : (es fs : List E) → es ++ fs ≡ [] → es ≡ []
      front_nil [] fs none = refl
      front_nil (e ∷ es) fs none = absurd (cc none)

  -- what begins a story without events under the number n has none
  pub none_in_prefix : (n : ℕ) (xs zs : List E) → IsPrefix xs zs → told_by number n zs ≡ [] → told_by number n xs ≡ []
  none_in_prefix n xs zs p none = told_between n [] xs zs [] (xs, refl) p refl none

  -- of two beginnings, of which the first has all events under the number n, the longer has them
  longer_own_by : (b : Bool) (n : ℕ) (xs ys zs own : List E) → leb (length xs) (length ys) ≡ b → IsPrefix xs zs → IsPrefix ys zs → told_by number n xs ≡ own → told_by number n zs ≡ own → told_by number n (cond b ys xs) ≡ own
  longer_own_by true n xs ys zs own e p q first last = told_between n xs ys zs own (prefix-shorter xs ys zs p q (leb-true (length xs) (length ys) e)) q first last
  longer_own_by false n xs ys zs own e p q first last = first

  pub longer_own : (n : ℕ) (xs ys zs own : List E) → IsPrefix xs zs → IsPrefix ys zs → told_by number n xs ≡ own → told_by number n zs ≡ own → told_by number n (longer xs ys) ≡ own
  longer_own n xs ys zs own = longer_own_by (leb (length xs) (length ys)) n xs ys zs own refl

module _ {E : Type 0} where
  -- the kept lists of a view, by each of its properties
  abbrev Own : (E → ℕ) → List E → ℕ × List E → Type 0
  Own number told p = told_by number p.0 told ≡ p.1

  abbrev Other : ℕ → ℕ × List E → Type 0
  Other n p = n ≢ p.0

  abbrev AtMost : ℕ → ℕ × List E → Type 0
  AtMost n p = p.0 ≤ n

module _ {B E : Type 0} (number : E → ℕ) where
  abbrev O : List E → List (Known B E) → Type 0
  O = AreOwned number

  pub events-first : (b : B) → O [] (first_seat b ∷ [])
  events-first b = record {
    own = λ j v at l. ap (λ (w : Known B E). w.own) (only_value (first_seat b) v j at);
    joined = λ j v at l. subst (λ (w : Known B E). All (Own number []) w.joined) (only_value (first_seat b) v j at) (All-nil (Own number []));
    gone = λ i j v w a c l m. subst (λ (u : Known B E). All (Other w.number) u.joined) (only_value (first_seat b) v i a) (All-nil (Other w.number));
    given = λ i j v w a c n l m. subst (λ (u : Known B E). All (AtMost v.splits) u.joined) (only_value (first_seat b) w j c) (All-nil (AtMost v.splits));
    ungiven = λ j v at z l n h. refl;
  }

  -- a view was replaced by a like one with the same own events
  pub events-set : (told : List E) (views : List (Known B E)) (i : ℕ) (v w : Known B E) → get_elem? views i ≡ some v → IsAlike v w → w.own ≡ v.own → O told views → O told (set views i w)
  events-set told views i v w at like own o = record {
    own = λ j u a l. ⊎_elim
        (λ t. subst (λ (x : Known B E). told_by number x.number told ≡ x.own) t.1 (ap (λ (n : ℕ). told_by number n told) like.number ∙ (o.own i v at (sym like.live ∙ (ap (λ (x : Known B E). x.live) t.1 ∙ l)) ∙ sym own)))
        (λ t. o.own j u t.1 l) (at_set views i j w u a);
    joined = λ j u a l. let t = was j u a in subst (All (Own number told)) (sym t.2.joined) (o.joined j t.0 t.1 (sym t.2.live ∙ l));
    gone = λ j k u x a b l m. let t = was j u a in let r = was k x b in
        subst (λ (z : ℕ × List (ℕ × List E)). All (Other z.0) z.1) (λ h. (sym r.2.number h, sym t.2.joined h)) (o.gone j k t.0 r.0 t.1 r.1 (sym t.2.live ∙ l) (sym r.2.live ∙ m));
    given = λ j k u x a b z l m. let t = was j u a in let r = was k x b in
        subst (λ (y : ℕ × List (ℕ × List E)). All (AtMost y.0) y.1) (λ h. (sym t.2.splits h, sym r.2.joined h)) (o.given j k t.0 r.0 t.1 r.1 (sym t.2.number ∙ z) (sym t.2.live ∙ l) (sym r.2.live ∙ m));
    ungiven = λ j u a z l n h. let t = was j u a in o.ungiven j t.0 t.1 (sym t.2.number ∙ z) (sym t.2.live ∙ l) n (let q = t.2.splits in omega arith);
  }
    where
      was : (j : ℕ) (u : Known B E) → get_elem? (set views i w) j ≡ some u → (x : Known B E) × (get_elem? views j ≡ some x) × IsAlike x u
      was = before views i v w at like

  -- the seat at place i tells events under its number
  module _ (told : List E) (views : List (Known B E)) (i : ℕ) (v : Known B E) (es : List E) (at : get_elem? views i ≡ some v) (lives : v.live ≡ true) (all : All (Bears number v.number) es) (s : AreSeats views) (o : O told views) where
    abbrev W : Known B E
    W = having_told v es

    abbrev Told : List E
    Told = told ++ es

    had : (j : ℕ) (u : Known B E) → get_elem? (set views i W) j ≡ some u → (x : Known B E) × (get_elem? views j ≡ some x) × IsAlike x u
    had = before views i v W at record { live = refl; number = refl; splits = refl; joins = refl; joined = refl }

    told_own : (j : ℕ) (u : Known B E) → get_elem? (set views i W) j ≡ some u → u.live ≡ true → told_by number u.number Told ≡ u.own
    told_own j u a l = ⊎_elim
        (λ t. subst (λ (x : Known B E). told_by number x.number Told ≡ x.own) t.1 (told_mine number v.number told es all ∙ ap (λ (xs : List E). xs ++ es) (o.own i v at lives)))
        (λ t. told_else number v.number u.number told es all (λ z. t.0 (s.apart j i u v t.1 at l lives (sym z))) ∙ o.own j u t.1 l)
        (at_set views i j W u a)

    -- the kept lists stay, since the seats that they are of are gone
    told_joined : (j : ℕ) (u : Known B E) → get_elem? (set views i W) j ≡ some u → u.live ≡ true → All (Own number Told) u.joined
    told_joined j u a l = let t = had j u a in let lx = sym t.2.live ∙ l in
        subst (All (Own number Told)) (sym t.2.joined) (λ k d lt. let p = get_or t.0.joined k d in
        told_else number v.number p.0 told es all (λ z. o.gone j i t.0 v t.1 at lx lives k d lt z) ∙ o.joined j t.0 t.1 lx k d lt)

    told_ungiven : (j : ℕ) (u : Known B E) → get_elem? (set views i W) j ≡ some u → u.number ≡ 0 → u.live ≡ true → (n : ℕ) → u.splits < n → told_by number n Told ≡ []
    told_ungiven j u a z l n h = let t = had j u a in let q = t.2.splits in
        let le = s.below j i t.0 v t.1 at (sym t.2.number ∙ z) (sym t.2.live ∙ l) lives in
        told_else number v.number n told es all (λ y. absurd (let k : v.number ≡ n = y in omega arith)) ∙ o.ungiven j t.0 t.1 (sym t.2.number ∙ z) (sym t.2.live ∙ l) n (omega arith)

    pub events-told : O Told (set views i W)
    events-told = record {
      own = told_own;
      joined = told_joined;
      gone = λ j k u x a b l m. let t = had j u a in let r = had k x b in
          subst (λ (z : ℕ × List (ℕ × List E)). All (Other z.0) z.1) (λ h. (sym r.2.number h, sym t.2.joined h)) (o.gone j k t.0 r.0 t.1 r.1 (sym t.2.live ∙ l) (sym r.2.live ∙ m));
      given = λ j k u x a b z l m. let t = had j u a in let r = had k x b in
          subst (λ (y : ℕ × List (ℕ × List E)). All (AtMost y.0) y.1) (λ h. (sym t.2.splits h, sym r.2.joined h)) (o.given j k t.0 r.0 t.1 r.1 (sym t.2.number ∙ z) (sym t.2.live ∙ l) (sym r.2.live ∙ m));
      ungiven = told_ungiven;
    }

  -- seat 0, at place `id`, splits
  module _ (told : List E) (views : List (Known B E)) (id : ℕ) (v : Known B E) (at : get_elem? views id ≡ some v) (first : v.number ≡ 0) (lives : v.live ≡ true) (s : AreSeats views) (o : O told views) where
    abbrev Is : ℕ → Known B E → Type 0
    Is = AfterSplit views id v at first lives s

    split_own : (j : ℕ) (u : Known B E) → Is j u → u.live ≡ true → told_by number u.number told ≡ u.own
    split_own j u parent l = o.own id v at lives
    split_own j u (old n a) l = o.own j u a l
    split_own j u new l = o.ungiven id v at first lives (v.splits + 1) (omega arith)

    split_joined : (j : ℕ) (u : Known B E) → Is j u → u.live ≡ true → All (Own number told) u.joined
    split_joined j u parent l = o.joined id v at lives
    split_joined j u (old n a) l = o.joined j u a l
    split_joined j u new l = All-nil (Own number told)

    -- the new number was never given
    fresh : (kept : List (ℕ × List E)) → All (AtMost v.splits) kept → All (Other (v.splits + 1)) kept
    fresh = All-weaker (AtMost v.splits) (Other (v.splits + 1)) (λ p le e. absurd (omega arith))

    split_gone : (i j : ℕ) (u w : Known B E) → Is i u → Is j w → u.live ≡ true → w.live ≡ true → All (Other w.number) u.joined
    split_gone i j u w new x l m = All-nil (Other w.number)
    split_gone i j u w parent parent l m = o.gone id id v v at at lives lives
    split_gone i j u w parent (old n a) l m = o.gone id j v w at a lives m
    split_gone i j u w parent new l m = fresh v.joined (o.given id id v v at at first lives lives)
    split_gone i j u w (old n a) parent l m = o.gone i id u v a at l lives
    split_gone i j u w (old n a) (old k b) l m = o.gone i j u w a b l m
    split_gone i j u w (old n a) new l m = fresh u.joined (o.given id i v u at a first lives l)

    more_given : (kept : List (ℕ × List E)) → All (AtMost v.splits) kept → All (AtMost (v.splits + 1)) kept
    more_given = All-weaker (AtMost v.splits) (AtMost (v.splits + 1)) (λ p le. omega arith)

    split_given : (i j : ℕ) (u w : Known B E) → Is i u → Is j w → u.number ≡ 0 → u.live ≡ true → w.live ≡ true → All (AtMost u.splits) w.joined
    split_given i j u w (old n a) x z l m = absurd (not_first views id v at first lives s i u n a l z)
    split_given i j u w new x z l m = absurd (omega arith)
    split_given i j u w parent parent z l m = more_given v.joined (o.given id id v v at at first lives lives)
    split_given i j u w parent (old n a) z l m = more_given w.joined (o.given id j v w at a first lives m)
    split_given i j u w parent new z l m = All-nil (AtMost u.splits)

    split_ungiven : (j : ℕ) (u : Known B E) → Is j u → u.number ≡ 0 → u.live ≡ true → (n : ℕ) → u.splits < n → told_by number n told ≡ []
    split_ungiven j u parent z l n h = o.ungiven id v at first lives n (omega arith)
    split_ungiven j u (old k a) z l n h = o.ungiven j u a z l n h
    split_ungiven j u new z l n h = absurd (omega arith)

    is : (j : ℕ) (u : Known B E) → get_elem? (More views id v at first lives s) j ≡ some u → Is j u
    is = after_split views id v at first lives s

    pub events-split : O told (More views id v at first lives s)
    events-split = record {
      own = λ j u a. split_own j u (is j u a);
      joined = λ j u a. split_joined j u (is j u a);
      gone = λ i j u w a b. split_gone i j u w (is i u a) (is j w b);
      given = λ i j u w a b. split_given i j u w (is i u a) (is j w b);
      ungiven = λ j u a. split_ungiven j u (is j u a);
    }

  -- seat 0, at place `id`, joins the seat at `other`
  module _ (told : List E) (views : List (Known B E)) (id other : ℕ) (v w : Known B E) (at : get_elem? views id ≡ some v) (there : get_elem? views other ≡ some w) (differ : other ≢ id) (first : v.number ≡ 0) (lives : v.live ≡ true) (other_lives : w.live ≡ true) (s : AreSeats views) (o : O told views) where
    abbrev Has : ℕ → Known B E → Type 0
    Has = AfterJoin views id other v w at there differ first lives other_lives s

    join_own : (j : ℕ) (u : Known B E) → Has j u → u.live ≡ true → told_by number u.number told ≡ u.own
    join_own j u ended l = absurd (cc l)
    join_own j u joiner l = o.own id v at lives
    join_own j u (stays n k a) l = o.own j u a l

    join_joined : (j : ℕ) (u : Known B E) → Has j u → u.live ≡ true → All (Own number told) u.joined
    join_joined j u ended l = absurd (cc l)
    join_joined j u joiner l = All-push (Own number told) v.joined (w.number, w.own) (o.joined id v at lives) (o.own other w there other_lives)
    join_joined j u (stays n k a) l = o.joined j u a l

    join_gone : (i j : ℕ) (u x : Known B E) → Has i u → Has j x → u.live ≡ true → x.live ≡ true → All (Other x.number) u.joined
    join_gone i j u x ended y l m = absurd (cc l)
    join_gone i j u x joiner ended l m = absurd (cc m)
    join_gone i j u x joiner joiner l m = All-push (Other v.number) v.joined (w.number, w.own) (o.gone id id v v at at lives lives) (λ e. differ (s.apart other id w v there at other_lives lives (sym e)))
    join_gone i j u x joiner (stays n k a) l m = All-push (Other x.number) v.joined (w.number, w.own) (o.gone id j v x at a lives m) (λ e. k (s.apart j other x w a there m other_lives e))
    join_gone i j u x (stays n k a) ended l m = absurd (cc m)
    join_gone i j u x (stays n k a) joiner l m = o.gone i id u v a at l lives
    join_gone i j u x (stays n k a) (stays p q b) l m = o.gone i j u x a b l m

    join_given : (i j : ℕ) (u x : Known B E) → Has i u → Has j x → u.number ≡ 0 → u.live ≡ true → x.live ≡ true → All (AtMost u.splits) x.joined
    join_given i j u x ended y z l m = absurd (cc l)
    join_given i j u x (stays n k a) y z l m = absurd (not_first_left views id other v w at there differ first lives other_lives s i u n a l z)
    join_given i j u x joiner ended z l m = absurd (cc m)
    join_given i j u x joiner joiner z l m = All-push (AtMost v.splits) v.joined (w.number, w.own) (o.given id id v v at at first lives lives) (s.below id other v w at there first lives other_lives)
    join_given i j u x joiner (stays n k a) z l m = o.given id j v x at a first lives m

    join_ungiven : (j : ℕ) (u : Known B E) → Has j u → u.number ≡ 0 → u.live ≡ true → (n : ℕ) → u.splits < n → told_by number n told ≡ []
    join_ungiven j u ended z l n h = absurd (cc l)
    join_ungiven j u joiner z l n h = o.ungiven id v at first lives n h
    join_ungiven j u (stays p k a) z l n h = o.ungiven j u a z l n h

    has : (j : ℕ) (u : Known B E) → get_elem? (Fewer views id other v w at there differ first lives other_lives s) j ≡ some u → Has j u
    has = after_join views id other v w at there differ first lives other_lives s

    pub events-join : O told (Fewer views id other v w at there differ first lives other_lives s)
    events-join = record {
      own = λ j u a. join_own j u (has j u a);
      joined = λ j u a. join_joined j u (has j u a);
      gone = λ i j u x a b. join_gone i j u x (has i u a) (has j x b);
      given = λ i j u x a b. join_given i j u x (has i u a) (has j x b);
      ungiven = λ j u a. join_ungiven j u (has j u a);
    }
