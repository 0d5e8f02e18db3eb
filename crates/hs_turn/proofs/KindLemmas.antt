-- Each kind of atomic step keeps the rule of a turn's table:
--     opens          the start, with seat 0
--     enter_free     a compare-exchange that finds the lock word 0: the seat holds the slot
--     enter_held     one that finds the lock word 1: nothing is learnt
--     may_look       a load of the count, which shows that what was kept at a join begins what was seen
--     may_tell       an addition to the count: so many events enter the story
--     may_leave      a store of 0 in the lock word: the slot is given back
--     may_split      a split: a seat with the next number
--     may_join       a join: both lists are kept
--     closes         the end: the slot has the state
use Rattle.std.proofs.Common.{◌≡◌, ℕ, ◌+◌, ◌%◌, ◌^◌, ◌<◌, ◌≤◌, ◌≢◌, eqb, zero, suc, Bool, true, false, leb, List, [], ◌∷◌, ◌++◌, length, get_or, set, All, Option, Some, refl, sym, ap, ◌∙◌, subst, ⊎_elim, arith, length-append}
use mathlib.Core.Option.{some, some-injective}
use mathlib.Core.Option as maybe
use mathlib.Core.List.{IsPrefix}
use lib.ListN.{get_elem?}
use prog.Atomic.{either}
use Rattle.atomic_table.specs.Table.{State, Act, keeps, takes, gives, step, opening, Valid, put_back, homes_after, carried_after, Allows, Splits, Joins, Final, Seen}
use Rattle.atomic_table.proofs.Lists.{at_set, set_again, set_else, at_longer}
use Rattle.hs_turn.specs.declared.known.Known.{Known}
use Rattle.hs_turn.specs.Story.{told_by}
use Rattle.hs_turn.specs.Views.{first_seat, entered, having_told, having_left, having_split, split_off, having_joined, spent}
use Rattle.hs_turn.specs.Rule.{Phase, free, held, lock_word, slot, HasHolder, AreSeats, AreOwned, Rests, Knows, IsTurn}
use Rattle.hs_turn.specs.AtomicSteps.{Holding, Enters, Leaves, Tells, Looks}
use Rattle.hs_turn.proofs.PrefixLemmas.{prefix-refl, prefix-longer, prefix-shorter, prefix-chosen, both_begin}
use Rattle.hs_turn.proofs.SeatLemmas.{set_at, at_push, only_value, count_two, seats-first, seats-set, seats-split, seats-join}
use Rattle.hs_turn.proofs.EventLemmas.{told_mine, none_in_prefix, longer_own, events-first, events-set, events-told, events-split, events-join}

small_mod : (n m : ℕ) → n + m ≤ 2 ^ 63 → (n + m) % 2 ^ 64 ≡ n + m
small_mod n m h = omega arith

some_injective : {A : Type 0} {x y : A} → Some x ≡ Some y → x ≡ y
some_injective e = cc e

set_same : (xs : List ℕ) (i : ℕ) → set xs i (get_or xs i 0) ≡ xs
set_same [] i = refl
set_same (x ∷ xs) zero = refl
set_same (x ∷ xs) (suc i) = ap (λ (ys : List ℕ). x ∷ ys) (set_same xs i)

module _ {T B E : Type 0} (base : T → B) (story : T → List E) (number : E → ℕ) (b : B) where
  abbrev V : Type 0
  V = Known B E

  abbrev Rule : State (Option T) V → Type 0
  Rule = IsTurn base story number b

  abbrev K : List E → Phase T → ℕ → V → Type 0
  K = Knows base story number b

  abbrev Each : List E → Phase T → List V → Type 0
  Each told phase views = (j : ℕ) (v : V) → get_elem? views j ≡ some v → K told phase j v

  -- words and slots, and a fact on them that is proved where the phase is known
  abbrev Shape : Type 0
  Shape = List ℕ × List (maybe.Option (Option T))

  abbrev shape : List E → Phase T → Shape
  shape told phase = (lock_word phase ∷ length told ∷ [], slot phase ∷ [])

  shaped : (s : State (Option T) V) (r : Rule s) (F : Shape → Type 0) → F (shape r.told r.phase) → F (s.words, s.homes)
  shaped s r F f = subst F (λ i. (sym r.words i, sym r.homes i)) f

  at_first : (x : T) (j : ℕ) (v : V) → get_elem? (first_seat b ∷ []) j ≡ some v → K [] (free x) j v
  at_first x j v at = subst (K [] (free x) j) (only_value (first_seat b) v j at) record { base_is = λ _. refl; seen_begins = ([], refl); kept_begins = ([], refl); seen_own = λ _. refl; holding = λ h. absurd (cc h) }

  -- the start: a value without a story, and seat 0
  pub opens : (x : T) → base x ≡ b → story x ≡ [] → Rule (opening (0 ∷ 0 ∷ []) (Some x ∷ []) (first_seat b))
  opens x is none = record {
    told = [];
    phase = free x;
    words = refl;
    homes = refl;
    rests = (is, none);
    each = at_first x;
    holder = tt;
    seats = seats-first b;
    events = events-first number b;
  }

  each_set : (told : List E) (phase : Phase T) (views : List V) (id : ℕ) (w : V) → K told phase id w → ((j : ℕ) (v : V) → j ≢ id → get_elem? views j ≡ some v → K told phase j v) → Each told phase (set views id w)
  each_set told phase views id w k others j v at = ⊎_elim
      (λ t. subst (λ (z : ℕ × V). K told phase z.0 z.1) (λ i. (sym t.0 i, t.1 i)) k)
      (λ t. others j v t.0 t.1)
      (at_set views id j w v at)

  module _ (slots id : ℕ) (me : Holding T B E) where
    -- what a compare-exchange of the lock word gives
    abbrev Entering : List V → Shape → Type 0
    Entering views sh = (w : V) × (a : Act (Option T)) × Valid sh.1 me.1 a
        × Rule record { words = set sh.0 0 (either (eqb (get_or sh.0 0 0) 0) 1 (get_or sh.0 0 0)); homes = homes_after sh.1 me.1 a; views = set views id w }
        × Enters base story number (step slots 0 0 1 maybe.none) me (get_or sh.0 0 0) (w, carried_after me.1 a)

    -- the lock is free
    enter_free : (views : List V) (told : List E) (x : T) → Rests base story number b told (free x) → Each told (free x) views → AreSeats views → AreOwned number told views
        → get_elem? views id ≡ some me.0 → me.0.live ≡ true → Entering views (shape told (free x))
    enter_free views told x rests each seats events at live = let k = each id me.0 at in let w : V = entered me.0 (story x) in let own : told_by number me.0.number (story x) ≡ me.0.own = ap (told_by number me.0.number) rests.1 ∙ events.own id me.0 at live in (
      w,
      takes 0 (Some x),
      refl,
      record {
        told = told;
        phase = held id;
        words = refl;
        homes = refl;
        rests = tt;
        each = each_set told (held id) views id w record { base_is = k.base_is; seen_begins = subst (λ (l : List E). IsPrefix l told) (sym rests.1) (prefix-refl told); kept_begins = k.kept_begins; seen_own = λ _. own; holding = λ _. (refl, live, rests.1) }
            (λ j v n a. let o = each j v a in record { base_is = o.base_is; seen_begins = o.seen_begins; kept_begins = o.kept_begins; seen_own = o.seen_own; holding = λ h. absurd ((o.holding h).0) });
        holder = (w, set_at views id me.0 w at, refl);
        seats = seats-set views id me.0 w at record { live = refl; number = refl; splits = refl; joins = refl; joined = refl } seats;
        events = events-set number told views id me.0 w at record { live = refl; number = refl; splits = refl; joins = refl; joined = refl } refl events;
      },
      (
        (λ _. record {
          state = x;
          carried = refl;
          view = refl;
          finds = record {
            base_is = k.base_is live ∙ ap (λ (y : B). Some y) (sym rests.0);
            begins = subst (λ (l : List E). IsPrefix me.0.seen l) (sym rests.1) k.seen_begins;
            own = own;
            seen_own = k.seen_own live;
          };
        }),
        λ n. absurd (n refl),
      ),
    )

    -- the lock is held
    enter_held : (views : List V) (told : List E) (i : ℕ) → Each told (held i) views → HasHolder {T = T} views (held i) → AreSeats views → AreOwned number told views
        → get_elem? views id ≡ some me.0 → Entering views (shape told (held i))
    enter_held views told i each holder seats events at = (
      me.0,
      keeps,
      tt,
      subst (λ (us : List V). Rule record { words = 1 ∷ length told ∷ []; homes = maybe.none ∷ []; views = us }) (sym (set_again views id me.0 at))
          record { told = told; phase = held i; words = refl; homes = refl; rests = tt; each = each; holder = holder; seats = seats; events = events },
      ((λ e. absurd (cc e)), λ _. refl),
    )

    entering : (views : List V) (told : List E) (phase : Phase T) → Rests base story number b told phase → Each told phase views → HasHolder views phase → AreSeats views → AreOwned number told views
        → get_elem? views id ≡ some me.0 → me.0.live ≡ true → Entering views (shape told phase)
    entering views told (free x) rests each holder seats events at live = enter_free views told x rests each seats events at live
    entering views told (held i) rests each holder seats events at live = enter_held views told i each holder seats events at

    pub may_enter : me.0.live ≡ true → Allows Rule slots id me 0 (λ n. either (eqb n 0) 1 n) (Enters base story number (step slots 0 0 1 maybe.none) me)
    may_enter live s r _ at _ = shaped s r (Entering s.views) (entering s.views r.told r.phase r.rests r.each r.holder r.seats r.events at live)

    -- a load of the count changes nothing, and shows that what was kept begins what was seen
    pub may_look : length me.0.kept ≤ length me.0.seen → Allows Rule slots id me 1 (λ n. n) (Looks (step slots 1 0 0 maybe.none) me)
    may_look le s r _ at _ = let k = r.each id me.0 at in (
      me.0,
      keeps,
      tt,
      subst (λ (z : List ℕ × List V). Rule record { words = z.0; homes = s.homes; views = z.1 }) (λ i. (sym (set_same s.words 1) i, sym (set_again s.views id me.0 at) i)) r,
      (refl, prefix-shorter me.0.kept me.0.seen r.told k.kept_begins k.seen_begins le),
    )

    module _ (holds : me.0.holds ≡ true) where
      abbrev Leaving : T → List V → Shape → Type 0
      Leaving x views sh = Rule record { words = set sh.0 0 0; homes = set sh.1 0 (maybe.some (Some x)); views = set views id (having_left me.0) }

      leaving : (x : T) → Some (base x) ≡ me.0.base → story x ≡ me.0.seen → (views : List V) (told : List E) (phase : Phase T) → Each told phase views → AreSeats views → AreOwned number told views
          → get_elem? views id ≡ some me.0 → Leaving x views (shape told phase)
      leaving x is tale views told (free y) each seats events at = absurd (((each id me.0 at).holding holds).0)
      leaving x is tale views told (held i) each seats events at = let k = each id me.0 at in let h = k.holding holds in record {
        told = told;
        phase = free x;
        words = refl;
        homes = refl;
        rests = (some_injective (is ∙ k.base_is h.1), tale ∙ h.2);
        each = each_set told (free x) views id (having_left me.0) record { base_is = k.base_is; seen_begins = k.seen_begins; kept_begins = k.kept_begins; seen_own = k.seen_own; holding = λ e. absurd (cc e) }
            (λ j v n a. let o = each j v a in record { base_is = o.base_is; seen_begins = o.seen_begins; kept_begins = o.kept_begins; seen_own = o.seen_own; holding = λ e. absurd (n ((o.holding e).0 ∙ sym h.0)) });
        holder = tt;
        seats = seats-set views id me.0 (having_left me.0) at record { live = refl; number = refl; splits = refl; joins = refl; joined = refl } seats;
        events = events-set number told views id me.0 (having_left me.0) at record { live = refl; number = refl; splits = refl; joins = refl; joined = refl } refl events;
      }

      -- a store of 0 gives the slot back, with the state in it
      pub may_leave : (x : T) → me.1 ≡ (0, Some x) ∷ [] → Some (base x) ≡ me.0.base → story x ≡ me.0.seen → Allows Rule slots id me 0 (λ _. 0) (λ _. Leaves (step slots 0 0 0 maybe.none) me 0)
      may_leave x out is tale s r _ at _ = (
        having_left me.0,
        gives,
        tt,
        subst (λ (c : List (ℕ × Option T)). Rule record { words = set s.words 0 0; homes = put_back s.homes c; views = set s.views id (having_left me.0) }) (sym out)
            (shaped s r (Leaving x s.views) (leaving x is tale s.views r.told r.phase r.each r.seats r.events at)),
        refl,
      )

      module _ (es : List E) (bears : All (λ e. number e ≡ me.0.number) es) (room : length me.0.seen + length es ≤ 2 ^ 63) where
        abbrev W : V
        W = having_told me.0 es

        abbrev Telling : List V → Shape → Type 0
        Telling views sh = Rule record { words = set sh.0 1 ((get_or sh.0 1 0 + length es) % 2 ^ 64); homes = sh.1; views = set views id W }

        telling : (views : List V) (told : List E) (phase : Phase T) → Each told phase views → AreSeats views → AreOwned number told views → get_elem? views id ≡ some me.0 → Telling views (shape told phase)
        telling views told (free y) each seats events at = absurd (((each id me.0 at).holding holds).0)
        telling views told (held i) each seats events at = let k = each id me.0 at in let h = k.holding holds in
            let more : length (told ++ es) ≡ length told + length es = length-append told es in
            let fits : length told + length es ≤ 2 ^ 63 = subst (λ (l : List E). length l + length es ≤ 2 ^ 63) h.2 room in
            let same : (length told + length es) % 2 ^ 64 ≡ length (told ++ es) = small_mod (length told) (length es) fits ∙ sym more in record {
              told = told ++ es;
              phase = held i;
              words = ap (λ (n : ℕ). 1 ∷ n ∷ []) same;
              homes = refl;
              rests = tt;
              each = each_set (told ++ es) (held i) views id W
                  record { base_is = k.base_is; seen_begins = subst (λ (l : List E). IsPrefix (l ++ es) (told ++ es)) (sym h.2) (prefix-refl (told ++ es)); kept_begins = prefix-longer me.0.kept told es k.kept_begins; seen_own = λ l. told_mine number me.0.number me.0.seen es bears ∙ ap (λ (xs : List E). xs ++ es) (k.seen_own l); holding = λ _. (h.0, h.1, ap (λ (l : List E). l ++ es) h.2) }
                  (λ j v n a. let o = each j v a in record { base_is = o.base_is; seen_begins = prefix-longer v.seen told es o.seen_begins; kept_begins = prefix-longer v.kept told es o.kept_begins; seen_own = o.seen_own; holding = λ y. absurd (n ((o.holding y).0 ∙ sym h.0)) });
              holder = (W, subst (λ (n : ℕ). get_elem? (set views id W) n ≡ some W) h.0 (set_at views id me.0 W at), holds);
              seats = seats-set views id me.0 W at record { live = refl; number = refl; splits = refl; joins = refl; joined = refl } seats;
              events = events-told number told views id me.0 es at h.1 bears seats events;
            }

        may_tell_so_many : Allows Rule slots id me 1 (λ n. (n + length es) % 2 ^ 64) (Tells es (step slots 1 (length es) 0 maybe.none) me)
        may_tell_so_many s r _ at _ = (
          W,
          keeps,
          tt,
          shaped s r (Telling s.views) (telling s.views r.told r.phase r.each r.seats r.events at),
          (refl, refl),
        )

      -- an addition to the count adds so many events to the story
      pub may_tell : (es : List E) (count : ℕ) → All (λ e. number e ≡ me.0.number) es → length es ≡ count → length me.0.seen + count ≤ 2 ^ 63 → Allows Rule slots id me 1 (λ n. (n + count) % 2 ^ 64) (Tells es (step slots 1 count 0 maybe.none) me)
      may_tell es count bears is room =
          subst (λ k. Allows Rule slots id me 1 (λ n. (n + k) % 2 ^ 64) (Tells es (step slots 1 k 0 maybe.none) me)) is (may_tell_so_many es bears (subst (λ k. length me.0.seen + k ≤ 2 ^ 63) (sym is) room))

  holder_stays : (views us : List V) (phase : Phase T) → HasHolder views phase → ((i : ℕ) (u : V) → get_elem? views i ≡ some u → u.holds ≡ true → get_elem? us i ≡ some u) → HasHolder us phase
  holder_stays views us (free x) h stays = tt
  holder_stays views us (held i) h stays = (h.0, stays i h.0 h.1 h.2, h.2)

  -- a seat that holds the lock isn't one that doesn't
  not_idle : (views : List V) (i j : ℕ) (u v : V) → get_elem? views i ≡ some u → u.holds ≡ true → get_elem? views j ≡ some v → v.holds ≡ false → i ≢ j
  not_idle views i j u v a h c f e = let same : u ≡ v = some-injective u v (sym a ∙ (ap (get_elem? views) e ∙ c)) in absurd (cc (f, h, ap (λ (y : V). y.holds) same))

  -- a split
  pub may_split : (id : ℕ) (v : V) → v.number ≡ 0 → v.live ≡ true → v.holds ≡ false → Splits Rule id v (having_split v) (split_off v)
  may_split id v first lives idle s r at = let k = r.each id v at in record {
    told = r.told;
    phase = r.phase;
    words = r.words;
    homes = r.homes;
    rests = r.rests;
    each = λ j u a. ⊎_elim
        (λ here. each_set r.told r.phase s.views id (having_split v) record { base_is = k.base_is; seen_begins = k.seen_begins; kept_begins = k.kept_begins; seen_own = k.seen_own; holding = k.holding } (λ i w n c. r.each i w c) j u here)
        (λ t. subst (K r.told r.phase j) t.1 record { base_is = λ _. k.base_is lives; seen_begins = k.seen_begins; kept_begins = (r.told, refl); seen_own = λ _. none_in_prefix number (v.splits + 1) v.seen r.told k.seen_begins (r.events.ungiven id v at first lives (v.splits + 1) (omega arith)); holding = λ h. absurd (cc h) })
        (at_push (set s.views id (having_split v)) (split_off v) u j a);
    holder = holder_stays s.views (set s.views id (having_split v) ++ split_off v ∷ []) r.phase r.holder
        (λ i u a h. at_longer (set s.views id (having_split v)) (split_off v ∷ []) i u (set_else s.views id i (having_split v) (not_idle s.views i id u v a h at idle) ∙ a));
    seats = seats-split s.views id v at first lives r.seats;
    events = events-split number r.told s.views id v at first lives r.seats r.events;
  }

  -- a join
  pub may_join : (id : ℕ) (v : V) (other : ℕ) (w : V) → v.number ≡ 0 → v.live ≡ true → v.holds ≡ false → w.live ≡ true → w.holds ≡ false → Joins Rule id v other w (having_joined v w) spent
  may_join id v other w first lives idle other_lives other_idle s r at differ after = let there : get_elem? s.views other ≡ some w = sym (set_else s.views id other (having_joined v w) differ) ∙ after in
      let k = r.each id v at in let l = r.each other w there in let first_shorter : Bool = leb (length v.seen) (length w.seen) in record {
        told = r.told;
        phase = r.phase;
        words = r.words;
        homes = r.homes;
        rests = r.rests;
        each = each_set r.told r.phase (set s.views id (having_joined v w)) other spent record { base_is = λ e. absurd (cc e); seen_begins = (r.told, refl); kept_begins = (r.told, refl); seen_own = λ e. absurd (cc e); holding = λ e. absurd (cc e) }
            (λ j u n a. each_set r.told r.phase s.views id (having_joined v w)
            record { base_is = k.base_is; seen_begins = prefix-chosen first_shorter w.seen v.seen r.told l.seen_begins k.seen_begins; kept_begins = prefix-chosen first_shorter v.seen w.seen r.told k.seen_begins l.seen_begins; seen_own = λ _. longer_own number v.number v.seen w.seen r.told v.own k.seen_begins l.seen_begins (k.seen_own lives) (r.events.own id v at lives); holding = λ h. absurd (cc (h, idle)) }
            (λ i x m c. r.each i x c) j u a);
        holder = holder_stays s.views (set (set s.views id (having_joined v w)) other spent) r.phase r.holder
            (λ i u a h. set_else (set s.views id (having_joined v w)) other i spent (not_idle s.views i other u w a h there other_idle) ∙ (set_else s.views id i (having_joined v w) (not_idle s.views i id u v a h at idle) ∙ a));
        seats = seats-join s.views id other v w at there differ first lives other_lives r.seats;
        events = events-join number r.told s.views id other v w at there differ first lives other_lives r.seats r.events;
      }

  -- what closing finds, where seat 0 has joined all and holds nothing
  pub record Closing (v : V) (x : T) : Type 0 where
    pub base_is : v.base ≡ Some (base x)
    pub begins : IsPrefix v.seen (story x)
    pub own : told_by number v.number (story x) ≡ v.own
    pub joined : All (λ (p : ℕ × List E). told_by number p.0 (story x) ≡ p.1) v.joined
    pub no_others : (n : ℕ) → v.splits < n → told_by number n (story x) ≡ []

  at_home : (views : List V) (told : List E) (phase : Phase T) (id : ℕ) (v : V) → Rests base story number b told phase → Each told phase views → HasHolder views phase → AreSeats views → AreOwned number told views → get_elem? views id ≡ some v
      → v.live ≡ true → v.holds ≡ false → v.number ≡ 0 → v.joins ≡ v.splits → (x : T) × (slot phase ≡ maybe.some (Some x)) × Closing v x
  at_home views told (free x) id v rests each holder seats events at live idle first all = let k = each id v at in (
    x,
    refl,
    record {
      base_is = k.base_is live ∙ ap (λ (y : B). Some y) (sym rests.0);
      begins = subst (λ (l : List E). IsPrefix v.seen l) (sym rests.1) k.seen_begins;
      own = ap (told_by number v.number) rests.1 ∙ events.own id v at live;
      joined = subst (λ (l : List E). All (λ (p : ℕ × List E). told_by number p.0 l ≡ p.1) v.joined) (sym rests.1) (events.joined id v at live);
      no_others = λ n lt. ap (told_by number n) rests.1 ∙ events.ungiven id v at first live n lt;
    },
  )
  at_home views told (held i) id v rests each holder seats events at live idle first all =
      let u = holder.0 in let lives = ((each i u holder.1).holding holder.2).1 in
      let apart : id ≢ i = λ e. let same : v ≡ u = some-injective v u (sym at ∙ (ap (get_elem? views) e ∙ holder.1)) in absurd (cc (idle, holder.2, ap (λ (y : V). y.holds) same)) in
      let two = count_two views id i v u at live holder.1 lives apart in let one = seats.counted id v at first live in absurd (omega arith)

  -- closing
  pub closes : (ws : List ℕ) (xs : List (Option T)) (id : ℕ) (v : V) (o : Option T) → Final (Seen Rule id v) ws xs → v.live ≡ true → v.holds ≡ false → v.number ≡ 0 → v.joins ≡ v.splits → get_elem? xs 0 ≡ some o
      → (x : T) × (o ≡ Some x) × Closing v x
  closes ws xs id v o f live idle first all is = let s = f.0 in let r = f.1.0 in
      let t = at_home s.views r.told r.phase id v r.rests r.each r.holder r.seats r.events f.1.1 live idle first all in
      (t.0, some-injective o (Some t.0) (sym is ∙ f.4 0 (Some t.0) (ap (λ (hs : List (maybe.Option (Option T))). get_elem? hs 0) r.homes ∙ ap some t.1)), t.2)

  -- the same of the value that was unwrapped
  pub closed_value : (v : V) (o : Option T) (y : T) → (x : T) × (o ≡ Some x) × Closing v x → o ≡ Some y → Closing v y
  closed_value v o y t e = subst (Closing v) (cc (t.1, e)) t.2

-- after a join and the look behind it, both lists begin what was seen
pub joined_begins : {T B E : Type 0} (v w : Known B E) (carried : List (ℕ × Option T)) (m n : Holding T B E) → m ≡ (having_joined v w, carried) → n ≡ m → IsPrefix m.0.kept m.0.seen
    → IsPrefix v.seen n.0.seen × IsPrefix w.seen n.0.seen
joined_begins {T} {B} {E} v w carried m n e f p = let M : Type 0 = Holding T B E in
    subst (λ (x : M). IsPrefix v.seen x.0.seen × IsPrefix w.seen x.0.seen) (sym (f ∙ e)) (both_begin v.seen w.seen (subst (λ (x : M). IsPrefix x.0.kept x.0.seen) e p))
