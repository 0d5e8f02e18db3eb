-- The search for the rules that the start needs.
use Rattle.std.proofs.Common.{◌≡◌, refl, sym, ◌∙◌, ap, subst, ℕ, zero, suc, ◌+◌, ◌<◌, Bool, true, false, cond, List, [], ◌∷◌, ◌++◌, length, take, get_or, slice_get, Some, ◌⊎◌, inl, inr, append_assoc, append-nil, length-append, length-set, arith, add-one}
use Rattle.std.proofs.Math.Seq.{take-suc}
use Rattle.std.specs.Prelude.{All, flat_map, replicate}
use Rattle.std.proofs.Math.ListN.{set}
use Rattle.std.proofs.lemmas.Bool.{or_left, or_right, eq-eqb, eqb-true, or_cases}
use Rattle.std.proofs.lemmas.List.{get_or-set_same, set-get_or}
use Rattle.std.proofs.lemmas.Grind.{flat_map-append}
use Rattle.hs_scheme.specs.declared.term.Head.{Head}
use Rattle.hs_scheme.specs.declared.term.Head.TheVariants.{Var, Nt, Tm}
use Rattle.hs_scheme.specs.declared.term.Rule.{Rule}
use Rattle.hs_scheme.specs.Scheme.{AreRules}
use Rattle.std.proofs.lemmas.Option.{slice_get_within, same_Some}
use Rattle.hs_scheme.specs.Tree.{Tree, Trees, node, none, more, forest}
use Rattle.hs_passes.specs.Occurrences.{is_nonterminal, mentions, mentioned_in, own_nonterminal, nonterminals, nonterminals_of}
use Rattle.hs_passes.specs.Marking.{marked, newly}
use Rattle.hs_passes.specs.Reachable.{IsReachable, from_start, from_body, is_reachable}
use Rattle.hs_passes.specs.Selection.{stays}
use Rattle.hs_passes.proofs.Reaching.{decides, mention_in_range}

-- f is an element of the list
abbrev pub In : ℕ → List ℕ → Type 0
In f [] = ⊥
In f (x ∷ xs) = (x ≡ f) ⊎ In f xs

in_left : (f : ℕ) (xs ys : List ℕ) → In f xs → In f (xs ++ ys)
in_left f [] ys h = absurd h
in_left f (x ∷ xs) ys (inl e) = inl e
in_left f (x ∷ xs) ys (inr h) = inr (in_left f xs ys h)

in_right : (f : ℕ) (xs ys : List ℕ) → In f ys → In f (xs ++ ys)
in_right f [] ys h = h
in_right f (x ∷ xs) ys h = inr (in_right f xs ys h)

in_either : (f : ℕ) (xs ys : List ℕ) → In f (xs ++ ys) → In f xs ⊎ In f ys
in_either f [] ys h = inr h
in_either f (x ∷ xs) ys (inl e) = inl (inl e)
in_either f (x ∷ xs) ys (inr h) = elim (in_either f xs ys h) [ inl p ↦ inl (inr p) | inr p ↦ inr p ]

-- what occurs in a term is among its nonterminals
own_in : (f : ℕ) (h : Head) → is_nonterminal f h ≡ true → In f (own_nonterminal h)
own_in f (Var j) e = absurd (cc)
own_in f (Nt g) e = inl (eqb-true g f e)
own_in f (Tm a) e = absurd (cc)

in_own : (f : ℕ) (h : Head) → In f (own_nonterminal h) → is_nonterminal f h ≡ true
in_own f (Var j) h = absurd h
in_own f (Nt g) (inl e) = eq-eqb g f e
in_own f (Nt g) (inr h) = absurd h
in_own f (Tm a) h = absurd h

mutual
  mention_in : (f : ℕ) (t : Tree Head) → mentions f t ≡ true → In f (nonterminals t)
  mention_in f (node h ts) e = elim (or_cases (is_nonterminal f h) (mentioned_in f ts) e) [
    | inl p ↦ in_left f (own_nonterminal h) (nonterminals_of ts) (own_in f h p)
    | inr p ↦ in_right f (own_nonterminal h) (nonterminals_of ts) (mentions_in f ts p)
  ]

  mentions_in : (f : ℕ) (ts : Trees Head) → mentioned_in f ts ≡ true → In f (nonterminals_of ts)
  mentions_in f none e = absurd (cc)
  mentions_in f (more t ts) e = elim (or_cases (mentions f t) (mentioned_in f ts) e) [
    | inl p ↦ in_left f (nonterminals t) (nonterminals_of ts) (mention_in f t p)
    | inr p ↦ in_right f (nonterminals t) (nonterminals_of ts) (mentions_in f ts p)
  ]

mutual
  in_mention : (f : ℕ) (t : Tree Head) → In f (nonterminals t) → mentions f t ≡ true
  in_mention f (node h ts) i = elim (in_either f (own_nonterminal h) (nonterminals_of ts) i) [
    | inl p ↦ or_left (is_nonterminal f h) (mentioned_in f ts) (in_own f h p)
    | inr p ↦ or_right (is_nonterminal f h) (mentioned_in f ts) (in_mentions f ts p)
  ]

  in_mentions : (f : ℕ) (ts : Trees Head) → In f (nonterminals_of ts) → mentioned_in f ts ≡ true
  in_mentions f none i = absurd i
  in_mentions f (more t ts) i = elim (in_either f (nonterminals t) (nonterminals_of ts) i) [
    | inl p ↦ or_left (mentions f t) (mentioned_in f ts) (in_mention f t p)
    | inr p ↦ or_right (mentions f t) (mentioned_in f ts) (in_mentions f ts p)
  ]

pub nonterminals_of-forest : (us : List (Tree Head)) → nonterminals_of (forest us) ≡ flat_map nonterminals us
nonterminals_of-forest [] = refl
nonterminals_of-forest (u ∷ us) = ap (λ ns. nonterminals u ++ ns) (nonterminals_of-forest us)

pub flat_map_more : {X Y : Type 0} (f : X → List Y) (xs : List X) (i : ℕ) (d : X) → i < length xs → flat_map f (take (i + 1) xs) ≡ flat_map f (take i xs) ++ f (get_or xs i d)
flat_map_more f xs i d lt =
    ap (λ n. flat_map f (take n xs)) (add-one i)
    ∙ (ap (flat_map f) (take-suc xs i d lt)
    ∙ (flat_map-append f (take i xs) (get_or xs i d ∷ []) ∙ ap (λ ys. flat_map f (take i xs) ++ ys) (append-nil (f (get_or xs i d)))))

pub in_each : (P : ℕ → Type 0) (xs : List ℕ) → ((f : ℕ) → In f xs → P f) → All P xs
in_each P xs each k d lt = each (get_or xs k d) (in_at xs k d lt)
  where
    in_at : (xs : List ℕ) (k d : ℕ) → k < length xs → In (get_or xs k d) xs
    in_at [] k d lt = absurd (omega arith)
    in_at (x ∷ xs) zero d lt = inl refl
    in_at (x ∷ xs) (suc k) d lt = inr (in_at xs k d (omega arith))

-- how many aren't marked
abbrev pub unmarked : List Bool → ℕ
unmarked [] = 0
unmarked (b ∷ bs) = cond b 0 1 + unmarked bs

unmarked-set : (keep : List Bool) (n : ℕ) → n < length keep → unmarked (set keep n true) + cond (stays keep n) 0 1 ≡ unmarked keep
unmarked-set [] n lt = absurd (omega arith)
unmarked-set (b ∷ keep) zero lt = omega arith
unmarked-set (b ∷ keep) (suc n) lt = let e = unmarked-set keep n (omega arith) in omega (arith, e)

pub length-marked : (ns : List ℕ) (keep : List Bool) → length (marked ns keep) ≡ length keep
length-marked [] keep = refl
length-marked (n ∷ ns) keep = length-marked ns (set keep n true) ∙ length-set keep n true

pub unmarked-marked : (ns : List ℕ) (keep : List Bool) → ((f : ℕ) → In f ns → f < length keep) → unmarked (marked ns keep) + length (newly ns keep) ≡ unmarked keep
unmarked-marked [] keep within = omega arith
unmarked-marked (n ∷ ns) keep within =
    let here : n < length keep = within n (inl refl) in
    let rest = unmarked-marked ns (set keep n true) (λ f i. subst (λ k. f < k) (sym (length-set keep n true)) (within f (inr i))) in
    let own = unmarked-set keep n here in
    by (stays keep n) rest own
  where
    by : (b : Bool) → unmarked (marked ns (set keep n true)) + length (newly ns (set keep n true)) ≡ unmarked (set keep n true) → unmarked (set keep n true) + cond b 0 1 ≡ unmarked keep
        → unmarked (marked ns (set keep n true)) + length (cond b [] (n ∷ []) ++ newly ns (set keep n true)) ≡ unmarked keep
    by true p q = omega (arith, p, q)
    by false p q = omega (arith, p, q, length-append (n ∷ []) (newly ns (set keep n true)))

marked-last : (ns : List ℕ) (n : ℕ) (keep : List Bool) → marked (ns ++ n ∷ []) keep ≡ set (marked ns keep) n true
marked-last [] n keep = refl
marked-last (m ∷ ns) n keep = marked-last ns n (set keep m true)

newly-last : (ns : List ℕ) (n : ℕ) (keep : List Bool) → newly (ns ++ n ∷ []) keep ≡ newly ns keep ++ cond (stays (marked ns keep) n) [] (n ∷ [])
newly-last [] n keep = append-nil (cond (stays keep n) [] (n ∷ []))
newly-last (m ∷ ns) n keep =
    let own = cond (stays keep m) [] (m ∷ []) in
    ap (λ ms. own ++ ms) (newly-last ns n (set keep m true))
    ∙ sym (append_assoc own (newly ns (set keep m true)) (cond (stays (marked ns (set keep m true)) n) [] (n ∷ [])))

module _ (ns : List ℕ) (i d : ℕ) (lt : i < length ns) (keep : List Bool) where
  abbrev item : ℕ
  item = get_or ns i d

  one_more : take (i + 1) ns ≡ take i ns ++ item ∷ []
  one_more = ap (λ k. take k ns) (add-one i) ∙ take-suc ns i d lt

  -- the next number, which wasn't marked
  pub marked_more : (k : List Bool) → k ≡ marked (take i ns) keep → set k item true ≡ marked (take (i + 1) ns) keep
  marked_more k e = ap (λ l. set l item true) e ∙ (sym (marked-last (take i ns) item keep) ∙ ap (λ l. marked l keep) (sym one_more))

  pub newly_more : (k : List Bool) (p q : List ℕ) → k ≡ marked (take i ns) keep → stays k item ≡ false → p ≡ q ++ newly (take i ns) keep → p ++ item ∷ [] ≡ q ++ newly (take (i + 1) ns) keep
  newly_more k p q e not_marked is =
      ap (λ l. l ++ item ∷ []) is
      ∙ (append_assoc q (newly (take i ns) keep) (item ∷ [])
      ∙ ap (λ l. q ++ l) (ap (λ b. newly (take i ns) keep ++ cond b [] (item ∷ [])) (sym (ap (λ l. stays l item) (sym e) ∙ not_marked)) ∙ (sym (newly-last (take i ns) item keep) ∙ ap (λ l. newly l keep) (sym one_more))))

  -- the next number, which was
  pub marked_same : (k : List Bool) → k ≡ marked (take i ns) keep → stays k item ≡ true → k ≡ marked (take (i + 1) ns) keep
  marked_same k e was = sym (set-get_or k item false) ∙ (ap (λ b. set k item b) was ∙ marked_more k e)

  pub newly_same : (k : List Bool) (p q : List ℕ) → k ≡ marked (take i ns) keep → stays k item ≡ true → p ≡ q ++ newly (take i ns) keep → p ≡ q ++ newly (take (i + 1) ns) keep
  newly_same k p q e was is =
      is ∙ ap (λ l. q ++ l)
      (sym (append-nil (newly (take i ns) keep))
      ∙ (ap (λ b. newly (take i ns) keep ++ cond b [] (item ∷ [])) (sym (ap (λ l. stays l item) (sym e) ∙ was)) ∙ (sym (newly-last (take i ns) item keep) ∙ ap (λ l. newly l keep) (sym one_more))))

-- how far the search has come
pub record Searched (rules : List Rule) (keep : List Bool) (pending : List ℕ) : Type 0 where
  pub long : length keep ≡ length rules
  pub start : stays keep 0 ≡ true
  pub sound : (f : ℕ) → stays keep f ≡ true → IsReachable rules f
  pub waiting : (f : ℕ) → In f pending → stays keep f ≡ true
  pub closed : (f g : ℕ) (r : Rule) → stays keep f ≡ true → slice_get rules f ≡ Some r → mentions g r.body ≡ true → (stays keep g ≡ true) ⊎ In f pending

stays_within : (keep : List Bool) (f : ℕ) → stays keep f ≡ true → f < length keep
stays_within [] f e = absurd (cc)
stays_within (b ∷ keep) zero e = omega arith
stays_within (b ∷ keep) (suc f) e = let lt = stays_within keep f e in omega (arith, lt)

-- a mark is among the numbers, or was there
set_either : (keep : List Bool) (n f : ℕ) → stays (set keep n true) f ≡ true → (stays keep f ≡ true) ⊎ (n ≡ f)
set_either [] n f e = inl e
set_either (b ∷ keep) zero zero e = inr refl
set_either (b ∷ keep) zero (suc f) e = inl e
set_either (b ∷ keep) (suc n) zero e = inl e
set_either (b ∷ keep) (suc n) (suc f) e = elim (set_either keep n f e) [ inl p ↦ inl p | inr p ↦ inr (ap suc p) ]

set_keeps : (keep : List Bool) (n f : ℕ) → stays keep f ≡ true → stays (set keep n true) f ≡ true
set_keeps [] n f e = e
set_keeps (b ∷ keep) zero zero e = refl
set_keeps (b ∷ keep) zero (suc f) e = e
set_keeps (b ∷ keep) (suc n) zero e = e
set_keeps (b ∷ keep) (suc n) (suc f) e = set_keeps keep n f e

marked_keeps : (ns : List ℕ) (keep : List Bool) (f : ℕ) → stays keep f ≡ true → stays (marked ns keep) f ≡ true
marked_keeps [] keep f e = e
marked_keeps (n ∷ ns) keep f e = marked_keeps ns (set keep n true) f (set_keeps keep n f e)

marked_either : (ns : List ℕ) (keep : List Bool) (f : ℕ) → stays (marked ns keep) f ≡ true → (stays keep f ≡ true) ⊎ In f ns
marked_either [] keep f e = inl e
marked_either (n ∷ ns) keep f e = elim (marked_either ns (set keep n true) f e) [
  | inl p ↦ elim (set_either keep n f p) [ inl q ↦ inl q | inr q ↦ inr (inl q) ]
  | inr p ↦ inr (inr p)
]

-- each of the numbers in range is marked
marked_in : (ns : List ℕ) (keep : List Bool) (f : ℕ) → f < length keep → In f ns → stays (marked ns keep) f ≡ true
marked_in [] keep f lt i = absurd i
marked_in (n ∷ ns) keep f lt (inl e) =
    marked_keeps ns (set keep n true) f (subst (λ k. stays (set keep n true) k ≡ true) e (get_or-set_same keep n true false (subst (λ k. k < length keep) (sym e) lt)))
marked_in (n ∷ ns) keep f lt (inr i) = marked_in ns (set keep n true) f (subst (λ k. f < k) (sym (length-set keep n true)) lt) i

own_new : (f : ℕ) (b : Bool) (m : ℕ) (ns : List ℕ) → In f (cond b [] (m ∷ [])) → In f (m ∷ ns)
own_new f true m ns p = absurd p
own_new f false m ns (inl e) = inl e
own_new f false m ns (inr p) = absurd p

new_among : (f : ℕ) (ns : List ℕ) (keep : List Bool) → In f (newly ns keep) → In f ns
new_among f [] keep i = i
new_among f (m ∷ ns) keep i = elim (in_either f (cond (stays keep m) [] (m ∷ [])) (newly ns (set keep m true)) i) [
  | inl p ↦ own_new f (stays keep m) m ns p
  | inr p ↦ inr (new_among f ns (set keep m true) p)
]

-- what is new is marked, and what is marked was before or is new
newly_marked : (ns : List ℕ) (keep : List Bool) (f : ℕ) → ((g : ℕ) → In g ns → g < length keep) → In f (newly ns keep) → stays (marked ns keep) f ≡ true
newly_marked ns keep f within i = let a = new_among f ns keep i in marked_in ns keep f (within f a) a

marked_newly : (ns : List ℕ) (keep : List Bool) (f : ℕ) → stays (marked ns keep) f ≡ true → (stays keep f ≡ true) ⊎ In f (newly ns keep)
marked_newly [] keep f e = inl e
marked_newly (n ∷ ns) keep f e = elim (marked_newly ns (set keep n true) f e) [
  | inl p ↦ elim (set_either keep n f p) [
    | inl q ↦ inl q
    | inr q ↦ by (stays keep n) refl q
  ]
  | inr p ↦ inr (in_right f (cond (stays keep n) [] (n ∷ [])) (newly ns (set keep n true)) p)
]
  where
    by : (b : Bool) → stays keep n ≡ b → n ≡ f → (stays keep f ≡ true) ⊎ In f (cond b [] (n ∷ []) ++ newly ns (set keep n true))
    by true e q = inl (subst (λ k. stays keep k ≡ true) q e)
    by false e q = inr (inl q)

module _ (rules : List Rule) (terminals : ℕ) (are : AreRules rules terminals) where
  pub searched_first : (keep : List Bool) → length keep ≡ length rules → ((f : ℕ) → stays keep f ≡ false) → Searched rules (set keep 0 true) (0 ∷ [])
  searched_first keep long empty = record {
    long = length-set keep 0 true ∙ long;
    start = get_or-set_same keep 0 true false (subst (λ k. 0 < k) (sym long) (slice_get_within rules 0 are.start.0 are.start.1.0));
    sound = λ f e. elim (set_either keep 0 f e) [
      | inl p ↦ let q = sym (empty f) ∙ p in absurd (cc)
      | inr p ↦ subst (IsReachable rules) p from_start
    ];
    waiting = λ f i. elim i [
      | inl p ↦ subst (λ k. stays (set keep 0 true) k ≡ true) p (get_or-set_same keep 0 true false (subst (λ k. 0 < k) (sym long) (slice_get_within rules 0 are.start.0 are.start.1.0)))
      | inr p ↦ absurd p
    ];
    closed = λ f g r e at occurs. elim (set_either keep 0 f e) [
      | inl p ↦ let q = sym (empty f) ∙ p in absurd (cc)
      | inr p ↦ inr (inl p)
    ];
  }

  module _ (keep : List Bool) (rest : List ℕ) (f : ℕ) (h : Searched rules keep (rest ++ f ∷ [])) where
    pub next_kept : stays keep f ≡ true
    next_kept = h.waiting f (in_right f rest (f ∷ []) (inl refl))

    pub next_in_range : f < length rules
    next_in_range = let lt = stays_within keep f next_kept in omega (arith, lt, h.long)

    module _ (r : Rule) (at : slice_get rules f ≡ Some r) where
      abbrev ns : List ℕ
      ns = nonterminals r.body

      pub within : (g : ℕ) → In g ns → g < length keep
      within g i = let lt = mention_in_range rules terminals are f g r at (in_mention g r.body i) in omega (arith, lt, h.long)

      pub searched_next : Searched rules (marked ns keep) (rest ++ newly ns keep)
      searched_next = record {
        long = length-marked ns keep ∙ h.long;
        start = marked_keeps ns keep 0 h.start;
        sound = λ g e. elim (marked_either ns keep g e) [
          | inl p ↦ h.sound g p
          | inr p ↦ from_body f g r (h.sound f next_kept) at (in_mention g r.body p)
        ];
        waiting = λ g i. elim (in_either g rest (newly ns keep) i) [
          | inl p ↦ marked_keeps ns keep g (h.waiting g (in_left g rest (f ∷ []) p))
          | inr p ↦ newly_marked ns keep g within p
        ];
        closed = λ g k q e at_g occurs. elim (marked_newly ns keep g e) [
          | inr p ↦ inr (in_right g rest (newly ns keep) p)
          | inl p ↦ elim (h.closed g k q p at_g occurs) [
            | inl done ↦ inl (marked_keeps ns keep k done)
            | inr i ↦ elim (in_either g rest (f ∷ []) i) [
              | inl w ↦ inr (in_left g rest (newly ns keep) w)
              | inr own ↦ inl (here g k q own at_g occurs)
            ]
          ]
        ];
      }
        where
          here : (g k : ℕ) (q : Rule) → In g (f ∷ []) → slice_get rules g ≡ Some q → mentions k q.body ≡ true → stays (marked ns keep) k ≡ true
          here g k q (inr p) at_g occurs = absurd p
          here g k q (inl e) at_g occurs =
              let same : r ≡ q = same_Some r q (sym at ∙ (ap (slice_get rules) e ∙ at_g)) in
              let i : In k ns = subst (λ (s : Rule). In k (nonterminals s.body)) (sym same) (mention_in k q.body occurs) in
              marked_in ns keep k (within k i) i

  pub searched_all : (keep : List Bool) → Searched rules keep [] → (f : ℕ) → stays keep f ≡ is_reachable rules f
  searched_all keep h = decides rules terminals are (stays keep) h.sound h.start (λ f g r e at occurs. elim (h.closed f g r e at occurs) [ inl p ↦ p | inr i ↦ absurd i ])

pub none_stays : (n f : ℕ) → stays (replicate n false) f ≡ false
none_stays zero f = refl
none_stays (suc n) zero = refl
none_stays (suc n) (suc f) = none_stays n f
