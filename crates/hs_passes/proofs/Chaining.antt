-- Passes that are applied one after another.
use Rattle.std.proofs.Common.{◌≡◌, refl, sym, ◌∙◌, ap, subst, ℕ, suc, ◌+◌, ◌-◌, ◌<◌, ◌≤◌, List, [], ◌∷◌, ◌++◌, length, take, drop, get_or, map, append_assoc, length-append, length-drop, append-nil, arith}
use Rattle.std.specs.Prelude.{All, sum_by}
use Rattle.std.proofs.Math.ListN.{set}
use Rattle.std.proofs.Math.Seq.{drop-cons, take-suc, set-append_seam, get_or-append_seam}
use Rattle.std.proofs.lemmas.List.{take-map, drop-map, map-append, length-map, take_all, drop_all, take-append-drop}
use Rattle.std.proofs.lemmas.List.Sums.{sum_by-append}
use Rattle.hs_scheme.specs.sorting.Sorted.{SortedData}
use Rattle.hs_scheme.specs.SameTree.{HaveSameTree}
use Rattle.hs_passes.specs.Weight.{weight}
use Rattle.hs_passes.specs.Passing.{KeepsRest, Image, composed, raised, RaisedUpTo}

pub tree_after : (s t u : SortedData) → KeepsRest s t → HaveSameTree s.scheme.ranks s.scheme.rules t.scheme.rules → HaveSameTree t.scheme.ranks t.scheme.rules u.scheme.rules
    → HaveSameTree s.scheme.ranks s.scheme.rules u.scheme.rules
tree_after s t u kept p q ts agree n path =
    let r = subst (λ (k : List ℕ). HaveSameTree k t.scheme.rules u.scheme.rules) kept.ranks q in
    (λ f. (r ts agree n path).0 ((p ts agree n path).0 f), λ f. (p ts agree n path).1 ((r ts agree n path).1 f))

pub rest_after : (s t u : SortedData) → KeepsRest s t → KeepsRest t u → KeepsRest s u
rest_after s t u p q = record {
  ranks = q.ranks ∙ p.ranks;
  automaton = q.automaton ∙ p.automaton;
  terminal_names = q.terminal_names ∙ p.terminal_names;
  state_names = q.state_names ∙ p.state_names;
}

pub rest_same : (s : SortedData) → KeepsRest s s
rest_same s = record { ranks = refl; automaton = refl; terminal_names = refl; state_names = refl }

composed-last : (fs : List Image) (f : Image) (s : SortedData) → composed (fs ++ f ∷ []) s ≡ f (composed fs s)
composed-last [] f s = refl
composed-last (g ∷ fs) f s = composed-last fs f (g s)

raised-last : (fs : List Image) (ns : List ℕ) (f : Image) (n : ℕ) (s : SortedData) → length fs ≡ length ns
    → raised (fs ++ f ∷ []) (ns ++ n ∷ []) s ≡ raised fs ns s ++ (n + (weight (composed fs s) - weight (f (composed fs s)))) ∷ []
raised-last [] [] f n s e = refl
raised-last [] (m ∷ ns) f n s e = absurd (omega arith)
raised-last (g ∷ fs) [] f n s e = absurd (omega arith)
raised-last (g ∷ fs) (m ∷ ns) f n s e =
    ap (λ ks. (m + (weight s - weight (g s))) ∷ ks) (raised-last fs ns f n (g s) (omega arith))

-- what a slice of a whole list leaves in it
pub written_back : {A : Type 0} (n : ℕ) (xs ys : List A) → n ≡ length ys → length xs ≡ length ys → take n (xs ++ drop (length xs) ys) ≡ xs
written_back n xs ys e f =
    ap (λ zs. take n (xs ++ zs)) (drop_all (length xs) ys (omega arith)) ∙ (ap (take n) (append-nil xs) ∙ take_all n xs (omega arith))

by_weights : (m n u t v : ℕ) → m + u ≡ n + t → u ≤ t → u ≡ v → m ≡ n + (t - v)
by_weights m n u t v e le is = omega arith

-- the first i of the passes were applied, and made t of s
pub record Chained {A : Type 0} (image : A → Image) (taken : A → ℕ) (old new : List A) (i : ℕ) (s t : SortedData) : Type 0 where
  pub done : List A
  pub long : length done ≡ i
  pub whole : new ≡ done ++ drop i old
  pub images : map image done ≡ map image (take i old)
  pub tallies : map taken done ≡ raised (map image (take i old)) (map taken (take i old)) s
  pub sums : sum_by taken done + weight t ≡ sum_by taken (take i old) + weight s
  pub made : t ≡ composed (map image (take i old)) s
  pub rest : KeepsRest s t
  pub tree : HaveSameTree s.scheme.ranks s.scheme.rules t.scheme.rules
  pub lighter : weight t ≤ weight s

-- a pass was applied, became another and made t of s
pub record AppliedPass {A : Type 0} (image : A → Image) (taken : A → ℕ) (p q : A) (s t : SortedData) : Type 0 where
  pub made : t ≡ image p s
  pub same_image : image q ≡ image p
  pub rest : KeepsRest s t
  pub tree : HaveSameTree s.scheme.ranks s.scheme.rules t.scheme.rules
  pub lighter : weight t ≤ weight s
  pub rose : taken q + weight t ≡ taken p + weight s

module _ {A : Type 0} (image : A → Image) (taken : A → ℕ) (old : List A) (s : SortedData) where
  pub none_applied : (new : List A) → new ≡ old → Chained image taken old new 0 s s
  none_applied new e = record {
    done = [];
    long = refl;
    whole = e;
    images = refl;
    tallies = refl;
    sums = refl;
    made = refl;
    rest = rest_same s;
    tree = λ ts agree n path. (λ f. f, λ f. f);
    lighter = omega arith;
  }

  module _ (new : List A) (i : ℕ) (t : SortedData) (h : Chained image taken old new i s t) (d : A) (lt : i < length old) where
    abbrev p : A
    p = get_or new i d

    abbrev here : A
    here = get_or old i d

    ahead : drop i old ≡ here ∷ drop (suc i) old
    ahead = drop-cons old i d lt

    seam : new ≡ h.done ++ here ∷ drop (suc i) old
    seam = h.whole ∙ ap (λ ps. h.done ++ ps) ahead

    pub found : p ≡ here
    found =
        ap (λ ps. get_or ps i d) seam ∙ (ap (λ k. get_or (h.done ++ here ∷ drop (suc i) old) k d) (sym h.long) ∙ get_or-append_seam h.done here (drop (suc i) old) d)

    pub tally_below : (n : ℕ) → All (λ p. taken p ≤ n) old → taken p ≤ n
    tally_below n all = subst (λ (q : A). taken q ≤ n) (sym found) (all i d lt)

    pub written : (q : A) → set new i q ≡ h.done ++ q ∷ drop (suc i) old
    written q =
        ap (λ ps. set ps i q) seam ∙ (ap (λ k. set (h.done ++ here ∷ drop (suc i) old) k q) (sym h.long) ∙ set-append_seam h.done here (drop (suc i) old) q)

    one_more : take (suc i) old ≡ take i old ++ p ∷ []
    one_more = take-suc old i d lt ∙ ap (λ x. take i old ++ x ∷ []) (sym found)

    map_more : {B : Type 0} (f : A → B) → map f (take (suc i) old) ≡ map f (take i old) ++ f p ∷ []
    map_more f = ap (map f) one_more ∙ map-append f (take i old) (p ∷ [])

    pub one_applied : (q : A) (u : SortedData) → AppliedPass image taken p q t u → Chained image taken old (set new i q) (suc i) s u
    one_applied q u a = record {
      done = h.done ++ q ∷ [];
      long = length-append h.done (q ∷ []) ∙ omega (arith, h.long);
      whole = written q ∙ sym (append_assoc h.done (q ∷ []) (drop (suc i) old));
      images = map-append image h.done (q ∷ []) ∙ ((λ j. h.images j ++ a.same_image j ∷ []) ∙ sym (map_more image));
      tallies = map-append taken h.done (q ∷ []) ∙ ((λ j. h.tallies j ++ risen j ∷ []) ∙ (sym (raised-last (map image (take i old)) (map taken (take i old)) (image p) (taken p) s as_long) ∙ (λ j. raised (sym (map_more image) j) (sym (map_more taken) j) s)));
      sums = omega (arith, sum_by-append taken h.done (q ∷ []), ap (sum_by taken) one_more, sum_by-append taken (take i old) (p ∷ []), h.sums, a.rose);
      made = a.made ∙ (ap (image p) h.made ∙ (sym (composed-last (map image (take i old)) (image p) s) ∙ ap (λ fs. composed fs s) (sym (map_more image))));
      rest = rest_after s t u h.rest a.rest;
      tree = tree_after s t u h.rest h.tree a.tree;
      lighter = omega (arith, h.lighter, a.lighter);
    }
      where
        as_long : length (map image (take i old)) ≡ length (map taken (take i old))
        as_long = length-map (take i old) image ∙ sym (length-map (take i old) taken)

        risen : taken q ≡ taken p + (weight (composed (map image (take i old)) s) - weight (image p (composed (map image (take i old)) s)))
        risen =
            let e : taken q ≡ taken p + (weight t - weight (image p t)) = by_weights (taken q) (taken p) (weight u) (weight t) (weight (image p t)) a.rose a.lighter (ap weight a.made) in
            e ∙ ap (λ v. taken p + (weight v - weight (image p v))) h.made

    -- a pass that refused, and became another with the same tally
    long_set : (q : A) → length (set new i q) ≡ length old
    long_set q =
        ap (λ ps. length ps) (written q) ∙ (length-append h.done (q ∷ drop (suc i) old) ∙ omega (arith, h.long, length-drop (suc i) old))

    pub stopped : (q : A) (n : ℕ) → n ≡ length old → image q ≡ image p → taken q ≡ taken p
        → RaisedUpTo (map image old) (map taken old) (map taken (take n (set new i q ++ drop (length (set new i q)) old))) s
    stopped q n e same same_tally = subst (λ (ps : List A). RaisedUpTo (map image old) (map taken old) (map taken ps) s) (sym (written_back n (set new i q) old e (long_set q))) record {
      before = i;
      one_left = omega (arith, length-map old image);
      tallies = ap (map taken) (written q) ∙ (map-append taken h.done (q ∷ drop (suc i) old)
          ∙ (λ j. (h.tallies ∙ (λ k. raised (sym (take-map image i old) k) (sym (take-map taken i old) k) s)) j ++ (same_tally ∙ ap taken found) j ∷ map taken (drop (suc i) old))
          ∙ ap (λ ns. raised (take i (map image old)) (take i (map taken old)) s ++ ns) (sym (ap (map taken) ahead) ∙ sym (drop-map taken i old)));
    }

    pub stopped_images : (q : A) (n : ℕ) → n ≡ length old → image q ≡ image p
        → map image (take n (set new i q ++ drop (length (set new i q)) old)) ≡ map image old
    stopped_images q n e same =
        ap (map image) (written_back n (set new i q) old e (long_set q) ∙ written q) ∙ (map-append image h.done (q ∷ drop (suc i) old)
        ∙ (λ j. h.images j ++ (same ∙ ap image found) j ∷ map image (drop (suc i) old))
        ∙ (sym (map-append image (take i old) (here ∷ drop (suc i) old))
        ∙ (ap (λ ps. map image (take i old ++ ps)) (sym ahead) ∙ ap (map image) (take-append-drop i old))))

  -- all were applied
  module _ (new : List A) (i : ℕ) (t : SortedData) (h : Chained image taken old new i s t) (le : length old ≤ i)
      (same_length : length new ≡ length old) (n : ℕ) (e : n ≡ length old) where
    back : take n (new ++ drop (length new) old) ≡ new
    back = written_back n new old e same_length

    all_old : take i old ≡ old
    all_old = take_all i old le

    all_done : new ≡ h.done
    all_done = h.whole ∙ (ap (λ ps. h.done ++ ps) (drop_all i old le) ∙ append-nil h.done)

    pub made_by_all : t ≡ composed (map image old) s
    made_by_all = h.made ∙ ap (λ ps. composed (map image ps) s) all_old

    pub same_images : map image (take n (new ++ drop (length new) old)) ≡ map image old
    same_images = ap (map image) (back ∙ all_done) ∙ (h.images ∙ ap (map image) all_old)

    pub all_raised : map taken (take n (new ++ drop (length new) old)) ≡ raised (map image old) (map taken old) s
    all_raised = ap (map taken) (back ∙ all_done) ∙ (h.tallies ∙ ap (λ ps. raised (map image ps) (map taken ps) s) all_old)

    pub sum_rose : sum_by taken (take n (new ++ drop (length new) old)) + weight t ≡ sum_by taken old + weight s
    sum_rose = ap (λ ps. sum_by taken ps + weight t) (back ∙ all_done) ∙ (h.sums ∙ ap (λ ps. sum_by taken ps + weight s) all_old)
