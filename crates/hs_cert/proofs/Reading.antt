-- What the functions on types read.
use Rattle.std.proofs.Common.{◌≡◌, refl, sym, ◌∙◌, ap, subst, ℕ, ◌-◌, ◌<◌, ◌≤◌, true, false, List, [], ◌∷◌, ◌++◌, length, length-append, codes, Option, Some, None, unwrap_or, Contains, IsTrue, arith}
use Rattle.std.specs.List.{list_all}
use Rattle.std.proofs.lemmas.List.{append_cancel_left}
use Rattle.hs_scheme.specs.Tree.{Tree, Trees, node, none, more, forest, children, children-forest, forest-children, heights}
use Rattle.hs_scheme.proofs.Lists.{some_at, Contains-at}
use Rattle.hs_reader.specs.Tokens.{is_name_byte, EndsRun}
use Rattle.hs_table.specs.Types.{TypeTree, state, arrow, type_cmp, IsSet, AreTypes}
use Rattle.hs_table_laws.proofs.Orders.{type_cmp_total}
use Rattle.hs_text.specs.Canonical.{name_at}
use Rattle.hs_cert.specs.Certificate.{AreNames}
use Rattle.hs_numbered.specs.Certificates.{IsAboveLast}
use Rattle.hs_cert.specs.Front.{type_then, members_then, others_then, IsTypeFront, IsMembersFront}
use Rattle.hs_cert.proofs.Fronts.{behind_first, run_split, first_of_word, word_some, word_all}
use Rattle.hs_cert.proofs.Unique.{others_end, type_unique, members_unique, listed_then, listed_more, listed_all, left_of, shape_at, shapes_more, low_at, low_more}
use Rattle.hs_cert.proofs.Above.{above_before, ascending_push}

pub name_among : (names : List (List ℕ)) (q : ℕ) → q < length names → Contains names (name_at names q)
name_among names q lt =
    let x = some_at names q lt in
    subst (λ (w : List ℕ). Contains names w) (sym (ap (λ o. unwrap_or o []) x.1)) (Contains-at names q x.0 x.1)

module _ (names : List (List ℕ)) where
  -- ---- a state

  pub state_read : (bytes run rest : List ℕ) (q : ℕ) → bytes ≡ run ++ rest → EndsRun rest → name_at names q ≡ run → q < length names → IsTypeFront names 1 bytes (state q) rest
  state_read bytes run rest q whole ends at within =
      record { spelled = whole ∙ ap (λ w. w ++ rest) (sym at); ends = ends; shape = (within, refl); low = omega arith }

  pub unread_state : AreNames names → (bytes run rest : List ℕ) → bytes ≡ run ++ rest → IsTrue (list_all is_name_byte run) → EndsRun rest → (Contains names run → ⊥)
      → (q : ℕ) (other : List ℕ) → q < length names → EndsRun other → bytes ≡ name_at names q ++ other → ⊥
  unread_state are bytes run rest whole all ends nowhere q other lt end e =
      let p = run_split run (name_at names q) rest other all (word_all names are q lt) ends end (sym whole ∙ e) in
      nowhere (subst (λ (w : List ℕ). Contains names w) (sym p.0) (name_among names q lt))

  pub unread_type : (limit : ℕ) (bytes : List ℕ) → ((rest : List ℕ) → bytes ≡ codes "{" ++ rest → ⊥)
      → ((q : ℕ) (rest : List ℕ) → q < length names → EndsRun rest → bytes ≡ name_at names q ++ rest → ⊥)
      → (t : TypeTree) (rest : List ℕ) → IsTypeFront names limit bytes t rest → ⊥
  unread_type limit bytes no_brace no_state (node (Some q) us) rest h = no_state q rest h.shape.0 h.ends h.spelled
  unread_type limit bytes no_brace no_state (node None none) rest h = h.shape
  unread_type limit bytes no_brace no_state (node None (more t us)) rest h = no_brace (members_then names us (codes " -> " ++ type_then names t rest)) h.spelled

  -- ---- an arrow

  pub arrow_read : (limit : ℕ) (bytes behind_brace behind_set behind_sign rest : List ℕ) (s : List TypeTree) (t : TypeTree) → 0 < limit
      → bytes ≡ codes "{" ++ behind_brace → IsMembersFront names (limit - 1) behind_brace s behind_set → behind_set ≡ codes " -> " ++ behind_sign
      → IsTypeFront names (limit - 1) behind_sign t rest → IsTypeFront names limit bytes (arrow s t) rest
  arrow_read limit bytes behind_brace behind_set behind_sign rest s t some brace m sign u =
      record {
        spelled =
            brace ∙ ap (λ (x : List ℕ). codes "{" ++ x)
            (m.spelled ∙ ap (λ (x : List ℕ). members_then names (forest s) x) (sign ∙ ap (λ (x : List ℕ). codes " -> " ++ x) u.spelled));
        ends = u.ends;
        shape = (u.shape, subst IsSet (sym (children-forest s)) m.set, m.shape);
        low = omega (arith, some, u.low, m.low);
      }

  -- the parts of a type that begins with a brace
  pub record Opened (limit : ℕ) (behind_brace rest : List ℕ) : Type 0 where
    pub s : List TypeTree
    pub t : TypeTree
    pub members : IsMembersFront names (limit - 1) behind_brace s (codes " -> " ++ type_then names t rest)
    pub result_type : IsTypeFront names (limit - 1) (type_then names t rest) t rest

  module _ (are : AreNames names) where
    pub opened : (limit : ℕ) (bytes behind_brace : List ℕ) (t : TypeTree) (rest : List ℕ) → bytes ≡ codes "{" ++ behind_brace → IsTypeFront names limit bytes t rest → Opened limit behind_brace rest
    opened limit bytes behind_brace (node (Some q) us) rest brace h =
        let is = first_of_word (name_at names q) rest behind_brace 123 (word_some names are q h.shape.0) (word_all names are q h.shape.0) (sym h.spelled ∙ brace) in
        absurd (let f : false ≡ true = is in cc)
    opened limit bytes behind_brace (node None none) rest brace h = absurd h.shape
    opened limit bytes behind_brace (node None (more t us)) rest brace h =
        let spelled : behind_brace ≡ members_then names us (codes " -> " ++ type_then names t rest) = ap behind_first (sym brace ∙ h.spelled) in
        record {
          s = children us;
          t = t;
          members = record {
            spelled = spelled ∙ ap (λ vs. members_then names vs (codes " -> " ++ type_then names t rest)) (sym (forest-children us));
            shape = subst (AreTypes (length names)) (sym (forest-children us)) h.shape.2;
            low = subst (λ vs. heights vs ≤ limit - 1) (sym (forest-children us)) (omega (arith, h.low));
            set = h.shape.1;
          };
          result_type = record { spelled = refl; ends = h.ends; shape = h.shape.0; low = omega (arith, h.low) };
        }

    pub same_rest : (limit : ℕ) (bytes one other : List ℕ) (s r : List TypeTree) → IsMembersFront names limit bytes s one → IsMembersFront names limit bytes r other → one ≡ other
    same_rest limit bytes one other s r a b = (members_unique names are (forest s) (forest r) one other a.shape b.shape (sym a.spelled ∙ b.spelled)).1

    pub no_members : (limit : ℕ) (bytes behind_brace : List ℕ) → bytes ≡ codes "{" ++ behind_brace
        → ((s : List TypeTree) (rest : List ℕ) → IsMembersFront names (limit - 1) behind_brace s rest → ⊥)
        → (t : TypeTree) (rest : List ℕ) → IsTypeFront names limit bytes t rest → ⊥
    no_members limit bytes behind_brace brace nothing t rest h = let o = opened limit bytes behind_brace t rest brace h in nothing o.s _ o.members

    pub no_sign : (limit : ℕ) (bytes behind_brace behind_set : List ℕ) (s : List TypeTree) → bytes ≡ codes "{" ++ behind_brace → IsMembersFront names (limit - 1) behind_brace s behind_set
        → ((rest : List ℕ) → behind_set ≡ codes " -> " ++ rest → ⊥)
        → (t : TypeTree) (rest : List ℕ) → IsTypeFront names limit bytes t rest → ⊥
    no_sign limit bytes behind_brace behind_set s brace m nothing t rest h =
        let o = opened limit bytes behind_brace t rest brace h in
        nothing (type_then names o.t rest) (same_rest (limit - 1) behind_brace behind_set _ s o.s m o.members)

    pub no_result : (limit : ℕ) (bytes behind_brace behind_set behind_sign : List ℕ) (s : List TypeTree) → bytes ≡ codes "{" ++ behind_brace → IsMembersFront names (limit - 1) behind_brace s behind_set
        → behind_set ≡ codes " -> " ++ behind_sign → ((t : TypeTree) (rest : List ℕ) → IsTypeFront names (limit - 1) behind_sign t rest → ⊥)
        → (t : TypeTree) (rest : List ℕ) → IsTypeFront names limit bytes t rest → ⊥
    no_result limit bytes behind_brace behind_set behind_sign s brace m sign nothing t rest h =
        let o = opened limit bytes behind_brace t rest brace h in
        let same : behind_sign ≡ type_then names o.t rest =
        append_cancel_left (codes " -> ") behind_sign (type_then names o.t rest) (sym sign ∙ same_rest (limit - 1) behind_brace behind_set _ s o.s m o.members) in
        nothing o.t rest (subst (λ (x : List ℕ). IsTypeFront names (limit - 1) x o.t rest) (sym same) o.result_type)

  -- ---- the types of a set

  -- these types were read, with a comma behind each
  pub record Listed (limit : ℕ) (all : List ℕ) (ts : List TypeTree) (bytes : List ℕ) : Type 0 where
    pub spelled : all ≡ listed_then names ts bytes
    pub shape : AreTypes (length names) (forest ts)
    pub low : heights (forest ts) ≤ limit
    pub set : IsSet ts
    pub some : (rest : List ℕ) → all ≡ codes "}" ++ rest → ⊥

  pub listed_next : (limit : ℕ) (all bytes behind rest : List ℕ) (ts : List TypeTree) (t : TypeTree) → Listed limit all ts bytes → IsTypeFront names limit bytes t behind → IsAboveLast type_cmp ts t
      → behind ≡ codes "," ++ rest → Listed limit all (ts ++ t ∷ []) rest
  listed_next limit all bytes behind rest ts t l h above comma =
      record {
        spelled = l.spelled ∙ (ap (listed_then names ts) (h.spelled ∙ ap (type_then names t) comma) ∙ listed_more names ts t rest);
        shape = shapes_more names ts t l.shape h.shape;
        low = low_more ts t limit l.low h.low;
        set = ascending_push type_cmp type_cmp_total ts t l.set above;
        some = l.some;
      }

  pub listed_last : (limit : ℕ) (all bytes behind rest : List ℕ) (ts : List TypeTree) (t : TypeTree) → Listed limit all ts bytes → IsTypeFront names limit bytes t behind → IsAboveLast type_cmp ts t
      → behind ≡ codes "}" ++ rest → IsMembersFront names limit all (ts ++ t ∷ []) rest
  listed_last limit all bytes behind rest ts t l h above brace =
      record {
        spelled = l.spelled ∙ (ap (listed_then names ts) (h.spelled ∙ ap (type_then names t) brace) ∙ listed_all names ts t rest);
        shape = shapes_more names ts t l.shape h.shape;
        low = low_more ts t limit l.low h.low;
        set = ascending_push type_cmp type_cmp_total ts t l.set above;
      }

  -- the next type of a set of which these were read
  pub record Next (limit : ℕ) (ts : List TypeTree) (bytes rest : List ℕ) : Type 0 where
    pub t : TypeTree
    pub others : List TypeTree
    pub front : IsTypeFront names limit bytes t (others_then names (forest others) rest)
    pub above : IsAboveLast type_cmp ts t

  module _ (are : AreNames names) where
    pub next_of : (limit : ℕ) (all bytes : List ℕ) (ts s : List TypeTree) (rest : List ℕ) → Listed limit all ts bytes → IsMembersFront names limit all s rest → Next limit ts bytes rest
    next_of limit all bytes ts [] rest l m = absurd (l.some rest m.spelled)
    next_of limit all bytes ts (u ∷ s) rest l m =
        let left = left_of names are ts s u bytes rest l.shape m.shape (sym l.spelled ∙ m.spelled) in
        let shape = subst (λ (r : List TypeTree). AreTypes (length names) (forest r)) left.split m.shape in
        let low = subst (λ (r : List TypeTree). heights (forest r) ≤ limit) left.split m.low in
        record {
          t = left.next;
          others = left.others;
          front = record {
            spelled = left.spelled;
            ends = others_end names are (forest left.others) rest;
            shape = shape_at names ts left.next left.others shape;
            low = omega (arith, low, low_at ts left.next left.others);
          };
          above = above_before type_cmp ts left.others left.next (subst IsSet left.split m.set);
        }

    pub no_next : (limit : ℕ) (all bytes : List ℕ) (ts : List TypeTree) → Listed limit all ts bytes → ((t : TypeTree) (rest : List ℕ) → IsTypeFront names limit bytes t rest → ⊥)
        → (s : List TypeTree) (rest : List ℕ) → IsMembersFront names limit all s rest → ⊥
    no_next limit all bytes ts l nothing s rest m = let n = next_of limit all bytes ts s rest l m in nothing n.t _ n.front

    same_type : (limit : ℕ) (bytes one other : List ℕ) (t u : TypeTree) → IsTypeFront names limit bytes t one → IsTypeFront names limit bytes u other → (t ≡ u) × (one ≡ other)
    same_type limit bytes one other t u a b = type_unique names are t u one other a.shape b.shape a.ends b.ends (sym a.spelled ∙ b.spelled)

    pub not_above : (limit : ℕ) (all bytes behind : List ℕ) (ts : List TypeTree) (t : TypeTree) → Listed limit all ts bytes → IsTypeFront names limit bytes t behind → (IsAboveLast type_cmp ts t → ⊥)
        → (s : List TypeTree) (rest : List ℕ) → IsMembersFront names limit all s rest → ⊥
    not_above limit all bytes behind ts t l h not s rest m =
        let n = next_of limit all bytes ts s rest l m in
        let same = same_type limit bytes behind (others_then names (forest n.others) rest) t n.t h n.front in
        not (subst (IsAboveLast type_cmp ts) (sym same.0) n.above)

    pub no_end : (limit : ℕ) (all bytes behind : List ℕ) (ts : List TypeTree) (t : TypeTree) → Listed limit all ts bytes → IsTypeFront names limit bytes t behind
        → ((rest : List ℕ) → behind ≡ codes "," ++ rest → ⊥) → ((rest : List ℕ) → behind ≡ codes "}" ++ rest → ⊥)
        → (s : List TypeTree) (rest : List ℕ) → IsMembersFront names limit all s rest → ⊥
    no_end limit all bytes behind ts t l h no_comma no_brace s rest m =
        let n = next_of limit all bytes ts s rest l m in
        either n.others rest (same_type limit bytes behind (others_then names (forest n.others) rest) t n.t h n.front).1
      where
        either : (others : List TypeTree) (rest : List ℕ) → behind ≡ others_then names (forest others) rest → ⊥
        either [] rest e = no_brace rest e
        either (u ∷ others) rest e = no_comma _ e

  -- ---- what is read of a set grows shorter

  mutual
    type_longer : (t : Tree (Option ℕ)) (r : List ℕ) → length r ≤ length (type_then names t r)
    type_longer (node (Some q) us) r = omega (arith, length-append (name_at names q) r)
    type_longer (node None none) r = omega arith
    type_longer (node None (more t us)) r = omega (arith, type_longer t r, members_longer us (codes " -> " ++ type_then names t r))

    members_longer : (us : Trees (Option ℕ)) (r : List ℕ) → length r ≤ length (members_then names us r)
    members_longer none r = omega arith
    members_longer (more t us) r = omega (arith, type_longer t (others_then names us r), others_longer us r)

    others_longer : (us : Trees (Option ℕ)) (r : List ℕ) → length r ≤ length (others_then names us r)
    others_longer none r = omega arith
    others_longer (more t us) r = omega (arith, type_longer t (others_then names us r), others_longer us r)

  pub comma_shorter : (limit : ℕ) (bytes behind rest : List ℕ) (t : TypeTree) → IsTypeFront names limit bytes t behind → behind ≡ codes "," ++ rest → length rest < length bytes
  comma_shorter limit bytes behind rest t h e = omega (arith, type_longer t behind, ap length h.spelled, ap length e)
