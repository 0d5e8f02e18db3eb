-- What the function on environments reads.
use Rattle.std.proofs.Common.{◌≡◌, sym, ◌∙◌, ap, subst, ℕ, zero, suc, ◌+◌, ◌<◌, ◌≤◌, List, [], ◌∷◌, ◌++◌, length, codes, All, arith, length-append}
use Rattle.std.proofs.lemmas.List.{append_cancel_left, append-nil}
use Rattle.hs_scheme.specs.Tree.{forest}
use Rattle.hs_table.specs.Types.{TypeTree}
use Rattle.hs_table.specs.Entries.{Env}
use Rattle.hs_cert.specs.Certificate.{AreNames}
use Rattle.hs_cert.specs.Front.{members_then, IsMembersFront, label_text, sets_then, IsLowSet, IsSetsFront}
use Rattle.hs_cert.proofs.Fronts.{all_behind}
use Rattle.hs_cert.proofs.Sets.{labelled_then, labelled_more, labelled_all, SetsLeft, sets_left}

pub all_push : {A : Type 0} (P : A → Type 0) (xs : List A) (x : A) → All P xs → P x → All P (xs ++ x ∷ [])
all_push P [] x h p zero d lt = p
all_push P [] x h p (suc k) d lt = absurd (omega (arith, lt))
all_push P (y ∷ xs) x h p zero d lt = h 0 d (omega arith)
all_push P (y ∷ xs) x h p (suc k) d lt = all_push P xs x (all_behind P y xs h) p k d (omega (arith, lt))

pub all_part : {A : Type 0} (P : A → Type 0) (xs ys : List A) → All P (xs ++ ys) → All P ys
all_part P [] ys h = h
all_part P (x ∷ xs) ys h = all_part P xs ys (all_behind P x (xs ++ ys) h)

pub all_front : {A : Type 0} (P : A → Type 0) (xs ys : List A) → All P (xs ++ ys) → All P xs
all_front P [] ys h k d lt = absurd (omega (arith, lt))
all_front P (x ∷ xs) ys h zero d lt = h 0 d (omega arith)
all_front P (x ∷ xs) ys h (suc k) d lt = all_front P xs ys (all_behind P x (xs ++ ys) h) k d (omega (arith, lt))

module _ (names params : List (List ℕ)) where
  -- these sets were read
  pub record SetsRead (all : List ℕ) (env : Env) (bytes : List ℕ) : Type 0 where
    pub spelled : all ≡ labelled_then names params 0 env bytes
    pub sets : All (IsLowSet (length names) 1000) env

  pub sets_next : (all bytes behind rest : List ℕ) (k : ℕ) (env : Env) (s : List TypeTree) → SetsRead all env bytes → k ≡ length env → bytes ≡ label_text params k ++ behind
      → IsMembersFront names 1000 behind s rest → SetsRead all (env ++ s ∷ []) rest
  sets_next all bytes behind rest k env s r at label m =
      record {
        spelled =
            r.spelled ∙ (ap (labelled_then names params 0 env) (label ∙ ap (λ (x : List ℕ). label_text params k ++ x) m.spelled)
            ∙ labelled_more names params 0 k env s rest (omega (arith, at)));
        sets = all_push (IsLowSet (length names) 1000) env s r.sets (record { shape = m.shape; low = m.low; set = m.set });
      }

  pub sets_all : (count : ℕ) (all bytes rest : List ℕ) (env : Env) → SetsRead all env bytes → length env ≡ count → bytes ≡ codes "]" ++ rest → IsSetsFront names params count all env rest
  sets_all count all bytes rest env r long bracket =
      record {
        spelled = r.spelled ∙ (ap (labelled_then names params 0 env) bracket ∙ labelled_all names params 0 env rest);
        long = long;
        sets = r.sets;
      }

  module _ (are : AreNames names) (all bytes : List ℕ) (env : Env) (read : SetsRead all env bytes) (count : ℕ) where
    left : (whole : Env) (rest : List ℕ) → length env ≤ count → IsSetsFront names params count all whole rest → SetsLeft names params 0 env whole bytes rest
    left whole rest few h = sets_left names params are 0 env whole bytes rest read.sets h.sets (omega (arith, few, h.long)) (sym read.spelled ∙ h.spelled)

    -- a set is still to come
    pub record NextSet (rest : List ℕ) : Type 0 where
      pub s : List TypeTree
      pub others : List ℕ
      pub spelled : (k : ℕ) → k ≡ length env → bytes ≡ label_text params k ++ members_then names (forest s) others
      pub low : IsLowSet (length names) 1000 s

    pub next_set : (whole : Env) (rest : List ℕ) → length env < count → IsSetsFront names params count all whole rest → NextSet rest
    next_set whole rest few h = let l = left whole rest (omega (arith, few)) h in go l.others l.split l.spelled
      where
        go : (others : Env) → whole ≡ env ++ others → ((m : ℕ) → m ≡ 0 + length env → bytes ≡ sets_then names params m others rest) → NextSet rest
        go [] e spelled = absurd (omega (arith, few, h.long, ap length e, length-append env []))
        go (s ∷ others) e spelled =
            record {
              s = s;
              others = sets_then names params (length env + 1) others rest;
              spelled = λ k at. spelled k (omega (arith, at)) ∙ ap (λ n. label_text params k ++ members_then names (forest s) (sets_then names params (n + 1) others rest)) at;
              low = all_part (IsLowSet (length names) 1000) env (s ∷ others) (subst (All (IsLowSet (length names) 1000)) e h.sets) 0 [] (omega arith);
            }

    pub no_label : (k : ℕ) → k ≡ length env → k < count → ((rest : List ℕ) → bytes ≡ label_text params k ++ rest → ⊥) → (whole : Env) (rest : List ℕ) → IsSetsFront names params count all whole rest → ⊥
    no_label k at few nothing whole rest h = let n = next_set whole rest (omega (arith, at, few)) h in nothing _ (n.spelled k at)

    pub no_set_there : (k : ℕ) (behind : List ℕ) → k ≡ length env → k < count → bytes ≡ label_text params k ++ behind
        → ((s : List TypeTree) (rest : List ℕ) → IsMembersFront names 1000 behind s rest → ⊥) → (whole : Env) (rest : List ℕ) → IsSetsFront names params count all whole rest → ⊥
    no_set_there k behind at few label nothing whole rest h =
        let n = next_set whole rest (omega (arith, at, few)) h in
        nothing n.s n.others (record {
          spelled = append_cancel_left (label_text params k) behind (members_then names (forest n.s) n.others) (sym label ∙ n.spelled k at);
          shape = n.low.shape;
          low = n.low.low;
          set = n.low.set;
        })

    pub no_bracket : length env ≡ count → ((rest : List ℕ) → bytes ≡ codes "]" ++ rest → ⊥) → (whole : Env) (rest : List ℕ) → IsSetsFront names params count all whole rest → ⊥
    no_bracket long nothing whole rest h = let l = left whole rest (omega (arith, long)) h in go l.others l.split l.spelled
      where
        go : (others : Env) → whole ≡ env ++ others → ((m : ℕ) → m ≡ 0 + length env → bytes ≡ sets_then names params m others rest) → ⊥
        go [] e spelled = nothing rest (spelled (length env) (omega arith))
        go (s ∷ others) e spelled = omega (arith, long, h.long, ap length e, length-append env (s ∷ others))

  -- one environment stands at a front
  pub same_sets : AreNames names → (count : ℕ) (bytes one other : List ℕ) (a b : Env) → IsSetsFront names params count bytes a one → IsSetsFront names params count bytes b other → (a ≡ b) × (one ≡ other)
  same_sets are count bytes one other a b f g =
      let read : SetsRead bytes a (codes "]" ++ one) = record { spelled = f.spelled ∙ sym (labelled_all names params 0 a one); sets = f.sets } in
      let l = left are bytes (codes "]" ++ one) a read count b other (omega (arith, f.long)) g in go l.others l.split l.spelled
    where
      go : (others : Env) → b ≡ a ++ others → ((m : ℕ) → m ≡ 0 + length a → codes "]" ++ one ≡ sets_then names params m others other) → (a ≡ b) × (one ≡ other)
      go [] e spelled = (sym (e ∙ append-nil a), append_cancel_left (codes "]") one other (spelled (length a) (omega arith)))
      go (s ∷ others) e spelled = absurd (omega (arith, f.long, g.long, ap length e, length-append a (s ∷ others)))
