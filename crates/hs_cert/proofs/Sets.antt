-- Environments: their text determines them, set by set; and the text of an entry in pieces.
use Rattle.std.proofs.Common.{◌≡◌, refl, sym, ◌∙◌, ap, ℕ, suc, ◌+◌, ◌≤◌, ◌==◌, List, [], ◌∷◌, ◌++◌, length, map, codes, decimal, Option, Some, None, All, if◌then◌else◌, append_assoc, arith}
use Rattle.std.specs.List.{flat_map, enumerate_from, join_by}
use Rattle.std.proofs.lemmas.Bool.{ne_eqb}
use Rattle.std.proofs.lemmas.List.{append_cancel_left}
use Rattle.hs_scheme.specs.Tree.{Tree, Trees, node, none, more, forest, children, children-forest}
use Rattle.hs_table.specs.Types.{TypeTree, AreTypes}
use Rattle.hs_table.specs.Entries.{Env, EntryData}
use Rattle.hs_text.specs.Canonical.{name_at, params_at}
use Rattle.hs_text.specs.Report.{braced, type_text, type_texts, set_text, binding_text, env_text, entry_text}
use Rattle.hs_text.proofs.Types.{type_texts-forest}
use Rattle.hs_scheme.specs.Names.{NamesData}
use Rattle.hs_cert.specs.Certificate.{AreNames}
use Rattle.hs_cert.specs.Front.{type_then, members_then, others_then, label_text, sets_then, IsLowSet}
use Rattle.hs_cert.proofs.Fronts.{all_behind}
use Rattle.hs_cert.proofs.Unique.{members_unique}

-- ---- the texts in pieces

module _ (names : List (List ℕ)) where
  mutual
    pub type_spelled : (t : Tree (Option ℕ)) (r : List ℕ) → type_then names t r ≡ type_text names t ++ r
    type_spelled (node (Some q) us) r = refl
    type_spelled (node None none) r = refl
    type_spelled (node None (more t us)) r =
        ap (λ (x : List ℕ). codes "{" ++ x) (members_spelled us (codes " -> " ++ type_then names t r) ∙ ap (λ (x : List ℕ). join_by (λ y. y) (codes ",") (type_texts names us) ++ (codes "} -> " ++ x)) (type_spelled t r))
        ∙ sym (append_assoc (braced (type_texts names us)) (codes " -> " ++ type_text names t) r ∙ ap (λ (x : List ℕ). codes "{" ++ x) (append_assoc (join_by (λ y. y) (codes ",") (type_texts names us)) (codes "}") (codes " -> " ++ (type_text names t ++ r))))

    pub members_spelled : (us : Trees (Option ℕ)) (r : List ℕ) → members_then names us r ≡ join_by (λ y. y) (codes ",") (type_texts names us) ++ (codes "}" ++ r)
    members_spelled none r = refl
    members_spelled (more t us) r =
        type_spelled t (others_then names us r)
        ∙ (ap (λ (x : List ℕ). type_text names t ++ x) (others_spelled us r)
        ∙ sym (append_assoc (type_text names t) (flat_map (λ y. codes "," ++ y) (type_texts names us)) (codes "}" ++ r)))

    others_spelled : (us : Trees (Option ℕ)) (r : List ℕ) → others_then names us r ≡ flat_map (λ y. codes "," ++ y) (type_texts names us) ++ (codes "}" ++ r)
    others_spelled none r = refl
    others_spelled (more t us) r =
        ap (λ (x : List ℕ). codes "," ++ x)
        (type_spelled t (others_then names us r)
        ∙ (ap (λ (x : List ℕ). type_text names t ++ x) (others_spelled us r)
        ∙ sym (append_assoc (type_text names t) (flat_map (λ y. codes "," ++ y) (type_texts names us)) (codes "}" ++ r))))

  set_spelled : (s : List TypeTree) (r : List ℕ) → codes "{" ++ members_then names (forest s) r ≡ set_text names s ++ r
  set_spelled s r =
      ap (λ (x : List ℕ). codes "{" ++ x)
      (members_spelled (forest s) r
      ∙ (ap (λ (ts : List (List ℕ)). join_by (λ y. y) (codes ",") ts ++ (codes "}" ++ r)) (type_texts-forest names s)
      ∙ sym (append_assoc (join_by (λ y. y) (codes ",") (map (type_text names) s)) (codes "}") r)))

  module _ (params : List (List ℕ)) where
    bound : (k : ℕ) (s : List TypeTree) (r : List ℕ) → name_at params k ++ (codes ":{" ++ members_then names (forest s) r) ≡ binding_text names params (k, s) ++ r
    bound k s r =
        ap (λ (x : List ℕ). name_at params k ++ (codes ":" ++ x)) (set_spelled s r)
        ∙ sym (append_assoc (name_at params k) (codes ":" ++ set_text names s) r)

    label_first : (s : List TypeTree) (r : List ℕ) → label_text params 0 ++ members_then names (forest s) r ≡ binding_text names params (0, s) ++ r
    label_first s r = append_assoc (name_at params 0) (codes ":{") (members_then names (forest s) r) ∙ bound 0 s r

    label_next : (k : ℕ) (s : List TypeTree) (r : List ℕ) → label_text params (suc k) ++ members_then names (forest s) r ≡ (codes "; " ++ binding_text names params (suc k, s)) ++ r
    label_next k s r =
        ap (λ b. ((if b then [] else codes "; ") ++ (name_at params (suc k) ++ codes ":{")) ++ members_then names (forest s) r) (ne_eqb (suc k) 0 (λ e. omega (arith, e)))
        ∙ ap (λ (x : List ℕ). codes "; " ++ x) (append_assoc (name_at params (suc k)) (codes ":{") (members_then names (forest s) r) ∙ bound (suc k) s r)

    next_sets : (k j : ℕ) (env : Env) (r : List ℕ) → k ≡ suc j → sets_then names params k env r ≡ flat_map (λ b. codes "; " ++ binding_text names params b) (enumerate_from k env) ++ (codes "]" ++ r)
    next_sets k j [] r e = refl
    next_sets k j (s ∷ env) r e =
        let piece = λ (b : ℕ × List TypeTree). codes "; " ++ binding_text names params b in
        ap (λ (x : List ℕ). label_text params k ++ members_then names (forest s) x) (next_sets (k + 1) k env r (omega arith))
        ∙ (ap (λ m. label_text params m ++ members_then names (forest s) (flat_map piece (enumerate_from (k + 1) env) ++ (codes "]" ++ r))) e
        ∙ (label_next j s (flat_map piece (enumerate_from (k + 1) env) ++ (codes "]" ++ r))
        ∙ (ap (λ m. piece (m, s) ++ (flat_map piece (enumerate_from (k + 1) env) ++ (codes "]" ++ r))) (sym e)
        ∙ sym (append_assoc (piece (k, s)) (flat_map piece (enumerate_from (k + 1) env)) (codes "]" ++ r)))))

    pub env_spelled : (env : Env) (r : List ℕ) → codes "[" ++ sets_then names params 0 env r ≡ env_text names params env ++ r
    env_spelled [] r = refl
    env_spelled (s ∷ env) r =
        let others = flat_map (λ b. codes "; " ++ binding_text names params b) (enumerate_from 1 env) in
        ap (λ (x : List ℕ). codes "[" ++ x)
        (ap (λ (x : List ℕ). label_text params 0 ++ members_then names (forest s) x) (next_sets 1 0 env r refl)
        ∙ (label_first s (others ++ (codes "]" ++ r))
        ∙ (sym (append_assoc (binding_text names params (0, s)) others (codes "]" ++ r))
        ∙ sym (append_assoc (binding_text names params (0, s) ++ others) (codes "]") r))))

-- the text of an entry at a point of this rule
pub entry_spelled : (names : NamesData) (rule : ℕ) (e : EntryData)
    → entry_text names rule e ≡ decimal e.point ++ (codes " " ++ (name_at names.rules rule ++ (codes " [" ++ sets_then names.states (params_at names.params rule) 0 e.env (codes " " ++ type_text names.states e.ty))))
entry_spelled names rule e =
    let params = params_at names.params rule in
    let ty = codes " " ++ type_text names.states e.ty in
    append_assoc (decimal e.point) (codes " " ++ (name_at names.rules rule ++ codes " ")) (env_text names.states params e.env ++ ty)
    ∙ ap (λ (x : List ℕ). decimal e.point ++ (codes " " ++ x))
    (append_assoc (name_at names.rules rule) (codes " ") (env_text names.states params e.env ++ ty)
    ∙ ap (λ (x : List ℕ). name_at names.rules rule ++ (codes " " ++ x)) (sym (env_spelled names.states params e.env ty)))

-- ---- an environment that is read set by set

module _ (names params : List (List ℕ)) where
  -- these sets, the first of them that of parameter k
  abbrev pub labelled_then : ℕ → Env → List ℕ → List ℕ
  labelled_then k [] r = r
  labelled_then k (s ∷ env) r = label_text params k ++ members_then names (forest s) (labelled_then (k + 1) env r)

  pub labelled_more : (k m : ℕ) (env : Env) (s : List TypeTree) (r : List ℕ) → m ≡ k + length env
      → labelled_then k env (label_text params m ++ members_then names (forest s) r) ≡ labelled_then k (env ++ s ∷ []) r
  labelled_more k m [] s r e = ap (λ n. label_text params n ++ members_then names (forest s) r) (omega (arith, e))
  labelled_more k m (u ∷ env) s r e =
      ap (λ (x : List ℕ). label_text params k ++ members_then names (forest u) x) (labelled_more (k + 1) m env s r (omega (arith, e)))

  pub labelled_all : (k : ℕ) (env : Env) (r : List ℕ) → labelled_then k env (codes "]" ++ r) ≡ sets_then names params k env r
  labelled_all k [] r = refl
  labelled_all k (s ∷ env) r = ap (λ (x : List ℕ). label_text params k ++ members_then names (forest s) x) (labelled_all (k + 1) env r)

  -- what is left of an environment behind some of its sets
  pub record SetsLeft (k : ℕ) (done env : Env) (bytes rest : List ℕ) : Type 0 where
    pub others : Env
    pub split : env ≡ done ++ others
    pub spelled : (m : ℕ) → m ≡ k + length done → bytes ≡ sets_then names params m others rest

module _ (names params : List (List ℕ)) (are : AreNames names) where
  shapes_at : (s : List TypeTree) (env : Env) → All (IsLowSet (length names) 1000) (s ∷ env) → AreTypes (length names) (forest s)
  shapes_at s env h = (h 0 [] (omega arith)).shape

  pub sets_left : (k : ℕ) (done env : Env) (bytes rest : List ℕ) → All (IsLowSet (length names) 1000) done → All (IsLowSet (length names) 1000) env → length done ≤ length env
      → labelled_then names params k done bytes ≡ sets_then names params k env rest → SetsLeft names params k done env bytes rest
  sets_left k [] env bytes rest a b few e =
      record { others = env; split = refl; spelled = λ m h. e ∙ ap (λ n. sets_then names params n env rest) (omega (arith, h)) }
  sets_left k (s ∷ done) [] bytes rest a b few e = absurd (omega (arith, few))
  sets_left k (s ∷ done) (u ∷ env) bytes rest a b few e =
      let m = members_unique names are (forest s) (forest u) (labelled_then names params (k + 1) done bytes) (sets_then names params (k + 1) env rest) (shapes_at s done a) (shapes_at u env b)
      (append_cancel_left (label_text params k) _ _ e) in
      let same : s ≡ u = sym (children-forest s) ∙ (ap children m.0 ∙ children-forest u) in
      let l = sets_left (k + 1) done env bytes rest (all_behind (IsLowSet (length names) 1000) s done a) (all_behind (IsLowSet (length names) 1000) u env b) (omega (arith, few)) m.1 in
      record { others = l.others; split = (λ i. sym same i ∷ l.split i); spelled = λ n h. l.spelled n (omega (arith, h)) }

-- ---- the parts of a label

module _ (params : List (List ℕ)) (k : ℕ) (bytes : List ℕ) where
  abbrev sep : List ℕ
  sep = if k == 0 then [] else codes "; "

  label_parts : (rest : List ℕ) → label_text params k ++ rest ≡ sep ++ (name_at params k ++ (codes ":{" ++ rest))
  label_parts rest = append_assoc sep (name_at params k ++ codes ":{") rest ∙ ap (λ (x : List ℕ). sep ++ x) (append_assoc (name_at params k) (codes ":{") rest)

  pub label_begins : (rest before : List ℕ) → before ≡ sep → bytes ≡ label_text params k ++ rest → bytes ≡ before ++ (name_at params k ++ (codes ":{" ++ rest))
  label_begins rest before is e = e ∙ (label_parts rest ∙ ap (λ (x : List ℕ). x ++ (name_at params k ++ (codes ":{" ++ rest))) (sym is))

  pub label_named : (one rest before name : List ℕ) → before ≡ sep → name ≡ name_at params k → bytes ≡ before ++ one → bytes ≡ label_text params k ++ rest → one ≡ name ++ (codes ":{" ++ rest)
  label_named one rest before name is named first e =
      append_cancel_left before one (name_at params k ++ (codes ":{" ++ rest)) (sym first ∙ label_begins rest before is e) ∙ ap (λ (x : List ℕ). x ++ (codes ":{" ++ rest)) (sym named)

  pub label_marked : (one two rest before name : List ℕ) → before ≡ sep → name ≡ name_at params k → bytes ≡ before ++ one → one ≡ name ++ two → bytes ≡ label_text params k ++ rest → two ≡ codes ":{" ++ rest
  label_marked one two rest before name is named first second e =
      append_cancel_left name two (codes ":{" ++ rest) (sym second ∙ label_named one rest before name is named first e)

  pub label_gone : (one two three before name : List ℕ) → before ≡ sep → name ≡ name_at params k → bytes ≡ before ++ one → one ≡ name ++ two → two ≡ codes ":{" ++ three → bytes ≡ label_text params k ++ three
  label_gone one two three before name is named first second third =
      first ∙ ((λ i. is i ++ (second ∙ (λ j. named j ++ third j)) i) ∙ sym (label_parts three))
