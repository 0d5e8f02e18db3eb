-- What the function on void environments reads.
use Rattle.std.proofs.Common.{◌≡◌, refl, sym, ◌∙◌, ap, subst, ℕ, ◌<◌, true, List, [], ◌++◌, length, codes, Contains}
use Rattle.std.specs.List.{list_all}
use Rattle.std.proofs.lemmas.List.{append-nil, append_cancel_left}
use Rattle.hs_scheme.specs.Names.{NamesData}
use Rattle.hs_scheme.specs.Problem.{ProblemData}
use Rattle.hs_reader.specs.Tokens.{is_name_byte, EndsRun}
use Rattle.hs_table.specs.Entries.{Env, params_of}
use Rattle.hs_weak.specs.Void.{VoidData}
use Rattle.hs_text.specs.Canonical.{name_at, params_at}
use Rattle.hs_text.specs.Report.{env_text, void_text}
use Rattle.hs_cert.specs.Certificate.{AreNames, IsPair, pair_text}
use Rattle.hs_cert.specs.Front.{IsOfProblem, AreOfRules, sets_then, IsSetsFront, IsRuleFront}
use Rattle.hs_cert.proofs.Fronts.{run_split, word_all, same_number}
use Rattle.hs_cert.proofs.Reading.{name_among}
use Rattle.hs_cert.proofs.Sets.{env_spelled}
use Rattle.hs_cert.proofs.Environments.{same_sets}
use Rattle.hs_cert.proofs.Entries.{low_env, typed_env, nested_env, sets_env}

pair_spelled : (names : NamesData) (v : VoidData) → void_text names v ≡ codes "void " ++ (name_at names.rules v.rule ++ (codes " [" ++ sets_then names.states (params_at names.params v.rule) 0 v.env []))
pair_spelled names v =
    let params = params_at names.params v.rule in
    ap (λ (x : List ℕ). codes "void " ++ (name_at names.rules v.rule ++ (codes " " ++ x))) (sym (env_spelled names.states params v.env [] ∙ append-nil (env_text names.states params v.env)))

-- ---- the rule at the front

module _ (rules : List (List ℕ)) (are : AreNames rules) where
  -- what is left behind the word
  rule_left : (bytes one : List ℕ) (rule : ℕ) (rest : List ℕ) → bytes ≡ codes "void " ++ one → IsRuleFront rules bytes rule rest → one ≡ name_at rules rule ++ (codes " [" ++ rest)
  rule_left bytes one rule rest word h = append_cancel_left (codes "void ") one (name_at rules rule ++ (codes " [" ++ rest)) (sym word ∙ h.spelled)

  pub no_word : (bytes : List ℕ) → ((rest : List ℕ) → bytes ≡ codes "void " ++ rest → ⊥) → (rule : ℕ) (rest : List ℕ) → IsRuleFront rules bytes rule rest → ⊥
  no_word bytes nothing rule rest h = nothing _ h.spelled

  module _ (bytes one run behind : List ℕ) (word : bytes ≡ codes "void " ++ one) (whole : one ≡ run ++ behind) (all : list_all is_name_byte run ≡ true) (ends : EndsRun behind) where
    named : (rule : ℕ) (rest : List ℕ) → IsRuleFront rules bytes rule rest → (run ≡ name_at rules rule) × (behind ≡ codes " [" ++ rest)
    named rule rest h =
        run_split run (name_at rules rule) behind (codes " [" ++ rest) all (word_all rules are rule h.within) ends refl (sym whole ∙ rule_left bytes one rule rest word h)

    pub unknown_rule : (Contains rules run → ⊥) → (rule : ℕ) (rest : List ℕ) → IsRuleFront rules bytes rule rest → ⊥
    unknown_rule nowhere rule rest h =
        nowhere (subst (λ (w : List ℕ). Contains rules w) (sym (named rule rest h).0) (name_among rules rule h.within))

    pub no_bracket_there : ((rest : List ℕ) → behind ≡ codes " [" ++ rest → ⊥) → (rule : ℕ) (rest : List ℕ) → IsRuleFront rules bytes rule rest → ⊥
    no_bracket_there nothing rule rest h = nothing rest (named rule rest h).1

    pub rule_read : (rule : ℕ) (rest : List ℕ) → name_at rules rule ≡ run → rule < length rules → behind ≡ codes " [" ++ rest → IsRuleFront rules bytes rule rest
    rule_read rule rest at within bracket =
        record { spelled = word ∙ ap (λ (x : List ℕ). codes "void " ++ x) (whole ∙ (λ i. sym at i ++ bracket i)); within = within }

  pub same_rule : (bytes one other : List ℕ) (a b : ℕ) → IsRuleFront rules bytes a one → IsRuleFront rules bytes b other → (a ≡ b) × (one ≡ other)
  same_rule bytes one other a b f g =
      let n = named bytes (name_at rules a ++ (codes " [" ++ one)) (name_at rules a) (codes " [" ++ one) f.spelled refl (word_all rules are a f.within) refl b other g in
      (same_number rules are a b f.within g.within n.0, append_cancel_left (codes " [") one other n.1)

-- ---- a pair in its parts

module _ (p : ProblemData) (names rules : List (List ℕ)) (of_problem : IsOfProblem p names) (of_rules : AreOfRules p rules) where
  abbrev params : ℕ → List (List ℕ)
  params rule = params_at p.sorted.names.params rule

  spelled : (v : VoidData) → pair_text p v ≡ codes "void " ++ (name_at rules v.rule ++ (codes " [" ++ sets_then names (params v.rule) 0 v.env []))
  spelled v =
      pair_spelled p.sorted.names v
      ∙ (λ i. codes "void " ++ (name_at (sym of_rules.is i) v.rule ++ (codes " [" ++ sets_then (sym of_problem.is i) (params v.rule) 0 v.env [])))

  rule_count : length rules ≡ length p.sorted.scheme.rules
  rule_count = ap length of_rules.is ∙ of_rules.each

  record Parts (line : List ℕ) (v : VoidData) : Type 0 where
    rule : IsRuleFront rules line v.rule (sets_then names (params v.rule) 0 v.env [])
    sets : IsSetsFront names (params v.rule) (params_of p v.rule) (sets_then names (params v.rule) 0 v.env []) v.env []

  parts : (line : List ℕ) (v : VoidData) → IsPair p line v → Parts line v
  parts line v h = record {
    rule = record { spelled = h.is ∙ spelled v; within = subst (λ n. v.rule < n) (sym rule_count) h.shape.rule };
    sets = record { spelled = refl; long = h.shape.env.long; sets = low_env p names of_problem v.env h.shape.env.sets h.shape.types h.nested };
  }

  pub whole : (line one two : List ℕ) (rule : ℕ) (env : Env) → IsRuleFront rules line rule one → IsSetsFront names (params rule) (params_of p rule) one env two → two ≡ [] → IsPair p line (record { rule = rule; env = env })
  whole line one two rule env front sets end = record {
    is =
        front.spelled
        ∙ ap (λ (x : List ℕ). codes "void " ++ (name_at rules rule ++ (codes " [" ++ x))) (sets.spelled ∙ ap (λ (x : List ℕ). sets_then names (params rule) 0 env x) end)
        ∙ sym (spelled (record { rule = rule; env = env }));
    shape = record {
      rule = subst (λ n. rule < n) rule_count front.within;
      env = record { long = sets.long; sets = sets_env names env sets.sets };
      types = typed_env p names of_problem env sets.sets;
    };
    nested = nested_env names env sets.sets;
  }

  -- ---- what stands against every pair

  module _ (states : AreNames names) (are : AreNames rules) (line : List ℕ) where
    pub no_rule : ((rule : ℕ) (rest : List ℕ) → IsRuleFront rules line rule rest → ⊥) → (v : VoidData) → IsPair p line v → ⊥
    no_rule nothing v h = nothing v.rule _ (parts line v h).rule

    module _ (one : List ℕ) (rule : ℕ) (front : IsRuleFront rules line rule one) where
      sets_of : (v : VoidData) → IsPair p line v → (v.rule ≡ rule) × IsSetsFront names (params rule) (params_of p rule) one v.env []
      sets_of v h =
          let r = parts line v h in
          let same = same_rule rules are line _ one v.rule rule r.rule front in (
            same.0,
            record {
              spelled = sym same.1 ∙ ap (λ n. sets_then names (params n) 0 v.env []) same.0;
              long = r.sets.long ∙ ap (λ n. params_of p n) same.0;
              sets = r.sets.sets;
            },
          )

      pub no_env : ((env : Env) (rest : List ℕ) → IsSetsFront names (params rule) (params_of p rule) one env rest → ⊥) → (v : VoidData) → IsPair p line v → ⊥
      no_env nothing v h = nothing v.env [] (sets_of v h).1

      pub not_at_end : (two : List ℕ) (env : Env) → IsSetsFront names (params rule) (params_of p rule) one env two → (two ≡ [] → ⊥) → (v : VoidData) → IsPair p line v → ⊥
      not_at_end two env sets some v h =
          some (same_sets names (params rule) states (params_of p rule) one two [] env v.env sets (sets_of v h).1).1

  -- the text of a pair determines it
  pub same_pair : AreNames names → AreNames rules → (line : List ℕ) (a b : VoidData) → IsPair p line a → IsPair p line b → a ≡ b
  same_pair states are line a b f g =
      let r = parts line a f in
      let s = sets_of states are line _ a.rule r.rule b g in
      let same = same_sets names (params a.rule) states (params_of p a.rule) _ [] [] a.env b.env r.sets s.1 in
      λ i. record { rule = sym s.0 i; env = same.0 i }
