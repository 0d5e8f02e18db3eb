-- The longest run of elements that pass a test, at the front of a list.
use Rattle.std.proofs.Common.{◌≡◌, suc, Bool, true, false, List, [], ◌∷◌, ◌++◌, length, take, drop, refl, ap, ◌∙◌, arith}
use Rattle.std.specs.List.{list_all, prefix_len}
use Rattle.std.proofs.lemmas.Bool.{and_parts}

module _ {A : Type 0} (p : A → Bool) where
  pub prefix_yes : (x : A) (xs : List A) → p x ≡ true → prefix_len p (x ∷ xs) ≡ suc (prefix_len p xs)
  prefix_yes x xs h = rw h (omega arith)

  pub prefix_no : (x : A) (xs : List A) → p x ≡ false → prefix_len p (x ∷ xs) ≡ 0
  prefix_no x xs h = rw h refl

  pub run_passes : (xs : List A) → list_all p (take (prefix_len p xs) xs) ≡ true
  run_passes [] = refl
  run_passes (x ∷ xs) = go (run_passes xs) (p x) refl
    where
      go : list_all p (take (prefix_len p xs) xs) ≡ true → (b : Bool) → p x ≡ b → list_all p (take (prefix_len p (x ∷ xs)) (x ∷ xs)) ≡ true
      go rest true h = rw (prefix_yes x xs h, h) rest
      go rest false h = rw (prefix_no x xs h) refl

  pub run_ends : (xs : List A) → prefix_len p (drop (prefix_len p xs) xs) ≡ 0
  run_ends [] = refl
  run_ends (x ∷ xs) = go (run_ends xs) (p x) refl
    where
      go : prefix_len p (drop (prefix_len p xs) xs) ≡ 0 → (b : Bool) → p x ≡ b → prefix_len p (drop (prefix_len p (x ∷ xs)) (x ∷ xs)) ≡ 0
      go rest true h = rw (prefix_yes x xs h) rest
      go rest false h = rw (prefix_no x xs h) (prefix_no x xs h)

  pub run_whole : (ws rest : List A) → list_all p ws ≡ true → prefix_len p rest ≡ 0 → prefix_len p (ws ++ rest) ≡ length ws
  run_whole [] rest all none = none
  run_whole (w ∷ ws) rest all none =
      let b = and_parts (p w) (list_all p ws) all in
      prefix_yes w (ws ++ rest) b.0 ∙ ap suc (run_whole ws rest b.1 none)
