-- What the calls of a source have answered, whoever the source is.
use Rattle.std.specs.Prelude.{◌≡◌, ◌<◌, ◌≤◌, ◌+◌, ℕ, zero, suc, Bool, true, false, ◌||◌, Option, Some, None, List, [], ◌∷◌, ◌++◌, length}
use Rattle.std.specs.Io.KnownBytes.{prepend_known}

pub record Reading : Type 0 where
  -- the name of the last `start` that answered `Ok`
  pub begun : Option (List ℕ)
  -- how many starts answered `Ok`
  pub starts : ℕ
  -- the bytes that were handed out since the last of them, in order
  pub given : List ℕ
  -- whether a read met the end since then
  pub ended : Bool
  -- whether a read answered `Ok` behind that end
  pub behind : Bool

-- before the first call
abbrev pub unread : Reading
unread = record { begun = None; starts = 0; given = []; ended = false; behind = false }

-- after a `start` that answered `Ok`
abbrev pub started : List ℕ → Reading → Reading
started name r =
    record { begun = Some name; starts = r.starts + 1; given = []; ended = false; behind = false }

-- a read that gives nothing, though there is room, meets the end
abbrev pub meets_end : (room : ℕ) → List ℕ → Bool
meets_end zero bytes = false
meets_end (suc room) [] = true
meets_end (suc room) (b ∷ bytes) = false

-- after a read with so much room that gave these bytes
abbrev pub handed : (room : ℕ) → List ℕ → Reading → Reading
handed room bytes r = record r {
  given = r.given ++ bytes;
  ended = r.ended || meets_end room bytes;
  behind = r.behind || r.ended;
}

-- Some reads gave these bytes, and lost them from what is left, where that is told. `met` says whether
-- the end was met by then.
pub record ReadsOn (old : Reading) (old_left : Option (List ℕ)) (bytes : List ℕ) (met : Bool) (new : Reading) (new_left : Option (List ℕ)) : Type 0 where
  pub begun : new.begun ≡ old.begun
  pub starts : new.starts ≡ old.starts
  pub given : new.given ≡ old.given ++ bytes
  pub ended : new.ended ≡ met
  -- nothing was read behind the end
  pub behind : old.ended ≡ false → new.behind ≡ old.behind
  pub left : old_left ≡ prepend_known bytes new_left

-- at most `limit` bytes were handed out, and no end was met
abbrev pub ReadsWithin : ℕ → Reading → Option (List ℕ) → Reading → Option (List ℕ) → Type 0
ReadsWithin limit old old_left new new_left =
    (bytes : List ℕ) × (length bytes ≤ limit) × ReadsOn old old_left bytes old.ended new new_left

-- more than `limit` bytes were handed out, and no end was met
abbrev pub ReadsMore : ℕ → Reading → Option (List ℕ) → Reading → Option (List ℕ) → Type 0
ReadsMore limit old old_left new new_left =
    (bytes : List ℕ) × (limit < length bytes) × ReadsOn old old_left bytes old.ended new new_left
