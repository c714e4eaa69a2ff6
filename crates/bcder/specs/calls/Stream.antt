-- A source in the view of clauses: the octets to come, numbers, and what no call of it changes.
use Rattle.std.specs.Prelude.{◌≡◌, ℕ, ◌+◌, ◌-◌, ◌^◌, ◌<◌, ◌≤◌, ◌⊎◌, List, [], ◌∷◌, length, take, drop, min, Option, Some, None}
use Rattle.bcder.specs.x690.Identifier.{AreOctets}

-- what one layer of a source holds, which no call changes
pub record Layer : Type 0 where
  pub octets : List ℕ
  pub number : ℕ

pub record Stream : Type 0 where
  -- the octets to come, and how many of them are at hand
  pub rest : List ℕ
  pub avail : ℕ
  -- how often the source failed; the count stops at 2 ^ 64 - 1
  pub faults : ℕ
  -- where the octets to come begin, for messages
  pub position : ℕ
  -- what no call changes, the outermost layer first
  pub kept : List Layer

-- the rest is octets that a `usize` can count, and what is at hand is part of it
pub record IsSound (s : Stream) : Type 0 where
  pub octets : AreOctets s.rest
  pub size : length s.rest < 2 ^ 64
  pub at_hand : s.avail ≤ length s.rest

-- a count of failures grew, or is at its last value
pub record Grew (old new : ℕ) : Type 0 where
  pub no_smaller : old ≤ new
  pub larger_or_last : (old < new) ⊎ (new ≡ 2 ^ 64 - 1)

-- asked for n octets, a source returns k: that many are at hand, and fewer than n only if these are all
pub record Provides (n k : ℕ) (s : Stream) : Type 0 where
  pub count : s.avail ≡ k
  pub short : k < n → k ≡ length s.rest

-- the position n further on; it stops at the last one
abbrev pub pos_after : ℕ → ℕ → ℕ
pos_after p n = min (p + n) (2 ^ 64 - 1)

-- octets that are all at hand, from position 0
abbrev pub at_hand : List ℕ → Stream
at_hand w = record { rest = w; avail = length w; faults = 0; position = 0; kept = [] }

-- ---- limits

-- the octets up to the limit
abbrev pub cut : Option ℕ → List ℕ → List ℕ
cut None xs = xs
cut (Some n) xs = take n xs

-- the smaller of a count and the limit
abbrev pub capped : Option ℕ → ℕ → ℕ
capped None n = n
capped (Some m) n = min m n

-- the octets past the limit, and how far the limit passes their end, counted from 1, or 0 for no limit
abbrev pub past : Option ℕ → List ℕ → Layer
past None xs = record { octets = []; number = 0 }
past (Some n) xs = record { octets = drop n xs; number = n - length xs + 1 }

-- a source up to a limit
abbrev pub limited : Option ℕ → Stream → Stream
limited limit s = record {
  rest = cut limit s.rest;
  avail = capped limit s.avail;
  faults = s.faults;
  position = s.position;
  kept = past limit s.rest ∷ s.kept;
}

-- a limit that isn't larger than the old one, or removed
abbrev pub IsNoLooser : Option ℕ → Option ℕ → Type 0
IsNoLooser limit None = Unit {0}
IsNoLooser None (Some n) = ⊥
IsNoLooser (Some m) (Some n) = m ≤ n

-- the limit, or the given number if there is none
abbrev pub limit_or : Option ℕ → ℕ → ℕ
limit_or None n = n
limit_or (Some m) n = m

-- nothing is left up to the limit, or at all if there is none
abbrev pub IsExhausted : Option ℕ → List ℕ → Type 0
IsExhausted None xs = xs ≡ []
IsExhausted (Some n) xs = n ≡ 0

-- the smaller of two limits
abbrev pub smaller_limit : Option ℕ → Option ℕ → Option ℕ
smaller_limit None m = m
smaller_limit (Some n) None = Some n
smaller_limit (Some n) (Some m) = Some (min n m)

-- what is left of a limit after n octets
abbrev pub limit_left : Option ℕ → ℕ → Option ℕ
limit_left None n = None
limit_left (Some m) n = Some (m - n)

-- ---- borrows

-- a source behind a borrow, whose name is kept
abbrev pub borrowed : ℕ → Stream → Stream
borrowed name s = record {
  rest = s.rest;
  avail = s.avail;
  faults = s.faults;
  position = s.position;
  kept = record { octets = []; number = name } ∷ s.kept;
}

-- a view of a borrowed source that begins n octets into it
abbrev pub ahead : ℕ → ℕ → Stream → Stream
ahead name n s = record {
  rest = drop n s.rest;
  avail = s.avail - n;
  faults = s.faults;
  position = pos_after s.position n;
  kept = record { octets = s.rest; number = name } ∷ record { octets = []; number = n - length s.rest } ∷ s.kept;
}
