-- The octets of a string as a source.
use Rattle.std.specs.Prelude.{◌≡◌, ℕ, ◌≤◌, ◌⊎◌, List, [], ◌++◌, length, drop, Bool, IsTrue, Option, None, Some}
use Rattle.std.specs.List.{concat}
use Rattle.bcder.specs.calls.StringOctets.{StringOctets, whole, cut, octets_of}
use Rattle.bcder.specs.calls.Stream.{Stream}

-- octets in a block, and whether the segments to come are in the same one
pub record InBlock : Type 0 where
  pub block : List ℕ
  pub octets : List ℕ
  pub is_shared : Bool

-- segments to come: the octets that hold them, and those of each
pub record ToCome : Type 0 where
  pub octets : List ℕ
  pub parts : List (List ℕ)

-- the octets that hold the segments to come, or others if there can be none
abbrev pub block_behind : List ℕ → Option ToCome → List ℕ
block_behind w None = w
block_behind w (Some behind) = behind.octets

-- octets that are said to share a block with the segments to come do share it
abbrev pub SharesBlock : InBlock → Option ToCome → Type 0
SharesBlock front behind = IsTrue front.is_shared → front.block ≡ block_behind front.block behind

-- the octets of the parts after the first one, if there can be any
abbrev pub all_behind : Option ToCome → List ℕ
all_behind None = []
all_behind (Some behind) = concat behind.parts

-- how many octets of a string are at hand before any are asked for: those that came in one piece
abbrev pub front_size : StringOctets → ℕ
front_size (whole w) = length w
front_size (cut c ps) = 0

-- the octets of a string, as a source
abbrev pub string_stream : StringOctets → Stream
string_stream s = record { rest = octets_of s; avail = front_size s; faults = 0; position = 0; kept = [] }

-- the first n parts after `front` were joined to it in one block, which has as many octets as were asked for, or all
pub record IsJoined (front : List ℕ) (ps : List (List ℕ)) (asked : ℕ) (block : List ℕ) (n : ℕ) : Type 0 where
  pub same : block ++ concat (drop n ps) ≡ front ++ concat ps
  pub within : n ≤ length ps
  pub no_fewer : length front ≤ length block
  pub enough : (asked ≤ length block) ⊎ (drop n ps ≡ [])
