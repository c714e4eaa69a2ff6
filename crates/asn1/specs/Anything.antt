-- A value of any type, kept as its encoding: ANY (X.208), or an open type (X.681, 14).
use Rattle.std.specs.Prelude.{◌≡◌, Option, option_map}
use Rattle.bcder.specs.declared.mode.Mode.{Mode}
use Rattle.bcder.specs.x690.Identifier.{Tag, IsValueTag}
use Rattle.bcder.specs.x690.Tree.{Tree}
use Rattle.bcder.specs.x690.Encoding.{IsEncoding}
use Rattle.bcder.specs.steps.Reading.{read_tree}
use Rattle.bcder.specs.calls.Captured.{Kept}

-- every tag that a value can have, whatever tag is asked for
abbrev pub Every : Tag → Tag → Type 0
Every asked t = IsValueTag t

-- the octets that are kept are the encoding of one value
pub record IsOneValue (k : Kept) : Type 0 where
  pub tree : Tree
  pub encodes : IsEncoding k.mode tree k.octets

-- and they are kept in this mode
pub record KeepsOne (mode : Mode) (k : Kept) : Type 0 where
  pub rules : k.mode ≡ mode
  pub one : IsOneValue k

-- the octets that are kept are the encoding of the value, in the mode
pub record KeepsValue (mode : Mode) (t : Tree) (k : Kept) : Type 0 where
  pub rules : k.mode ≡ mode
  pub encodes : IsEncoding mode t k.octets

-- the value that kept octets begin with
abbrev pub kept_value : Kept → Option Tree
kept_value k = option_map (λ t. t.0) (read_tree k.mode k.octets)
