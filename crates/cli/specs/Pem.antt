-- Blocks of text (RFC 7468).
use Rattle.std.specs.Prelude.{◌≡◌, ◌≢◌, ◌<◌, ◌≤◌, ◌⊎◌, ℕ, Bool, true, false, List, [], ◌∷◌, ◌++◌, length, reverse, codes, nat_eq, ◌||◌}
use Rattle.std.specs.Prelude.{if◌then◌else◌, Option, Some, None, Ok, Err, Result, MatchResult, ⊤}
use lib.Pointwise.{pointwise}
use Rattle.std.specs.Borrow.{Bor}
use Rattle.std.specs.Str.{IsTrimAscii, IsTrimAsciiEnd}
use Rattle.cli.specs.declared.form.Form.{Form}
use Rattle.cli.specs.declared.form.Form.TheVariants as form
use Rattle.cli.specs.declared.pem.Block.{Block}
use Rattle.cli.specs.declared.pem.BlockError.{BlockError}
use Rattle.cli.specs.declared.pem.BlockError.TheVariants as error
use Rattle.cli.specs.declared.pem.Unended.{Unended}
use Rattle.cli.specs.declared.pem.Unended.TheVariants as unended
use Rattle.cli.specs.Spelling.{SpellsBase64, SpellsNoBase64}

-- ---- marks in octets

-- the octets before the first of some marks, and those behind it
pub record IsSplit (mark octets before behind : List ℕ) : Type 0 where
  pub are : octets ≡ before ++ (mark ++ behind)
  pub first : (x y : List ℕ) → octets ≡ x ++ (mark ++ y) → length before ≤ length x

-- the mark isn't in the octets
abbrev pub Lacks : List ℕ → List ℕ → Type 0
Lacks mark octets = (x y : List ℕ) → octets ≡ x ++ (mark ++ y) → ⊥

-- ---- lines

abbrev pub ends_line : ℕ → Bool
ends_line c = nat_eq c 10 || nat_eq c 13

-- the octets up to the end of the line, and those from there on
abbrev pub line_of : List ℕ → List ℕ
line_of [] = []
line_of (c ∷ w) = if ends_line c then [] else c ∷ line_of w

abbrev pub after_line : List ℕ → List ℕ
after_line [] = []
after_line (c ∷ w) = if ends_line c then c ∷ w else after_line w

-- the mark of UTF-8, the last octet first
abbrev pub mark_back : List ℕ
mark_back = 0xBF ∷ 0xBB ∷ 0xEF ∷ []

-- a line begins behind these octets, the last first: behind the end of a line, the beginning of the text or the mark of UTF-8 there,
-- and spaces and tabs
abbrev pub starts_line : List ℕ → Bool
starts_line [] = true
starts_line (c ∷ w) = if ends_line c then true
    else if nat_eq c 32 || nat_eq c 9 then starts_line w else pointwise nat_eq (c ∷ w) mark_back

-- ---- blocks

-- a line ends with a label, hyphens and blanks
abbrev pub IsLabelLine : List ℕ → List ℕ → Type 0
IsLabelLine line label = (kept : List ℕ) × IsTrimAsciiEnd line kept × (kept ≡ label ++ codes "-----")

abbrev pub IsOtherLine : List ℕ → Type 0
IsOtherLine line = (kept : List ℕ) × IsTrimAsciiEnd line kept × ((label : List ℕ) → kept ≡ label ++ codes "-----" → ⊥)

-- the octets behind the line that begins a block are its body, its end with the label, and the rest
pub record IsBody (label octets body rest : List ℕ) : Type 0 where
  pub behind : List ℕ
  pub stands : IsSplit (codes "-----END ") octets body behind
  pub ends : IsSplit (codes "-----") behind label rest

-- the block has no end
abbrev pub IsUnended : List ℕ → List ℕ → Unended → Type 0
IsUnended label octets unended.Missing = Lacks (codes "-----END ") octets
    ⊎ (body behind : List ℕ) × IsSplit (codes "-----END ") octets body behind × Lacks (codes "-----") behind
IsUnended label octets (unended.Label other) = (body behind rest : List ℕ) × IsSplit (codes "-----END ") octets body behind
    × IsSplit (codes "-----") behind other.now rest × (other.now ≢ label)

abbrev pub HasBody : List ℕ → List ℕ → Result (Bor (List ℕ)) Unended → List ℕ → Type 0
HasBody label octets (Ok body) rest = IsBody label octets body.now rest
HasBody label octets (Err why) rest = IsUnended label octets why × (rest ≡ octets)

-- a block begins behind the one list of octets, with `-----BEGIN `, in front of the other; and none does
pub record IsBlock (before behind : List ℕ) (b : Block) : Type 0 where
  pub starts : starts_line (reverse before) ≡ true
  pub label : IsLabelLine (line_of behind) b.label.now
  pub body : HasBody b.label.now (after_line behind) b.body b.rest.now

abbrev pub IsNoBlock : List ℕ → List ℕ → Type 0
IsNoBlock before behind = (starts_line (reverse before) ≡ false) ⊎ IsOtherLine (line_of behind)

-- the first block that begins in the octets; and none does
pub record IsNext (octets : List ℕ) (b : Block) : Type 0 where
  pub before : List ℕ
  pub behind : List ℕ
  pub are : octets ≡ before ++ (codes "-----BEGIN " ++ behind)
  pub block : IsBlock before behind b
  pub first : (x y : List ℕ) → octets ≡ x ++ (codes "-----BEGIN " ++ y) → length x < length before → IsNoBlock x y

abbrev pub HasNoBlock : List ℕ → Type 0
HasNoBlock octets = (x y : List ℕ) → octets ≡ x ++ (codes "-----BEGIN " ++ y) → IsNoBlock x y

-- octets of this form are blocks: if it isn't told, those in which one begins; and they are none
abbrev pub HasBlocks : Option Form → List ℕ → Type 0
HasBlocks (Some f) octets = f ≡ form.Pem
HasBlocks None octets = (block : Block) × IsNext octets block

abbrev pub HasNoBlocks : Option Form → List ℕ → Type 0
HasNoBlocks (Some f) octets = f ≢ form.Pem
HasNoBlocks None octets = HasNoBlock octets

-- the name of the first header of a body, and none
abbrev pub IsHeaderIn : List ℕ → List ℕ → Type 0
IsHeaderIn body name = (before behind : List ℕ) × IsSplit (codes ":") body before behind × IsTrimAscii before name

-- ---- the octets that blocks carry

-- a block carries the octets v: its body has no headers, and spells them in base 64
abbrev pub HasOctets : Block → List ℕ → Type 0
HasOctets b v = MatchResult b.body (λ body. Lacks (codes ":") body.now × SpellsBase64 body.now v) (λ e. ⊥)

-- it carries none, or memory ran out
abbrev pub HasNoOctets : Block → BlockError → Type 0
HasNoOctets b (error.Unended why) = b.body ≡ Err why
HasNoOctets b (error.Headers name) = MatchResult b.body (λ body. IsHeaderIn body.now name.now) (λ e. ⊥)
HasNoOctets b error.NotBase64 = MatchResult b.body (λ body. Lacks (codes ":") body.now × SpellsNoBase64 body.now) (λ e. ⊥)
HasNoOctets b error.NoMemory = ⊤

-- a block is one of those that begin in a text
pub data IsAmong (b : Block) : List ℕ → Type 0 where
  next : {text : List ℕ} → IsNext text b → IsAmong b text
  later : {text : List ℕ} (a : Block) → IsNext text a → IsAmong b a.rest.now → IsAmong b text

-- blocks that carry these octets stand in a text, one behind the other, before the rest
abbrev pub StandBefore : List ℕ → List ℕ → List (List ℕ) → Type 0
StandBefore rest text [] = rest ≡ text
StandBefore rest text (v ∷ vs) = (b : Block) × IsNext text b × HasOctets b v × StandBefore rest b.rest.now vs

-- the blocks of a text carry these octets, and no other begins there
abbrev pub AreBlocks : List ℕ → List (List ℕ) → Type 0
AreBlocks text [] = HasNoBlock text
AreBlocks text (v ∷ vs) = (b : Block) × IsNext text b × HasOctets b v × AreBlocks b.rest.now vs
