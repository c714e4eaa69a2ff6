-- Octets as a block of text (RFC 7468).
use Rattle.std.specs.Prelude.{ℕ, zero, suc, Bool, true, false, ◌&&◌, ◌||◌, not, nat_lt, nat_eq, if◌then◌else◌}
use Rattle.std.specs.Prelude.{List, [], ◌∷◌, ◌++◌, codes, length, take, drop}
use Rattle.base64.specs.Engines.{standard}
use Rattle.base64.specs.GeneralPurpose.{encode_of}

-- 3, labelchar: a printable character of ASCII that is no space and no hyphen
abbrev pub is_label_char : ℕ → Bool
is_label_char c = nat_lt 0x20 c && nat_lt c 0x7F && not (nat_eq c 0x2D)

-- 3, label: words of these, set apart by a space or a hyphen; whether a character stands in front
abbrev pub is_label_behind : Bool → List ℕ → Bool
is_label_behind in_word [] = in_word
is_label_behind in_word (c ∷ w) =
    if is_label_char c then is_label_behind true w
    else if in_word && (nat_eq c 0x20 || nat_eq c 0x2D) then is_label_behind false w
    else false

abbrev pub is_label : List ℕ → Bool
is_label [] = true
is_label (c ∷ w) = is_label_behind false (c ∷ w)

-- 2: n lines at most, each of 64 characters but the last
unfoldable pub lines_from : ℕ → List ℕ → List ℕ
lines_from zero s = []
lines_from (suc n) [] = []
lines_from (suc n) (c ∷ s) = take 64 (c ∷ s) ++ (codes "\n" ++ lines_from n (drop 64 (c ∷ s)))

abbrev pub lines : List ℕ → List ℕ
lines s = lines_from (length s) s

abbrev pub dashes : List ℕ
dashes = codes "-----\n"

-- 3: the block with a label that carries octets, in base 64 (RFC 4648, 4)
abbrev pub block_of : List ℕ → List ℕ → List ℕ
block_of label octets =
    (codes "-----BEGIN " ++ (label ++ dashes)) ++ (lines (encode_of standard octets) ++ (codes "-----END " ++ (label ++ dashes)))
