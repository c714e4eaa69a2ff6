-- Reading the segments of an octet string from the beginning, without regard to how they are nested.
use Rattle.std.specs.Prelude.{◌≡◌, ℕ, Bool, true, false, List, length, drop, Option, Some, None, option_map, nat_eq, nat_lt, if◌then◌else◌}
use Rattle.bcder.specs.declared.mode.Mode.{Mode}
use Rattle.bcder.specs.declared.length.Length.{Length}
use Rattle.bcder.specs.declared.length.Length.TheVariants.{Definite, Indefinite}
use Rattle.bcder.specs.x690.Identifier.{Class, universal, application, context_specific, private, Tag}
use Rattle.bcder.specs.x690.Encoding.{Header}
use Rattle.bcder.specs.steps.Reading.{read_header, read_end}

abbrev pub is_octet_string : Tag → Bool
is_octet_string t = is_four t.class t.number
  where
    is_four : Class → ℕ → Bool
    is_four universal n = nat_eq n 4
    is_four application n = false
    is_four context_specific n = false
    is_four private n = false

-- what follows a header: a segment of n octets, which are passed; or what is inside a constructed one
abbrev pub behind_header : Bool → Length → List ℕ → Option (Option ℕ × List ℕ)
behind_header true len w = Some (None, w)
behind_header false Indefinite w = None
behind_header false (Definite n) w = if nat_lt (length w) n then None else Some (Some n, drop n w)

abbrev pub segment_behind : Option (Header × List ℕ) → Option (List ℕ) → Option (Option ℕ × List ℕ)
segment_behind None end = option_map (λ rest. (None, rest)) end
segment_behind (Some h) end = if is_octet_string h.0.tag then behind_header h.0.form h.0.len h.1 else None

-- the next primitive segment is passed, and its number of octets returned; or the header of a constructed one is passed,
-- or end-of-contents octets
unfoldable pub read_segment : Mode → List ℕ → Option (Option ℕ × List ℕ)
read_segment mode w = segment_behind (read_header mode w) (read_end mode w)

-- these octets begin with a primitive segment of n contents octets in each mode, which has m with its header
abbrev pub BeginSegment : List ℕ → ℕ → ℕ → Type 0
BeginSegment w m n = (mode : Mode) → read_segment mode w ≡ Some (Some n, drop m w)
