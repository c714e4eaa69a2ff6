-- Reading from left to right: what comes next, and the octets after it.
use Rattle.std.specs.Prelude.{◌≡◌, ℕ, zero, suc, ◌+◌, ◌-◌, ◌*◌, ◌%◌, ◌^◌, Bool, true, false, List, [], ◌∷◌, length, take, drop, Option}
use Rattle.std.specs.Prelude.{Some, None, option_map, option_and_then, nat_lt, nat_le, ◌==◌, if◌then◌else◌}
use Rattle.bcder.specs.declared.mode.Mode.{Mode}
use Rattle.bcder.specs.declared.mode.Mode.TheVariants.{Ber, Cer, Der}
use Rattle.bcder.specs.x690.Identifier.{AreOctets, Class, universal, application, context_specific, private, Tag, is_value_tag}
use Rattle.bcder.specs.x690.Length.{big_endian}
use Rattle.bcder.specs.declared.length.Length.{Length}
use Rattle.bcder.specs.declared.length.Length.TheVariants.{Definite, Indefinite}
use Rattle.bcder.specs.x690.Encoding.{may_have, Header}
use Rattle.bcder.specs.x690.Tree.{Tree, primitive, constructed, Trees, no_trees, ◌∷ₜ◌}

-- ---- identifier octets

unfoldable pub third_digit : ℕ → List ℕ → Option (ℕ × List ℕ)
third_digit high [] = None
third_digit high (c ∷ w) = if nat_lt c 128 then Some (128 * high + c, w) else None

unfoldable pub second_digit : ℕ → List ℕ → Option (ℕ × List ℕ)
second_digit high [] = None
second_digit high (b ∷ w) = if nat_lt b 128 then Some (128 * high + b, w) else third_digit (128 * high + (b - 128)) w

-- a number from 31 on
unfoldable pub read_number : List ℕ → Option (ℕ × List ℕ)
read_number [] = None
read_number (a ∷ w) =
    if nat_lt a 31 then None
    else if nat_lt a 128 then Some (a, w)
    else if nat_le a 128 then None
    else second_digit (a - 128) w

unfoldable pub class_of : ℕ → Class
class_of b = if nat_lt b 64 then universal else if nat_lt b 128 then application else if nat_lt b 192 then context_specific else private

unfoldable pub is_marked : ℕ → Bool
is_marked b = nat_le 32 (b % 64)

unfoldable pub read_identifier : List ℕ → Option (Tag × Bool × List ℕ)
read_identifier [] = None
read_identifier (b ∷ w) =
    if nat_lt (b % 32) 31 then Some (record { class = class_of b; number = b % 32 }, is_marked b, w)
    else option_map (λ n. (record { class = class_of b; number = n.0 }, is_marked b, n.1)) (read_number w)

-- ---- length octets

-- the least length for which k octets of a number are needed
abbrev pub least : ℕ → ℕ
least k = if k == 1 then 128 else 256 ^ (k - 1)

-- whether the length n may be given in k octets
unfoldable pub may_tell : Mode → ℕ → ℕ → Bool
may_tell Ber k n = true
may_tell Cer k n = nat_le (least k) n
may_tell Der k n = nat_le (least k) n

unfoldable pub read_long : Mode → ℕ → List ℕ → Option (Length × List ℕ)
read_long mode k w =
    if nat_lt 4 k then None
    else if nat_lt (length w) k then None
    else if may_tell mode k (big_endian (take k w)) then Some (Definite (big_endian (take k w)), drop k w)
    else None

unfoldable pub read_length : Mode → List ℕ → Option (Length × List ℕ)
read_length mode [] = None
read_length mode (b ∷ w) =
    if nat_lt b 0x80 then Some (Definite b, w)
    else if nat_le b 0x80 then Some (Indefinite, w)
    else read_long mode (b - 0x80) w

abbrev pub if_zero : Length → List ℕ → Option (List ℕ)
if_zero Indefinite rest = None
if_zero (Definite zero) rest = Some rest
if_zero (Definite (suc n)) rest = None

-- the octets after an end marker
unfoldable pub read_end : Mode → List ℕ → Option (List ℕ)
read_end mode [] = None
read_end mode (zero ∷ w) = option_and_then (λ l. if_zero l.0 l.1) (read_length mode w)
read_end mode (suc b ∷ w) = None

-- ---- values

-- identifier octets and length octets, whatever follows them
unfoldable pub read_front : Mode → List ℕ → Option (Header × List ℕ)
read_front mode w =
    option_and_then (λ i. option_map (λ l. (record { tag = i.0; form = i.1; len = l.0 }, l.1)) (read_length mode i.2)) (read_identifier w)

-- identifier octets and length octets of a value
unfoldable pub read_header : Mode → List ℕ → Option (Header × List ℕ)
read_header mode w =
    option_and_then
    (λ i. if is_value_tag i.0 then option_and_then (λ l. if may_have mode i.1 l.0
    then Some (record { tag = i.0; form = i.1; len = l.0 }, l.1) else None) (read_length mode i.2) else None)
    (read_identifier w)

-- in each mode these two octets are the header of a primitive value of n contents octets, whatever follows
abbrev pub BeginPrimitive : ℕ → ℕ → Type 0
BeginPrimitive first n = (mode : Mode) (rest : List ℕ)
    → (t : Tag) × (read_header mode (first ∷ n ∷ rest) ≡ Some (record { tag = t; form = false; len = Definite n }, rest))

-- values up to the last octet, or up to an end marker if `marked`
abbrev pub Inside : Type 0
Inside = Bool → List ℕ → Option (Trees × List ℕ)

abbrev pub read_contents : Inside → Tag → Bool → Length → List ℕ → Option (Tree × List ℕ)
read_contents inside t false Indefinite w = None
read_contents inside t false (Definite n) w = if nat_lt (length w) n then None else Some (primitive t (take n w), drop n w)
read_contents inside t true Indefinite w = option_map (λ ts. (constructed t ts.0, ts.1)) (inside true w)
read_contents inside t true (Definite n) w =
    if nat_lt (length w) n then None else option_map (λ ts. (constructed t ts.0, drop n w)) (inside false (take n w))

unfoldable pub read_value : Mode → Inside → List ℕ → Option (Tree × List ℕ)
read_value mode inside w = option_and_then (λ h. read_contents inside h.0.tag h.0.form h.0.len h.1) (read_header mode w)

unfoldable pub at_end : Mode → Bool → List ℕ → Option (List ℕ)
at_end mode true w = read_end mode w
at_end mode false [] = Some []
at_end mode false (b ∷ w) = None

abbrev pub if_not_at_end : Option (List ℕ) → Option (Trees × List ℕ) → Option (Trees × List ℕ)
if_not_at_end (Some rest) more = Some (no_trees, rest)
if_not_at_end None more = more

-- the number bounds the turns; the number of octets plus one is always enough
unfoldable pub read_trees : ℕ → Mode → Inside
read_trees zero mode marked w = None
read_trees (suc n) mode marked w =
    if_not_at_end (at_end mode marked w)
    (option_and_then (λ t. option_map (λ ts. (t.0 ∷ₜ ts.0, ts.1)) (read_trees n mode marked t.1)) (read_value mode (read_trees n mode) w))

-- the values up to the end, and the octets after it
unfoldable pub read_list : Mode → Inside
read_list mode marked w = read_trees (suc (length w)) mode marked w

-- the first value, and the octets after it
unfoldable pub read_tree : Mode → List ℕ → Option (Tree × List ℕ)
read_tree mode w = read_value mode (read_trees (length w) mode) w

-- the octets after the first value, and those after the values up to the end
unfoldable pub after_tree : Mode → List ℕ → Option (List ℕ)
after_tree mode w = option_map (λ t. t.1) (read_tree mode w)

unfoldable pub after_list : Mode → Bool → List ℕ → Option (List ℕ)
after_list mode marked w = option_map (λ ts. ts.1) (read_list mode marked w)

-- what is left of a value: the octets after it, or, if it is open, the values up to its end marker and what follows
abbrev pub Leaves : Mode → List ℕ → Bool → List ℕ → Type 0
Leaves mode w false x = after_tree mode w ≡ Some x
Leaves mode w true x = AreOctets x × (after_tree mode w ≡ after_list mode true x)
