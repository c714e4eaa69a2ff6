-- What the functions return.
use Rattle.std.specs.Prelude.{ℕ}

-- it was done
abbrev pub done : ℕ
done = 0

-- memory ran out
abbrev pub no_memory : ℕ
no_memory = 2

-- what was asked for isn't there
abbrev pub absent : ℕ
absent = 3

-- the contents octets of a value aren't all there
abbrev pub beyond : ℕ
beyond = 4

-- the octets end where a value or an end has to follow
abbrev pub ended : ℕ
ended = 5

-- a value is deeper than was allowed
abbrev pub too_deep : ℕ
too_deep = 6

-- all octets were passed
abbrev pub finished : ℕ
finished = 7

-- the state is none of a walk over these octets
abbrev pub misused : ℕ
misused = 8

-- a buffer has no room for what is to be stored
abbrev pub too_small : ℕ
too_small = 9

-- a value is not converted to these rules
abbrev pub not_converted : ℕ
not_converted = 10

-- the values inside a SET have no order in these rules
abbrev pub no_order : ℕ
no_order = 11
