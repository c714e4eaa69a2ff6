use Rattle.std.proofs.Common.{◌≡◌, List, ℕ, ◌++◌, encode_utf8_all}
use Rattle.std.specs.Fmt.{HasWritten, IsPlainFormatter}
use Rattle.bcder.proofs.string.restricted.chars.RestrictedStringDisplay.fmt.Given as goal

-- characters were written, and the others are still to come
abbrev pub invariant-loop-c : goal.invariant-loop-c
invariant-loop-c g l =
    IsPlainFormatter l.initial.f
    → (written : List ℕ) × (written ++ l.c-iterator ≡ l.initial.c-iterator) × HasWritten g.W.Write.write_str_gives l.initial.f (encode_utf8_all written) l.f
