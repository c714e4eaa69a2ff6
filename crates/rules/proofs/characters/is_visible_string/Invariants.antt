use Rattle.std.specs.Prelude.{ℕ, ◌<◌, ◌≤◌, slice_index}
use Rattle.rules.proofs.characters.is_visible_string.Given as goal

abbrev pub invariant-loop-octet : goal.invariant-loop-octet
invariant-loop-octet l = (i : ℕ) → i < l.octet-index → (0x20 ≤ slice_index l.octets i) × (slice_index l.octets i ≤ 0x7E)
