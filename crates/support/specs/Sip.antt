-- What the source for tests has to give.
use Rattle.std.specs.Prelude.{◌+◌, ◌<◌, ◌≤◌, ◌^◌, ℕ, List, [], length, drop}
use Rattle.std.proofs.Common.{arith}
use Rattle.std.proofs.lemmas.Grind.{common_steps}
use Rattle.bcder.specs.x690.Identifier.{AreOctets}
use Rattle.bcder.specs.calls.Stream.{Stream, IsSound}
use Rattle.bcder.specs.laws.Limits.{AreOctets-drop}

-- octets from a place on, so many of them at hand, after so many failures
abbrev pub sipped : List ℕ → ℕ → ℕ → ℕ → Stream
sipped octets start avail faults = record { rest = drop start octets; avail = avail; faults = faults; position = start; kept = [] }

pub sipped_sound : (octets : List ℕ) (start avail faults : ℕ) → AreOctets octets → length octets < 2 ^ 64 → start + avail ≤ length octets
    → IsSound (sipped octets start avail faults)
sipped_sound octets start avail faults are_octets fit within = record {
  octets = AreOctets-drop start octets are_octets;
  size = grind (arith, common_steps, fit);
  at_hand = grind (arith, common_steps, within);
}
