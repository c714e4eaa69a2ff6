-- What private steps of the source over the octets of a string say.
use Rattle.std.specs.Prelude.{◌≡◌, ℕ, ◌≤◌, ◌⊎◌, [], length, Result, OnOk, OnErr}
use Rattle.std.specs.Borrow.{MutBor}
use denote.Triple.Both.{Both}
use Rattle.bcder.specs.declared.memory.NoMemory.{NoMemory}
use Rattle.bcder.specs.declared.string.octet.source.OctetStringSource.{OctetStringSource}
use Rattle.bcder.specs.calls.StringSource.{all_behind}
use Rattle.bcder.specs.calls.StringStream.{to_come, came, source_stream, HasMoreFor}

-- octets were put in the front, as many as were asked for, or all that there are; if that failed, there were others to put there,
-- and no fewer are there than before
pub record FillsFront (asked : ℕ) (s : Both (MutBor OctetStringSource) (MutBor OctetStringSource))
    (r : Result (Unit {0}) NoMemory) : Type 0 where
  pub same : to_come s.exit.now ≡ to_come s.entry.now
  pub no_fewer : length s.entry.now.front.octets ≤ length s.exit.now.front.octets
  pub enough : OnOk r ((asked ≤ length s.exit.now.front.octets) ⊎ (all_behind s.exit.now.behind ≡ []))
  pub memory : OnErr r (HasMoreFor asked (source_stream s.entry.now))
  pub faults : s.exit.now.faults ≡ s.entry.now.faults
  pub position : came s.exit.now ≡ came s.entry.now
