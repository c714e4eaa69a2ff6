-- Readers of contents octets that did not come, or were refused.
use Rattle.std.proofs.Common.{◌≡◌, ℕ, List, length, Some, Err}
use Rattle.bcder.specs.declared.decode.error.DecodeError.{DecodeError}
use Rattle.bcder.specs.calls.Content.{Reading}
use Rattle.bcder.specs.calls.Readers.{AreNeverRefused, RefusesReading, Reads}

as_refused : {X : Type 0} (Refuses : List ℕ → DecodeError X → Type 0) (c d : Reading) (e : DecodeError X) → RefusesReading AreNeverRefused c e d
    → RefusesReading Refuses c e d
as_refused Refuses c d e (RefusesReading.source s g) = RefusesReading.source s g
as_refused Refuses c d e (RefusesReading.few s a n) = RefusesReading.few s a n
as_refused Refuses c d e (RefusesReading.refused a f n) = absurd f

pub refuses_missing : {T X : Type 0} (Means : List ℕ → T → Type 0) (Refuses : List ℕ → DecodeError X → Type 0) (c d : Reading) (e : DecodeError X)
    → RefusesReading AreNeverRefused c e d → d.stream.rest ≡ c.stream.rest → d.owed ≡ c.owed
    → d.mode ≡ c.mode → d.marked ≡ c.marked → Reads Means Refuses c (Err e) d
refuses_missing Means Refuses c d e f r o m k = record {
  value = tt;
  all = tt;
  none_left = tt;
  none_owed = tt;
  no_fault = tt;
  refused = as_refused Refuses c d e f;
  kept = r;
  still_owed = o;
  mode = m;
  marked = k;
}

pub refuses_octets : {T X : Type 0} (Means : List ℕ → T → Type 0) (Refuses : List ℕ → DecodeError X → Type 0) (c d : Reading) (e : DecodeError X)
    → c.owed ≡ Some (length c.stream.rest) → Refuses c.stream.rest e → d.stream.faults ≡ c.stream.faults → d.stream.rest ≡ c.stream.rest → d.owed ≡ c.owed
    → d.mode ≡ c.mode → d.marked ≡ c.marked → Reads Means Refuses c (Err e) d
refuses_octets Means Refuses c d e a f n r o m k = record {
  value = tt;
  all = tt;
  none_left = tt;
  none_owed = tt;
  no_fault = tt;
  refused = RefusesReading.refused a f n;
  kept = r;
  still_owed = o;
  mode = m;
  marked = k;
}
