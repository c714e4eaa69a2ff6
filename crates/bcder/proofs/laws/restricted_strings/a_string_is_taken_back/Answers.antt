use Rattle.bcder.specs.calls.StringOctets.{octets_of}
use Rattle.bcder.proofs.RestrictedBack.{restricted_taken}
use Rattle.bcder.proofs.WrittenStrings.{string_written, string_meant}
use Rattle.bcder.proofs.laws.restricted_strings.a_string_is_taken_back.Goals as goal

pub returns-clause-owned : goal.returns-clause-owned
returns-clause-owned g c = string_written c.args.tag c.args.mode c.args.string.now (rw (← c.octet_string.ensures.octets) c.see_string.ensures)

pub returns-clause-borrowed : goal.returns-clause-borrowed
returns-clause-borrowed g c = returns-clause-owned g c

pub returns-clause-owned_written : goal.returns-clause-owned_written
returns-clause-owned_written g c = string_meant c.args.tag c.args.mode c.args.string.now (rw (← c.octet_string.ensures.octets) c.see_string.ensures)

pub returns-clause-borrowed_written : goal.returns-clause-borrowed_written
returns-clause-borrowed_written g c = returns-clause-owned_written g c

pub returns-clause-taken : goal.returns-clause-taken
returns-clause-taken g c =
    λ e written. restricted_taken g.L.CharSet.step c.args.tag c.args.mode (octets_of c.args.string.now) e c.octet_string.ensures.accepted written
