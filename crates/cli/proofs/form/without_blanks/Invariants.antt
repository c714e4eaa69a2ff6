-- What was passed, without blanks.
use Rattle.std.specs.Prelude.{◌≡◌, ◌++◌, drop}
use Rattle.cli.specs.Spelling.{dense}
use Rattle.cli.proofs.form.without_blanks.Given as goal

abbrev pub invariant-loop-octet : goal.invariant-loop-octet
invariant-loop-octet l = dense l.octets ≡ l.kept.items ++ dense (drop l.octet-index l.octets)
