use Rattle.std.proofs.Common.{string_bytes, is_ok, subst, sym}
use Rattle.cli.specs.Shown.{IsLine}
use Rattle.certdump.proofs.Adding.{lines_grown}
use Rattle.certdump.proofs.page.Lines.add.Goals as goal

pub invariant_of-self : goal.invariant_of-self
invariant_of-self g c = lines_grown (is_ok c.push_str.result) (string_bytes c.self.inside.text) c.as_str.result.now (string_bytes c.push_str.new.self)
    c.self.invariant (subst IsLine (sym c.as_str.ensures.value) c.in_ok-line.ensures) c.push_str.ensures.bytes
