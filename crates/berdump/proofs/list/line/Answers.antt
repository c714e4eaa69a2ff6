use Rattle.std.proofs.Common.{rules, [], ◌∷◌, string_bytes}
use Rattle.berdump.specs.Lines.{heading_text}
use Rattle.berdump.proofs.Walking.{line_text}
use Rattle.berdump.proofs.list.line.Goals as goal

pub returns : goal.returns
returns c = line_text (string_bytes c.new-text.result) (string_bytes c.write.new.self) (heading_text c.args.heading) c.as_str.result.now (10 ∷ [])
    (search rules) (search rules) c.in_ok-write.ensures.bytes
