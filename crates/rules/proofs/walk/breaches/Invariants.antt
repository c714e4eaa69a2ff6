use Rattle.std.specs.Prelude.{◌+◌, ◌*◌, length, reverse}
use Rattle.encodings.specs.Open.{open_values, to_come}
use Rattle.rules.specs.Passes.{InWalk}
use Rattle.rules.proofs.walk.breaches.Given as goal

abbrev pub invariant-loop-place : goal.invariant-loop-place
invariant-loop-place l =
    InWalk l.mode l.contents l.octets (open_values l.opened.items) (reverse l.around.items) l.text.items l.place.whole l.place.rest.now l.place.at l.found.items

abbrev pub decreases-loop-place : goal.decreases-loop-place
decreases-loop-place l = length (to_come (open_values l.opened.items) l.place.rest.now) * 2 + length (open_values l.opened.items)
