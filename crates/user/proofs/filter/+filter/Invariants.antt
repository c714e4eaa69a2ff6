use Rattle.std.proofs.Common.{◌+◌, ◌*◌, length}
use Rattle.bcder.specs.calls.Views.{of_constructed, of_content}
use Rattle.user.proofs.filter.+filter.Given as goal

abbrev pub decreases-Filter::take_opt_from : goal.decreases-Filter::take_opt_from
decreases-Filter::take_opt_from g l = length (of_constructed g.S.Source.stream l.cons.now).stream.rest * 3

abbrev pub decreases-take_opt_value : goal.decreases-take_opt_value
decreases-take_opt_value g l = length (of_content g.S.Source.stream l.content.now).stream.rest * 3 + 2

abbrev pub decreases-take_opt_value-collect_some : goal.decreases-take_opt_value-collect_some
decreases-take_opt_value-collect_some g l = length (of_constructed g.S.Source.stream l.cons.now).stream.rest * 3 + 1
