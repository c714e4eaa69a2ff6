-- How a run of a program ends.
use Rattle.std.specs.Prelude.{ℕ}
use Rattle.cli.specs.declared.status.Status.{Status}
use Rattle.cli.specs.declared.status.Status.TheVariants.{Done, Refused, Unread, Failed}

-- the exit status
abbrev pub code_of : Status → ℕ
code_of Done = 0
code_of Refused = 1
code_of Unread = 2
code_of Failed = 1

-- the worse of two: each is worse than those before it
abbrev pub worse_of : Status → Status → Status
worse_of Done s = s
worse_of Refused Done = Refused
worse_of Refused Refused = Refused
worse_of Refused Unread = Unread
worse_of Refused Failed = Failed
worse_of Unread Done = Unread
worse_of Unread Refused = Unread
worse_of Unread Unread = Unread
worse_of Unread Failed = Failed
worse_of Failed s = Failed
