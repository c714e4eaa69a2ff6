-- What words ask for.
use Rattle.std.proofs.Common.{ℕ, List}
use Rattle.cli.specs.declared.arguments.Argument.{Argument}
use Rattle.cli.specs.declared.arguments.Argument.TheVariants as a
use Rattle.bercheck.specs.declared.request.Asked.{Asked}
use Rattle.bercheck.specs.declared.request.Asked.TheVariants as asked
use Rattle.bercheck.specs.Asked.{IsAsked, IsOther}

pub other_asked : (x : Argument) (o : Asked) (words : List (List ℕ)) → IsOther x o → IsAsked words o
other_asked (a.File w) o words h = absurd h
other_asked (a.Option w) asked.Help words h = tt
other_asked (a.Option w) asked.Version words h = tt
other_asked (a.Option w) (asked.Files r files) words h = absurd h
