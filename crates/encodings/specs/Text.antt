-- The tests of the sets whose characters are one octet each.
use Rattle.std.specs.Prelude.{ℕ, Bool}
use Rattle.bcder.specs.x690.AsciiSets.{is_ia5, is_numeric, is_printable}
use Rattle.encodings.specs.declared.text.AsciiSet.{AsciiSet}
use Rattle.encodings.specs.declared.text.AsciiSet.TheVariants.{Numeric, Printable, Ia5}

abbrev pub test_of : AsciiSet → ℕ → Bool
test_of Numeric = is_numeric
test_of Printable = is_printable
test_of Ia5 = is_ia5
