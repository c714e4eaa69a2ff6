use Rattle.bcder.specs.x690.AsciiSets.{is_numeric, is_printable, is_ia5}
use Rattle.bcder.specs.laws.CharSets.{ascii_texts, numeric_ascii, printable_ascii, ia5_ascii}
use Rattle.bcder.proofs.laws.char_sets.ascii_is_text.Goals as goal

pub returns-clause-numeric : goal.returns-clause-numeric
returns-clause-numeric c = ascii_texts is_numeric numeric_ascii

pub returns-clause-printable : goal.returns-clause-printable
returns-clause-printable c = ascii_texts is_printable printable_ascii

pub returns-clause-ia5 : goal.returns-clause-ia5
returns-clause-ia5 c = ascii_texts is_ia5 ia5_ascii
