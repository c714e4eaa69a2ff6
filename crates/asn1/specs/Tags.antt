-- The tags of the types.
use Rattle.std.proofs.Common.{ap, arith, lit<, subst, sym}
use Rattle.bcder.specs.x690.Identifier.{Tag, IsValueTag, boolean_tag, integer_tag, null_tag, sequence_tag, set_tag}
use Rattle.bcder.specs.x690.OctetString.{octet_string_tag}
use Rattle.bcder.specs.x690.BitString.{bit_string_tag}
use Rattle.bcder.specs.x690.ObjectIdentifier.{identifier_tag}
use Rattle.bcder.specs.x690.AsciiSets.{numeric_string_tag, printable_string_tag, ia5_string_tag}
use Rattle.bcder.specs.x690.Utf8.{utf8_string_tag}
use Rattle.asn1.specs.Types.{Only}

pub boolean_tagged : IsValueTag boolean_tag
boolean_tagged = record { fits = lit< tt; no_end = λ e. (let n = ap (λ (t : Tag). t.number) e in omega arith) }

pub integer_tagged : IsValueTag integer_tag
integer_tagged = record { fits = lit< tt; no_end = λ e. (let n = ap (λ (t : Tag). t.number) e in omega arith) }

pub octet_string_tagged : IsValueTag octet_string_tag
octet_string_tagged = record { fits = lit< tt; no_end = λ e. (let n = ap (λ (t : Tag). t.number) e in omega arith) }

pub sequence_tagged : IsValueTag sequence_tag
sequence_tagged = record { fits = lit< tt; no_end = λ e. (let n = ap (λ (t : Tag). t.number) e in omega arith) }

pub set_tagged : IsValueTag set_tag
set_tagged = record { fits = lit< tt; no_end = λ e. (let n = ap (λ (t : Tag). t.number) e in omega arith) }

pub null_tagged : IsValueTag null_tag
null_tagged = record { fits = lit< tt; no_end = λ e. (let n = ap (λ (t : Tag). t.number) e in omega arith) }

pub identifier_tagged : IsValueTag identifier_tag
identifier_tagged = record { fits = lit< tt; no_end = λ e. (let n = ap (λ (t : Tag). t.number) e in omega arith) }

pub bit_string_tagged : IsValueTag bit_string_tag
bit_string_tagged = record { fits = lit< tt; no_end = λ e. (let n = ap (λ (t : Tag). t.number) e in omega arith) }

pub utf8_string_tagged : IsValueTag utf8_string_tag
utf8_string_tagged = record { fits = lit< tt; no_end = λ e. (let n = ap (λ (t : Tag). t.number) e in omega arith) }

pub numeric_string_tagged : IsValueTag numeric_string_tag
numeric_string_tagged = record { fits = lit< tt; no_end = λ e. (let n = ap (λ (t : Tag). t.number) e in omega arith) }

pub printable_string_tagged : IsValueTag printable_string_tag
printable_string_tagged = record { fits = lit< tt; no_end = λ e. (let n = ap (λ (t : Tag). t.number) e in omega arith) }

pub ia5_string_tagged : IsValueTag ia5_string_tag
ia5_string_tagged = record { fits = lit< tt; no_end = λ e. (let n = ap (λ (t : Tag). t.number) e in omega arith) }

pub only_tagged : {tag : Tag} → IsValueTag tag → (t : Tag) → Only tag t → IsValueTag t
only_tagged v t e = subst IsValueTag (sym e) v
