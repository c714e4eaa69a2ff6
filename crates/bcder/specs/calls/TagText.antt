-- The classes of tags as the program keeps them, and how a tag is shown: by its type in ASN.1 (X.680, 8.4), or class and number.
use Rattle.std.specs.Prelude.{ℕ, List, [], ◌++◌, Option, Some, None, ◌==◌, if◌then◌else◌, unwrap_or, codes, decimal}
use Rattle.bcder.specs.declared.{tag.Class.Class as CodeClass}
use Rattle.bcder.specs.declared.tag.Class.TheVariants.{Universal, Application, ContextSpecific, Private}
use Rattle.bcder.specs.x690.Identifier.{Class, universal, application, context_specific, private, Tag}

abbrev pub class_meant : CodeClass → Class
class_meant Universal = universal
class_meant Application = application
class_meant ContextSpecific = context_specific
class_meant Private = private

abbrev pub class_kept : Class → CodeClass
class_kept universal = Universal
class_kept application = Application
class_kept context_specific = ContextSpecific
class_kept private = Private

-- ---- text

-- the name of the type that a universal number denotes
unfoldable pub universal_name : ℕ → Option (List ℕ)
universal_name n =
    if n == 1 then Some (codes "BOOLEAN")
    else if n == 2 then Some (codes "INTEGER")
    else if n == 3 then Some (codes "BIT STRING")
    else if n == 4 then Some (codes "OCTET STRING")
    else if n == 5 then Some (codes "NULL")
    else if n == 6 then Some (codes "OBJECT IDENTIFIER")
    else if n == 7 then Some (codes "ObjectDescriptor")
    else if n == 8 then Some (codes "EXTERNAL")
    else if n == 9 then Some (codes "REAL")
    else if n == 10 then Some (codes "ENUMERATED")
    else if n == 11 then Some (codes "EMBEDDED PDV")
    else if n == 12 then Some (codes "UTF8String")
    else if n == 13 then Some (codes "RELATIVE-OID")
    else if n == 14 then Some (codes "TIME")
    else if n == 16 then Some (codes "SEQUENCE")
    else if n == 17 then Some (codes "SET")
    else if n == 18 then Some (codes "NumericString")
    else if n == 19 then Some (codes "PrintableString")
    else if n == 20 then Some (codes "TeletexString")
    else if n == 21 then Some (codes "VideotexString")
    else if n == 22 then Some (codes "IA5String")
    else if n == 23 then Some (codes "UTCTime")
    else if n == 24 then Some (codes "GeneralizedTime")
    else if n == 25 then Some (codes "GraphicString")
    else if n == 26 then Some (codes "VisibleString")
    else if n == 27 then Some (codes "GeneralString")
    else if n == 28 then Some (codes "UniversalString")
    else if n == 29 then Some (codes "CHARACTER STRING")
    else if n == 30 then Some (codes "BMPString")
    else if n == 31 then Some (codes "DATE")
    else if n == 32 then Some (codes "TIME-OF-DAY")
    else if n == 33 then Some (codes "DATE-TIME")
    else if n == 34 then Some (codes "DURATION")
    else if n == 35 then Some (codes "OID-IRI")
    else if n == 36 then Some (codes "RELATIVE-OID-IRI")
    else None

-- a tag as ASN.1 writes it: `[PRIVATE 5]`
abbrev pub bracketed : List ℕ → ℕ → List ℕ
bracketed class n = codes "[" ++ class ++ decimal n ++ codes "]"

abbrev class_text : Class → ℕ → List ℕ
class_text universal n = unwrap_or (universal_name n) (bracketed (codes "UNIVERSAL ") n)
class_text application n = bracketed (codes "APPLICATION ") n
class_text context_specific n = bracketed [] n
class_text private n = bracketed (codes "PRIVATE ") n

-- the name of the type of a universal tag, if it has one, otherwise its class and number in brackets
unfoldable pub tag_text : Tag → List ℕ
tag_text t = class_text t.class t.number
