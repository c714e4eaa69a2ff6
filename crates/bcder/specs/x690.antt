-- What ITU-T X.690 says, by its clauses: values, their encodings under each set of encoding rules, and what contents octets mean.
-- Of the code these definitions name the modes and the kinds of lengths alone.
pub mod Identifier
pub mod Length
pub mod Tree
pub mod Encoding
pub mod Preorder
pub mod Integer
pub mod BitString
pub mod Broken
pub mod Number
pub mod ObjectIdentifier
pub mod OctetString
pub mod BitStrings
pub mod Grammar
pub mod Octets
pub mod CharSet
pub mod Characters
pub mod AsciiSets
pub mod Utf8
pub mod TextSets
