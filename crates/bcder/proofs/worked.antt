-- Rows that the definitions are held against: octets from X.690 and from worked examples, and what they say.
pub mod Shown
pub mod Identifiers
pub mod Lengths
pub mod Values
pub mod Headings
pub mod ObjectIdentifiers
pub mod CutStrings
