-- Tables that give names to numbers.
use Rattle.std.specs.Prelude.{◌≡◌, ◌⊎◌, ℕ, Bool, List, [], ◌∷◌, ◌++◌, codes, nat_eq, if◌then◌else◌}
use Rattle.std.specs.List.{starts_with}
use Rattle.std.specs.Str.Lines.{lines}
use Rattle.names.specs.declared.table.Table.{Table}
use Rattle.names.specs.declared.table.Table.TheVariants.{Attributes, Directory, Countries, Joint, Pkcs9, Rsa, UnitedStates, Members}
use Rattle.names.specs.declared.table.Table.TheVariants.{Pkix, Enterprises, Internet, Organizations, Itu}
use Rattle.names.specs.Tables.{text_of}

-- one of these is such
abbrev pub Has : {A : Type 0} → (A → Type 0) → List A → Type 0
Has P [] = ⊥
Has P (x ∷ xs) = P x ⊎ Has P xs

-- the line of a name: the number, a space and the name
abbrev pub line_of : List ℕ → List ℕ → List ℕ
line_of number name = number ++ (codes " " ++ name)

-- a text has the line of a name
abbrev pub HasLine : List ℕ → List ℕ → List ℕ → Type 0
HasLine text number name = Has (λ line. line ≡ line_of number name) (lines text)

-- a number begins with a prefix
unfoldable pub begins : List ℕ → List ℕ → Bool
begins number prefix = starts_with nat_eq number prefix

-- the table for what a number begins with
abbrev pub joint_table : List ℕ → Table
joint_table number =
    if begins number (codes "2.5.4.") then Attributes else (
    if begins number (codes "2.5.") then Directory else (
    if begins number (codes "2.16.") then Countries else Joint))

abbrev pub member_table : List ℕ → Table
member_table number =
    if begins number (codes "1.2.840.113549.1.9.") then Pkcs9 else (
    if begins number (codes "1.2.840.113549.") then Rsa else (
    if begins number (codes "1.2.840.") then UnitedStates else Members))

abbrev pub iso_table : List ℕ → Table
iso_table number =
    if begins number (codes "1.2.") then member_table number else (
    if begins number (codes "1.3.6.1.5.5.7.") then Pkix else (
    if begins number (codes "1.3.6.1.4.") then Enterprises else (
    if begins number (codes "1.3.6.1.") then Internet else Organizations)))

abbrev pub table_for : List ℕ → Table
table_for number =
    if begins number (codes "2.") then joint_table number else (
    if begins number (codes "1.") then iso_table number else Itu)

-- it has the line of a name
abbrev pub HasName : List ℕ → List ℕ → Type 0
HasName number name = HasLine (text_of (table_for number)) number name
