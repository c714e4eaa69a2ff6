-- The lines of each table.
use Rattle.std.specs.Prelude.{ℕ, List}
use Rattle.names.specs.declared.table.Table.{Table}
use Rattle.names.specs.declared.table.Table.TheVariants.{Attributes, Directory, Countries, Joint, Pkcs9, Rsa, UnitedStates, Members}
use Rattle.names.specs.declared.table.Table.TheVariants.{Pkix, Enterprises, Internet, Organizations, Itu}
use Rattle.names.specs.declared.table.TheConstants.{ATTRIBUTES, DIRECTORY, COUNTRIES, JOINT, PKCS_9, RSA, UNITED_STATES, MEMBERS}
use Rattle.names.specs.declared.table.TheConstants.{PKIX, ENTERPRISES, INTERNET, ORGANIZATIONS, ITU}

abbrev pub text_of : Table → List ℕ
text_of Attributes = ATTRIBUTES.now
text_of Directory = DIRECTORY.now
text_of Countries = COUNTRIES.now
text_of Joint = JOINT.now
text_of Pkcs9 = PKCS_9.now
text_of Rsa = RSA.now
text_of UnitedStates = UNITED_STATES.now
text_of Members = MEMBERS.now
text_of Pkix = PKIX.now
text_of Enterprises = ENTERPRISES.now
text_of Internet = INTERNET.now
text_of Organizations = ORGANIZATIONS.now
text_of Itu = ITU.now
