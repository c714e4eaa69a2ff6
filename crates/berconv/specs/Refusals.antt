-- Why something isn't converted, and how it is said.
use Rattle.std.specs.Prelude.{◌⊎◌, ℕ, zero, suc, List, [], ◌++◌, ◌==◌, if◌then◌else◌, Option, codes, decimal}
use Rattle.bcder.specs.calls.Encoders.{AppendsFront}
use Rattle.encodings.specs.Status.{beyond, ended}
use Rattle.berconv.specs.declared.refusal.Refusal.{Refusal}
use Rattle.berconv.specs.declared.refusal.Refusal.TheVariants.{NoValues, NotConverted, NoMemory, NoBlock, Unended}
use Rattle.berconv.specs.declared.refusal.Refusal.TheVariants.{OtherLabel, Headers, NotBase64, Misspelled}
use Rattle.cli.specs.declared.pem.BlockError.{BlockError}
use Rattle.cli.specs.declared.pem.BlockError.TheVariants as error
use Rattle.cli.specs.declared.pem.Unended.TheVariants as unended
use Rattle.cli.specs.declared.status.Status.{Status}
use Rattle.cli.specs.declared.status.Status.TheVariants as status

-- why no value begins
abbrev pub why_text : ℕ → List ℕ
why_text why =
    if why == beyond then codes "the contents of this value aren't all here"
    else if why == ended then codes "the octets end before a value does"
    else codes "no value of these rules begins here, and none ends"

abbrev pub unconverted : List ℕ
unconverted =
    codes "a value isn't converted to these rules. Those that aren't:\n"
    ++ codes "  BOOLEANs that are constructed, or haven't one octet\n"
    ++ codes "  BIT STRINGs that are constructed or malformed, or have unused bits that aren't zero\n"
    ++ codes "  to CER, BIT STRINGs of more than 1000 octets\n"
    ++ codes "  constructed strings with values in them that aren't OCTET STRINGs\n"
    ++ codes "  to DER, values of 2^32 contents octets or more"

abbrev pub reason_of : Refusal → List ℕ
reason_of (NoValues at why) = why_text why
reason_of NotConverted = unconverted
reason_of NoMemory = codes "out of memory"
reason_of NoBlock = codes "there is no block"
reason_of Unended = codes "it has no end"
reason_of OtherLabel = codes "it ends with another label"
reason_of Headers = codes "it has headers, as an encrypted key has"
reason_of NotBase64 = codes "it isn't in base 64"
reason_of Misspelled = codes "it isn't in the form that is asked for"

-- in which block it is, counted from 1; 0 where there are none
abbrev pub block_text : ℕ → List ℕ
block_text zero = []
block_text (suc n) = codes "block " ++ decimal (suc n) ++ codes ": "

-- behind how many octets
abbrev pub place_text : Refusal → List ℕ
place_text (NoValues at why) = codes "octet " ++ decimal at ++ codes ": "
place_text NotConverted = []
place_text NoMemory = []
place_text NoBlock = []
place_text Unended = []
place_text OtherLabel = []
place_text Headers = []
place_text NotBase64 = []
place_text Misspelled = []

abbrev pub message : ℕ → Refusal → List ℕ
message block r = codes "berconv: " ++ block_text block ++ place_text r ++ reason_of r ++ codes "\n"

abbrev pub out_of_memory : List ℕ
out_of_memory = codes "berconv: out of memory\n"

-- the message was written, or a prefix of it; or that memory ran out for it
abbrev pub RefusedWith : ℕ → Refusal → Option (List ℕ) → Option (List ℕ) → Type 0
RefusedWith block r old new = AppendsFront old new (message block r) ⊎ AppendsFront old new out_of_memory

abbrev pub status_of : Refusal → Status
status_of (NoValues at why) = status.Refused
status_of NotConverted = status.Refused
status_of NoMemory = status.Failed
status_of NoBlock = status.Refused
status_of Unended = status.Refused
status_of OtherLabel = status.Refused
status_of Headers = status.Refused
status_of NotBase64 = status.Refused
status_of Misspelled = status.Refused

-- why a block isn't converted that carries no octets
abbrev pub refusal_of : BlockError → Refusal
refusal_of (error.Unended unended.Missing) = Unended
refusal_of (error.Unended (unended.Label label)) = OtherLabel
refusal_of (error.Headers name) = Headers
refusal_of error.NotBase64 = NotBase64
refusal_of error.NoMemory = NoMemory
