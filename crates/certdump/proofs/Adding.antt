-- Lines that are added one by one.
use Rattle.std.proofs.Common.{◌≡◌, ℕ, Bool, true, false, List, [], ◌++◌, Option, Some, None, if◌then◌else◌, refl, sym, subst, ◌∙◌, append-nil}
use Rattle.std.specs.Io.KnownBytes.{Keeps}
use Rattle.cli.specs.Shown.{IsLine}
use Rattle.cli.specs.Told.{Tells}
use Rattle.certdump.specs.Lines.{AreLines, ShowsFront}

-- no lines
pub no_lines : (all : List ℕ) → all ≡ [] → AreLines all
no_lines all e = subst AreLines (sym e) AreLines.none

-- a line was added, or there was no room
pub lines_grown : (b : Bool) (text line all : List ℕ) → AreLines text → IsLine line → all ≡ (if b then text ++ line else text) → AreLines all
lines_grown true text line all h k e = AreLines.more h k e
lines_grown false text line all h k e = subst AreLines (sym e) h

-- a message of one line was written
pub line_shown : (a b : Option (List ℕ)) → Tells a b → ShowsFront a b
line_shown a b (line, k, h) = (line, AreLines.more AreLines.none k refl, h)

-- nothing was written
pub kept_shown : (a b : Option (List ℕ)) → Keeps a b → ShowsFront a b
kept_shown None b k = ([], AreLines.none, record { front = []; rest = []; appends = tt; whole = refl })
kept_shown (Some x) None k = absurd k
kept_shown (Some x) (Some y) k = ([], AreLines.none, record { front = []; rest = []; appends = k ∙ sym (append-nil x); whole = refl })

pub same_shown : (a : Option (List ℕ)) → ShowsFront a a
same_shown None = kept_shown None None tt
same_shown (Some x) = kept_shown (Some x) (Some x) refl
