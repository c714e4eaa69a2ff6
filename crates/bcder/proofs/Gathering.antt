-- Kept values that are written, and written values that are kept.
use Rattle.std.proofs.Common.{◌≡◌, ℕ, List, [], true, Some, Result, Ok, refl, sym, subst}
use Rattle.bcder.specs.declared.encode.error.WriteError.{WriteError}
use Rattle.bcder.specs.declared.mode.Mode.{Mode}
use Rattle.bcder.specs.x690.Tree.{no_trees, ◌+++◌}
use Rattle.bcder.specs.x690.Encoding.{AreEncodings}
use Rattle.bcder.specs.calls.Captured.{Kept, AreWhole}
use Rattle.bcder.specs.calls.Meaning.{Meaning, IsLawful}
use Rattle.bcder.specs.calls.Encoders.{HasEncoding, DoneOf, WritesEncoding}
use Rattle.bcder.specs.calls.Gathered.{suits, KeptMeans, kept_from_start, GrowsBy}
use Rattle.bcder.specs.laws.Gathered.{the_encodings}
use Rattle.bcder.specs.laws.Lists.{AreEncodings-join}

-- whole values have an encoding in the modes that suit theirs
pub may_write : (c : Kept) (mode : Mode) → AreWhole c.mode c.octets → suits c.mode mode ≡ true → HasEncoding (KeptMeans c mode)
may_write c mode h s = (record { values = h.values; octets = c.octets }, (s, h.encode, refl))

-- no octets are no values
pub none_whole : (mode : Mode) (w : List ℕ) → w ≡ [] → AreWhole mode w
none_whole mode w h = record { values = no_trees; encode = h }

-- what was written behind octets is what is meant
pub written_grows : {M : Meaning → Type 0} {lacks : Type 0} (mode : Mode) (old new : List ℕ) (r : Result (Unit {0}) WriteError)
    → IsLawful mode M → HasEncoding M → WritesEncoding M lacks (Some old) (Some new) r → r ≡ Ok tt
    → GrowsBy M (kept_from_start mode old) (kept_from_start mode new)
written_grows {M} {lacks} mode old new r lawful (e, m) writes is =
    let done : DoneOf lacks e.octets (Some old) (Some new) (Ok tt) = subst (λ x. DoneOf lacks e.octets (Some old) (Some new) x) is (writes e m).done in
    record { what = e; meant = m; octets = done; mode = refl; start = refl; encode = the_encodings lawful e m }

-- whole values behind whole values are whole
pub whole_grown : {M : Meaning → Type 0} (mode : Mode) (old new : List ℕ) → AreWhole mode old
    → GrowsBy M (kept_from_start mode old) (kept_from_start mode new) → AreWhole mode new
whole_grown mode old new h g = record {
  values = h.values +++ g.what.values;
  encode = subst (AreEncodings mode (h.values +++ g.what.values)) (sym g.octets)
      (AreEncodings-join mode h.values g.what.values old g.what.octets h.encode g.encode.encode);
}
