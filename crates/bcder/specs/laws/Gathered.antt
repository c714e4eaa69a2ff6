-- Kept values mean one list of values in a mode, and their octets are its encoding there.
use Rattle.std.specs.Prelude.{◌≡◌, ℕ, List, true, Ok, Err}
use Rattle.std.proofs.Common.{sym, ap, ◌∙◌, subst}
use Rattle.bcder.specs.declared.mode.Mode.{Mode}
use Rattle.bcder.specs.declared.mode.Mode.TheVariants.{Ber, Cer, Der}
use Rattle.bcder.specs.x690.Tree.{Trees}
use Rattle.bcder.specs.x690.Encoding.{AreEncodings}
use Rattle.bcder.specs.calls.Captured.{Kept}
use Rattle.bcder.specs.calls.Meaning.{Encoded, Meaning, IsLawful}
use Rattle.bcder.specs.calls.Gathered.{suits, KeptMeans, AreTheEncodings}
use Rattle.bcder.specs.laws.Complete.{one_list}
use Rattle.bcder.specs.laws.Canonical.{AreEncodings-in_ber, one_spelling_each}

kept_same : (c : Kept) (mode : Mode) (m n : Meaning) → KeptMeans c mode m → KeptMeans c mode n → m ≡ n
kept_same c mode (Ok d) (Ok e) (s, p, u) (t, q, v) =
    let values = one_list c.mode d.values e.values c.octets p q in
    ap (λ (ts : Trees). let r : Encoded = record { values = ts; octets = d.octets } in Ok r) values
    ∙ ap (λ (w : List ℕ). let r : Encoded = record { values = e.values; octets = w } in Ok r) (u ∙ sym v)
kept_same c mode (Ok d) (Err e) p q = cc
kept_same c mode (Err d) (Ok e) p q = cc
kept_same c mode (Err d) (Err e) p q = ap Err (p.1 ∙ sym q.1)

-- encodings in one mode are encodings in the modes that suit it
pub AreEncodings-suits : (own mode : Mode) (ts : Trees) (w : List ℕ) → suits own mode ≡ true → AreEncodings own ts w
    → AreEncodings mode ts w
AreEncodings-suits own Ber ts w s h = AreEncodings-in_ber own ts w h
AreEncodings-suits Cer Cer ts w s h = h
AreEncodings-suits Der Der ts w s h = h
AreEncodings-suits Ber Cer ts w s h = cc
AreEncodings-suits Der Cer ts w s h = cc
AreEncodings-suits Ber Der ts w s h = cc
AreEncodings-suits Cer Der ts w s h = cc

pub kept_lawful : (c : Kept) (mode : Mode) → IsLawful mode (KeptMeans c mode)
kept_lawful c mode = record {
  one = record { same = kept_same c mode };
  encodes = λ e (s, h, same). subst (AreEncodings mode e.values) (sym same) (AreEncodings-suits c.mode mode e.values c.octets s h);
}

-- the octets that an encoder writes are the encoding of its values
pub the_encodings : {mode : Mode} {M : Meaning → Type 0} → IsLawful mode M → (e : Encoded) → M (Ok e)
    → AreTheEncodings mode e.values e.octets
the_encodings {mode} lawful e m =
    let h = lawful.encodes e m in
    record { encode = h; only = λ strict w k. one_spelling_each mode strict e.values w e.octets k h }
