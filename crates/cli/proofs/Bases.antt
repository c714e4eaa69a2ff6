-- What a text in base 64 spells.
use Rattle.std.proofs.Common.{◌≡◌, ℕ, List, true, false, Ok, Err, ap, subst, ◌∙◌}
use Rattle.base64.specs.GeneralPurpose.{IsConfig, config_padding, config_trailing_bits, config_mode, decode_of}
use Rattle.base64.specs.declared.decode.DecodeError.{DecodeError}
use Rattle.base64.specs.declared.engine.DecodePaddingMode.TheVariants.{RequireCanonical}
use Rattle.base64.specs.declared.engine.general_purpose.GeneralPurpose.{GeneralPurpose}
use Rattle.base64.specs.declared.engine.general_purpose.GeneralPurposeConfig.{GeneralPurposeConfig}
use Rattle.cli.specs.Spelling.{dense, IsEngine, SpellsBase64, SpellsNoBase64}

pub lax_config : (a b e : GeneralPurposeConfig) → IsConfig a true false RequireCanonical → IsConfig b (config_padding a) true (config_mode a) → e ≡ b
    → IsConfig e true true RequireCanonical
lax_config a b e h k n = (ap config_padding n ∙ k.0 ∙ h.0, ap config_trailing_bits n ∙ k.1, ap config_mode n ∙ k.2 ∙ h.2)

pub spelled : (e : GeneralPurpose) (text s d v : List ℕ) → IsEngine e → s ≡ d → d ≡ dense text → decode_of e s ≡ Ok v → SpellsBase64 text v
spelled e text s d v i k n h = (e, i, subst (λ z. decode_of e z ≡ Ok v) (k ∙ n) h)

pub misspelled : (e : GeneralPurpose) (text s d : List ℕ) (x : DecodeError) → IsEngine e → s ≡ d → d ≡ dense text → decode_of e s ≡ Err x
    → SpellsNoBase64 text
misspelled e text s d x i k n h = (e, i, x, subst (λ z. decode_of e z ≡ Err x) (k ∙ n) h)
