-- Blocks of a text, one after the other.
use Rattle.std.proofs.Common.{ℕ, List, [], ◌∷◌, ◌++◌, refl, subst, inr}
use Rattle.cli.specs.declared.pem.Block.{Block}
use Rattle.cli.specs.Pem.{AreBlocks, HasNoBlock, HasOctets, IsNext, StandBefore}
use Rattle.berconv.specs.declared.refusal.Refusal.{Refusal}
use Rattle.berconv.specs.declared.request.Request.{Request}
use Rattle.berconv.specs.Ends.{AppendsConversion, AppendsConversions, IsRefusedBlock, IsUnconverted}

-- the blocks of a text up to x were converted
pub record Converted (r : Request) (text x : List ℕ) (old new : List ℕ) : Type 0 where
  pub parts : List (List ℕ)
  pub stand : StandBefore x text parts
  pub appends : AppendsConversions r parts old new

pub none_converted : (r : Request) (text old : List ℕ) → Converted r text text old old
none_converted r text old = record { parts = []; stand = refl; appends = refl }

stand_more : (text x : List ℕ) (vs : List (List ℕ)) (b : Block) (v : List ℕ) → StandBefore x text vs → IsNext x b → HasOctets b v
    → StandBefore b.rest.now text (vs ++ v ∷ [])
stand_more text x [] b v h s k = (b, subst (λ z. IsNext z b) h s, k, refl)
stand_more text x (u ∷ vs) b v h s k = (h.0, h.1, h.2, stand_more h.0.rest.now x vs b v h.3 s k)

no_others : (text x : List ℕ) (vs : List (List ℕ)) → StandBefore x text vs → HasNoBlock x → AreBlocks text vs
no_others text x [] h n = subst HasNoBlock h n
no_others text x (u ∷ vs) h n = (h.0, h.1, h.2, no_others h.0.rest.now x vs h.3 n)

module _ (r : Request) where
  appends_more : (vs : List (List ℕ)) (v old mid new : List ℕ) → AppendsConversions r vs old mid → AppendsConversion r v mid new
      → AppendsConversions r (vs ++ v ∷ []) old new
  appends_more [] v old mid new h a = (new, subst (λ z. AppendsConversion r v z new) h a, refl)
  appends_more (u ∷ vs) v old mid new h a = (h.0, h.1, appends_more vs v h.0 mid new h.2 a)

  pub one_converted : (text x old mid new : List ℕ) (b : Block) → Converted r text x old mid → IsNext x b
      → (v : List ℕ) × HasOctets b v × AppendsConversion r v mid new → Converted r text b.rest.now old new
  one_converted text x old mid new b c s (v, k, a) = record {
    parts = c.parts ++ v ∷ [];
    stand = stand_more text x c.parts b v c.stand s k;
    appends = appends_more c.parts v old mid new c.appends a;
  }

  pub one_refused : (text x old mid : List ℕ) (b : Block) (e : Refusal) → Converted r text x old mid → IsNext x b → IsRefusedBlock r b e
      → IsUnconverted r text e
  one_refused text x old mid b e c s h = inr (c.parts, x, b, c.stand, s, h)

  pub all_converted : (text x old new : List ℕ) → Converted r text x old new → HasNoBlock x
      → (parts : List (List ℕ)) × AreBlocks text parts × AppendsConversions r parts old new
  all_converted text x old new c n = (c.parts, no_others text x c.parts c.stand n, c.appends)
