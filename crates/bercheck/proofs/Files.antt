-- Blocks and files, one behind the other.
use Rattle.std.proofs.Common.{◌≡◌, ◌≢◌, ◌≤◌, ◌⊎◌, inl, inr, ℕ, ◌-◌, List, [], ◌∷◌, length, take, drop, get_or, Result, Ok, sym, ap, subst, ◌∙◌, arith}
use Rattle.std.proofs.lemmas.List.{take_all}
use Rattle.std.specs.Prelude.{MatchResult}
use Rattle.cli.specs.declared.pem.Block.{Block}
use Rattle.cli.specs.Pem.{HasNoBlock, IsAmong, IsNext}
use Rattle.cli.specs.declared.files.Input.{Input}
use Rattle.cli.specs.declared.status.Status.{Status}
use Rattle.cli.specs.declared.status.Status.TheVariants.{Refused}
use Rattle.bercheck.specs.declared.request.Request.{Request}
use Rattle.bercheck.specs.Runs.{AreBlocksRight, AreFilesRight, HasBrokenBlock, HasBrokenFile, IsBlockBroken, IsBlockRight, IsFileBroken, IsFileRight}

pub not_empty : {A : Type 0} (v w : List A) → 1 ≤ length v → length v ≤ length w → w ≢ []
not_empty v w h k e = absurd (omega (arith, h, subst (λ z. length v ≤ length z) e k))

-- ---- blocks

pub none_right : (r : Request) (text : List ℕ) → HasNoBlock text → AreBlocksRight r text
none_right r text n = ([], n, tt)

pub block_right : (r : Request) (text : List ℕ) (b : Block) → IsNext text b → IsBlockRight r b → AreBlocksRight r b.rest.now → AreBlocksRight r text
block_right r text b n (v, h, k) (vs, are, all) = (v ∷ vs, (b, n, h, are), (k, all))

pub among_more : (all rest : List ℕ) (a : Block) → IsNext rest a → ((b : Block) → IsAmong b rest → IsAmong b all)
    → (b : Block) → IsAmong b a.rest.now → IsAmong b all
among_more all rest a n h b k = h b (IsAmong.later a n k)

pub block_broken : (r : Request) (all rest : List ℕ) (a : Block) → IsNext rest a → ((b : Block) → IsAmong b rest → IsAmong b all) → IsBlockBroken r a
    → HasBrokenBlock r all
block_broken r all rest a n h k = (a, h a (IsAmong.next n), k)

-- what two parts say, by what both end with
pub either_broken : {X : Type 0} (s t u : Status) → (u ≡ s) ⊎ (u ≡ t) → (s ≡ Refused → X) → (t ≡ Refused → X) → u ≡ Refused → X
either_broken s t u (inl e) h k z = h (sym e ∙ z)
either_broken s t u (inr e) h k z = k (sym e ∙ z)

-- ---- files

pub read_as : {V E : Type 0} (P : List ℕ → Type 0) (items : V → List ℕ) (r : Result V E) (v : V) (octets : List ℕ) → r ≡ Ok v → octets ≡ items v
    → P octets → MatchResult r (λ x. P (items x)) (λ e. ⊥)
read_as P items r v octets e is h = subst (λ k. MatchResult k (λ x. P (items x)) (λ e. ⊥)) (sym e) (subst P is h)

-- the first file, and those behind it
first_file : (w : List Input) (x : Input) → 1 ≤ length w → x ≡ get_or w 0 x → w ≡ x ∷ take (length w - 1) (drop 1 w)
first_file [] x h e = absurd (omega (arith, h))
first_file (y ∷ ys) x h e = ap (λ z. z ∷ ys) (sym e) ∙ ap (λ z. x ∷ z) (sym (take_all (length (y ∷ ys) - 1) ys (omega arith)))

module _ (r : Request) (w : List Input) (x : Input) (some : 1 ≤ length w) (first : x ≡ get_or w 0 x) where
  pub file_right : IsFileRight r x → AreFilesRight r (take (length w - 1) (drop 1 w)) → AreFilesRight r w
  file_right h k = let both : AreFilesRight r (x ∷ take (length w - 1) (drop 1 w)) = (h, k) in
      subst (AreFilesRight r) (sym (first_file w x some first)) both

  pub file_broken : IsFileBroken r x → HasBrokenFile r w
  file_broken h = let one : HasBrokenFile r (x ∷ take (length w - 1) (drop 1 w)) = inl h in
      subst (HasBrokenFile r) (sym (first_file w x some first)) one

  pub others_broken : HasBrokenFile r (take (length w - 1) (drop 1 w)) → HasBrokenFile r w
  others_broken h = let one : HasBrokenFile r (x ∷ take (length w - 1) (drop 1 w)) = inr h in
      subst (HasBrokenFile r) (sym (first_file w x some first)) one
