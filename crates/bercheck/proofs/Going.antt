-- What is written on both streams, step by step.
use Rattle.std.proofs.Common.{◌≡◌, ◌≢◌, ◌⊎◌, inl, inr, ℕ, List, [], ◌++◌, Option, Some, None, refl, sym, ap, subst, ◌∙◌, append_assoc, append-nil}
use Rattle.std.proofs.KnownBytes.{Appends-trans, Keeps-refl, Keeps-trans}
use Rattle.std.specs.Io.KnownBytes.{Appends, Keeps}
use Rattle.bcder.specs.calls.Encoders.{AppendsShorter}
use Rattle.cli.specs.Shown.{IsLine}
use Rattle.cli.specs.Told.{Tells}
use Rattle.cli.specs.declared.status.Status.{Status}
use Rattle.cli.specs.declared.status.Status.TheVariants.{Done, Refused, Failed, Unread}
use Rattle.bercheck.specs.Tells.{Goes, Grows, HasLine}

-- ---- one stream

pub kept_grows : (a b : Option (List ℕ)) → Keeps a b → Grows a b
kept_grows None b k = ([], tt)
kept_grows (Some x) None k = absurd k
kept_grows (Some x) (Some y) k = ([], k ∙ sym (append-nil x))

grows_on : (a b c : Option (List ℕ)) → Grows a b → Grows b c → Grows a c
grows_on a b c (v, h) (w, k) = (v ++ w, Appends-trans a b c v w h k)

line_before : (a b c : Option (List ℕ)) → HasLine a b → Grows b c → HasLine a c
line_before a b c h (w, k) = record {
  before = h.before;
  front = h.front;
  rest = h.rest;
  behind = h.behind ++ w;
  line = h.line;
  appends = subst (Appends a c) (append_assoc h.before (h.front ++ h.behind) w ∙ ap (λ z. h.before ++ z) (append_assoc h.front h.behind w))
      (Appends-trans a b c (h.before ++ (h.front ++ h.behind)) w h.appends k);
}

line_behind : (a b c : Option (List ℕ)) → Grows a b → HasLine b c → HasLine a c
line_behind a b c (w, k) h = record {
  before = w ++ h.before;
  front = h.front;
  rest = h.rest;
  behind = h.behind;
  line = h.line;
  appends = subst (Appends a c) (sym (append_assoc w h.before (h.front ++ h.behind)))
      (Appends-trans a b c w (h.before ++ (h.front ++ h.behind)) k h.appends);
}

one_line : (a b : Option (List ℕ)) (front rest : List ℕ) → IsLine (front ++ rest) → Appends a b front → HasLine a b
one_line a b front rest i k = record {
  before = [];
  front = front;
  rest = rest;
  behind = [];
  line = i;
  appends = subst (Appends a b) (sym (append-nil front)) k;
}

told_line : (a b : Option (List ℕ)) → Tells a b → HasLine a b
told_line a b (line, i, k) = one_line a b k.front k.rest (subst IsLine k.whole i) k.appends

-- ---- both

module _ (a b c d e f : Option (List ℕ)) where
  -- two steps, and what they end with
  pub goes_on : (s t u : Status) → Goes a b d e s → Goes b c e f t → (u ≡ Done → (s ≡ Done) × (t ≡ Done)) → (u ≡ s) ⊎ (u ≡ t) → Goes a c d f u
  goes_on s t u h k both either = record {
    silent = λ z. let p = both z in
        (Keeps-trans a b c (h.silent p.0).0 (k.silent p.1).0, Keeps-trans d e f (h.silent p.0).1 (k.silent p.1).1);
    told = λ n. told n either;
    out_grows = grows_on a b c h.out_grows k.out_grows;
    err_grows = grows_on d e f h.err_grows k.err_grows;
  }
    where
      before : HasLine a b ⊎ HasLine d e → HasLine a c ⊎ HasLine d f
      before (inl x) = inl (line_before a b c x k.out_grows)
      before (inr x) = inr (line_before d e f x k.err_grows)

      behind : HasLine b c ⊎ HasLine e f → HasLine a c ⊎ HasLine d f
      behind (inl x) = inl (line_behind a b c h.out_grows x)
      behind (inr x) = inr (line_behind d e f h.err_grows x)

      told : u ≢ Done → (u ≡ s) ⊎ (u ≡ t) → HasLine a c ⊎ HasLine d f
      told n (inl i) = before (h.told (λ z. n (i ∙ z)))
      told n (inr i) = behind (k.told (λ z. n (i ∙ z)))

-- the second step tells something, and it ends with that
pub goes_then : (a b c d e f : Option (List ℕ)) (s t : Status) → Goes a b d e s → Goes b c e f t → t ≢ Done → Goes a c d f t
goes_then a b c d e f s t h k n = goes_on a b c d e f s t t h k (λ z. absurd (n z)) (inr refl)

-- the second step fails
pub goes_fails : (a b c d e f : Option (List ℕ)) (s t : Status) → Goes a b d e s → Goes b c e f t → t ≡ Failed → Goes a c d f Failed
goes_fails a b c d e f s t h k n = goes_on a b c d e f s t Failed h k (λ z. cc) (inr (sym n))

-- nothing was written
pub goes_done : (a b d e : Option (List ℕ)) (s : Status) → s ≡ Done → Keeps a b → Keeps d e → Goes a b d e s
goes_done a b d e s z h k =
    record { silent = λ _. (h, k); told = λ n. absurd (n z); out_grows = kept_grows a b h; err_grows = kept_grows d e k }

-- a message was
pub goes_told : (a b d e : Option (List ℕ)) (s : Status) → s ≢ Done → Grows a b → Tells d e → Goes a b d e s
goes_told a b d e s n h k = record {
  silent = λ z. absurd (n z);
  told = λ _. inr (told_line d e k);
  out_grows = h;
  err_grows = (k.2.front, k.2.appends);
}

pub refused_told : (s : Status) → s ≡ Refused → s ≢ Done
refused_told s e z = let k = sym e ∙ z in cc

pub failed_told : (s : Status) → s ≡ Failed → s ≢ Done
failed_told s e z = let k = sym e ∙ z in cc

pub unread_told : (s : Status) → s ≡ Unread → s ≢ Done
unread_told s e z = let k = sym e ∙ z in cc

pub goes_alone : (a d e : Option (List ℕ)) (s : Status) → s ≢ Done → Tells d e → Goes a a d e s
goes_alone a d e s n k = goes_told a a d e s n (kept_grows a a (Keeps-refl a)) k

-- a message was, for a line that wasn't
pub goes_cut : (a b d e : Option (List ℕ)) (line : List ℕ) (s : Status) → s ≢ Done → AppendsShorter a b line → Tells d e → Goes a b d e s
goes_cut a b d e line s n h k = goes_told a b d e s n (h.front, h.appends) k

-- a line was
pub goes_line : (a b d : Option (List ℕ)) (line : List ℕ) (s : Status) → s ≢ Done → IsLine line → Appends a b line → Goes a b d d s
goes_line a b d line s n i h = record {
  silent = λ z. absurd (n z);
  told = λ _. inl (one_line a b line [] (subst IsLine (sym (append-nil line)) i) h);
  out_grows = (line, h);
  err_grows = kept_grows d d (Keeps-refl d);
}

-- the target was flushed
pub goes_kept : (a b c d e : Option (List ℕ)) (s : Status) → Goes a b d e s → Keeps b c → Goes a c d e s
goes_kept a b c d e s h k = record {
  silent = λ z. (Keeps-trans a b c (h.silent z).0 k, (h.silent z).1);
  told = λ n. kept (h.told n);
  out_grows = grows_on a b c h.out_grows (kept_grows b c k);
  err_grows = h.err_grows;
}
  where
    kept : HasLine a b ⊎ HasLine d e → HasLine a c ⊎ HasLine d e
    kept (inl x) = inl (line_before a b c x (kept_grows b c k))
    kept (inr x) = inr x
