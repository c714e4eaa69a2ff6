-- What a run wrote, at each way that it can go.
use Rattle.std.proofs.Common.{◌≡◌, ◌≢◌, ◌≤◌, ◌<◌, ℕ, List, [], ◌∷◌, ◌++◌, Bool, true, false}
use Rattle.std.proofs.Common.{Option, Some, None, codes, drop, length, get_or, suc, ◌+◌, add-one, refl, sym, ap}
use Rattle.std.proofs.Common.{subst, ◌∙◌, append_assoc, append-nil, inl, inr, ◌⊎◌, MatchResult, arith}
use Rattle.std.proofs.KnownBytes.{Appends-trans, Appends-kept, Keeps-refl, Keeps-trans}
use Rattle.std.specs.Io.KnownBytes.{Appends, Keeps}
use Rattle.bcder.specs.declared.mode.Mode.{Mode}
use Rattle.bcder.specs.calls.Encoders.{AppendsShorter}
use Rattle.berdump.specs.declared.list.ListError.{ListError}
use Rattle.berdump.specs.declared.list.ListError.TheVariants.{Refused, NoMemory, Target}
use Rattle.berdump.specs.declared.scope.Scope.{Scope}
use Rattle.cli.specs.declared.status.Status.{Status}
use Rattle.cli.specs.declared.status.Status.TheVariants as status
use Rattle.berdump.specs.Answers.{Listed, ListedInPart, CutOff, IsUnlisted, HasContents}
use Rattle.berdump.specs.Runs.{Ends, IsWhole, IsTitle, AnyTitle, Titled, TitleCutOff, IsText}
use Rattle.berdump.specs.Runs.{IsTextInPart, AreWhole, AreParts, joined, AllWritten, SomeWritten, CutWritten}
use Rattle.berdump.specs.Runs.{IsBound, IsUntitled, status_of, BlockTitled, BlocksListed, IsFile, FilesListed, ValueWritten, IsValueOf, FirstWritten}
use Rattle.berdump.specs.declared.request.Request.{Request}
use Rattle.cli.specs.declared.files.Input.{Input}
use Rattle.cli.specs.declared.pem.Block.{Block}
use Rattle.cli.specs.Pem.{IsNext, HasNoBlock}
use Rattle.cli.specs.Shown.{IsLine}
use Rattle.std.proofs.Math.Seq.{drop-cons}
use Rattle.berdump.proofs.Walking.{written_kept, keeps_nil}

-- ---- octets

listed_kept : (scope : Scope) (mode : Mode) (octets : List ℕ) (a b c : Option (List ℕ)) → Listed scope mode octets a b → Keeps b c
    → Listed scope mode octets a c
listed_kept scope mode octets a b c h k = record { headings = h.headings; listed = h.listed; written = written_kept scope h.headings a b c h.written k }

part_kept : (scope : Scope) (mode : Mode) (octets : List ℕ) (a b c : Option (List ℕ)) → ListedInPart scope mode octets a b → Keeps b c
    → ListedInPart scope mode octets a c
part_kept scope mode octets a b c h k = record { headings = h.headings; stand = h.stand; written = written_kept scope h.headings a b c h.written k }

cut_kept : (scope : Scope) (mode : Mode) (octets : List ℕ) (a b c : Option (List ℕ)) → CutOff scope mode octets a b → Keeps b c
    → CutOff scope mode octets a c
cut_kept scope mode octets a b c h k = record {
  headings = h.headings;
  text = h.text;
  stand = h.stand;
  lines = h.lines;
  appends =
      record { front = h.appends.front; rest = h.appends.rest; appends = Appends-kept a b c h.appends.front h.appends.appends k; whole = h.appends.whole };
}

module _ (scope : Scope) (mode : Mode) (octets w : List ℕ) (a b c : Option (List ℕ)) (is : w ≡ drop scope.from octets) (k : Keeps b c) where
  pub ends_listed : (s : Status) → s ≡ status.Done → scope.from ≤ length octets → Listed scope mode w a b → Ends scope mode octets a c s
  ends_listed s e l h = Ends.listed e l (listed_kept scope mode (drop scope.from octets) a b c (subst (λ z. Listed scope mode z a b) is h) k)

  pub ends_unflushed : (s : Status) → s ≡ status.Failed → Listed scope mode w a b → Ends scope mode octets a c s
  ends_unflushed s e h = Ends.unflushed e (listed_kept scope mode (drop scope.from octets) a b c (subst (λ z. Listed scope mode z a b) is h) k)

  pub ends_unlisted : (s : Status) (e : ListError) → s ≡ status_of e → IsUnlisted scope mode w a b e → Ends scope mode octets a c s
  ends_unlisted s (Refused at why) e u = let v = subst (λ z. IsUnlisted scope mode z a b (Refused at why)) is u in
      Ends.refused e v.2 (part_kept scope mode (drop scope.from octets) a b c v.0 k)
  ends_unlisted s NoMemory e u = Ends.no_memory e (part_kept scope mode (drop scope.from octets) a b c
      (subst (λ z. ListedInPart scope mode z a b) is u) k)
  ends_unlisted s (Target x) e u = Ends.out_failed e (cut_kept scope mode (drop scope.from octets) a b c (subst (λ z. CutOff scope mode z a b) is u) k)

-- ---- texts in a row

joined_more : (ts us : List (List ℕ)) → joined (ts ++ us) ≡ joined ts ++ joined us
joined_more [] us = refl
joined_more (t ∷ ts) us = ap (λ z. t ++ z) (joined_more ts us) ∙ sym (append_assoc t (joined ts) (joined us))

module _ (scope : Scope) (mode : Mode) where
  whole_more : (ts us : List (List ℕ)) → AreWhole scope mode ts → AreWhole scope mode us → AreWhole scope mode (ts ++ us)
  whole_more [] us h k = k
  whole_more (t ∷ ts) us h k = (h.0, whole_more ts us h.1 k)

  parts_more : (ts us : List (List ℕ)) → AreParts scope mode ts → AreParts scope mode us → AreParts scope mode (ts ++ us)
  parts_more [] us h k = k
  parts_more (t ∷ ts) us h k = (h.0, parts_more ts us h.1 k)

  text_in_part : (t : List ℕ) → IsText scope mode t → IsTextInPart scope mode t
  text_in_part t h = record { octets = h.octets; headings = h.headings; some = inr h.listed; lines = h.lines }

  one_part : (t : List ℕ) → AnyTitle t ⊎ IsText scope mode t → AnyTitle t ⊎ IsTextInPart scope mode t
  one_part t (inl h) = inl h
  one_part t (inr h) = inr (text_in_part t h)

  whole_parts : (ts : List (List ℕ)) → AreWhole scope mode ts → AreParts scope mode ts
  whole_parts [] h = tt
  whole_parts (t ∷ ts) h = (one_part t h.0, whole_parts ts h.1)

  pub all_none : (a b : Option (List ℕ)) → Keeps a b → AllWritten scope mode a b
  all_none a b k = record { texts = []; are = tt; appends = keeps_nil a b k }

  pub all_join : (a b c : Option (List ℕ)) → AllWritten scope mode a b → AllWritten scope mode b c → AllWritten scope mode a c
  all_join a b c h k = record {
    texts = h.texts ++ k.texts;
    are = whole_more h.texts k.texts h.are k.are;
    appends = subst (Appends a c) (sym (joined_more h.texts k.texts)) (Appends-trans a b c (joined h.texts) (joined k.texts) h.appends k.appends);
  }

  pub some_all : (a b : Option (List ℕ)) → AllWritten scope mode a b → SomeWritten scope mode a b
  some_all a b h = record { texts = h.texts; are = whole_parts h.texts h.are; appends = h.appends }

  pub some_join : (a b c : Option (List ℕ)) → SomeWritten scope mode a b → SomeWritten scope mode b c → SomeWritten scope mode a c
  some_join a b c h k = record {
    texts = h.texts ++ k.texts;
    are = parts_more h.texts k.texts h.are k.are;
    appends = subst (Appends a c) (sym (joined_more h.texts k.texts)) (Appends-trans a b c (joined h.texts) (joined k.texts) h.appends k.appends);
  }

  pub cut_some : (a b : Option (List ℕ)) → SomeWritten scope mode a b → CutWritten scope mode a b
  cut_some a b h = record {
    texts = h.texts;
    are = h.are;
    appends = record { front = joined h.texts; rest = []; appends = h.appends; whole = sym (append-nil (joined h.texts)) };
  }

  pub cut_join : (a b c : Option (List ℕ)) → SomeWritten scope mode a b → CutWritten scope mode b c → CutWritten scope mode a c
  cut_join a b c h k = record {
    texts = h.texts ++ k.texts;
    are = parts_more h.texts k.texts h.are k.are;
    appends = record {
      front = joined h.texts ++ k.appends.front;
      rest = k.appends.rest;
      appends = Appends-trans a b c (joined h.texts) k.appends.front h.appends k.appends.appends;
      whole = joined_more h.texts k.texts ∙ ap (λ z. joined h.texts ++ z) k.appends.whole
          ∙ sym (append_assoc (joined h.texts) k.appends.front k.appends.rest);
    };
  }

  -- nothing was written
  pub bound_none : (a b : Option (List ℕ)) (s : Status) → Keeps a b → IsBound scope mode a b s
  bound_none a b s k = let h = all_none a b k in
      record { written = λ e. h; some = λ e. some_all a b h; cut = cut_some a b (some_all a b h) }

  pub bound_cut : (a b : Option (List ℕ)) (s : Status) → s ≡ status.Failed → CutWritten scope mode a b → IsBound scope mode a b s
  bound_cut a b s e h = record { written = λ z. cc; some = λ n. absurd (n e); cut = h }

  -- what was written before, and by the last step
  pub bound_join : (a b c : Option (List ℕ)) (s : Status) → AllWritten scope mode a b → IsBound scope mode b c s → IsBound scope mode a c s
  bound_join a b c s h k = record {
    written = λ e. all_join a b c h (k.written e);
    some = λ n. some_join a b c (some_all a b h) (k.some n);
    cut = cut_join a b c (some_all a b h) k.cut;
  }

  -- ---- one text

  one_text : (octets : List ℕ) (a b : Option (List ℕ)) → Listed scope mode octets a b → AllWritten scope mode a b
  one_text octets a b h = record {
    texts = h.written.text ∷ [];
    are = (inr (record { octets = octets; headings = h.headings; listed = h.listed; lines = h.written.lines }), tt);
    appends = subst (Appends a b) (sym (append-nil h.written.text)) h.written.appends;
  }

  one_in_part : (octets : List ℕ) (a b : Option (List ℕ)) → ListedInPart scope mode octets a b → SomeWritten scope mode a b
  one_in_part octets a b h = record {
    texts = h.written.text ∷ [];
    are = (inr (record { octets = octets; headings = h.headings; some = inl h.stand; lines = h.written.lines }), tt);
    appends = subst (Appends a b) (sym (append-nil h.written.text)) h.written.appends;
  }

  one_cut : (octets : List ℕ) (a b : Option (List ℕ)) → CutOff scope mode octets a b → CutWritten scope mode a b
  one_cut octets a b h = record {
    texts = h.text ∷ [];
    are = (inr (record { octets = octets; headings = h.headings; some = inl h.stand; lines = h.lines }), tt);
    appends = record { front = h.appends.front; rest = h.appends.rest; appends = h.appends.appends; whole = append-nil h.text ∙ h.appends.whole };
  }

  bound_some : (a b : Option (List ℕ)) (s : Status) → s ≡ status.Refused → SomeWritten scope mode a b → IsBound scope mode a b s
  bound_some a b s e h = record { written = λ z. cc; some = λ n. h; cut = cut_some a b h }

  bound_all : (a b : Option (List ℕ)) (s : Status) → AllWritten scope mode a b → IsBound scope mode a b s
  bound_all a b s h = record { written = λ e. h; some = λ n. some_all a b h; cut = cut_some a b (some_all a b h) }

  pub bound_ends : (octets : List ℕ) (a b : Option (List ℕ)) (s : Status) → Ends scope mode octets a b s → IsBound scope mode a b s
  bound_ends octets a b s (Ends.listed e l h) = bound_all a b s (one_text (drop scope.from octets) a b h)
  bound_ends octets a b s (Ends.outside e l k) = bound_none a b s k
  bound_ends octets a b s (Ends.refused e n h) = bound_some a b s e (one_in_part (drop scope.from octets) a b h)
  bound_ends octets a b s (Ends.no_memory e h) = bound_cut a b s e (cut_some a b (one_in_part (drop scope.from octets) a b h))
  bound_ends octets a b s (Ends.out_failed e h) = bound_cut a b s e (one_cut (drop scope.from octets) a b h)
  bound_ends octets a b s (Ends.unflushed e h) = bound_all a b s (one_text (drop scope.from octets) a b h)

  -- ---- titles

  pub all_titled : (first : Bool) (a b : Option (List ℕ)) → Titled first a b → AllWritten scope mode a b
  all_titled first a b h = record {
    texts = h.title ∷ [];
    are = (inl (first, h.is), tt);
    appends = subst (Appends a b) (sym (append-nil h.title)) h.appends;
  }

  title_cut : (first : Bool) (a b c : Option (List ℕ)) → TitleCutOff first a b → Keeps b c → CutWritten scope mode a c
  title_cut first a b c h k = record {
    texts = h.title ∷ [];
    are = (inl (first, h.is), tt);
    appends = record {
      front = h.appends.front;
      rest = h.appends.rest;
      appends = Appends-kept a b c h.appends.front h.appends.appends k;
      whole = append-nil h.title ∙ h.appends.whole;
    };
  }

  pub bound_untitled : (first : Bool) (a b c : Option (List ℕ)) (e : ListError) (s : Status) → s ≡ status_of e → IsUntitled first a b e → Keeps b c
      → IsBound scope mode a c s
  bound_untitled first a b c (Refused at why) s x u k = absurd u
  bound_untitled first a b c NoMemory s x u k = bound_none a c s (Keeps-trans a b c u k)
  bound_untitled first a b c (Target e) s x u k = bound_cut a c s x (title_cut first a b c u k)

-- ---- steps of a loop

pub keeps_self : (a : Option (List ℕ)) → Keeps a a
keeps_self None = tt
keeps_self (Some x) = refl

pub bound_next : (scope : Scope) (mode : Mode) (a b c : Option (List ℕ)) (s t u : Status) → IsBound scope mode a b s → s ≢ status.Failed
    → IsBound scope mode b c t → t ≢ status.Failed → (u ≡ status.Done → (s ≡ status.Done) × (t ≡ status.Done)) → IsBound scope mode a c u
bound_next scope mode a b c s t u h n k m both = record {
  written = λ e. let p = both e in all_join scope mode a b c (h.written p.0) (k.written p.1);
  some = λ z. some_join scope mode a b c (h.some n) (k.some m);
  cut = cut_join scope mode a b c (h.some n) k.cut;
}

pub bound_fails : (scope : Scope) (mode : Mode) (a b c : Option (List ℕ)) (s t u : Status) → IsBound scope mode a b s → s ≢ status.Failed
    → IsBound scope mode b c t → u ≡ status.Failed → IsBound scope mode a c u
bound_fails scope mode a b c s t u h n k e = bound_cut scope mode a c u e (cut_join scope mode a b c (h.some n) k.cut)

pub not_failed : (s t u : Status) → (u ≡ s) ⊎ (u ≡ t) → s ≢ status.Failed → t ≢ status.Failed → u ≢ status.Failed
not_failed s t u (inl e) n m k = n (sym e ∙ k)
not_failed s t u (inr e) n m k = m (sym e ∙ k)

-- ---- files

-- where all is written, all lines were
pub whole_ends : (scope : Scope) (mode : Mode) (octets : List ℕ) (a b : Option (List ℕ)) (s : Status) → s ≡ status.Done
    → Ends scope mode octets a b s → IsWhole scope mode octets a b
whole_ends scope mode octets a b s z (Ends.listed e l h) = record { within = l; listed = h }
whole_ends scope mode octets a b s z (Ends.outside e l k) = let n = sym z ∙ e in cc
whole_ends scope mode octets a b s z (Ends.refused e n h) = let n = sym z ∙ e in cc
whole_ends scope mode octets a b s z (Ends.no_memory e h) = let n = sym z ∙ e in cc
whole_ends scope mode octets a b s z (Ends.out_failed e h) = let n = sym z ∙ e in cc
whole_ends scope mode octets a b s z (Ends.unflushed e h) = let n = sym z ∙ e in cc

pub never_written : (e : ListError) → status_of e ≡ status.Done → ⊥
never_written (Refused at why) h = cc
never_written NoMemory h = cc
never_written (Target e) h = cc

-- ---- titles

pub title_written : (first : Bool) (w v : List ℕ) (a b c : Option (List ℕ)) → IsTitle first w → v ≡ w → Appends a b v → Keeps b c → Titled first a c
title_written first w v a b c i e k f = record { title = w; is = i; appends = subst (Appends a c) e (Appends-kept a b c v k f) }

pub title_cut_off : (first : Bool) (w v : List ℕ) (a b : Option (List ℕ)) → IsTitle first w → v ≡ w → AppendsShorter a b v → TitleCutOff first a b
title_cut_off first w v a b i e k = record {
  title = w;
  is = i;
  appends = record { front = k.front; rest = k.rest; appends = k.appends; whole = sym e ∙ k.whole };
}

pub title_unflushed : (first : Bool) (w v : List ℕ) (a b c : Option (List ℕ)) → IsTitle first w → v ≡ w → Appends a b v → Keeps b c → TitleCutOff first a c
title_unflushed first w v a b c i e k f = record {
  title = w;
  is = i;
  appends = record { front = v; rest = []; appends = Appends-kept a b c v k f; whole = sym e ∙ sym (append-nil v) };
}

-- a line behind an empty one
pub title_later : (line old new : List ℕ) → IsLine line → old ≡ [] → new ≡ old ++ (codes "\n" ++ line) → IsTitle false new
title_later line old new i n e = (line, i, e ∙ ap (λ z. z ++ (codes "\n" ++ line)) n)

-- ---- blocks

-- in a text that goes on behind a block
pub blocks_more : (request : Request) (first : Bool) (octets : List ℕ) (block : Block) (a b c : Option (List ℕ)) → IsNext octets block
    → BlockTitled request first block a b → BlocksListed request false block.rest.now b c → BlocksListed request first octets a c
blocks_more request first octets block a b c n t m = BlocksListed.more block b n t m

pub blocks_none : (request : Request) (first : Bool) (octets : List ℕ) (a : Option (List ℕ)) → HasNoBlock octets → BlocksListed request first octets a a
blocks_none request first octets a n = BlocksListed.none n (Keeps-refl a)

-- ---- the last flush

pub files_kept : (request : Request) (only first : Bool) (inputs : List Input) (a b c : Option (List ℕ)) → FilesListed request only first inputs a b → Keeps b c
    → FilesListed request only first inputs a c
files_kept request only first [] a b c h k = Keeps-trans a b c h k
files_kept request only first (i ∷ is) a b c (m, h, rest) k = (m, h, files_kept request only false is m b c rest k)

pub bound_kept : (scope : Scope) (mode : Mode) (a b c : Option (List ℕ)) (s : Status) → IsBound scope mode a b s → Keeps b c → IsBound scope mode a c s
bound_kept scope mode a b c s h k = record {
  written = λ e. let w = h.written e in record { texts = w.texts; are = w.are; appends = Appends-kept a b c (joined w.texts) w.appends k };
  some = λ n. let w = h.some n in record { texts = w.texts; are = w.are; appends = Appends-kept a b c (joined w.texts) w.appends k };
  cut = record {
    texts = h.cut.texts;
    are = h.cut.are;
    appends = record {
      front = h.cut.appends.front;
      rest = h.cut.appends.rest;
      appends = Appends-kept a b c h.cut.appends.front h.cut.appends.appends k;
      whole = h.cut.appends.whole;
    };
  };
}

pub bound_unflushed : (scope : Scope) (mode : Mode) (a b c : Option (List ℕ)) (s t : Status) → IsBound scope mode a b s → Keeps b c → t ≡ status.Failed
    → IsBound scope mode a c t
bound_unflushed scope mode a b c s t h k e = bound_cut scope mode a c t e (bound_kept scope mode a b c s h k).cut

-- ---- steps that write a block or a file more

pub next_block : (request : Request) (first : Bool) (all rest : List ℕ) (block : Block) (a b c : Option (List ℕ)) (s t u : Status)
    → (u ≡ status.Done → (s ≡ status.Done) × (t ≡ status.Done))
    → (s ≡ status.Done → (end : Option (List ℕ)) → BlocksListed request first rest b end → BlocksListed request true all a end)
    → IsNext rest block → (t ≡ status.Done → BlockTitled request first block b c)
    → u ≡ status.Done → (end : Option (List ℕ)) → BlocksListed request false block.rest.now c end → BlocksListed request true all a end
next_block request first all rest block a b c s t u both so_far n titled z end m =
    let p = both z in
    so_far p.0 end (BlocksListed.more block c n (titled p.1) m)

file_at : (xs : List Input) (i : ℕ) (x : Input) → i < length xs → x ≡ get_or xs i x → drop i xs ≡ x ∷ drop (i + 1) xs
file_at xs i x k e = drop-cons xs i x k ∙ ap (λ z. z ∷ drop (suc i) xs) (sym e) ∙ ap (λ j. x ∷ drop j xs) (sym (add-one i))

pub next_file : (request : Request) (only first f : Bool) (inputs : List Input) (i : ℕ) (x : Input) (a b c : Option (List ℕ)) (s t u : Status)
    → (u ≡ status.Done → (s ≡ status.Done) × (t ≡ status.Done))
    → (s ≡ status.Done → (end : Option (List ℕ)) → FilesListed request only first (drop i inputs) b end → FilesListed request only true inputs a end)
    → i < length inputs → x ≡ get_or inputs i x → (t ≡ status.Done → IsFile request only first x b c) → (t ≡ status.Done → f ≡ false)
    → u ≡ status.Done → (end : Option (List ℕ)) → FilesListed request only f (drop (i + 1) inputs) c end → FilesListed request only true inputs a end
next_file request only first f inputs i x a b c s t u both so_far k e file stays z end m =
    let p = both z in
    let rest : FilesListed request only false (drop (i + 1) inputs) c end =
    subst (λ q. FilesListed request only q (drop (i + 1) inputs) c end) (stays p.1) m in
    let here : FilesListed request only first (x ∷ drop (i + 1) inputs) b end = (c, file p.1, rest) in
    so_far p.0 end (subst (λ v. FilesListed request only first v b end) (sym (file_at inputs i x k e)) here)

-- ---- the contents octets of a value

pub value_written : (request : Request) (at : ℕ) (octets contents : List ℕ) (a b c : Option (List ℕ))
    → HasContents (record request.scope { from = 0 }) request.mode octets at contents → Appends a b contents → Keeps b c → ValueWritten request at octets a c
value_written request at octets contents a b c h k f = record { contents = contents; has = h; appends = Appends-kept a b c contents k f }

pub not_written : (s : Status) → s ≡ status.Refused → s ≡ status.Done → ⊥
not_written s e h = let z = sym e ∙ h in cc

pub failed_not_written : (s : Status) → s ≡ status.Failed → s ≡ status.Done → ⊥
failed_not_written s e h = let z = sym e ∙ h in cc

pub first_written : (request : Request) (at : ℕ) (inputs : List Input) (x : Input) (a b : Option (List ℕ)) → 1 ≤ length inputs → x ≡ get_or inputs 0 x
    → MatchResult x.octets (λ v. IsValueOf request at v.items a b) (λ e. ⊥) → FirstWritten request at inputs a b
first_written request at [] x a b k e h = absurd (omega (arith, k))
first_written request at (y ∷ ys) x a b k e h = subst (λ q. MatchResult q.octets (λ v. IsValueOf request at v.items a b) (λ e. ⊥)) e h
