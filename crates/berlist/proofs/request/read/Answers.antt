use Rattle.std.proofs.Common.{[], ◌∷◌, string_bytes, sym, ap, ◌∙◌}
use Rattle.hex.specs.Hex.{decode_of}
use Rattle.berlist.proofs.Requests.{two_words, no_octets}
use Rattle.berlist.proofs.request.read.Goals as goal

pub returns-then-not-is_hex-clause-asked : goal.returns-then-not-is_hex-clause-asked
returns-then-not-is_hex-clause-asked c =
    let words = two_words string_bytes c.args.args.now c.word-item.result c.text-item.result c.in-len2.len_at_least c.in-len2.len_below
    c.word-item.is c.text-item.is in
    let refused = c.if-not-is_hex.true in
    no_octets _ _ _ words (λ octets e. let taken = c.is_hex.ensures.1 (octets, ap decode_of c.deref-2.ensures ∙ e) in cc)

pub returns-in-Err-clause-no_memory : goal.returns-in-Err-clause-no_memory
returns-in-Err-clause-no_memory c _ =
    let words = two_words string_bytes c.args.args.now c.word-item.result c.text-item.result c.in-len2.len_at_least c.in-len2.len_below
    c.word-item.is c.text-item.is in
    let spelled = c.is_hex.ensures.0 c.if-not-is_hex.false in
    let named = sym c.deref.ensures ∙ c.in-Some.ensures in (
      c.in-Some.mode,
      spelled.0,
      record {
        text = string_bytes c.text-item.result;
        words = words ∙ ap (λ w. w ∷ string_bytes c.text-item.result ∷ []) named;
        spells = sym (ap decode_of c.deref-2.ensures) ∙ spelled.1;
      },
    )
