use Rattle.bcder.specs.laws.Complete.{one_list}
use Rattle.asn1.proofs.Alike.{same_written_alike, one_encoding, written_as_read}
use Rattle.asn1.proofs.laws.values_are_their_encodings.Goals as goal

pub returns-clause-same : goal.returns-clause-same
returns-clause-same g c =
    let mode = c.args.mode in
    let tag = c.args.tag in
    same_written_alike mode tag g.T.Type.tags (g.T.Type.means mode) g.T.Type.key (λ x. g.T.Encode.is_clear x mode) (λ x. g.T.Encode.writes tag x mode)
    (λ x. g.met.T.Encode.lawful tag x mode) c.is_read_back.ensures one_list

pub returns-clause-one : goal.returns-clause-one
returns-clause-one g c = λ k.
    let mode = c.args.mode in
    one_encoding mode c.args.tag g.T.Type.tags (g.T.Type.means mode) g.T.Type.key c.requires (c.values_are_one.ensures.once k mode c.requires)

pub returns-clause-back : goal.returns-clause-back
returns-clause-back g c = λ k.
    let mode = c.args.mode in
    let tag = c.args.tag in
    written_as_read mode tag g.T.Type.tags (g.T.Type.means mode) g.T.Type.key (λ x. g.T.Encode.is_clear x mode) (λ x. g.T.Encode.writes tag x mode)
    (λ x. g.met.T.Encode.lawful tag x mode) c.is_read_back.ensures
    (one_encoding mode tag g.T.Type.tags (g.T.Type.means mode) g.T.Type.key c.requires (c.values_are_one.ensures.once k mode c.requires))
