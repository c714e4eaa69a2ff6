use Rattle.std.proofs.Common.{subst, false}
use Rattle.asn1.specs.Writing.{IsReadAs}
use Rattle.asn1.proofs.ToldApart.{written_begin}
use Rattle.asn1.proofs.Ascending.{written_in_order}
use Rattle.asn1.proofs.clear.fields.AnyClearFields.are_told_apart.Goals as goal

pub returns-clause-begin : goal.returns-clause-begin
returns-clause-begin g c = λ d x k e m.
    let mode = c.args.mode in
    let Means = g.T.Type.means mode in
    let read =
    subst (λ t. IsReadAs (g.T.Type.tags t) Means g.T.Type.key x (g.T.Encode.writes t x mode)) c.tag.ensures (c.is_read_back.ensures x k) in
    written_begin (g.T.Type.tags g.T.Type.TAG) Means g.T.Clear.tag_set g.met.T.Clear.in_set g.T.Type.key (g.T.Type.key x) false e (read e m)

pub returns-clause-follow : goal.returns-clause-follow
returns-clause-follow g c = λ d x k us b. tt

pub returns-clause-within : goal.returns-clause-within
returns-clause-within g c = λ d x k e m.
    let mode = c.args.mode in
    let Means = g.T.Type.means mode in
    let read =
    subst (λ t. IsReadAs (g.T.Type.tags t) Means g.T.Type.key x (g.T.Encode.writes t x mode)) c.tag.ensures (c.is_read_back.ensures x k) in
    (written_in_order (g.T.Type.tags g.T.Type.TAG) Means g.T.Clear.tag_set g.met.T.Clear.in_set g.T.Type.key (g.T.Type.key x) e (read e m)).within

pub returns-clause-rise : goal.returns-clause-rise
returns-clause-rise g c = λ d place a x k e m.
    let mode = c.args.mode in
    let Means = g.T.Type.means mode in
    let read =
    subst (λ t. IsReadAs (g.T.Type.tags t) Means g.T.Type.key x (g.T.Encode.writes t x mode)) c.tag.ensures (c.is_read_back.ensures x k) in
    (written_in_order (g.T.Type.tags g.T.Type.TAG) Means g.T.Clear.tag_set g.met.T.Clear.in_set g.T.Type.key (g.T.Type.key x) e (read e m)).rise place
