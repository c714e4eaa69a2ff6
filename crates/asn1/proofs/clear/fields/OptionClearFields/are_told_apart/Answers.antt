use Rattle.std.proofs.Common.{subst}
use Rattle.asn1.specs.Types.{BeginWithout}
use Rattle.asn1.specs.Writing.{IsReadAs}
use Rattle.asn1.specs.TagSets.{IsIn}
use Rattle.asn1.proofs.Ascending.{optional_in_order}
use Rattle.asn1.proofs.ToldApart.{optional_begin, optional_follow, without}
use Rattle.asn1.proofs.clear.fields.OptionClearFields.are_told_apart.Goals as goal

pub returns-clause-begin : goal.returns-clause-begin
returns-clause-begin g c = λ d x k.
    let mode = c.args.mode in
    let Tags = g.T.Type.tags g.T.Type.TAG in
    let Means = g.T.Type.means mode in
    let Clear = λ (v : g.row.T.Denot). g.T.Encode.is_clear v mode in
    let one =
    subst (λ t. (x : g.row.T.Denot) → Clear x → IsReadAs (g.T.Type.tags t) Means g.T.Type.key x (g.T.Encode.writes t x mode)) c.tag.ensures
    c.is_read_back.ensures in
    optional_begin Tags Means g.T.Clear.tag_set g.met.T.Clear.in_set g.T.Type.key Clear (λ v. g.T.Encode.writes g.T.Type.TAG v mode) one x k

pub returns-clause-follow : goal.returns-clause-follow
returns-clause-follow g c = λ d x k us b.
    let Tags = g.T.Type.tags g.T.Type.TAG in
    optional_follow (BeginWithout Tags) us (without (IsIn g.T.Clear.tag_set) Tags g.met.T.Clear.in_set us b) x

pub returns-clause-within : goal.returns-clause-within
returns-clause-within g c = λ d x k e m.
    let mode = c.args.mode in
    let Tags = g.T.Type.tags g.T.Type.TAG in
    let Means = g.T.Type.means mode in
    let Clear = λ (v : g.row.T.Denot). g.T.Encode.is_clear v mode in
    let one =
    subst (λ t. (x : g.row.T.Denot) → Clear x → IsReadAs (g.T.Type.tags t) Means g.T.Type.key x (g.T.Encode.writes t x mode)) c.tag.ensures
    c.is_read_back.ensures in
    (optional_in_order Tags Means g.T.Clear.tag_set g.met.T.Clear.in_set g.T.Type.key Clear (λ v. g.T.Encode.writes g.T.Type.TAG v mode) one x k e m).within

pub returns-clause-rise : goal.returns-clause-rise
returns-clause-rise g c = λ d place a x k e m.
    let mode = c.args.mode in
    let Tags = g.T.Type.tags g.T.Type.TAG in
    let Means = g.T.Type.means mode in
    let Clear = λ (v : g.row.T.Denot). g.T.Encode.is_clear v mode in
    let one =
    subst (λ t. (x : g.row.T.Denot) → Clear x → IsReadAs (g.T.Type.tags t) Means g.T.Type.key x (g.T.Encode.writes t x mode)) c.tag.ensures
    c.is_read_back.ensures in
    (optional_in_order Tags Means g.T.Clear.tag_set g.met.T.Clear.in_set g.T.Type.key Clear (λ v. g.T.Encode.writes g.T.Type.TAG v mode) one x k e m).rise place
