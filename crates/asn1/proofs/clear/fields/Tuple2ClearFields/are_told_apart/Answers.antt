use Rattle.asn1.proofs.Ascending.{both_within, both_rise}
use Rattle.asn1.proofs.ToldApart.{both_true, both_begin, both_follow}
use Rattle.asn1.proofs.clear.fields.Tuple2ClearFields.are_told_apart.Goals as goal

pub returns-clause-begin : goal.returns-clause-begin
returns-clause-begin g c = λ d x k.
    let mode = c.args.mode in
    let p = both_true _ _ d in
    let q = both_true _ _ p.1 in
    both_begin (g.A.EncodeFields.lays x.0 mode) (g.B.EncodeFields.lays x.1 mode) g.A.ClearFields.first_tags g.B.ClearFields.first_tags
    g.A.ClearFields.may_be_none g.B.ClearFields.may_be_none (c.are_told_apart.ensures.begin p.0 x.0 k.0) (c.are_told_apart-2.ensures.begin q.0 x.1 k.1)

pub returns-clause-follow : goal.returns-clause-follow
returns-clause-follow g c = λ d x k.
    let mode = c.args.mode in
    let p = both_true _ _ d in
    let q = both_true _ _ p.1 in
    both_follow (g.A.EncodeFields.may_precede x.0 mode) (g.B.EncodeFields.may_precede x.1 mode) (g.B.EncodeFields.lays x.1 mode) g.A.ClearFields.barred_tags
    g.B.ClearFields.barred_tags g.B.ClearFields.first_tags g.B.ClearFields.may_be_none q.1 (c.are_told_apart.ensures.follow p.0 x.0 k.0)
    (c.are_told_apart-2.ensures.follow q.0 x.1 k.1) (c.are_told_apart-2.ensures.begin q.0 x.1 k.1)

pub returns-clause-within : goal.returns-clause-within
returns-clause-within g c = λ d x k.
    let mode = c.args.mode in
    let p = both_true _ _ d in
    let q = both_true _ _ p.1 in
    both_within (g.A.EncodeFields.lays x.0 mode) (g.B.EncodeFields.lays x.1 mode) g.A.ClearFields.tag_set g.B.ClearFields.tag_set
    (c.are_told_apart.ensures.within p.0 x.0 k.0) (c.are_told_apart-2.ensures.within q.0 x.1 k.1)

pub returns-clause-rise : goal.returns-clause-rise
returns-clause-rise g c = λ d place a x k.
    let mode = c.args.mode in
    let p = both_true _ _ d in
    let q = both_true _ _ p.1 in
    let s = both_true _ _ a in
    let r = both_true _ _ s.1 in
    both_rise (g.A.EncodeFields.lays x.0 mode) (g.B.EncodeFields.lays x.1 mode) g.A.ClearFields.tag_set g.B.ClearFields.tag_set place r.1
    (c.are_told_apart.ensures.within p.0 x.0 k.0) (c.are_told_apart-2.ensures.within q.0 x.1 k.1) (c.are_told_apart.ensures.rise p.0 place s.0 x.0 k.0)
    (c.are_told_apart-2.ensures.rise q.0 place r.0 x.1 k.1)
