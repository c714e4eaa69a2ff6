use Rattle.std.specs.declared.vec.Vec.{Vec}
use Rattle.std.specs.declared.alloc.Global.{Global}
use Rattle.bcder.specs.x690.Tree.{no_trees}
use Rattle.asn1.specs.Keys.{list_key}
use Rattle.asn1.specs.TagSets.{IsIn}
use Rattle.asn1.proofs.ToldApart.{list_begin, without}
use Rattle.asn1.proofs.Ascending.{any_in}
use Rattle.asn1.proofs.clear.lists.VecClearFields.are_told_apart.Goals as goal

pub returns-clause-begin : goal.returns-clause-begin
returns-clause-begin g c = λ d x k e m.
    let mode = c.args.mode in
    let keys = λ (v : Vec g.row.T.Denot Global). list_key g.T.Type.key v.items in
    list_begin (g.T.Type.tags g.T.Type.TAG) (g.T.Type.means mode) g.T.Clear.tag_set g.met.T.Clear.in_set (λ (v : Vec g.row.T.Denot Global). v.items) keys
    (keys x) e.values (c.are_read_back.ensures x k e m no_trees tt)

pub returns-clause-follow : goal.returns-clause-follow
returns-clause-follow g c = λ d x k us b. without (IsIn g.T.Clear.tag_set) (g.T.Type.tags g.T.Type.TAG) g.met.T.Clear.in_set us b

pub returns-clause-within : goal.returns-clause-within
returns-clause-within g c = λ d x k e m. any_in e.values

pub returns-clause-rise : goal.returns-clause-rise
returns-clause-rise g c = λ d place a x k e m. cc
