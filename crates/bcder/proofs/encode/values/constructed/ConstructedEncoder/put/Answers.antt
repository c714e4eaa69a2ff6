use Rattle.std.proofs.Common.{ap, sym, ◌∙◌}
use Rattle.bcder.specs.x690.Octets.{fits_length}
use Rattle.bcder.specs.calls.Meaning.{Encoded}
use Rattle.bcder.proofs.Enclosing.{inside_of, length_fits}
use Rattle.bcder.proofs.Noting.{where_ok, in_any_case, contents_may, contents_read, not_noted}
use Rattle.bcder.proofs.Writing.{same_octets}
use Rattle.bcder.proofs.encode.values.constructed.ConstructedEncoder.put.Goals as goal

pub put_enclosed-requires : goal.put_enclosed-requires
put_enclosed-requires g c =
    let mode = c.args.mode in
    let inside = inside_of c.args.self.now.tag mode _ c.requires.known.0 c.requires.known.1 in
    let x = c.args.self.now.inner in
    let (told, may) = contents_may (g.V.Values.means x mode) (g.V.Values.reads x mode) mode _ _ _ c.in-Some.ensures c.requires.sized in
    let len = told inside.values inside.meant in
    record {
      fits = ap fits_length len ∙ length_fits mode c.args.self.now.tag _ inside.fits;
      can = c.requires.can;
      known = (inside.values, inside.meant);
      sized = may;
    }

pub returns-in-Some-clause-written : goal.returns-in-Some-clause-written
returns-in-Some-clause-written g c = λ _ e meant.
    let mode = c.args.mode in
    let inside = inside_of c.args.self.now.tag mode _ e meant in
    let x = c.args.self.now.inner in
    let (told, may) = contents_may (g.V.Values.means x mode) (g.V.Values.reads x mode) mode _ _ _ c.in-Some.ensures c.requires.sized in
    same_octets (ap (λ (e : Encoded). e.octets) (sym inside.is)) (c.put_enclosed.ensures.written inside.values inside.meant (told inside.values inside.meant))

pub returns-in-Some-clause-left : goal.returns-in-Some-clause-left
returns-in-Some-clause-left g c =
    let mode = c.args.mode in
    let x = c.args.self.now.inner in
    where_ok c.put_enclosed.result
    (contents_read (g.V.Values.means x mode) (g.V.Values.reads x mode) mode _ _ _ _ c.in-Some.ensures) c.put_enclosed.ensures.left

pub returns-in-None-clause-left : goal.returns-in-None-clause-left
returns-in-None-clause-left g c =
    let mode = c.args.mode in
    let x = c.args.self.now.inner in
    in_any_case c.put_measured.result (not_noted (g.V.Values.means x mode) (g.V.Values.reads x mode) mode _ _ c.in-None.ensures)
