use Rattle.bcder.specs.laws.Canonical.{one_spelling_each}
use Rattle.bcder.proofs.laws.encoders.what_is_written_is_an_encoding.Goals as goal

pub returns : goal.returns
returns g c =
    let lawful = g.met.V.Values.lawful c.args.values.now c.args.mode c.requires in
    record {
      one = lawful.one;
      encoding = lawful.encodes;
      only = λ h e meant w d. one_spelling_each c.args.mode h e.values w e.octets d (lawful.encodes e meant);
    }
