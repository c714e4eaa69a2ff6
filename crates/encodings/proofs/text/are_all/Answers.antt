use Rattle.std.proofs.Common.{◌≡◌, true, false, get_or, rules}
use Rattle.encodings.specs.Text.{test_of}
use Rattle.encodings.proofs.Spelling.{first_apart, decides_next, decides_no}
use Rattle.encodings.proofs.text.are_all.Goals as goal

pub returns-then-not-has : goal.returns-then-not-has
returns-then-not-has c =
    let h : test_of c.args.set (get_or c.loop-rest.rest.now 0 0) ≡ false = search rules in (
      λ e. absurd cc,
      λ s. absurd (decides_no (test_of c.args.set) _ c.loop-rest.rest.now _ _
          (first_apart c.loop-rest.rest.now (search rules)) h c.loop-rest.invariant s),
    )

pub loop-rest-preserved : goal.loop-rest-preserved
loop-rest-preserved c =
    let h : test_of c.args.set (get_or c.loop-rest.rest.now 0 0) ≡ true = search rules in
    decides_next (test_of c.args.set) _ c.loop-rest.rest.now _ _ (first_apart c.loop-rest.rest.now (search rules)) h c.loop-rest.invariant
