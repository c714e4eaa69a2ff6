use Rattle.std.proofs.Common.{sym, ◌∙◌}
use Rattle.bcder.proofs.Comparing.{ends_told, fronts_told, fronts_passed}
use Rattle.bcder.proofs.string.octet.compare.compare.Goals as goal

-- one side is at its end
pub returns-then-len-eq0 : goal.returns-then-len-eq0
returns-then-len-eq0 c =
    c.cmp.ensures
    ∙ sym (ends_told _ _ _ _ c.loop-ones.invariant.one_ends c.loop-ones.invariant.other_ends (sym c.min-len.ensures ∙ c.if-len-eq0.true))
    ∙ c.loop-ones.invariant.left

-- the fronts differ
pub returns-then-ne : goal.returns-then-ne
returns-then-ne c =
    let one = c.split_at.ensures in
    let other = c.split_at-in-loop-ones.ensures in
    c.cmp-then-ne.ensures ∙ fronts_told _ _ _ _ _ _ _ _ _ one.by_index.0 other.by_index.0
    (one.front_len ∙ sym other.front_len) c.loop-ones.invariant.left c.if-ne.ensures

-- the fronts are equal
pub loop-ones-preserved : goal.loop-ones-preserved
loop-ones-preserved c =
    let one = c.split_at.ensures in
    let other = c.split_at-in-loop-ones.ensures in
    let ones = c.front-one-in-loop-ones.ensures in
    let others = c.front-other-in-loop-ones.ensures in
    record {
      left = fronts_passed _ _ _ _ _ _ _ _ _ one.by_index.0 other.by_index.0
          (one.front_len ∙ sym other.front_len) c.loop-ones.invariant.left _ _ c.if-ne.ensures ones.joined others.joined;
      one_ends = ones.all;
      other_ends = others.all;
    }
