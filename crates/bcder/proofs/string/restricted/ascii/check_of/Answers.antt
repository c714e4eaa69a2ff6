use Rattle.bcder.proofs.AsciiSets.{piece_passed, piece_failed}
use Rattle.bcder.proofs.string.restricted.ascii.check_of.Goals as goal

pub returns-then-not-has_all : goal.returns-then-not-has_all
returns-then-not-has_all g c =
    piece_failed g.S.AsciiSet.test c.args.octets.octets c.loop-piece.octets.octets c.in-Some.piece.now c.next_piece.new.self.octets _ c.in-Some.ensures.0
    c.if-not-has_all.true c.has_all.ensures c.loop-piece.invariant

pub loop-piece-preserved : goal.loop-piece-preserved
loop-piece-preserved g c =
    piece_passed g.S.AsciiSet.test c.args.octets.octets c.loop-piece.octets.octets c.in-Some.piece.now c.next_piece.new.self.octets c.in-Some.ensures.0
    (c.has_all.ensures.0 c.if-not-has_all.false) c.loop-piece.invariant
