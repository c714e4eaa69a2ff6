use Rattle.std.proofs.Common.{◌≡◌, sym, subst, rules}
use Rattle.bcder.specs.calls.Content.{Moves}
use Rattle.bcder.specs.calls.Sources.{capturing}
use Rattle.bcder.specs.calls.Views.{of_constructed, limited_stream}
use Rattle.bcder.proofs.Capturing.{capture_name, capture_rest, capture_within, capture_kept}
use Rattle.bcder.proofs.decode.content.capture.run_capturing.Goals as goal

pub returns-clause-name : goal.returns-clause-name
unfolding Moves of_constructed
returns-clause-name g c =
    let same : c.view-2-1.given.0 ≡ c.run-result.new.cons.source.now = search rules in
    let old = c.args.view.now in let new = c.view-2-1.given.0 in
    let kept : (limited_stream (capturing g.S.Source.stream) new).kept ≡ (limited_stream (capturing g.S.Source.stream) old).kept =
    subst (λ z. (limited_stream (capturing g.S.Source.stream) z).kept ≡ (limited_stream (capturing g.S.Source.stream) old).kept)
    (sym same) c.run-result.ensures.moves.kept in
    capture_name old.limit new.limit old.source.source.ghost_name new.source.source.ghost_name old.source.pos new.source.pos
    (g.S.Source.stream old.source.source.now) (g.S.Source.stream new.source.source.now) c.requires.fresh kept

pub returns-clause-within : goal.returns-clause-within
unfolding Moves of_constructed
returns-clause-within g c =
    let same : c.view-2-1.given.0 ≡ c.run-result.new.cons.source.now = search rules in
    let old = c.args.view.now in let new = c.view-2-1.given.0 in
    let kept : (limited_stream (capturing g.S.Source.stream) new).kept ≡ (limited_stream (capturing g.S.Source.stream) old).kept =
    subst (λ z. (limited_stream (capturing g.S.Source.stream) z).kept ≡ (limited_stream (capturing g.S.Source.stream) old).kept)
    (sym same) c.run-result.ensures.moves.kept in
    capture_within old.limit new.limit old.source.source.ghost_name new.source.source.ghost_name old.source.pos new.source.pos
    (g.S.Source.stream old.source.source.now) (g.S.Source.stream new.source.source.now) c.requires.fresh kept

pub returns-clause-rest : goal.returns-clause-rest
unfolding Moves of_constructed
returns-clause-rest g c =
    let same : c.view-2-1.given.0 ≡ c.run-result.new.cons.source.now = search rules in
    let old = c.args.view.now in let new = c.view-2-1.given.0 in
    let kept : (limited_stream (capturing g.S.Source.stream) new).kept ≡ (limited_stream (capturing g.S.Source.stream) old).kept =
    subst (λ z. (limited_stream (capturing g.S.Source.stream) z).kept ≡ (limited_stream (capturing g.S.Source.stream) old).kept)
    (sym same) c.run-result.ensures.moves.kept in
    capture_rest old.limit new.limit old.source.source.ghost_name new.source.source.ghost_name old.source.pos new.source.pos
    (g.S.Source.stream old.source.source.now) (g.S.Source.stream new.source.source.now) c.requires.fresh kept

pub returns-clause-kept : goal.returns-clause-kept
unfolding Moves of_constructed
returns-clause-kept g c =
    let same : c.view-2-1.given.0 ≡ c.run-result.new.cons.source.now = search rules in
    let old = c.args.view.now in let new = c.view-2-1.given.0 in
    let kept : (limited_stream (capturing g.S.Source.stream) new).kept ≡ (limited_stream (capturing g.S.Source.stream) old).kept =
    subst (λ z. (limited_stream (capturing g.S.Source.stream) z).kept ≡ (limited_stream (capturing g.S.Source.stream) old).kept)
    (sym same) c.run-result.ensures.moves.kept in
    capture_kept old.limit new.limit old.source.source.ghost_name new.source.source.ghost_name old.source.pos new.source.pos
    (g.S.Source.stream old.source.source.now) (g.S.Source.stream new.source.source.now) c.requires.fresh kept
