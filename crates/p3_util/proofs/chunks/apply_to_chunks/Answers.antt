-- The calls on all pieces: by the lemmas on `Cuts`.
use denote.Param.Always.{mut_next}
use Rattle.std.proofs.Common.{◌≡◌, ap, ◌∙◌, length, take, refl, ◌<◌, length-take-le, arith}
use Rattle.p3_util.proofs.PiecesLemmas.{joined-pieces}
use Rattle.p3_util.proofs.WholePieces.{folds-more, folds-all, Cuts-start, Cuts-more, calls-whole}
use Rattle.p3_util.proofs.chunks.apply_to_chunks.Goals.{then-len-eq0, else-len-eq0+then-len}
use Rattle.p3_util.proofs.chunks.apply_to_chunks.Goals as goal

pub loop-buf-init : goal.loop-buf-init
loop-buf-init g c =
    let some : 0 < g.row.BUFLEN = omega (arith, c.if-this-eq0.false) in
    let ends = c.requires.finite some c.into_iter-iter.result c.into_iter-iter.ensures.into_iter_gives in
    (Cuts-start c.into_iter-iter.result c.into_iter-iter.ensures.into_iter_gives, c.requires.callable some, ends.0, ends.1)

pub loop-buf-preserved : goal.loop-buf-preserved
loop-buf-preserved g c =
    let filled = c.fill-len.ensures in
    let full : c.fill-len.result ≡ g.row.BUFLEN = omega (arith, filled.within, c.if-len.false) in
    let long : length (take c.fill-len.result c.fill-len.new.buf) ≡ g.row.BUFLEN = length-take-le c.fill-len.result c.fill-len.new.buf (omega (arith, full, filled.long)) ∙ full in (
      Cuts-more c.loop-buf.invariant.0 (omega (arith, c.if-this-eq0.false)) long (filled.full full) (record { shown = _; shows = ap (take c.fill-len.result) c.as_slice.ensures; called = c.func.ensures }),
      mut_next g.H.FnMut _ _ _ _ _ c.func.ensures refl c.loop-buf.invariant.1,
      filled.can full (omega (arith, c.if-this-eq0.false)),
      (filled.fewer full).0,
    )

pub returns-clause-runs : goal.returns-clause-runs
returns-clause-runs g c some =
    let h = c.loop-buf.invariant.0 in
    let filled = c.fill-len.ensures in
    let piece = take c.fill-len.result c.fill-len.new.buf in
    elim c.if-len-eq0.branch [
      | then-len-eq0 w ↦
          let none : c.fill-len.result ≡ 0 = omega (arith, w.if-len-eq0.true) in
          calls-whole g.H.FnMut piece _ h (filled.short (omega (arith, none, some))) (folds-all h piece (rw none refl))
      | else-len-eq0+then-len w ↦
          let long : length piece ≡ c.fill-len.result = length-take-le c.fill-len.result c.fill-len.new.buf (omega (arith, filled.within, filled.long)) in
          calls-whole g.H.FnMut piece _ h (filled.short (omega (arith, w.if-len.true)))
          (folds-more h piece (omega (arith, long, w.if-len-eq0.false)) (omega (arith, long, filled.within)) (record { shown = _; shows = ap (take c.fill-len.result) w.as_slice.ensures; called = w.func.ensures }))
    ]

pub returns-clause-joined : goal.returns-clause-joined
returns-clause-joined g c some items = joined-pieces g.row.BUFLEN items some
