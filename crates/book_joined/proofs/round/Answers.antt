use Rattle.book_joined.proofs.Spreads.{kept_same, kept-both}
use Rattle.book_joined.proofs.round.Goals as goal
use Rattle.book_joined.proofs.round.Goals.{then-marks-a, else-marks-a}

pub loop-a-preserved : goal.loop-a-preserved
loop-a-preserved c =
    elim c.if-marks-a.branch [
      | then-marks-a w ↦ simp (w.marks-is, w.count-is) (kept-both c.args.ends.now _ _ _ _ c.requires.ready c.loop-a.auto.marks c.loop-a-test.true w.if-marks-a.true c.loop-a.invariant)
      | else-marks-a w ↦ simp (w.marks-is, w.count-is) (kept_same c.args.ends.now _ _ _ _ w.if-marks-a.false c.loop-a.invariant)
    ]
