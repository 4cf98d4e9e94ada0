use Rattle.shared_pen.proofs.pen.PenSink.+number.Given as goal

abbrev pub decreases-number : goal.decreases-number
decreases-number l = l.n
