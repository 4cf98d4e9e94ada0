use Rattle.std.proofs.Common.{◌≡◌, ◌-◌, ◌++◌, length, take}
use Rattle.shared.specs.Forms.{lead, times_at}
use Rattle.shared.specs.Notice.{small, gap}
use Rattle.shared_notice.specs.Walks.{mapped}
use Rattle.shared_notice.proofs.setting.read_next_numbers.Given as goal

abbrev pub invariant-loop-value : goal.invariant-loop-value
invariant-loop-value l =
    mapped (λ ys. take l.value-index l.value-items ++ ys) (times_at (length l.value-items - l.value-index) (lead gap small) l.text l.at)
    ≡ times_at (length l.fn.values) (lead gap small) l.text l.start
