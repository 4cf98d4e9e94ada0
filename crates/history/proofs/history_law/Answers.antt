use Rattle.text_laws.proofs.Faithful.{faithful}
use Rattle.history.proofs.Accept.{calls_judged}
use Rattle.history.proofs.Progress.{takes-next, takes_none}
use Rattle.history.proofs.TheLaw.{agree, finds-judged}
use Rattle.history.proofs.history_law.Goals as goal

pub returns : goal.returns
returns c = λ kind ok. record {
  calls = calls_judged kind;
  takes = (takes-next kind ok (faithful kind).back, takes_none kind);
  finding = finds-judged kind;
  agree = agree kind ok (faithful kind).back;
}
