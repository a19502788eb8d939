use Rattle.ccan_calls.proofs.Stepwise.{steps_are_all}
use Rattle.ccan_calls.proofs.laws.steps_are_the_whole.Goals as goal

pub returns : goal.returns
returns c = record {
  host = λ terms tries process begun seen history end. steps_are_all terms tries process begun seen history end;
  bus = λ terms tries process begun seen history end. steps_are_all terms tries process begun seen history end;
  frame = λ terms tries process begun seen history end. steps_are_all terms tries process begun seen history end;
  host_thread = λ terms tries process begun seen history end. steps_are_all terms tries process begun seen history end;
  bus_thread = λ terms tries process begun seen history end. steps_are_all terms tries process begun seen history end;
}
