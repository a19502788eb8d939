use Rattle.ccan_calls.proofs.Stepwise.{stands_somewhere}
use Rattle.ccan_calls.proofs.laws.ports_stand_throughout.Goals as goal

pub returns : goal.returns
returns c = record {
  host = λ terms tries process begun part later seen end done. stands_somewhere terms tries process begun part later seen end done;
  bus = λ terms tries process begun part later seen end done. stands_somewhere terms tries process begun part later seen end done;
  frame = λ terms tries process begun part later seen end done. stands_somewhere terms tries process begun part later seen end done;
  host_thread = λ terms tries process begun part later seen end done. stands_somewhere terms tries process begun part later seen end done;
  bus_thread = λ terms tries process begun part later seen end done. stands_somewhere terms tries process begun part later seen end done;
}
