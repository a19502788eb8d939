-- In a history that holds all that a thread's calls did, its port stands somewhere in their process at each moment.
use Rattle.std.proofs.Common.{ℕ, ◌≡◌, Bool, true, false, List, [], ◌∷◌, ◌++◌, map, refl, sym, ap, ◌∙◌, if◌then◌else◌}
use Rattle.ccan_ram.specs.declared.port.PortName.{PortName}
use Rattle.ccan_ram.specs.Port.{same_port}
use Rattle.ccan_ram.specs.Terms.{Terms}
use Rattle.ccan_endless.specs.declared.chip.ChipEvent.{ChipEvent}
use Rattle.ccan_endless.specs.Chip.{ChipHistory}
use Rattle.ccan_registers.proofs.Histories.{none_before}
use Rattle.ccan_c.specs.Step.{Place as HandlePlace, own_of, port_of_event}
use Rattle.ccan_calls.specs.Answer.{Place}
use Rattle.ccan_calls.specs.HostAsk.{asked_by}
use Rattle.ccan_calls.specs.HostCallProcess.{host_process}
use Rattle.ccan_calls.specs.Laws.{BusThreadsStand, HostThreadsStand, StandsInHistory}
use Rattle.ccan_calls.specs.Process.{Process}
use Rattle.ccan_calls.specs.ThreadProcess.{ThreadComes, ThreadEnd, asked, on_bus_process, thread_process}
use Rattle.ccan_calls.proofs.Stepwise.{stands_somewhere}
use Rattle.ccan_calls.proofs.ThreadsRun.{bus_threads, host_threads}

-- the port's events in two parts
own_more : (own : Bool) (event : ChipEvent) (all first rest : ChipHistory) → all ≡ first ++ rest
    → (if own then event ∷ all else all) ≡ (if own then event ∷ first else first) ++ rest
own_more true event all first rest is = ap (λ (es : ChipHistory). event ∷ es) is
own_more false event all first rest is = is

own_of-append : (port : PortName) (more seen : ChipHistory) → own_of port (more ++ seen) ≡ own_of port more ++ own_of port seen
own_of-append port [] seen = refl
own_of-append port (event ∷ more) seen =
    own_more (same_port (port_of_event event) port) event (own_of port (more ++ seen)) (own_of port more) (own_of port seen)
    (own_of-append port more seen)

pub others_only : (port : PortName) (history seen more : ChipHistory) → history ≡ more ++ seen → own_of port history ≡ own_of port seen
    → own_of port more ≡ []
others_only port history seen more whole own =
    none_before (own_of port more) (own_of port seen)
    (sym (own_of-append port more seen) ∙ ap (own_of port) (sym whole) ∙ own)

module _ {Call State : Type 0} (terms : Terms) (tries : ℕ) (code : Call → ℕ) (place : Call → Place) (calls : List Call)
    (process : Process (ThreadEnd State)) (old new : HandlePlace State)
    (comes : ThreadComes terms tries code place calls process old new) where
  stands : StandsInHistory terms tries process old new
  stands part later (more, whole) own =
      stands_somewhere terms tries process old.seen part later new.seen (comes.answers, new.state) (record {
        added = comes.added;
        is_seen = comes.seen;
        ran = comes.runs;
        more = more;
        whole = whole;
        others = others_only terms.port (later ++ (part ++ old.seen)) new.seen more whole own;
      })

pub host_threads_stand : HostThreadsStand
host_threads_stand terms tries layout calls old new means =
    stands terms tries _ _ calls (thread_process (host_process terms layout) (map asked_by calls) old.state) old new
    ((host_threads terms tries layout calls old new).0 means)

pub bus_threads_stand : BusThreadsStand
bus_threads_stand terms tries nodes layout calls old new is_bus at_once means =
    stands terms tries _ _ calls (thread_process (on_bus_process terms layout nodes) (map asked calls) old.state) old new
    ((bus_threads terms tries nodes layout calls old new is_bus at_once).0 means)
