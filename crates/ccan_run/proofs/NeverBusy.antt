-- No line is busy where nothing contends: a refused change as Busy has lost each of its tries, and none is lost there.
use Rattle.std.proofs.Common.{◌≡◌, ◌≤◌, ℕ, zero, suc, Bool, true, false, List, [], ◌∷◌, ◌++◌, Result, Ok, Err, refl, cond, arith}
use Rattle.std.specs.Prelude.{MatchBool, All}
use Rattle.std.proofs.lemmas.List.Elements.{All-cons, All-nil}
use Rattle.ccan_object.specs.declared.record.Record.{Record}
use Rattle.ccan_object.specs.Command.{is_write, is_pure_read}
use Rattle.ccan_object.specs.Interface.{Registers}
use Rattle.ccan_object.specs.Number.{requested}
use Rattle.ccan_ram.specs.declared.port.PortName.{PortName}
use Rattle.ccan_ram.specs.declared.port.PortName.TheVariants.{If1, If2, Bus}
use Rattle.ccan_ram.specs.declared.change.Change.{Change}
use Rattle.ccan_ram.specs.declared.change.Change.TheVariants.{Start, Store, Finish}
use Rattle.ccan_ram.specs.declared.change.Changed.{Changed}
use Rattle.ccan_ram.specs.declared.change.Changed.TheVariants.{Done, NotNow}
use Rattle.ccan_ram.specs.declared.change.Refused.{Refused}
use Rattle.ccan_ram.specs.declared.change.Refused.TheVariants as refused
use Rattle.ccan_ram.specs.declared.event.Event.{Event}
use Rattle.ccan_ram.specs.Terms.{Terms}
use Rattle.ccan_ram.specs.Attempt.{Attempt, IsLook, LostTries}
use Rattle.ccan_handler.specs.Scan.{Scan, RefusedAt}
use Rattle.ccan_bus.specs.declared.answer.LoadAnswer.{LoadAnswer}
use Rattle.ccan_bus.specs.declared.answer.LoadAnswer.TheVariants as load
use Rattle.ccan_bus.specs.declared.answer.RoundAnswer.{RoundAnswer}
use Rattle.ccan_bus.specs.declared.answer.RoundAnswer.TheVariants as round
use Rattle.ccan_bus.specs.declared.round_line.RoundLine.{RoundLine}
use Rattle.ccan_bus.specs.Past.{BusPast, hears_itself}
use Rattle.ccan_bus.specs.declared.choice.Choice.{Choice}
use Rattle.ccan_bus.specs.declared.choice.Choice.TheVariants.{InTurn, AtOnce}
use Rattle.ccan_bus.specs.Choice.{Chooses}
use Rattle.ccan_bus.specs.Load.{Loads}
use Rattle.ccan_bus.specs.LoopBack.{IsLoopRefused, AtFinish, AtScan}
use Rattle.ccan_bus.specs.Round.{Round, Transfers, Continues, IsRefused, RefusedFinish, RefusedScan, refusal_of_round}
use Rattle.ccan_line.specs.declared.host_line.HostLine.{HostLine}
use Rattle.ccan_line.specs.declared.host_line.HostLine.TheVariants as host
use Rattle.ccan_line.specs.declared.bus_line.BusLine.{BusLine}
use Rattle.ccan_line.specs.declared.bus_line.BusLine.TheVariants as line
use Rattle.ccan_line.specs.declared.line_answer.LineAnswer.{LineAnswer}
use Rattle.ccan_line.specs.declared.line_answer.LineAnswer.TheVariants as answer
use Rattle.ccan_line.specs.Script.{ScriptFields}
use Rattle.ccan_line.specs.Transfer.{Answers, Ends, change_of, with_settings}
use Rattle.ccan_line.specs.Host.{HostLineAdds}
use Rattle.ccan_line.specs.BusPort.{BusLineAdds, BusLineMeans}
use Rattle.ccan_line.proofs.HostLinesRun.{host_lines}
use Rattle.ccan_line.proofs.BusLinesRun.{bus_adds}
use Rattle.ccan_line.specs.Lines.{LinesMean}
use Rattle.ccan_line.specs.Turn.{PortLine, of_if1, of_if2, of_bus, Three, PortLineMeans, terms_of, opening}
use Rattle.ccan_run.specs.Ordered.{lines_of}
use Rattle.ccan_line.proofs.ControllerLines.{IsStill}
use Rattle.ccan_line.proofs.InTurn.{still_stays}
use Rattle.ccan_run.specs.Laws.{IsNotBusy, HasNoBusyLine}

module _ (terms : Terms) (alone : terms.alone ≡ true) (tries : ℕ) (some : 1 ≤ tries) where
  no_lost_try : (object : ℕ) (change : Change) (count : ℕ) (added : List Event) → 1 ≤ count
      → LostTries terms object change count added → ⊥
  no_lost_try object change zero added one lost = absurd (omega arith)
  no_lost_try object change (suc n) added one (last, earlier, whole, try, lost) =
      let nobody = try.foreign.none_alone alone in
      absurd (let e : false ≡ true = rw nobody at try.contended in cc)

  never : (object : ℕ) (change : Change) (seen added : List Event) (told now : ℕ)
      → Attempt terms object change tries seen added (Err (refused.Busy told now)) → ⊥
  never object change seen added told now busy = no_lost_try object change tries added some busy.lose

  never_scanned : (change : Change) (object from : ℕ) (seen added : List Event) (told now : ℕ)
      → Scan terms change from tries seen added (RefusedAt object (refused.Busy told now)) → ⊥
  never_scanned change object from seen added told now scan = never object change _ _ told now scan.try.attempt

  never_chosen : (choice : Choice) (object : ℕ) (seen added : List Event) (told now : ℕ)
      → Chooses choice terms tries seen added (Err (record { at = object; why = refused.Busy told now })) → ⊥
  never_chosen InTurn object seen added told now h = never_scanned Start object 1 seen added told now h
  never_chosen AtOnce object seen added told now h = never object Start _ h.choice.last told now h.choice.start.1

  -- ---- a line of a host

  shown : (write : Bool) (object : ℕ) (buffer : Record) (reply : LineAnswer)
      → reply ≡ cond write (answer.Write object buffer) (answer.Read object buffer) → IsNotBusy reply
  shown true object buffer reply is = rw is tt
  shown false object buffer reply is = rw is tt

  by_outcome : (object : ℕ) (registers : Registers) (seen added : List Event) (reply : LineAnswer) (left : Registers)
      (outcome : Result Changed Refused)
      → Attempt terms object (change_of registers) tries seen added outcome → Answers object registers outcome reply left
      → IsNotBusy reply
  by_outcome object registers seen added reply left (Ok (Done before after number)) attempt answers =
      shown (is_write registers.command) object left.buffer reply answers.answer_is
  by_outcome object registers seen added reply left (Ok (NotNow found)) attempt answers = absurd answers
  by_outcome object registers seen added reply left (Err (refused.Busy told now)) attempt answers =
      absurd (never object (change_of registers) seen added told now attempt)
  by_outcome object registers seen added reply left (Err refused.Spent) attempt answers = rw answers.0 tt

  by_command : (pure : Bool) (object : ℕ) (registers : Registers) (seen added : List Event) (reply : LineAnswer)
      (left : Registers)
      → MatchBool pure
      ((shown : Record) × IsLook terms object shown added × Ends object registers shown reply left)
      ((outcome : Result Changed Refused) × Attempt terms object (change_of registers) tries seen added outcome
      × Answers object registers outcome reply left)
      → IsNotBusy reply
  by_command true object registers seen added reply left (record_shown, look, ends) =
      shown (is_write registers.command) object left.buffer reply ends.answer_is
  by_command false object registers seen added reply left (outcome, attempt, answers) =
      by_outcome object registers seen added reply left outcome attempt answers

  host_line : (line : HostLine) (registers : Registers) (seen added : List Event) (reply : LineAnswer) (left : Registers)
      → HostLineAdds terms tries line registers seen added reply left → IsNotBusy reply
  host_line (host.Transfer request set) registers seen added reply left means =
      by_command (is_pure_read (with_settings set.items registers).command) (requested terms.profile request)
      (with_settings set.items registers) seen added reply left means
  host_line (host.Until object flag turns) registers seen added reply left means = rw means.1 tt
  host_line host.Interrupt registers seen added reply left means = rw means.1 tt
  host_line (host.Flags flag) registers seen added reply left means = rw means.1 tt

  -- ---- a line of the bus

  loads : (seen added : List Event) (past after : BusPast) (loading : LoadAnswer)
      → Loads terms tries seen added past after loading → IsNotBusy (answer.Load loading)
  loads seen added past after (load.Loaded object started) h = tt
  loads seen added past after (load.Held object) h = tt
  loads seen added past after load.Nothing h = tt
  loads seen added past after (load.Busy object) (told, now, h) =
      absurd (never_chosen past.choice object seen added told now h.choice.chooses)
  loads seen added past after (load.Spent object) h = tt

  refused_busy : (sends : RoundLine) (seen added : List Event) (past after : BusPast) (object told now : ℕ)
      → IsRefused terms sends tries seen added past after object (refused.Busy told now) → ⊥
  refused_busy sends seen added past after object told now (RefusedFinish finish) =
      never object Finish seen added told now finish.finish
  refused_busy sends seen added past after object told now (RefusedScan receipt) =
      never_scanned (Store receipt.frame) object 1 seen added told now receipt.scan

  loop_busy : (seen added : List Event) (past after : BusPast) (object told now : ℕ)
      → IsLoopRefused terms tries seen added past after object (refused.Busy told now) → ⊥
  loop_busy seen added past after object told now (AtFinish frame finish) = never object Finish seen added told now finish.finish
  loop_busy seen added past after object told now (AtScan sent finished loop) =
      never_scanned (Store loop.frame) object 1 _ loop.last told now loop.scan

  transfers : (back : Bool) (sends : RoundLine) (seen added : List Event) (past after : BusPast) (ended : RoundAnswer)
      → Transfers back terms sends tries seen added past after ended → IsNotBusy (answer.Round ended)
  transfers back sends seen added past after round.Idle h = tt
  transfers back sends seen added past after (round.Sent object finished) h = tt
  transfers back sends seen added past after (round.Received found) h = tt
  transfers back sends seen added past after round.Passed h = tt
  transfers back sends seen added past after round.Collision h = tt
  transfers back sends seen added past after round.NoAck h = tt
  transfers back sends seen added past after round.Fault h = tt
  transfers back sends seen added past after (round.Looped object finished found) h = tt
  transfers true sends seen added past after (round.Busy object) (told, now, h) =
      absurd (loop_busy seen added past after object told now h)
  transfers false sends seen added past after (round.Busy object) (told, now, h) =
      absurd (refused_busy sends seen added past after object told now h)
  transfers back sends seen added past after (round.Spent object) h = tt

  continues : (loading : LoadAnswer) (sends : RoundLine) (seen added : List Event) (past after : BusPast) (ended : RoundAnswer)
      → IsNotBusy (answer.Load loading) → Continues (refusal_of_round loading) terms sends tries seen added past after ended
      → IsNotBusy (answer.Round ended)
  continues (load.Loaded object started) sends seen added past after ended fine h =
      transfers (hears_itself past) sends seen added past after ended h
  continues (load.Held object) sends seen added past after ended fine h =
      transfers (hears_itself past) sends seen added past after ended h
  continues load.Nothing sends seen added past after ended fine h =
      transfers (hears_itself past) sends seen added past after ended h
  continues (load.Busy object) sends seen added past after ended fine h = absurd fine
  continues (load.Spent object) sends seen added past after ended fine h = rw h.told tt

  rounds : (sends : RoundLine) (seen added : List Event) (past after : BusPast) (ended : RoundAnswer)
      → Round terms sends tries seen added past after ended
      → IsNotBusy (answer.Round ended)
  rounds sends seen added past after ended h =
      continues h.loading sends (h.first ++ seen) h.last h.between after ended
      (loads seen h.first past h.between h.loading h.loads) h.continues

  -- nothing was moved
  not_busy : (reply : LineAnswer) → IsStill reply → IsNotBusy reply
  not_busy (answer.Busy object) still = absurd still
  not_busy (answer.Load loading) still = absurd still
  not_busy (answer.Round ended) still = absurd still
  not_busy reply still = tt

  bus_line : (line : BusLine) (past : BusPast) (seen added : List Event) (reply : LineAnswer) (after : BusPast)
      → BusLineMeans terms tries line past seen added reply after → BusLineAdds terms tries line past seen added reply after
      → IsNotBusy reply
  bus_line line.Load past seen added reply after means (loading, is, h) = rw is (loads seen added past after loading h)
  bus_line (line.Round sends) past seen added reply after means (ended, is, h) =
      rw is (rounds sends seen added past after ended h)
  bus_line other past seen added reply after means adds =
      not_busy reply (still_stays terms tries other past after seen added reply refl means).still

module _ (script : ScriptFields) (some : 1 ≤ script.tries) where
  port_line : (line : PortLine) (three : Three) (seen added : List Event) (reply : PortName × LineAnswer) (left : Three)
      → PortLineMeans (terms_of script) script.tries line three seen added reply left → IsNotBusy reply.1
  port_line (of_if1 line) three seen added reply left (after, port, means, is) =
      host_line (terms_of script If1) refl script.tries some line three.first seen added reply.1 after
      ((host_lines (terms_of script If1) script.tries line three.first after seen added reply.1).1 means)
  port_line (of_if2 line) three seen added reply left (after, port, means, is) =
      host_line (terms_of script If2) refl script.tries some line three.second seen added reply.1 after
      ((host_lines (terms_of script If2) script.tries line three.second after seen added reply.1).1 means)
  port_line (of_bus line) three seen added reply left (after, port, means, is) =
      bus_line (terms_of script Bus) refl script.tries some line three.bus seen added reply.1 after means
      ((bus_adds (terms_of script Bus) script.tries line three.bus after seen added reply.1).0 means)

  port_lines : (lines : List PortLine) (three : Three) (seen added : List Event) (answers : List (PortName × LineAnswer))
      (left : Three)
      → LinesMean (PortLineMeans (terms_of script) script.tries) lines three seen added answers left
      → All (λ reply. IsNotBusy reply.1) answers
  port_lines [] three seen added answers left (none, empty, same) = rw empty (All-nil (λ reply. IsNotBusy reply.1))
  port_lines (line ∷ lines) three seen added answers left (later, first, reply, more, between, whole, all, means, rest) =
      rw all (All-cons (λ reply. IsNotBusy reply.1) reply more (port_line line three seen first reply between means)
      (port_lines lines between (first ++ seen) later more left rest))

pub no_line_is_busy : HasNoBusyLine
no_line_is_busy script history answers some runs =
    port_lines script some (lines_of script) (opening script.nodes) [] history answers runs.0 runs.1
