-- A call on the handle of a host is its process.
use Rattle.std.proofs.Common.{ℕ, zero, suc, ◌≡◌, ◌↔◌, Bool, false, Option, Some, refl, sym, subst}
use Rattle.std.specs.Prelude.{MatchBool}
use Rattle.ccan_object.specs.declared.register.Reg.{Reg}
use Rattle.ccan_object.specs.Interface.{set_register, shown}
use Rattle.ccan_object.specs.Number.{requested}
use Rattle.ccan_ram.specs.declared.flag.Flag.{Flag}
use Rattle.ccan_ram.specs.Terms.{Terms}
use Rattle.ccan_process.specs.Process.{Ended}
use Rattle.ccan_line.specs.declared.line_answer.LineAnswer.{LineAnswer}
use Rattle.ccan_line.specs.Limits.{most_turns}
use Rattle.ccan_endless.specs.Chip.{ChipHistory}
use Rattle.ccan_chip.specs.declared.map.Map.{Map}
use Rattle.ccan_registers.specs.declared.interface_set.InterfaceSet.{InterfaceSet}
use Rattle.ccan_registers.specs.InterfaceSet.{Transferred}
use Rattle.ccan_registers.specs.Objects.{ShowsFlags, ShowsInterrupt, ShowsObject, WaitsFor}
use Rattle.ccan_registers.specs.Bytes.{ReadsByte, WritesByte}
use Rattle.ccan_registers.specs.Clearing.{ClearsObjects, zeros}
use Rattle.ccan_registers.specs.Register.{PullsLine, ReadsAt, ReadsWord, WritesAt, WritesWord}
use Rattle.ccan_c.specs.declared.shown_record.ShownRecord.{ShownRecord}
use Rattle.ccan_c.specs.Answer.{code_of}
use Rattle.ccan_c.specs.Codes.{done, flag_range, object_range, register_range, turns_range, untold}
use Rattle.ccan_c.specs.Host.{flag_numbered, is_object, number_of, register_numbered}
use Rattle.ccan_c.specs.HostCall.{HostCall, HostCallMeans, IsRead, Peeks, ReadsFlag, Requests, Waits, code_got, code_of_access}
use Rattle.ccan_c.specs.HostCall as host
use Rattle.ccan_c.specs.Record.{c_record}
use Rattle.ccan_c.specs.Settings.{is_from_one_to}
use Rattle.ccan_c.specs.Step.{Rests}
use Rattle.ccan_calls.specs.Answer.{NoPlace, Nothing, Number, NumberAt, Place, RecordAt, Shown, end_of, refuses}
use Rattle.ccan_calls.specs.HostAsk.{asked_by, place_of}
use Rattle.ccan_calls.specs.HostCallProcess.{HostProcess, host_process, waits, writes_off}
use Rattle.ccan_calls.specs.Laws.{ComesTo, HostCallsAreProcesses}
use Rattle.ccan_calls.specs.Parts.{flag_shown, interrupt_value, line_pulled, look, transfer, until_shown}
use Rattle.ccan_calls.specs.Process.{Process, ending}
use Rattle.ccan_calls.specs.ReadProcess.{reads_at, reads_byte}
use Rattle.ccan_calls.specs.Runs.{Runs}
use Rattle.ccan_calls.specs.WordProcess.{reads_word, writes_word}
use Rattle.ccan_calls.specs.WriteProcess.{Written, change_all, writes_at, writes_byte}
use Rattle.ccan_calls.proofs.AnyHandle.{heeds, reads_so, tells}
use Rattle.ccan_calls.proofs.Changing.{changes_all}
use Rattle.ccan_calls.proofs.Comes.{chosen, ended, ends_with, picked, rests}
use Rattle.ccan_calls.proofs.Interrupts.{looks_once, pulls_line, shows_flag, shows_value}
use Rattle.ccan_calls.proofs.ReadsRun.{read_at, read_byte}
use Rattle.ccan_calls.proofs.Transfers.{transfers}
use Rattle.ccan_calls.proofs.Waits.{watches}
use Rattle.ccan_calls.proofs.WordsRun.{read_word, write_word}
use Rattle.ccan_calls.proofs.WritesRun.{write_at, write_byte}

module _ (terms : Terms) (tries : ℕ) (own left : InterfaceSet) (seen added : ChipHistory) where
  -- what a call comes to by a process
  abbrev Comes : HostCall → HostProcess → Type 0
  Comes call process = ComesTo terms tries (code_got call) (place_of call) process seen added left

  -- ---- calls without a step

  sets : (number value result : ℕ) (reg : Reg)
      → Rests done (record own { registers = set_register reg value own.registers }) left added result
      ↔ Comes (host.set number value result)
      (Ended (end_of done Nothing (record own { registers = set_register reg value own.registers })))
  sets number value result reg =
      rests terms tries result NoPlace left seen added done
      (record own { registers = set_register reg value own.registers })

  gets : (number result out : ℕ) (reg : Reg)
      → Rests done own left added result × (out ≡ shown reg own.registers)
      ↔ Comes (host.get number result out) (Ended (end_of done (Number (shown reg own.registers)) own))
  gets number result out reg =
      let end = ended terms tries result (NumberAt out) left seen added
      (end_of done (Number (shown reg own.registers)) own) in (
        λ h. let (r, is) = h in end.0 (r.quiet, (r.code_is, is, r.leaves)),
        λ h. let (none, got) = end.1 h in (record { code_is = got.0; quiet = none; leaves = got.2 }, got.1),
      )

  -- ---- calls with steps

  requests : (number result : ℕ) → Requests terms tries number own seen added result left
      ↔ Comes (host.request number result)
      (ending (transfer (requested terms.profile number) own) (λ end. end_of (code_of end.0) Nothing end.1))
  requests number result =
      let all = ends_with terms tries result NoPlace left seen added
      (λ (end : LineAnswer × InterfaceSet). Transferred terms tries number own seen added end.0 end.1)
      (transfer (requested terms.profile number) own) (λ end. end_of (code_of end.0) Nothing end.1)
      (λ end. transfers terms tries number own end.1 seen added end.0) in (
        λ h. let (reply, code, made) = h in all.0 ((reply, left), made, (code, tt, refl)),
        λ h.
            let (end, made, got) = all.1 h in
            (end.0, got.0, subst (λ l. Transferred terms tries number own seen added end.0 l) (sym got.2) made),
      )

  peeks : (object result : ℕ) (out : ShownRecord) → Peeks terms object own seen added result out left
      ↔ Comes (host.peek object result out) (ending (look object) (λ found. end_of done (Shown (c_record found)) own))
  peeks object result out =
      let all = ends_with terms tries result (RecordAt out) left seen added
      (λ found. ShowsObject terms object seen added found) (look object) (λ found. end_of done (Shown (c_record found)) own)
      (λ found. looks_once terms tries seen added object found) in (
        λ h. let (code, (found, is, shows), same) = h in all.0 (found, shows, (code, is, same)),
        λ h. let (found, shows, got) = all.1 h in (got.0, (found, got.1, shows), got.2),
      )

  reads_flag : (number result out : ℕ) (flag : Flag) → ReadsFlag terms flag own seen added result out left
      ↔ Comes (host.flags number result out) (ending (flag_shown flag) (λ word. end_of done (Number word) own))
  reads_flag number result out flag =
      let all = ends_with terms tries result (NumberAt out) left seen added
      (λ word. ShowsFlags terms flag seen added word) (flag_shown flag) (λ word. end_of done (Number word) own)
      (λ word. shows_flag terms tries seen added flag word) in (
        λ h. let (code, shows, same) = h in all.0 (out, shows, (code, refl, same)),
        λ h.
            let (word, shows, got) = all.1 h in
            (got.0, subst (λ w. ShowsFlags terms flag seen added w) (sym got.1) shows, got.2),
      )

  interrupts : (result out : ℕ) → (result ≡ done) × ShowsInterrupt terms false seen added out × (left ≡ own)
      ↔ Comes (host.interrupt result out) (ending (interrupt_value false) (λ value. end_of done (Number value) own))
  interrupts result out =
      let all = ends_with terms tries result (NumberAt out) left seen added
      (λ value. ShowsInterrupt terms false seen added value) (interrupt_value false) (λ value. end_of done (Number value) own)
      (λ value. shows_value terms tries seen added false value) in (
        λ h. let (code, shows, same) = h in all.0 (out, shows, (code, refl, same)),
        λ h.
            let (value, shows, got) = all.1 h in
            (got.0, subst (λ v. ShowsInterrupt terms false seen added v) (sym got.1) shows, got.2),
      )

  pulls : (result out : ℕ)
      → (result ≡ done) × ((pulled : Bool) × (out ≡ number_of pulled) × PullsLine terms seen added pulled) × (left ≡ own)
      ↔ Comes (host.line result out) (ending line_pulled (λ pulled. end_of done (Number (number_of pulled)) own))
  pulls result out =
      let all = ends_with terms tries result (NumberAt out) left seen added
      (λ pulled. PullsLine terms seen added pulled) line_pulled (λ pulled. end_of done (Number (number_of pulled)) own)
      (λ pulled. pulls_line terms tries seen added pulled) in (
        λ h. let (code, (pulled, is, so), same) = h in all.0 (pulled, so, (code, is, same)),
        λ h. let (pulled, so, got) = all.1 h in (got.0, (pulled, got.1, so), got.2),
      )

  waits_so : (object number turns result out : ℕ) (flag : Flag)
      → Waits terms object flag (suc turns) own seen added result out left
      ↔ Comes (host.until object number (suc turns) result out)
      (ending (until_shown object flag (suc turns)) (λ found. end_of done (Number (number_of found)) own))
  waits_so object number turns result out flag =
      let all = ends_with terms tries result (NumberAt out) left seen added
      (λ found. WaitsFor terms object flag (suc turns) seen added found) (until_shown object flag (suc turns))
      (λ found. end_of done (Number (number_of found)) own)
      (λ found. watches terms tries object flag turns seen added found) in (
        λ h. let (code, (found, is, so), same) = h in all.0 (found, so, (code, is, same)),
        λ h. let (found, so, got) = all.1 h in (got.0, (found, got.1, so), got.2),
      )

  waits_by : (object number turns result out : ℕ) (flag : Flag)
      → MatchBool (is_from_one_to most_turns turns) (Waits terms object flag turns own seen added result out left)
      (Rests turns_range own left added result)
      ↔ Comes (host.until object number turns result out) (waits object turns own flag)
  waits_by object number zero result out flag =
      rests terms tries result (NumberAt out) left seen added turns_range own
  waits_by object number (suc turns) result out flag =
      chosen terms tries result (NumberAt out) left seen added (is_from_one_to most_turns (suc turns)) _ _ _ _
      (waits_so object number turns result out flag) (rests terms tries result (NumberAt out) left seen added turns_range own)

-- ---- registers at an offset

-- a write, or a clearing of all objects
module _ (terms : Terms) (tries : ℕ) (left : InterfaceSet) (seen added : ChipHistory) (result : ℕ)
    (process : Process (Option Written × InterfaceSet)) (what : Option Written → InterfaceSet → Type 0)
    (same : (told : Option Written) (kept : InterfaceSet)
    → what told kept ↔ Runs terms tries process seen added (told, kept)) where
  writes_so : ((told : Option Written) × what told left × (result ≡ code_of_access told))
      ↔ ComesTo terms tries result NoPlace (writes_off process) seen added left
  writes_so =
      let all = ends_with terms tries result NoPlace left seen added (λ (end : Option Written × InterfaceSet). what end.0 end.1)
      process (λ end. end_of (code_of_access end.0) Nothing end.1) (λ end. same end.0 end.1) in (
        λ h. let (told, so, code) = h in all.0 ((told, left), so, (code, tt, refl)),
        λ h. let (end, so, got) = all.1 h in (end.0, subst (λ l. what end.0 l) (sym got.2) so, got.0),
      )

module _ (terms : Terms) (tries : ℕ) (own left : InterfaceSet) (seen added : ChipHistory) (result : ℕ) where
  clears : ((told : Written) × ClearsObjects terms tries seen added told × (result ≡ code_of_access (Some told))) × (left ≡ own)
      ↔ ComesTo terms tries result NoPlace
      (ending (change_all terms zeros) (λ told. end_of (code_of_access (Some told)) Nothing own)) seen added left
  clears =
      let all = ends_with terms tries result NoPlace left seen added
      (λ told. ClearsObjects terms tries seen added told) (change_all terms zeros)
      (λ told. end_of (code_of_access (Some told)) Nothing own) (λ told. changes_all zeros terms tries seen added told) in (
        λ h. let ((told, so, code), same) = h in all.0 (told, so, (code, tt, same)),
        λ h. let (told, so, got) = all.1 h in ((told, so, got.0), got.2),
      )

-- ---- all calls

module _ (terms : Terms) (tries : ℕ) (map : Map) (own left : InterfaceSet) (seen added : ChipHistory) where
  abbrev IsProcess : HostCall → Type 0
  IsProcess call =
      HostCallMeans terms tries map call own seen added left
      ↔ ComesTo terms tries (code_got call) (place_of call) (host_process terms map (asked_by call) own) seen added left

  refused : (result : ℕ) (place : Place) (code : ℕ) → Rests code own left added result
      ↔ ComesTo terms tries result place (refuses code own) seen added left
  refused result place code = rests terms tries result place left seen added code own

  each : (call : HostCall) → IsProcess call
  each (host.set number value result) =
      picked terms tries result NoPlace left seen added (register_numbered number) _ _ _ _ (refused result NoPlace register_range)
      (λ reg. sets terms tries own left seen added number value result reg)
  each (host.get number result out) =
      picked terms tries result (NumberAt out) left seen added (register_numbered number) _ _ _ _
      (refused result (NumberAt out) register_range)
      (λ reg. gets terms tries own left seen added number result out reg)
  each (host.request number result) = requests terms tries own left seen added number result
  each (host.flags number result out) =
      picked terms tries result (NumberAt out) left seen added (flag_numbered number) _ _ _ _
      (refused result (NumberAt out) flag_range)
      (λ flag. reads_flag terms tries own left seen added number result out flag)
  each (host.interrupt result out) = interrupts terms tries own left seen added result out
  each (host.peek object result out) =
      chosen terms tries result (RecordAt out) left seen added (is_object terms.profile object) _ _ _ _
      (peeks terms tries own left seen added object result out) (refused result (RecordAt out) object_range)
  each (host.until object number turns result out) =
      chosen terms tries result (NumberAt out) left seen added (is_object terms.profile object) _ _ _ _
      (picked terms tries result (NumberAt out) left seen added (flag_numbered number) _ _ _ _
      (refused result (NumberAt out) flag_range)
      (λ flag. waits_by terms tries own left seen added object number turns result out flag))
      (refused result (NumberAt out) object_range)
  each (host.read8 offset result out) =
      reads_so terms tries own left seen added result out (reads_byte terms map offset own)
      (λ told. ReadsByte terms tries map offset own seen added told)
      (λ told. read_byte terms tries map own seen added offset told)
  each (host.write8 offset value result) =
      writes_so terms tries left seen added result (writes_byte terms map offset value own)
      (λ told kept. WritesByte terms tries map offset value own seen added told kept)
      (λ told kept. write_byte terms tries map offset value own seen added kept told)
  each (host.read16 offset result out) =
      reads_so terms tries own left seen added result out (reads_at terms map offset own)
      (λ told. ReadsAt terms tries map offset own seen added told)
      (λ told. read_at terms tries map own seen added offset told)
  each (host.write16 offset value result) =
      writes_so terms tries left seen added result (writes_at terms map offset value own)
      (λ told kept. WritesAt terms tries map offset value own seen added told kept)
      (λ told kept. write_at terms tries map offset value own seen added kept told)
  each (host.read32 offset result out) =
      reads_so terms tries own left seen added result out (reads_word terms map offset own)
      (λ told. ReadsWord terms tries map offset own seen added told)
      (λ told. read_word terms tries map offset own seen added told)
  each (host.write32 offset value result) =
      writes_so terms tries left seen added result (writes_word terms map offset value own)
      (λ told kept. WritesWord terms tries map offset value own seen added told kept)
      (λ told kept. write_word terms tries map offset value own seen added told kept)
  each (host.line result out) = pulls terms tries own left seen added result out
  each (host.clear result) = clears terms tries own left seen added result
  each (host.tell note result) = tells terms tries own left seen added result note
  each (host.heed note result) =
      picked terms tries result NoPlace left seen added note _ _ _ _ (refused result NoPlace untold)
      (λ told. heeds terms tries own left seen added result note told)

pub host_calls : HostCallsAreProcesses
host_calls terms tries map call own left seen added = each terms tries map own left seen added call
