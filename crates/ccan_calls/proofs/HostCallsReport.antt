-- A call on the handle of a host of which a step was refused gets the code for busy or for spent.
use Rattle.std.proofs.Common.{ℕ, ◌≡◌, ◌⊎◌, inl, inr, refl, false, Option, Some, None, Result, Ok, Err}
use Rattle.ccan_object.specs.Number.{requested}
use Rattle.ccan_ram.specs.declared.flag.Flag.{Flag}
use Rattle.ccan_ram.specs.Terms.{Terms}
use Rattle.ccan_line.specs.declared.line_answer.LineAnswer.{LineAnswer}
use Rattle.ccan_line.specs.declared.line_answer.LineAnswer.TheVariants as reply
use Rattle.ccan_line.specs.Limits.{most_turns}
use Rattle.ccan_chip.specs.declared.map.Map.{Map}
use Rattle.ccan_registers.specs.declared.access_error.AccessError.{AccessError}
use Rattle.ccan_registers.specs.declared.access_error.AccessError.TheVariants as why
use Rattle.ccan_registers.specs.declared.interface_set.InterfaceSet.{InterfaceSet}
use Rattle.ccan_registers.specs.Clearing.{zeros}
use Rattle.ccan_c.specs.Answer.{code_of}
use Rattle.ccan_c.specs.Codes.{busy, done, flag_range, spent}
use Rattle.ccan_c.specs.Host.{flag_numbered, is_object, number_of, register_numbered}
use Rattle.ccan_c.specs.HostCall.{code_of_access}
use Rattle.ccan_c.specs.Settings.{is_from_one_to}
use Rattle.ccan_calls.specs.Answer.{CallEnd, Nothing, Number, end_of, refuses, word_given}
use Rattle.ccan_calls.specs.HostAsk.{HostAsk, set, get, request, flags, interrupt, peek, until, read8, write8, read16, write16, read32, write32, line, clear, tell, heed}
use Rattle.ccan_calls.specs.HostCallProcess.{host_process, reads_off, waits, writes_off}
use Rattle.ccan_calls.specs.Parts.{line_pulled, transfer, until_shown}
use Rattle.ccan_calls.specs.Process.{Process}
use Rattle.ccan_calls.specs.ReadProcess.{Word, reads_at, reads_byte}
use Rattle.ccan_calls.specs.WordProcess.{OffEnd, reads_word, writes_word}
use Rattle.ccan_calls.specs.WriteProcess.{change_all, writes_at, writes_byte}
use Rattle.ccan_calls.proofs.RegistersReport.{EndsBusyOff, IsBusy, IsBusyOff, IsBusyReply, RepliesBusy, all_report, flags_report, interrupt_reports, line_reports, transfer_reports, until_reports, writes_at_report, writes_byte_report}
use Rattle.ccan_calls.proofs.Reporting.{Reports, end_reports, if_reports, look_answered, option_reports}
use Rattle.ccan_calls.proofs.WordsReport.{reads_at_report, reads_byte_report, reads_word_report, writes_word_report}

-- ---- codes

-- a code for a refusal
abbrev pub IsBusyCode : ℕ → Type 0
IsBusyCode code = (code ≡ busy) ⊎ (code ≡ spent)

abbrev pub CodeIsBusy : {State : Type 0} → CallEnd State → Type 0
CodeIsBusy end = IsBusyCode end.0.code

-- the code of an access
pub access_busy : {Value : Type 0} (told : Option (Result Value AccessError)) → IsBusyOff told
    → IsBusyCode (code_of_access told)
access_busy None is = absurd is
access_busy (Some (Ok value)) is = absurd is
access_busy (Some (Err why.OtherInterface)) is = absurd is
access_busy (Some (Err why.Busy)) is = inl refl
access_busy (Some (Err why.Spent)) is = inr refl

-- and of a transfer
reply_busy : (told : LineAnswer) → IsBusyReply told → IsBusyCode (code_of told)
reply_busy (reply.Busy object) is = inl refl
reply_busy (reply.Spent object) is = inr refl
reply_busy told is = absurd is

-- ---- calls

module _ {State : Type 0} (own : State) where
  -- a read at an offset
  pub read_reports : (process : Process (Option Word)) → Reports IsBusyOff process → Reports CodeIsBusy (reads_off process own)
  read_reports process reports =
      end_reports IsBusyOff CodeIsBusy (λ told. end_of (code_of_access told) (word_given told) own) process access_busy reports

-- a write at an offset
write_reports : (process : Process OffEnd) → Reports EndsBusyOff process → Reports CodeIsBusy (writes_off process)
write_reports process reports =
    end_reports EndsBusyOff CodeIsBusy (λ end. end_of (code_of_access end.0) Nothing end.1) process (λ end. access_busy end.0)
    reports

module _ (terms : Terms) (map : Map) (own : InterfaceSet) where
  -- looks for a flag, at most so many
  wait_reports : (object turns : ℕ) (flag : Flag) → Reports CodeIsBusy (waits object turns own flag)
  wait_reports object turns flag =
      if_reports CodeIsBusy (is_from_one_to most_turns turns) _ _
      (end_reports (λ found. ⊥) CodeIsBusy (λ found. end_of done (Number (number_of found)) own)
      (until_shown object flag turns) (λ found is. absurd is) (until_reports (λ found. ⊥) object flag turns)) tt

  -- each call
  pub host_reports : (ask : HostAsk) → Reports CodeIsBusy (host_process terms map ask own)
  host_reports (set number value) = option_reports CodeIsBusy _ (register_numbered number) _ (λ reg. tt) tt
  host_reports (get number) = option_reports CodeIsBusy _ (register_numbered number) _ (λ reg. tt) tt
  host_reports (request number) =
      end_reports RepliesBusy CodeIsBusy (λ end. end_of (code_of end.0) Nothing end.1)
      (transfer (requested terms.profile number) own) (λ end. reply_busy end.0)
      (transfer_reports (requested terms.profile number) own)
  host_reports (flags number) =
      option_reports CodeIsBusy _ (flag_numbered number) _
      (λ flag. flags_report CodeIsBusy flag (λ word. end_of done (Number word) own)) tt
  host_reports interrupt = interrupt_reports CodeIsBusy false (λ value. end_of done (Number value) own)
  host_reports (peek object) =
      if_reports CodeIsBusy (is_object terms.profile object) _ _ (λ found. (inl (look_answered object found), tt)) tt
  host_reports (until object number turns) =
      if_reports CodeIsBusy (is_object terms.profile object) _ _
      (option_reports CodeIsBusy (waits object turns own) (flag_numbered number) (refuses flag_range own)
      (wait_reports object turns) tt) tt
  host_reports (read8 offset) = read_reports own (reads_byte terms map offset own) (reads_byte_report terms map own offset)
  host_reports (write8 offset value) =
      write_reports (writes_byte terms map offset value own) (writes_byte_report terms own map offset value)
  host_reports (read16 offset) = read_reports own (reads_at terms map offset own) (reads_at_report terms map own offset)
  host_reports (write16 offset value) =
      write_reports (writes_at terms map offset value own) (writes_at_report terms own map offset value)
  host_reports (read32 offset) = read_reports own (reads_word terms map offset own) (reads_word_report terms map own offset)
  host_reports (write32 offset value) =
      write_reports (writes_word terms map offset value own) (writes_word_report terms map own offset value)
  host_reports line =
      end_reports (λ pulled. ⊥) CodeIsBusy (λ pulled. end_of done (Number (number_of pulled)) own) line_pulled
      (λ pulled is. absurd is) (line_reports (λ pulled. ⊥))
  host_reports clear =
      end_reports IsBusy CodeIsBusy (λ told. end_of (code_of_access (Some told)) Nothing own) (change_all terms zeros)
      (λ told. access_busy (Some told)) (all_report terms zeros)
  host_reports tell = λ seen. (inl tt, tt)
  host_reports (heed note) = option_reports CodeIsBusy _ note _ (λ told. λ done_so. (inl tt, tt)) tt
