-- A read of a register is its process.
use Rattle.std.proofs.Common.{ℕ, ◌↔◌, ◌*◌, Bool, true, false, Option, Some, None, Ok, Err, refl, sym, subst, if◌then◌else◌}
use Rattle.std.specs.Prelude.{MatchBool}
use Rattle.std.specs.Option.{option_map_or}
use Rattle.std.proofs.lemmas.Option.{none-some, same_Some}
use Rattle.ccan_object.specs.Bits.{part}
use Rattle.ccan_object.specs.Interface.{shown}
use Rattle.ccan_confine.specs.declared.controller.Controller.{Controller}
use Rattle.ccan_confine.specs.RegisterWords.{error_counter_word}
use Rattle.ccan_ram.specs.Terms.{Terms}
use Rattle.ccan_process.specs.Process.{Ended}
use Rattle.ccan_endless.specs.Chip.{ChipHistory}
use Rattle.ccan_chip.specs.declared.map.Map.{Map}
use Rattle.ccan_chip.specs.declared.register.Register.{Register}
use Rattle.ccan_chip.specs.declared.register.Register.TheVariants as register
use Rattle.ccan_chip.specs.FlagPart.{index_of}
use Rattle.ccan_registers.specs.declared.access_error.AccessError.TheVariants.{OtherInterface}
use Rattle.ccan_registers.specs.declared.interface_set.InterfaceSet.{InterfaceSet}
use Rattle.ccan_registers.specs.Bytes.{ReadsByte, byte_in, byte_told, start_of}
use Rattle.ccan_registers.specs.Dcan.{control_shown, upper_shown}
use Rattle.ccan_registers.specs.Register.{IsOthers, IsQuiet, Reads, ReadsAt, Shows, is_own, read_of, status_told, test_shown}
use Rattle.ccan_calls.specs.Parts.{flag_shown, value_shown}
use Rattle.ccan_calls.specs.Process.{ChangesController, LooksAtController, ending}
use Rattle.ccan_calls.specs.Offsets.{register_at}
use Rattle.ccan_calls.specs.ReadProcess.{Word, reads, reads_at, reads_byte, shows}
use Rattle.ccan_calls.specs.Runs.{Runs}
use Rattle.ccan_calls.proofs.Interrupts.{shows_flag, values}
use Rattle.ccan_calls.proofs.Processes.{ends_so, one_act}
use Rattle.ccan_calls.proofs.RegistersFound.{IsFound, found, one_at}

module _ (terms : Terms) (tries : ℕ) (map : Map) (own : InterfaceSet) (seen added : ChipHistory) where
  word_shown : (word : Controller → ℕ) (told : Word)
      → Shows terms word seen added told ↔ Runs terms tries (shows word) seen added told
  word_shown word told =
      let one = one_act terms tries LooksAtController (λ found. Ok (word found)) seen added told in (one.1, one.0)

  own_read : (mine : Bool) (value : ℕ) (told : Word)
      → MatchBool mine (IsQuiet added told value) (IsOthers own own added told)
      ↔ Runs terms tries (Ended (if mine then Ok value else Err OtherInterface)) seen added told
  own_read true value told = (
    λ h. (h.quiet, h.told_is),
    λ h. let (none, is) = h in record { quiet = none; told_is = is },
  )
  own_read false value told = (
    λ h. (h.quiet, h.told_is),
    λ h. let (none, is) = h in record { quiet = none; left_is = refl; told_is = is },
  )

  pub register_read : (r : Register) (told : Word)
      → Reads terms tries map r own seen added told ↔ Runs terms tries (reads terms.port map r own) seen added told
  register_read register.Control told = word_shown (λ c. control_shown map c.control) told
  register_read register.ControlUpper told = word_shown (λ c. upper_shown map c.control) told
  register_read register.Status told =
      let one = one_act terms tries (ChangesController (read_of map)) (λ outcome. status_told map outcome) seen added told in
      (one.1, one.0)
  register_read register.ErrorCounter told = word_shown error_counter_word told
  register_read register.BitTiming told = word_shown (λ c. c.timing.register) told
  register_read register.Interrupt told =
      let end = ends_so terms tries (λ (value : ℕ). Ok value) value_shown seen added told in (
        λ h.
            let (found, value, shows, is) = h in
            end.1 (value, (values terms tries seen added value).0 (found, shows), is),
        λ h.
            let (value, on, is) = end.0 h in
            let (found, shows) = (values terms tries seen added value).1 on in
            (found, value, shows, is),
      )
  register_read register.Test told = word_shown (λ c. test_shown c.test) told
  register_read register.Extension told = word_shown (λ c. c.timing.extension) told
  register_read (register.Request interface) told = own_read (is_own terms.port interface) own.asked told
  register_read (register.Buffer interface reg) told = own_read (is_own terms.port interface) (shown reg own.registers) told
  register_read (register.Flags flag place) told =
      let end = ends_so terms tries (λ (word : ℕ). Ok (part word (16 * index_of place) 16)) (flag_shown flag) seen added told in (
        λ h. let (word, shows, is) = h in end.1 (word, (shows_flag terms tries seen added flag word).0 shows, is),
        λ h. let (word, on, is) = end.0 h in (word, (shows_flag terms tries seen added flag word).1 on, is),
      )

  -- ---- at an offset

  module _ (offset : ℕ) where
    abbrev Read : Option Register → Option Word → Type 0
    Read o told =
        Runs terms tries (option_map_or (λ r. ending (reads terms.port map r own) (λ word. Some word)) o (Ended None)) seen added
        told

    read_by : (o : Option Register) → IsFound map terms.profile offset o → (told : Option Word)
        → ReadsAt terms tries map offset own seen added told ↔ Read o told
    read_by None none None = (λ h. (h.1, refl), λ h. (none, h.0))
    read_by None none (Some told) = (
      λ h. let (r, is, so) = h in absurd (none r is.has is.stands),
      λ h. absurd (none-some told (sym h.1)),
    )
    read_by (Some r) is None = (
      λ h. absurd (h.0 r is.has is.stands),
      λ h.
          let (word, on, same) =
          (ends_so terms tries (λ (w : Word). Some w) (reads terms.port map r own) seen added None).0 h in
          absurd (none-some word same),
    )
    read_by (Some r) is (Some told) =
        let end = ends_so terms tries (λ (w : Word). Some w) (reads terms.port map r own) seen added (Some told) in (
          λ h.
              let (other, there, so) = h in
              let same = one_at map terms.profile offset other r there is in
              end.1 (told, (register_read r told).0 (subst (λ m. Reads terms tries map m own seen added told) same so), refl),
          λ h.
              let (word, on, same) = end.0 h in (
                r,
                is,
                (register_read r told).1 (subst (λ w. Runs terms tries (reads terms.port map r own) seen added w)
                    (sym (same_Some told word same)) on),
              ),
        )

    pub read_at : (told : Option Word)
        → ReadsAt terms tries map offset own seen added told ↔ Runs terms tries (reads_at terms map offset own) seen added told
    read_at told = read_by (register_at map terms.profile offset) (found map terms.profile offset) told

module _ (terms : Terms) (tries : ℕ) (map : Map) (own : InterfaceSet) (seen added : ChipHistory) (offset : ℕ) where
  pub read_byte : (told : Option Word)
      → ReadsByte terms tries map offset own seen added told
      ↔ Runs terms tries (reads_byte terms map offset own) seen added told
  read_byte told =
      let start = start_of offset in
      let end = ends_so terms tries (byte_told (byte_in offset)) (reads_at terms map start own) seen added told in (
        λ h. let (word, reads, is) = h in end.1 (word, (read_at terms tries map own seen added start word).0 reads, is),
        λ h. let (word, on, is) = end.0 h in (word, (read_at terms tries map own seen added start word).1 on, is),
      )
