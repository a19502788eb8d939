-- A read of a register by the bus's port makes no use of an interface.
use Rattle.std.proofs.Common.{ℕ, ◌≡◌, ◌+◌, ◌%◌, ◌==◌, Option, Some, None, refl, sym, ap, subst, if◌then◌else◌}
use Rattle.std.specs.Option.{option_map_or}
use Rattle.ccan_ram.specs.declared.port.PortName.{PortName}
use Rattle.ccan_ram.specs.declared.port.PortName.TheVariants.{Bus}
use Rattle.ccan_ram.specs.Terms.{Terms}
use Rattle.ccan_chip.specs.declared.interface.Interface.TheVariants.{One, Two}
use Rattle.ccan_chip.specs.declared.map.Map.{Map}
use Rattle.ccan_chip.specs.declared.register.Register.{Register}
use Rattle.ccan_chip.specs.declared.register.Register.TheVariants as register
use Rattle.ccan_process.specs.Process.{Ended, followed_by}
use Rattle.ccan_registers.specs.declared.interface_set.InterfaceSet.{InterfaceSet}
use Rattle.ccan_registers.specs.Bytes.{byte_in, byte_told, start_of}
use Rattle.ccan_registers.specs.Register.{is_refused, joined}
use Rattle.ccan_calls.specs.Offsets.{are_halves, flag_word_at, register_at}
use Rattle.ccan_calls.specs.Process.{Process, ending}
use Rattle.ccan_calls.specs.ReadProcess.{Word, reads, reads_at, reads_byte}
use Rattle.ccan_calls.specs.WordProcess.{control_word_shown, reads_flags, reads_halves, reads_word, shows_word, timing_word}

module _ (map : Map) (own other : InterfaceSet) where
  reads_alike : (r : Register) → reads Bus map r own ≡ reads Bus map r other
  reads_alike register.Control = refl
  reads_alike register.ControlUpper = refl
  reads_alike register.Status = refl
  reads_alike register.ErrorCounter = refl
  reads_alike register.BitTiming = refl
  reads_alike register.Interrupt = refl
  reads_alike register.Test = refl
  reads_alike register.Extension = refl
  reads_alike (register.Request One) = refl
  reads_alike (register.Request Two) = refl
  reads_alike (register.Buffer One reg) = refl
  reads_alike (register.Buffer Two reg) = refl
  reads_alike (register.Flags flag place) = refl

  module _ (terms : Terms) (bus : terms.port ≡ Bus) where
    alike : (r : Register) → reads terms.port map r own ≡ reads terms.port map r other
    alike r = subst (λ (p : PortName). reads p map r own ≡ reads p map r other) (sym bus) (reads_alike r)

    pub reads_at_alike : (offset : ℕ) → reads_at terms map offset own ≡ reads_at terms map offset other
    reads_at_alike offset =
        λ i. option_map_or (λ r. ending (alike r i) (λ word. Some word)) (register_at map terms.profile offset) (Ended None)

    pub reads_byte_alike : (offset : ℕ) → reads_byte terms map offset own ≡ reads_byte terms map offset other
    reads_byte_alike offset =
        ap (λ (p : Process (Option Word)). ending p (byte_told (byte_in offset))) (reads_at_alike (start_of offset))

    halves_alike : (offset : ℕ) → reads_halves terms map offset own ≡ reads_halves terms map offset other
    halves_alike offset =
        λ i. followed_by (reads_at_alike offset i) (λ low. if is_refused low then Ended low
        else ending (reads_at_alike (offset + 2) i) (λ high. joined low high))

    pub reads_word_alike : (offset : ℕ) → reads_word terms map offset own ≡ reads_word terms map offset other
    reads_word_alike offset =
        λ i. if offset % 4 == 0
        then option_map_or reads_flags (flag_word_at map terms.profile offset)
        (if are_halves map terms.profile offset register.BitTiming register.Extension then shows_word timing_word
        else (if are_halves map terms.profile offset register.Control register.ControlUpper
        then shows_word (control_word_shown map) else halves_alike offset i))
        else Ended None
