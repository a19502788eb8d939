-- Reads of registers of the chip as processes. Source: this project's own, after what they come to (C_CAN User's Manual 1.2,
-- section 3, Programmer's Model).
use Rattle.std.specs.Prelude.{ℕ, ◌*◌, map, Option, Some, None, Result, Ok, Err, if◌then◌else◌}
use Rattle.std.specs.Option.{option_map_or}
use Rattle.ccan_object.specs.Bits.{part}
use Rattle.ccan_object.specs.Interface.{shown}
use Rattle.ccan_confine.specs.declared.controller.Controller.{Controller}
use Rattle.ccan_confine.specs.RegisterWords.{error_counter_word}
use Rattle.ccan_ram.specs.declared.port.PortName.{PortName}
use Rattle.ccan_ram.specs.Terms.{Terms}
use Rattle.ccan_chip.specs.declared.interface.Interface.{Interface}
use Rattle.ccan_chip.specs.declared.map.Map.{Map}
use Rattle.ccan_chip.specs.declared.register.Register.{Register}
use Rattle.ccan_chip.specs.declared.register.Register.TheVariants as register
use Rattle.ccan_chip.specs.FlagPart.{index_of}
use Rattle.ccan_process.specs.Process.{Does, Ended}
use Rattle.ccan_registers.specs.declared.access_error.AccessError.{AccessError}
use Rattle.ccan_registers.specs.declared.access_error.AccessError.TheVariants.{OtherInterface}
use Rattle.ccan_registers.specs.declared.interface_set.InterfaceSet.{InterfaceSet}
use Rattle.ccan_registers.specs.Bytes.{byte_in, byte_told, start_of}
use Rattle.ccan_registers.specs.Dcan.{control_shown, upper_shown}
use Rattle.ccan_registers.specs.Register.{is_own, read_of, status_told, test_shown}
use Rattle.ccan_calls.specs.Parts.{flag_shown, value_shown}
use Rattle.ccan_calls.specs.Process.{ChangesController, LooksAtController, Process, ending}
use Rattle.ccan_calls.specs.Offsets.{register_at}

-- what a read answers: a word, or why there is none
abbrev pub Word : Type 0
Word = Result ℕ AccessError

-- a register of the port's own interface, without a step
abbrev pub reads_own : PortName → Interface → ℕ → Process Word
reads_own port interface value = Ended (if is_own port interface then Ok value else Err OtherInterface)

-- one look at the controller
abbrev pub shows : (Controller → ℕ) → Process Word
shows word = Does LooksAtController (λ found. Ended (Ok (word found)))

abbrev pub reads : PortName → Map → Register → InterfaceSet → Process Word
reads port map register.Control own = shows (λ c. control_shown map c.control)
reads port map register.ControlUpper own = shows (λ c. upper_shown map c.control)
reads port map register.Status own = Does (ChangesController (read_of map)) (λ outcome. Ended (status_told map outcome))
reads port map register.ErrorCounter own = shows error_counter_word
reads port map register.BitTiming own = shows (λ c. c.timing.register)
reads port map register.Interrupt own = ending value_shown (λ value. Ok value)
reads port map register.Test own = shows (λ c. test_shown c.test)
reads port map register.Extension own = shows (λ c. c.timing.extension)
reads port map (register.Request interface) own = reads_own port interface own.asked
reads port map (register.Buffer interface reg) own = reads_own port interface (shown reg own.registers)
reads port map (register.Flags flag place) own =
    ending (flag_shown flag) (λ word. Ok (part word (16 * index_of place) 16))

-- a read at an offset: of the register that begins there; if none does, nothing happens
abbrev pub reads_at : Terms → Map → ℕ → InterfaceSet → Process (Option Word)
reads_at terms map offset own =
    option_map_or (λ r. ending (reads terms.port map r own) (λ word. Some word)) (register_at map terms.profile offset) (Ended None)

-- a read of a byte: a read of its register, by 16 bits
abbrev pub reads_byte : Terms → Map → ℕ → InterfaceSet → Process (Option Word)
reads_byte terms map offset own = ending (reads_at terms map (start_of offset) own) (byte_told (byte_in offset))
