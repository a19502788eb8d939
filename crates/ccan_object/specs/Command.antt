-- What the Command Mask register says of a transfer. Source: C_CAN User's Manual 1.2, section 3.3.2 (IFx Command Mask
-- Registers); that its reserved bits read as 0 is this project's own.
use Rattle.std.specs.Prelude.{ℕ, Bool, ◌&&◌, not}
use Rattle.ccan_object.specs.declared.command.CommandMask.{CommandMask}
use Rattle.ccan_object.specs.Bits.{bit, part}

-- the bits of a command, as a number
abbrev pub bits_of : CommandMask → ℕ
bits_of command = command.0

-- the command in a register: its low eight bits
abbrev pub command_in : ℕ → CommandMask
command_in register = record { 0 = part register 0 8 }

-- bit 7, WR/RD: the object is written, and not read
abbrev pub is_write : CommandMask → Bool
is_write command = bit (bits_of command) 7

-- bit 3, ClrIntPnd: a read clears the pending interrupt
abbrev pub clears_intpnd : CommandMask → Bool
clears_intpnd command = bit (bits_of command) 3

-- bit 2, TxRqst/NewDat: a write requests a transmission, a read clears the new data
abbrev pub has_txrqst_newdat : CommandMask → Bool
has_txrqst_newdat command = bit (bits_of command) 2

-- a read that clears nothing
abbrev pub is_pure_read : CommandMask → Bool
is_pure_read command = not (is_write command) && not (clears_intpnd command) && not (has_txrqst_newdat command)
