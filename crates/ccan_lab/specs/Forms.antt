-- The forms of a host's lines. A form is the text of a line in which the digits of registers and of error counters are left open.
-- Source: this project's own, after the printed lines of `ccan_script`.
use Rattle.std.specs.Prelude.{ℕ, ◌==◌, ◌&&◌, ◌||◌, nat_le, Bool, true, false, List, ◌++◌, Option, Some, None, codes, slice_get}
use Rattle.std.specs.Prelude.{if◌then◌else◌}
use Rattle.std.specs.List.{enumerate_from, list_all}
use Rattle.ccan_object.specs.declared.profile.Profile.{Profile}
use Rattle.ccan_object.specs.declared.profile.Profile.TheVariants.{One, Two}
use Rattle.ccan_object.specs.Number.{requested}
use Rattle.ccan_ram.specs.declared.flag.Flag.{Flag}
use Rattle.ccan_ram.specs.declared.port.PortName.{PortName}
use Rattle.ccan_ram.specs.Port.{port_text}
use Rattle.ccan_line.specs.declared.host_line.HostLine.{HostLine}
use Rattle.ccan_line.specs.declared.host_line.HostLine.TheVariants as host
use Rattle.ccan_line.specs.declared.line_answer.LineAnswer.TheVariants as answer
use Rattle.ccan_script.specs.FlagName.{flag_name}
use Rattle.ccan_script.specs.Print.{line_text}
use Rattle.ccan_script.specs.PrintedLine.{verb_text}

-- ---- forms

abbrev pub is_between : ℕ → ℕ → ℕ → Bool
is_between least greatest byte = nat_le least byte && nat_le byte greatest

-- 0 to 9, and a to f: hexadecimal digits are lower case
abbrev pub is_decimal : ℕ → Bool
is_decimal byte = is_between 48 57 byte

abbrev pub is_hexadecimal : ℕ → Bool
is_hexadecimal byte = is_decimal byte || is_between 97 102 byte

-- what comes after `bus counters`: decimal digits, spaces, the letters of a node's state, and the line feed
abbrev pub is_of_counters : ℕ → Bool
is_of_counters byte = is_decimal byte || (is_between 97 122 byte || (byte == 32 || byte == 10))

-- frames have hexadecimal digits in upper case
abbrev pub is_capital : ℕ → Bool
is_capital byte = is_decimal byte || is_between 65 70 byte

-- in a form `#` stands for a hexadecimal digit, `~` for a byte of the counters, `^` for a digit of a frame, `=` for the `#` of a
-- frame, and any other byte for itself; so a line that shows none of these is its own form
abbrev pub stands_for : ℕ → ℕ → Bool
stands_for mark byte =
    if mark == 35 then is_hexadecimal byte else (if mark == 126 then is_of_counters byte
    else (if mark == 94 then is_capital byte else (if mark == 61 then byte == 35 else mark == byte)))

-- a byte may be in a place of a line of this form
abbrev pub is_marked : Option ℕ → ℕ → Bool
is_marked (Some mark) byte = stands_for mark byte
is_marked None byte = false

-- a line of this form can begin with this text
unfoldable pub begins : List ℕ → List ℕ → Bool
begins text form = list_all (λ place. is_marked (slice_get form place.0) place.1) (enumerate_from 0 text)

-- the four fields of a record
abbrev pub record_form : List ℕ
record_form = codes " ######## ######## #### ################\n"

-- some words, an object, and its record
unfoldable pub shown_form : List ℕ → ℕ → List ℕ
shown_form words object = verb_text words object ++ record_form

-- a flag of each object, four objects a digit
abbrev pub word_form : Profile → List ℕ
word_form One = codes " ########\n"
word_form Two = codes " ################\n"

unfoldable pub flags_form : PortName → Profile → Flag → List ℕ
flags_form port profile flag = port_text port ++ (codes " flags " ++ (flag_name flag ++ word_form profile))

-- ---- lines of a host

-- a transfer of this object writes or reads it, or gives up
unfoldable pub transfer_begins : List ℕ → PortName → ℕ → Bool
transfer_begins text port object =
    begins text (shown_form (port_text port ++ codes " write") object)
    || (begins text (shown_form (port_text port ++ codes " read") object)
    || (begins text (line_text port (answer.Busy object)) || begins text (line_text port (answer.Spent object))))

-- a wait shows the flag in the end, or doesn't
unfoldable pub until_begins : List ℕ → PortName → ℕ → Flag → Bool
until_begins text port object flag =
    begins text (line_text port (answer.Until object flag true))
    || begins text (line_text port (answer.Until object flag false))

unfoldable pub interrupt_begins : List ℕ → PortName → Bool
interrupt_begins text port = begins text (port_text port ++ codes " interrupt ####\n")

-- the answer to this line of a host can begin so
abbrev pub host_begins : List ℕ → PortName → Profile → HostLine → Bool
host_begins text port profile (host.Transfer request set) = transfer_begins text port (requested profile request)
host_begins text port profile (host.Until object flag turns) = until_begins text port object flag
host_begins text port profile host.Interrupt = interrupt_begins text port
host_begins text port profile (host.Flags flag) = begins text (flags_form port profile flag)
