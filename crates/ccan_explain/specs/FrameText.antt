-- Frames as can-utils writes them, and who sent them. Source: the compact frames of can-utils (lib.c, `sprint_canframe`); the
-- words for a sender are this project's own.
use Rattle.std.specs.Prelude.{ℕ, zero, suc, ◌/◌, ◌%◌, ◌^◌, ◌==◌, nat_lt, min, List, [], ◌∷◌, ◌++◌, take, Bool, true}
use Rattle.std.specs.Prelude.{codes, decimal, if◌then◌else◌}
use Rattle.std.specs.List.{flat_map}
use Rattle.std.specs.Fmt.{digit_glyph}
use Rattle.ccan_object.specs.DataLength.{byte_count}
use Rattle.ccan_accept.specs.Frame.{FrameFields}

-- a number in hexadecimal with so many digits, that of the highest place first, in capitals
unfoldable pub capital_hex : ℕ → ℕ → List ℕ
capital_hex zero n = []
capital_hex (suc place) n = digit_glyph true (n / 16 ^ place % 16) ∷ capital_hex place n

-- three digits, or eight if the identifier is extended
abbrev pub id_text : ℕ → Bool → List ℕ
id_text id xtd = if xtd then capital_hex 8 id else capital_hex 3 id

-- a remote frame: the length of the data that it asks for, if it asks for some
abbrev pub remote_text : ℕ → List ℕ
remote_text dlc = codes "R" ++ (if nat_lt 0 dlc then decimal (min dlc 8) else [])

-- two digits for each byte
abbrev pub bytes_text : List ℕ → List ℕ
bytes_text bytes = flat_map (capital_hex 2) bytes

-- a data length code above 8
abbrev pub code_text : ℕ → List ℕ
code_text dlc = if nat_lt 8 dlc then codes "_" ++ capital_hex 1 dlc else []

-- a frame: its identifier, and its data or that it asks for them
unfoldable pub frame_text : FrameFields → List ℕ
frame_text frame =
    id_text frame.id frame.xtd ++ (codes "#"
    ++ ((if frame.rtr then remote_text frame.dlc else bytes_text (take (byte_count frame.dlc) frame.bytes))
    ++ code_text frame.dlc))

-- a node; node 0 is the controller
unfoldable pub node_text : ℕ → List ℕ
node_text node = if node == 0 then codes "the chip" else codes "node " ++ decimal node

-- a frame with its sender
unfoldable pub winner_text : ℕ → FrameFields → List ℕ
winner_text node frame = codes "can0 " ++ (frame_text frame ++ (codes " from " ++ node_text node))
