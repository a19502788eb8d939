-- A frame in the line of a round: its sender, and the parts of the frame. Source: this project's own; the parts are those of
-- the CAN Specification 2.0, part B, section 3.
use Rattle.std.specs.Prelude.{ℕ, ◌+◌, ◌*◌, ◌-◌, ◌^◌, ◌%◌, ◌==◌, ◌&&◌, ◌++◌, Bool, List, [], ◌∷◌, Option, Some, None}
use Rattle.std.specs.Prelude.{codes, length, replicate, is_some, nat_le, nat_lt, option_and_then, unwrap_or, if◌then◌else◌}
use Rattle.std.specs.List.{list_all}
use Rattle.std.specs.Option.{option_map_or}
use Rattle.std.specs.Char.{digit_value, is_ascii_hexdigit}
use Rattle.serde_json.specs.Data.{Data}
use Rattle.serde_json.specs.Find.{as_str, get}
use Rattle.ccan_accept.specs.Frame.{FrameFields, data_count, framed, identifier_bits}
use Rattle.ccan_script.specs.declared.line_fault.LineFault.{LineFault}
use Rattle.ccan_script.specs.LineFault.{first_fault, range_check, shape_check}
use Rattle.ccan_script.specs.Json.{has_only, number_in, whole_in, whole_or_zero}

-- ---- data

-- two hexadecimal digits for each byte
unfoldable pub is_data_text : List ℕ → Bool
is_data_text text = length text % 2 == 0 && list_all is_ascii_hexdigit text

-- the bytes of such a text, byte 0 first
abbrev pub data_bytes : List ℕ → List ℕ
data_bytes [] = []
data_bytes (digit ∷ []) = []
data_bytes (high ∷ low ∷ rest) = (digit_value high * 16 + digit_value low) ∷ data_bytes rest

-- eight bytes, which are 0 past those of the text
unfoldable pub eight_bytes : List ℕ → List ℕ
eight_bytes text = data_bytes text ++ replicate (8 - length (data_bytes text)) 0

-- the text of the member `data`, empty if there is no such member
unfoldable pub data_in : Data → Option (List ℕ)
data_in d =
    option_map_or (λ member. option_and_then (λ text. if is_data_text text then Some text else None) (as_str member))
    (get (codes "data") d) (Some [])

-- ---- checks

abbrev pub frame_members : List (List ℕ)
frame_members = codes "node" ∷ codes "id" ∷ codes "xtd" ∷ codes "rtr" ∷ codes "dlc" ∷ codes "data" ∷ []

-- an object of the members that a frame has, and no others, each of its shape
unfoldable pub is_frame : Data → Bool
is_frame d =
    has_only frame_members d
    && (is_some (whole_in (codes "node") d) && (is_some (whole_in (codes "id") d)
    && (is_some (whole_or_zero (codes "xtd") d) && (is_some (whole_or_zero (codes "rtr") d)
    && (is_some (whole_or_zero (codes "dlc") d) && is_some (data_in d))))))

-- what a frame of that shape says: its sender, and the parts of the frame
pub record FrameWords : Type 0 where
  pub node : ℕ
  pub id : ℕ
  pub xtd : ℕ
  pub rtr : ℕ
  pub dlc : ℕ
  pub digits : List ℕ

abbrev pub words_of : Data → FrameWords
words_of d =
    record {
      node = number_in (codes "node") d;
      id = number_in (codes "id") d;
      xtd = unwrap_or (whole_or_zero (codes "xtd") d) 0;
      rtr = unwrap_or (whole_or_zero (codes "rtr") d) 0;
      dlc = unwrap_or (whole_or_zero (codes "dlc") d) 0;
      digits = unwrap_or (data_in d) [];
    }

-- the sender is one of this many nodes, and each number of the frame fits: the identifier has 29 bits or 11, the data length
-- code four
abbrev pub is_in_range : ℕ → FrameWords → Bool
is_in_range nodes words =
    nat_le 1 words.node && nat_le words.node nodes && nat_le words.xtd 1 && nat_le words.rtr 1
    && nat_lt words.id (2 ^ identifier_bits (words.xtd == 1)) && nat_le words.dlc 15

-- a data frame has as many bytes as its length says, a remote frame none
abbrev pub has_its_length : FrameWords → Bool
has_its_length words = length words.digits == 2 * data_count (words.rtr == 1) words.dlc

-- a frame is checked as a whole: its shape, its numbers, and then the length of its data
unfoldable pub frame_fault : ℕ → Data → Option LineFault
frame_fault nodes d =
    first_fault (shape_check (is_frame d) ∷ range_check (is_in_range nodes (words_of d))
    ∷ shape_check (has_its_length (words_of d)) ∷ [])

-- ---- values

-- the frame of these words
abbrev pub frame_of : FrameWords → FrameFields
frame_of words = framed words.id (words.xtd == 1) (words.rtr == 1) words.dlc (eight_bytes words.digits)

-- the sender and the frame that a value without faults stands for
unfoldable pub sending_of : Data → ℕ × FrameFields
sending_of d = ((words_of d).node, frame_of (words_of d))
