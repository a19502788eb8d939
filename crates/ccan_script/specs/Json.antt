-- What a script asks of the JSON values in it: objects with known members only, lists, whole numbers, and texts of four
-- digits. Source: this project's own, over JSON (RFC 8259).
use Rattle.std.specs.Prelude.{ℕ, ◌==◌, ◌&&◌, Bool, true, false, List, [], ◌∷◌, Option, Some, None, codes}
use Rattle.std.specs.Prelude.{length, is_some, nat_le, option_and_then, unwrap_or, if◌then◌else◌}
use Rattle.std.specs.List.{list_all, list_any}
use Rattle.std.specs.Option.{option_map_or}
use Rattle.std.specs.Char.{is_ascii_hexdigit}
use Rattle.std.specs.Str.{bytes_eq}
use Rattle.std.specs.Str.Parse.{digits_value}
use Rattle.serde_json.specs.Data.{Data, Members, no_members, member, Items, no_items, item}
use Rattle.serde_json.specs.Find.{as_array, as_number, as_object, as_str, as_u64, get}

-- ---- texts of four digits

-- exactly four hexadecimal digits, of either case
unfoldable pub is_four_digits : List ℕ → Bool
is_four_digits text = length text == 4 && list_all is_ascii_hexdigit text

-- the number that a text of four digits stands for
unfoldable pub word_in : Data → Option ℕ
word_in d = option_and_then (λ text. if is_four_digits text then Some (digits_value 16 text) else None) (as_str d)

-- ---- whole numbers

-- a whole number
abbrev pub whole : Data → Option ℕ
whole d = option_and_then as_u64 (as_number d)

-- the whole number of a member
unfoldable pub whole_in : List ℕ → Data → Option ℕ
whole_in name d = option_and_then whole (get name d)

-- the same, and 0 if there is no such member
unfoldable pub whole_or_zero : List ℕ → Data → Option ℕ
whole_or_zero name d = option_map_or whole (get name d) (Some 0)

-- the number, if there is one, lies in the range
abbrev pub is_within : ℕ → ℕ → Option ℕ → Bool
is_within least greatest n = nat_le least (unwrap_or n 0) && nat_le (unwrap_or n 0) greatest

-- ---- lists

abbrev pub list_of : Items → List Data
list_of no_items = []
list_of (item d ds) = d ∷ list_of ds

-- the values of the list that a member may be
unfoldable pub lines_in : Option Data → List Data
lines_in o = option_map_or list_of (option_and_then as_array o) []

-- there is no such member, or it is a list
unfoldable pub can_be_list : Option Data → Bool
can_be_list o = option_map_or (λ d. is_some (as_array d)) o true

-- ---- objects

-- the name is one of the words
abbrev pub is_among : List (List ℕ) → List ℕ → Bool
is_among words name = list_any (λ word. bytes_eq word name) words

-- the names of an object's members
abbrev pub names_in : Members → List (List ℕ)
names_in no_members = []
names_in (member name d ms) = name ∷ names_in ms

-- an object with no other members than these
unfoldable pub has_only : List (List ℕ) → Data → Bool
has_only known d = option_map_or (λ ms. list_all (is_among known) (names_in ms)) (as_object d) false

-- ---- the members of lines

-- a line with no member except its operation
abbrev pub is_bare : Data → Bool
is_bare d = has_only (codes "op" ∷ []) d

-- a line with one member besides its operation, which is a whole number
unfoldable pub has_number : List ℕ → Data → Bool
has_number name d = has_only (codes "op" ∷ name ∷ []) d && is_some (whole_in name d)

-- the number of a member of a line without faults
abbrev pub number_in : List ℕ → Data → ℕ
number_in name d = unwrap_or (whole_in name d) 0
