-- The data of a page as JSON. Source: this project's own; the names are those of `ccan-lab explain --json`.
use Rattle.std.specs.Prelude.{ℕ, ◌++◌, ◌∷◌, List, [], Option, None, Some, option_map, codes, decimal, take, string_bytes, if◌then◌else◌}
use Rattle.ccan_object.specs.Bits.{part}
use Rattle.ccan_object.specs.DataLength.{byte_count}
use Rattle.ccan_object.specs.declared.record.Record.{Record}
use Rattle.ccan_accept.specs.Frame.{FrameFields}
use Rattle.ccan_accept.specs.Send.{number_of}
use Rattle.ccan_ram.specs.Port.{port_text}
use Rattle.ccan_ram.specs.declared.port.PortName.{PortName}
use Rattle.ccan_page.specs.Json.{data_member, named, number_member, string_text, switch_member, word_member}
use Rattle.ccan_page.specs.declared.page.Change.{Change}
use Rattle.ccan_page.specs.declared.page.LineText.{LineText}
use Rattle.ccan_page.specs.declared.page.ObjectChange.{ObjectChange}
use Rattle.ccan_page.specs.declared.page.Outcome.{Outcome}
use Rattle.ccan_page.specs.declared.page.Page.{Page}
use Rattle.ccan_page.specs.declared.page.SentFrame.{SentFrame}
use Rattle.ccan_page.specs.declared.page.Step.{Step}

-- ---- records and frames

-- the mask at the bits of the identifier: all its bits, or bits 28 to 18 for a standard one
abbrev pub mask_number : Record → ℕ
mask_number r = if r.xtd then r.mask else part r.mask 18 11

abbrev pub heading_text : Record → List ℕ
heading_text r =
    codes "{\"id\":" ++ (decimal (number_of r) ++ (switch_member (codes "xtd") r.xtd ++ (switch_member (codes "dir") r.dir
    ++ switch_member (codes "valid") r.valid)))

abbrev pub masking_text : Record → List ℕ
masking_text r =
    number_member (codes "mask") (mask_number r) ++ (switch_member (codes "mxtd") r.mxtd
    ++ (switch_member (codes "mdir") r.mdir ++ switch_member (codes "umask") r.umask))

abbrev pub control_text : Record → List ℕ
control_text r =
    switch_member (codes "txie") r.txie ++ (switch_member (codes "rxie") r.rxie
    ++ (switch_member (codes "rmten") r.rmten ++ switch_member (codes "eob") r.eob))

abbrev pub flags_text : Record → List ℕ
flags_text r =
    switch_member (codes "newdat") r.newdat ++ (switch_member (codes "msglst") r.msglst
    ++ (switch_member (codes "intpnd") r.intpnd ++ switch_member (codes "txrqst") r.txrqst))

-- a record, decoded
unfoldable pub record_text : Record → List ℕ
record_text r =
    heading_text r ++ (masking_text r ++ (control_text r ++ (flags_text r ++ (number_member (codes "dlc") r.dlc
    ++ (data_member r.bytes ++ codes "}")))))

-- a record before and after, without the braces
unfoldable pub change_text : Change → List ℕ
change_text change =
    codes "\"before\":" ++ (record_text change.before ++ (codes ",\"after\":" ++ record_text change.after))

-- an object before and after
unfoldable pub object_text : ObjectChange → List ℕ
object_text object = codes "{\"number\":" ++ (decimal object.object ++ (codes "," ++ (change_text object.change ++ codes "}")))

-- the bytes that a frame carries; none if it is remote
abbrev pub carried : FrameFields → List ℕ
carried frame = if frame.rtr then data_member [] else data_member (take (byte_count frame.dlc) frame.bytes)

abbrev pub fields_text : FrameFields → List ℕ
fields_text frame =
    number_member (codes "id") frame.id ++ (switch_member (codes "xtd") frame.xtd ++ (switch_member (codes "rtr") frame.rtr
    ++ (number_member (codes "dlc") frame.dlc ++ carried frame)))

-- a frame with the node that sends it
unfoldable pub frame_text : SentFrame → List ℕ
frame_text sent = codes "{\"node\":" ++ (decimal sent.node ++ (fields_text sent.frame ++ codes "}"))

-- ---- steps

abbrev pub object_named : Option ℕ → List ℕ
object_named None = []
object_named (Some object) = number_member (codes "object") object

abbrev pub frame_shown : Option SentFrame → List ℕ
frame_shown None = []
frame_shown (Some sent) = named (codes "frame") ++ frame_text sent

abbrev pub registers_shown : Option Change → List ℕ
registers_shown None = []
registers_shown (Some change) = named (codes "registers") ++ (codes "{" ++ (change_text change ++ codes "}"))

-- the objects of a list, with a comma before each
unfoldable pub later_objects : List ObjectChange → List ℕ
later_objects [] = []
later_objects (object ∷ later) = codes "," ++ (object_text object ++ later_objects later)

-- the same, with a comma between two
unfoldable pub objects_text : List ObjectChange → List ℕ
objects_text [] = []
objects_text (first ∷ later) = object_text first ++ later_objects later

-- which line it is, and what is said of it
unfoldable pub words_text : Step → List ℕ
words_text step =
    codes "{\"port\":\"" ++ (port_text step.port ++ (codes "\"" ++ (number_member (codes "line") step.line
    ++ (word_member (codes "deed") (string_bytes step.deed) ++ word_member (codes "told") (string_bytes step.told)))))

-- what a step has to do with: an object, a frame, the registers of an interface
unfoldable pub things_text : Step → List ℕ
things_text step = object_named step.object ++ (frame_shown step.frame ++ registers_shown step.registers)

-- the objects that are shown with it
unfoldable pub objects_shown : List ObjectChange → List ℕ
objects_shown objects = named (codes "objects") ++ (codes "[" ++ (objects_text objects ++ codes "]}"))

unfoldable pub step_text : Step → List ℕ
step_text step = words_text step ++ (things_text step ++ objects_shown step.objects.items)

-- the steps of a list, with a comma before each
unfoldable pub later_steps : List Step → List ℕ
later_steps [] = []
later_steps (step ∷ later) = codes ",\n" ++ (step_text step ++ later_steps later)

-- the same, with a comma between two: each step is there once, in its place
unfoldable pub steps_text : List Step → List ℕ
steps_text [] = []
steps_text (first ∷ later) = step_text first ++ later_steps later

-- ---- outcomes

abbrev pub quoted : PortName → List ℕ
quoted port = codes "\"" ++ (port_text port ++ codes "\"")

unfoldable pub later_names : List PortName → List ℕ
later_names [] = []
later_names (port ∷ later) = codes "," ++ (quoted port ++ later_names later)

unfoldable pub names_text : List PortName → List ℕ
names_text [] = []
names_text (first ∷ later) = quoted first ++ later_names later

unfoldable pub order_text : List PortName → List ℕ
order_text order = codes "[" ++ (names_text order ++ codes "]")

-- an order, or that there is none
abbrev pub order_or_null : Option (List PortName) → List ℕ
order_or_null None = codes "null"
order_or_null (Some order) = order_text order

unfoldable pub order_shown : Option (List PortName) → List ℕ
order_shown order = named (codes "order") ++ order_or_null order

unfoldable pub label_text : Outcome → List ℕ
label_text outcome =
    codes "{\"number\":" ++ (decimal outcome.number ++ (word_member (codes "lines") (string_bytes outcome.lines)
    ++ order_shown (option_map (λ order. order.items) outcome.order)))

unfoldable pub history_shown : List Step → List ℕ
history_shown steps = named (codes "history") ++ (codes "[" ++ (steps_text steps ++ codes "]"))

unfoldable pub run_shown : List Step → List ℕ
run_shown steps = named (codes "run") ++ (codes "[" ++ (steps_text steps ++ codes "]}"))

-- an outcome with each of its steps
unfoldable pub outcome_text : Outcome → List ℕ
outcome_text outcome =
    label_text outcome ++ (word_member (codes "opening") (string_bytes outcome.opening)
    ++ (history_shown outcome.history.items ++ run_shown outcome.run.items))

unfoldable pub later_outcomes : List Outcome → List ℕ
later_outcomes [] = []
later_outcomes (outcome ∷ later) = codes ",\n" ++ (outcome_text outcome ++ later_outcomes later)

unfoldable pub outcomes_text : List Outcome → List ℕ
outcomes_text [] = []
outcomes_text (first ∷ later) = outcome_text first ++ later_outcomes later

-- ---- the script, and all

unfoldable pub line_text : LineText → List ℕ
line_text line = codes "{\"row\":" ++ (decimal line.row ++ (word_member (codes "text") line.text.now ++ codes "}"))

unfoldable pub later_lines : List LineText → List ℕ
later_lines [] = []
later_lines (line ∷ later) = codes ",\n" ++ (line_text line ++ later_lines later)

unfoldable pub lines_text : List LineText → List ℕ
lines_text [] = []
lines_text (first ∷ later) = line_text first ++ later_lines later

-- a list of a script's lines, by its name
unfoldable pub list_shown : List ℕ → List LineText → List ℕ
list_shown name lines = named name ++ (codes "[" ++ (lines_text lines ++ codes "]"))

unfoldable pub script_text : Page → List ℕ
script_text page =
    list_shown (codes "if1") page.if1.items ++ (list_shown (codes "if2") page.if2.items
    ++ list_shown (codes "bus") page.bus.items)

unfoldable pub about_text : Page → List ℕ
about_text page =
    codes "{\"file\":" ++ (string_text page.file.now ++ (number_member (codes "count") page.count
    ++ word_member (codes "same") (string_bytes page.same)))

unfoldable pub outcomes_shown : List Outcome → List ℕ
outcomes_shown outcomes = named (codes "outcomes") ++ (codes "[" ++ (outcomes_text outcomes ++ codes "]}"))

-- all data of a page
unfoldable pub data_text : Page → List ℕ
data_text page = about_text page ++ (script_text page ++ outcomes_shown page.outcomes.items)
