-- Which texts a printed line of a script can begin with. Source: this project's own.
use Rattle.std.specs.Prelude.{ℕ, ◌+◌, ◌==◌, ◌||◌, Bool, false, List, codes, filter, map}
use Rattle.std.specs.List.{before_first, list_any, range_with_len}
use Rattle.ccan_object.specs.declared.profile.Profile.{Profile}
use Rattle.ccan_object.specs.Number.{requested}
use Rattle.ccan_object.specs.Profile.{objects_in}
use Rattle.ccan_ram.specs.declared.port.PortName.TheVariants.{If1, If2}
use Rattle.ccan_line.specs.declared.host_line.HostLine.{HostLine}
use Rattle.ccan_line.specs.declared.host_line.HostLine.TheVariants as host
use Rattle.ccan_line.specs.Script.{ScriptFields}
use Rattle.ccan_lab.specs.BusForms.{bus_begins}
use Rattle.ccan_lab.specs.Forms.{begins, host_begins, shown_form}
use Rattle.ccan_lab.specs.Rows.{star}

-- ---- objects

-- the line is a transfer of this object
abbrev pub is_transfer_of : Profile → ℕ → HostLine → Bool
is_transfer_of profile object (host.Transfer request set) = requested profile request == object
is_transfer_of profile object (host.Until at flag turns) = false
is_transfer_of profile object host.Interrupt = false
is_transfer_of profile object (host.Flags flag) = false

-- a host has a transfer of this object
abbrev pub has_transfer_of : ScriptFields → ℕ → Bool
has_transfer_of script object =
    list_any (is_transfer_of script.profile object) script.if1 || list_any (is_transfer_of script.profile object) script.if2

-- the objects that transfers name, each once: lines of the bus and the objects at the end are of these
unfoldable pub transferred_objects : ScriptFields → List ℕ
transferred_objects script =
    filter (has_transfer_of script) (map (λ index. index + 1) (range_with_len 0 (objects_in script.profile)))

-- ---- a script

-- a printed line of the script can begin so: an answer of a port, the frame of a round, or an object at the end
unfoldable pub can_begin_among : ScriptFields → List ℕ → List ℕ → Bool
can_begin_among script objects text =
    list_any (host_begins text If1 script.profile) script.if1
    || (list_any (host_begins text If2 script.profile) script.if2
    || (list_any (bus_begins text script.profile objects) script.bus
    || list_any (λ object. begins text (shown_form (codes "final") object)) objects))

-- the same of what is before the first `*`
abbrev pub can_begin : ScriptFields → List ℕ → Bool
can_begin script text = can_begin_among script (transferred_objects script) (before_first (λ byte. byte == star) text)
