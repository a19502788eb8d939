-- The numbers that calls from C answer. The header has a name for each of them. 8 is not one of them: a call of version 0.1
-- answered it. Source: this project's own.
use Rattle.std.specs.Prelude.{ℕ}

abbrev pub done : ℕ
done = 0

abbrev pub closed : ℕ
closed = 1

abbrev pub busy : ℕ
busy = 2

abbrev pub spent : ℕ
spent = 3

abbrev pub no_memory : ℕ
no_memory = 4

abbrev pub shared : ℕ
shared = 5

abbrev pub profile_range : ℕ
profile_range = 6

abbrev pub nodes_range : ℕ
nodes_range = 7

abbrev pub tries_range : ℕ
tries_range = 9

abbrev pub register_range : ℕ
register_range = 10

abbrev pub object_range : ℕ
object_range = 11

abbrev pub flag_range : ℕ
flag_range = 12

abbrev pub turns_range : ℕ
turns_range = 13

abbrev pub node_range : ℕ
node_range = 14

abbrev pub groups_range : ℕ
groups_range = 15

abbrev pub frames_range : ℕ
frames_range = 16

abbrev pub frame_range : ℕ
frame_range = 17

abbrev pub fault_range : ℕ
fault_range = 18

abbrev pub senders : ℕ
senders = 19

abbrev pub offset_range : ℕ
offset_range = 20

abbrev pub other_interface : ℕ
other_interface = 21

abbrev pub map_range : ℕ
map_range = 22

abbrev pub no_saved_chip : ℕ
no_saved_chip = 23

abbrev pub no_chip : ℕ
no_chip = 24

abbrev pub untold : ℕ
untold = 25

abbrev pub members_range : ℕ
members_range = 26

abbrev pub member_range : ℕ
member_range = 27

abbrev pub wire_range : ℕ
wire_range = 28

abbrev pub place_range : ℕ
place_range = 29

abbrev pub event_range : ℕ
event_range = 30

abbrev pub counters_range : ℕ
counters_range = 31
