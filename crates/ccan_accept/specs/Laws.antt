-- Laws of the definitions, in the words of the manual.
use Rattle.std.specs.Prelude.{◌≡◌, ◌↔◌, ◌+◌, true, false, IsTrue}
use Rattle.ccan_object.specs.declared.command.CommandMask.{CommandMask}
use Rattle.ccan_object.specs.declared.group.Group.TheVariants.{Arb, Control, DataA, DataB}
use Rattle.ccan_object.specs.declared.register.Reg.TheVariants.{Arb1, Arb2, Ctrl, DataA1, DataA2, DataB1, DataB2}
use Rattle.ccan_object.specs.Bits.{at, bit, part}
use Rattle.ccan_object.specs.Command.{is_write}
use Rattle.ccan_object.specs.Group.{selects}
use Rattle.ccan_object.specs.Interface.{Registers, filled, shown}
use Rattle.ccan_object.specs.Register.{two_bytes}
use Rattle.ccan_object.specs.declared.record.Record.{Record}
use Rattle.ccan_object.specs.Record.{IsRecord}
use Rattle.ccan_accept.specs.declared.frame.Frame.{Frame}
use Rattle.ccan_accept.specs.Frame.{IsFrame, identifier_of}
use Rattle.ccan_accept.specs.Accept.{Accepts, accepts, is_locked}
use Rattle.ccan_accept.specs.Store.{stored}
use Rattle.ccan_accept.specs.Send.{number_of, frame_of, is_ready, started_once, finished_once}

-- the test of acceptance answers what acceptance says of each place
abbrev pub AcceptedPlaceByPlace : Type 0
AcceptedPlaceByPlace = (r : Record) (f : Frame) → IsTrue (accepts r f) ↔ Accepts r f

-- without a mask a valid object that isn't locked accepts the frames of its own identifier, width and kind, and no others
abbrev pub UnmaskedAcceptsItsOwn : Type 0
UnmaskedAcceptsItsOwn =
    (r : Record) (f : Frame) → IsRecord r → IsFrame f → IsTrue r.valid → is_locked r ≡ false → r.umask ≡ false
    → Accepts r f ↔ ((f.id ≡ number_of r) × (f.xtd ≡ r.xtd) × (f.rtr ≡ r.dir))

-- a locked object accepts nothing
abbrev pub LockedAcceptsNothing : Type 0
LockedAcceptsNothing = (r : Record) (f : Frame) → r.eob ≡ false → r.newdat ≡ true → accepts r f ≡ false

-- a stored data frame goes out again as it came, once Dir is turned to 1
abbrev pub StoredGoesOutAgain : Type 0
StoredGoesOutAgain =
    (r : Record) (f : Frame) → IsFrame f → f.rtr ≡ false
    → let kept = stored r f in frame_of record kept { dir = true } ≡ f

-- the interface registers show a data frame: its identifier in ID28 to ID0, its width in Xtd, Dir 0, its length in DLC,
-- NewDat, and its bytes
pub record ShowsFrame (f : Frame) (i : Registers) : Type 0 where
  pub identifier : at 16 (part (shown Arb2 i) 0 13) + shown Arb1 i ≡ identifier_of f
  pub xtd : bit (shown Arb2 i) 14 ≡ f.xtd
  pub dir : bit (shown Arb2 i) 13 ≡ false
  pub newdat : bit (shown Ctrl i) 15 ≡ true
  pub length : part (shown Ctrl i) 0 4 ≡ f.dlc
  pub bytes_0_1 : shown DataA1 i ≡ two_bytes f.bytes 0
  pub bytes_2_3 : shown DataA2 i ≡ two_bytes f.bytes 2
  pub bytes_4_5 : shown DataB1 i ≡ two_bytes f.bytes 4
  pub bytes_6_7 : shown DataB2 i ≡ two_bytes f.bytes 6

-- a command is a read of all groups except Mask, which may be selected or not
pub record ReadsMessage (command : CommandMask) : Type 0 where
  pub reads : is_write command ≡ false
  pub arb : selects command Arb ≡ true
  pub control : selects command Control ≡ true
  pub data_a : selects command DataA ≡ true
  pub data_b : selects command DataB ≡ true

-- a stored data frame is shown by the registers of a host that reads the object then
abbrev pub StoredReadsBack : Type 0
StoredReadsBack =
    (r : Record) (f : Frame) (command : CommandMask) (i : Registers) → IsFrame f → f.rtr ≡ false → ReadsMessage command
    → ShowsFrame f (filled command (stored r f) i)

-- the fields that say what an object is are the same in two records
pub record SameSettings (before after : Record) : Type 0 where
  pub valid : after.valid ≡ before.valid
  pub mask : after.mask ≡ before.mask
  pub mxtd : after.mxtd ≡ before.mxtd
  pub mdir : after.mdir ≡ before.mdir
  pub umask : after.umask ≡ before.umask
  pub txie : after.txie ≡ before.txie
  pub rxie : after.rxie ≡ before.rxie
  pub rmten : after.rmten ≡ before.rmten
  pub eob : after.eob ≡ before.eob

-- storing changes none of them
abbrev pub StoringKeepsSettings : Type 0
StoringKeepsSettings = (r : Record) (f : Frame) → SameSettings r (stored r f)

-- ---- what is sent once

-- what was started once is not ready again before a host asks
abbrev pub StartedOnceIsNotReady : Type 0
StartedOnceIsNotReady = (r : Record) → is_ready (started_once r) ≡ false

-- its start leaves NewDat, and nothing finishes a transmission that fails, so it leaves NewDat too
abbrev pub FailuresLeaveNewDat : Type 0
FailuresLeaveNewDat = (r : Record) → (started_once r).newdat ≡ r.newdat

-- what is sent is the frame that the object had
abbrev pub StartedOnceSendsItsFrame : Type 0
StartedOnceSendsItsFrame = (r : Record) → frame_of (started_once r) ≡ frame_of r

-- a request that a host makes while the frame is under way remains after its end
abbrev pub RequestsMeanwhileStand : Type 0
RequestsMeanwhileStand = (r : Record) → (finished_once (record (started_once r) { txrqst = true })).txrqst ≡ true
