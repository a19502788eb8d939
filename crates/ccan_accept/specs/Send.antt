-- What a message object sends, and what the start and the end of a transmission leave of it. Source: after the C_CAN User's
-- Manual 1.2, sections 3.3.4 (MsgVal, TxRqst, NewDat, TxIE) and 4.2 (transmission of messages); this project's own as a whole.
-- Sent once: "Disabled Automatic Retransmission" (TxRqst is reset when the transmission starts, while NewDat remains set;
-- NewDat is reset when it was completed successfully, and remains set when it failed). (own): new data that come meanwhile
-- count as sent.
use Rattle.std.specs.Prelude.{ℕ, Bool, true, false, ◌&&◌, not, if◌then◌else◌}
use Rattle.ccan_object.specs.declared.record.Record.{Record}
use Rattle.ccan_object.specs.Bits.{part}
use Rattle.ccan_accept.specs.declared.frame.Frame.{Frame}
use Rattle.ccan_accept.specs.Frame.{framed}

-- a transmission is requested of an object that takes part
abbrev pub is_ready : Record → Bool
is_ready r = r.valid && r.txrqst

-- the start of a transmission takes the data
abbrev pub started : Record → Record
started r = record r { newdat = false }

-- the end of a transmission: the request is met unless new data came meanwhile
abbrev pub finished : Record → Record
finished r =
    record r {
      txrqst = (if r.newdat then r.txrqst else false);
      intpnd = (if r.txie then true else r.intpnd);
    }

-- the start of a transmission that is tried once meets the request, and leaves NewDat until the frame was sent
abbrev pub started_once : Record → Record
started_once r = record r { txrqst = false }

-- the end of a transmission that was tried once: the data were sent, and a request that came meanwhile remains
abbrev pub finished_once : Record → Record
finished_once r = record r { newdat = false; intpnd = (if r.txie then true else r.intpnd) }

-- the number of an object's identifier: all its bits, or bits 28 to 18 of a standard one
abbrev pub number_of : Record → ℕ
number_of r = if r.xtd then r.id else part r.id 18 11

-- the frame that an object sends: a data frame if Dir is 1, else a remote frame
abbrev pub frame_of : Record → Frame
frame_of r = framed (number_of r) r.xtd (not r.dir) r.dlc r.bytes
