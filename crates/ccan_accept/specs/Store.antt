-- What a message object stores of a frame. Source: after the C_CAN User's Manual 1.2, section 4.2 (reception of data
-- frame, reception of remote frame, receive/transmit priority); the tables as a whole are this project's own.
-- In each table a field that isn't named stays as it was.
use Rattle.std.specs.Prelude.{true, false, ◌&&◌, not, if◌then◌else◌}
use Rattle.ccan_object.specs.declared.record.Record.{Record}
use Rattle.ccan_object.specs.DataLength.{byte_count}
use Rattle.ccan_accept.specs.declared.frame.Frame.{Frame}
use Rattle.ccan_accept.specs.Frame.{first_bytes, identifier_of}

-- a data frame: the message is stored, and a message that was received before is lost unless NewDat was cleared since
abbrev pub stored_data : Record → Frame → Record
stored_data r f =
    record r {
      id = identifier_of f;
      xtd = f.xtd;
      dlc = f.dlc;
      dir = false;
      bytes = first_bytes (byte_count f.dlc) f.bytes;
      newdat = true;
      msglst = (if r.newdat && not r.dir then true else r.msglst);
      intpnd = (if r.rxie then true else r.intpnd);
      txrqst = false;
    }

-- the header of a remote frame alone: the bytes stay
abbrev pub stored_header : Record → Frame → Record
stored_header r f =
    record r {
      id = identifier_of f;
      xtd = f.xtd;
      dlc = f.dlc;
      newdat = true;
      intpnd = (if r.rxie then true else r.intpnd);
      txrqst = false;
    }

-- a remote frame at an object that receives: the header, and from now on the object transmits
abbrev pub stored_turned : Record → Frame → Record
stored_turned r f =
    let header = stored_header r f in
    record header { dir = true; msglst = (if r.newdat then true else r.msglst) }

-- a remote frame: by Dir, RmtEn and UMask it requests a transmission, stores its header, or does nothing
abbrev pub stored_remote : Record → Frame → Record
stored_remote r f =
    if not r.dir then stored_turned r f
    else (if r.rmten then record r { txrqst = true }
    else (if r.umask then stored_header r f
    else r))

abbrev pub stored : Record → Frame → Record
stored r f = if f.rtr then stored_remote r f else stored_data r f
