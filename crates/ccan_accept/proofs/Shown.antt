-- What the interface registers show of a record, and of a stored data frame.
use Rattle.std.proofs.Common.{◌≡◌, ◌≤◌, ◌<◌, ◌+◌, ◌^◌, Bool, true, false, refl, ap, ◌∙◌, arith}
use Rattle.std.proofs.lemmas.List.{take-append-drop}
use Rattle.ccan_object.specs.declared.record.Record.{Record}
use Rattle.ccan_object.specs.declared.command.CommandMask.{CommandMask}
use Rattle.ccan_object.specs.Bits.{at, bit, flag, part}
use Rattle.ccan_object.specs.Register.{arbitration, control, two_bytes}
use Rattle.ccan_object.specs.Interface.{Registers, filled}
use Rattle.ccan_object.proofs.Flags.{flag-le, bit-flag}
use Rattle.ccan_accept.specs.declared.frame.Frame.{Frame}
use Rattle.ccan_accept.specs.Frame.{IsFrame, identifier_of, identifier_bits}
use Rattle.ccan_accept.specs.Store.{stored}
use Rattle.ccan_accept.specs.Laws.{ReadsMessage, ShowsFrame, StoredReadsBack}

-- ---- the fields in the Arbitration and Message Control registers
module _ (r : Record) where
  arbitration_flags : (flag r.valid ≤ 1) × (flag r.xtd ≤ 1) × (flag r.dir ≤ 1)
  arbitration_flags = (flag-le r.valid, flag-le r.xtd, flag-le r.dir)

  control_flags : (flag r.newdat ≤ 1) × (flag r.msglst ≤ 1) × (flag r.intpnd ≤ 1) × (flag r.umask ≤ 1) × (flag r.txie ≤ 1)
      × (flag r.rxie ≤ 1) × (flag r.rmten ≤ 1) × (flag r.txrqst ≤ 1) × (flag r.eob ≤ 1)
  control_flags = (
    flag-le r.newdat,
    flag-le r.msglst,
    flag-le r.intpnd,
    flag-le r.umask,
    flag-le r.txie,
    flag-le r.rxie,
    flag-le r.rmten,
    flag-le r.txrqst,
    flag-le r.eob,
  )

  shows_identifier : r.id < 2 ^ 29 → at 16 (part (part (arbitration r) 16 16) 0 13) + part (arbitration r) 0 16 ≡ r.id
  shows_identifier fits = omega (arith, arbitration_flags)

  shows_xtd : r.id < 2 ^ 29 → bit (part (arbitration r) 16 16) 14 ≡ r.xtd
  shows_xtd fits = bit-flag (part (arbitration r) 16 16) 14 r.xtd (omega (arith, arbitration_flags))

  shows_dir : r.id < 2 ^ 29 → bit (part (arbitration r) 16 16) 13 ≡ r.dir
  shows_dir fits = bit-flag (part (arbitration r) 16 16) 13 r.dir (omega (arith, arbitration_flags))

  shows_newdat : r.dlc ≤ 15 → bit (control r) 15 ≡ r.newdat
  shows_newdat fits = bit-flag (control r) 15 r.newdat (omega (arith, control_flags))

  shows_length : r.dlc ≤ 15 → part (control r) 0 4 ≡ r.dlc
  shows_length fits = omega (arith, control_flags)

-- ---- a stored data frame, read
identifier_fits : (f : Frame) → IsFrame f → (xtd : Bool) → f.xtd ≡ xtd → identifier_of f < 2 ^ 29
identifier_fits f is true h = let fits : f.id < 2 ^ identifier_bits true = rw h at is.id in rw h (omega arith)
identifier_fits f is false h = let fits : f.id < 2 ^ identifier_bits false = rw h at is.id in rw h (omega arith)

module _ (r : Record) (f : Frame) (command : CommandMask) (i : Registers)
    (is : IsFrame f) (no_request : f.rtr ≡ false) (reads : ReadsMessage command) where
  buffer : Record
  buffer = (filled command (stored r f) i).buffer

  id : buffer.id ≡ identifier_of f
  unfolding buffer
  id = rw (reads.reads, reads.arb, no_request) refl

  xtd : buffer.xtd ≡ f.xtd
  unfolding buffer
  xtd = rw (reads.reads, reads.arb, no_request) refl

  dir : buffer.dir ≡ false
  unfolding buffer
  dir = rw (reads.reads, reads.arb, no_request) refl

  newdat : buffer.newdat ≡ true
  unfolding buffer
  newdat = rw (reads.reads, reads.control, no_request) refl

  dlc : buffer.dlc ≡ f.dlc
  unfolding buffer
  dlc = rw (reads.reads, reads.control, no_request) refl

  bytes : buffer.bytes ≡ f.bytes
  unfolding buffer
  bytes = rw (reads.reads, reads.data_a, reads.data_b, no_request) (take-append-drop 4 _ ∙ rw no_request at is.others)

  shows : ShowsFrame f (filled command (stored r f) i)
  unfolding buffer
  shows =
      let fits : buffer.id < 2 ^ 29 = rw id (identifier_fits f is f.xtd refl) in
      let short : buffer.dlc ≤ 15 = rw dlc is.dlc in
      record {
        identifier = shows_identifier buffer fits ∙ id;
        xtd = shows_xtd buffer fits ∙ xtd;
        dir = shows_dir buffer fits ∙ dir;
        newdat = shows_newdat buffer short ∙ newdat;
        length = shows_length buffer short ∙ dlc;
        bytes_0_1 = ap (λ bs. two_bytes bs 0) bytes;
        bytes_2_3 = ap (λ bs. two_bytes bs 2) bytes;
        bytes_4_5 = ap (λ bs. two_bytes bs 4) bytes;
        bytes_6_7 = ap (λ bs. two_bytes bs 6) bytes;
      }

pub stored_reads_back : StoredReadsBack
stored_reads_back r f command i is no_request reads = shows r f command i is no_request reads
