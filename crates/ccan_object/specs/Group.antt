-- The groups of fields that a transfer moves together. Source: C_CAN User's Manual 1.2, section 3.3.2 (IFx Command Mask
-- Registers: Mask, Arb, Control, Data A and Data B).
use Rattle.std.specs.Prelude.{ℕ, Bool, List, [], ◌∷◌, ◌++◌, take, drop, if◌then◌else◌}
use Rattle.ccan_object.specs.declared.record.Record.{Record}
use Rattle.ccan_object.specs.declared.command.CommandMask.{CommandMask}
use Rattle.ccan_object.specs.declared.group.Group.{Group}
use Rattle.ccan_object.specs.declared.group.Group.TheVariants.{Mask, Arb, Control, DataA, DataB}
use Rattle.ccan_object.specs.Bits.{bit, flag}
use Rattle.ccan_object.specs.Command.{bits_of}

-- the place of a group in the Command Mask register
abbrev pub place_of : Group → ℕ
place_of Mask = 6
place_of Arb = 5
place_of Control = 4
place_of DataA = 1
place_of DataB = 0

abbrev pub selects : CommandMask → Group → Bool
selects command group = bit (bits_of command) (place_of group)

-- the fields of a group, flags as numbers; TxRqst, which belongs to Control, has a bit of its own and is not listed here
abbrev pub fields_of : Group → Record → List ℕ
fields_of Mask r = r.mask ∷ flag r.mdir ∷ flag r.mxtd ∷ []
fields_of Arb r = r.id ∷ flag r.dir ∷ flag r.xtd ∷ flag r.valid ∷ []
fields_of Control r =
    flag r.newdat ∷ flag r.msglst ∷ flag r.intpnd ∷ flag r.umask ∷ flag r.txie ∷ flag r.rxie
    ∷ flag r.rmten ∷ flag r.eob ∷ r.dlc ∷ []
fields_of DataA r = take 4 r.bytes
fields_of DataB r = drop 4 r.bytes

-- each field is the first record's if its group is selected, else the second's
abbrev pub by_groups : CommandMask → Record → Record → Record
by_groups c first second =
    let mask = (if selects c Mask then first else second) in
    let arb = (if selects c Arb then first else second) in
    let control = (if selects c Control then first else second) in
    let data_a = (if selects c DataA then first else second) in
    let data_b = (if selects c DataB then first else second) in
    record {
      valid = arb.valid;
      xtd = arb.xtd;
      dir = arb.dir;
      id = arb.id;
      mxtd = mask.mxtd;
      mdir = mask.mdir;
      mask = mask.mask;
      newdat = control.newdat;
      msglst = control.msglst;
      intpnd = control.intpnd;
      umask = control.umask;
      txie = control.txie;
      rxie = control.rxie;
      rmten = control.rmten;
      txrqst = control.txrqst;
      eob = control.eob;
      dlc = control.dlc;
      bytes = take 4 data_a.bytes ++ drop 4 data_b.bytes;
    }
