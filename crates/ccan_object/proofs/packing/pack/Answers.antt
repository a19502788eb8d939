use Rattle.ccan_object.proofs.packing.pack.Goals as goal

pub returns-clause-is_record : goal.returns-clause-is_record
returns-clause-is_record c =
    record {
      id = c.arbitration.ensures.identifier;
      mask = c.masks.ensures.mask;
      dlc = c.control.ensures.length;
      length_is = c.content_word.ensures.length;
      bytes = c.content_word.ensures.bytes;
    }
