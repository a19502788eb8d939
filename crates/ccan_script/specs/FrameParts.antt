-- The parts of a frame as they are read. Source: this project's own.
use Rattle.ccan_script.specs.declared.frame_line.FrameParts.{FrameParts}
use Rattle.ccan_script.specs.FrameLine.{FrameWords}

-- what they say, wherever the data lies in memory
abbrev pub words_in : FrameParts → FrameWords
words_in parts =
    record {
      node = parts.node;
      id = parts.id;
      xtd = parts.xtd;
      rtr = parts.rtr;
      dlc = parts.dlc;
      digits = parts.digits.now;
    }
