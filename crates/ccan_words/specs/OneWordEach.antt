-- A word for each object: a version is the packed record of one object, and only changes at the same object contend.
-- Source: this project's own.
use Rattle.std.specs.Prelude.{ℕ, ◌+◌, ◌-◌, ◌*◌, ◌/◌, ◌%◌, ◌==◌, Bool, List, [], ◌∷◌}
use Rattle.ccan_object.specs.declared.profile.Profile.{Profile}
use Rattle.ccan_object.specs.Packing.{packed}
use Rattle.ccan_ram.specs.History.{History}
use Rattle.ccan_words.specs.Layout.{Form}

-- the words of the objects are eight apart, so that each has a cache line of its own
abbrev pub word_cell : ℕ → ℕ
word_cell k = (k - 1) * 8

-- there is room for 64 objects; after them, each port has room for 4096 versions of three words
abbrev pub word_place : ℕ → ℕ → ℕ
word_place n j = 512 + (n / 65536) * 12288 + (n % 65536 - 1) * 3 + j

abbrev pub same_object : ℕ → ℕ → Bool
same_object i k = i == k

-- the record that the newest event left
abbrev pub newest : History → List ℕ
newest [] = []
newest (e ∷ h) = packed e.after

abbrev pub word_form : (profile : Profile) → Form profile 4096 same_object
word_form profile =
    record {
      size = 37376;
      cells = 512;
      width = 3;
      cell = word_cell;
      place = word_place;
      offset = λ _. 0;
      content = newest;
    }
